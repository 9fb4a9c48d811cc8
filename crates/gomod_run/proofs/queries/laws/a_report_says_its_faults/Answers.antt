use Rattle.gomod_run.proofs.FaultLines.{line_is_of_a_fault, says_fault, report_has_lines, text_says_faults}
use Rattle.gomod_run.proofs.queries.laws.a_report_says_its_faults.Goals as goal

pub returns-clause-lines : goal.returns-clause-lines
returns-clause-lines c = report_has_lines

pub returns-clause-fault : goal.returns-clause-fault
returns-clause-fault c = says_fault

pub returns-clause-text : goal.returns-clause-text
returns-clause-text c = text_says_faults

pub returns-clause-found : goal.returns-clause-found
returns-clause-found c = line_is_of_a_fault
