use Rattle.gomod_run.proofs.ListLines.{line_is_of_a_row, says_row, list_has_lines, text_says_rows}
use Rattle.gomod_run.proofs.queries.laws.a_list_says_its_rows.Goals as goal

pub returns-clause-lines : goal.returns-clause-lines
returns-clause-lines c = list_has_lines

pub returns-clause-row : goal.returns-clause-row
returns-clause-row c = says_row

pub returns-clause-text : goal.returns-clause-text
returns-clause-text c = text_says_rows

pub returns-clause-found : goal.returns-clause-found
returns-clause-found c = line_is_of_a_row
