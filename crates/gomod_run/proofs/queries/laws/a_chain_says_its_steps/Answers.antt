use Rattle.gomod_run.proofs.GraphLines.{line_is_of_a_step, chain_has_lines, says_step, text_says_steps}
use Rattle.gomod_run.proofs.queries.laws.a_chain_says_its_steps.Goals as goal

pub returns-clause-lines : goal.returns-clause-lines
returns-clause-lines c = chain_has_lines

pub returns-clause-step : goal.returns-clause-step
returns-clause-step c = says_step

pub returns-clause-text : goal.returns-clause-text
returns-clause-text c = text_says_steps

pub returns-clause-found : goal.returns-clause-found
returns-clause-found c = line_is_of_a_step
