use Rattle.gomod_outcomes.proofs.queries.answering.query_outcome.Goals as goal

pub returns-in-List : goal.returns-in-List
returns-in-List c = rw c.in-List.is c.list_outcome.ensures
