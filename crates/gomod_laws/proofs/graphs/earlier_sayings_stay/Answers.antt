use Rattle.gomod_laws.proofs.GraphLawProofs.{earlier_sayings_stay, first_answers_say_something}
use Rattle.gomod_laws.proofs.graphs.earlier_sayings_stay.Goals as goal

pub returns-clause-stays : goal.returns-clause-stays
returns-clause-stays c = earlier_sayings_stay

pub returns-clause-first : goal.returns-clause-first
returns-clause-first c = first_answers_say_something
