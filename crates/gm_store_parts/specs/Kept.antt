-- What stores keep of the requests that they answered.
use Rattle.std.specs.Prelude.{List, map}
use Rattle.gm_store_parts.specs.Asked.{Name, Reply, name_of, reply_of}
use Rattle.gm_store_parts.specs.History.{asked_in}
use Rattle.gm_store_parts.specs.declared.files.all_answers.AllAnswers.{AllAnswers}
use Rattle.gm_store_parts.specs.declared.files.all_answers.Answered.{Answered}
use Rattle.gm_store_parts.specs.declared.files.last_answer.LastAnswer.{LastAnswer}

-- the names and answers of a list of requests
abbrev pub pairs : List Answered → List (Name × Reply)
pairs = map (λ one. (name_of one.name, reply_of one.answer))

-- the requested names with their answers, in order, of a store that keeps all
abbrev pub all_pairs : AllAnswers → List (Name × Reply)
all_pairs answers = pairs answers.asked.items

-- the same of a store that keeps the last answer alone
abbrev pub past_pairs : LastAnswer → List (Name × Reply)
past_pairs answers = asked_in answers.history
