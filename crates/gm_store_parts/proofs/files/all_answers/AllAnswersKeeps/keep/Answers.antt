use Rattle.std.proofs.Common.{◌∙◌, ◌++◌, ◌∷◌, [], List, ap}
use Rattle.std.proofs.lemmas.List.{map-append}
use Rattle.gm_store_parts.specs.Asked.{Name, name_of, reply_of}
use Rattle.gm_store_parts.specs.Kept.{pairs}
use Rattle.gm_store_parts.specs.declared.files.all_answers.Answered.{Answered}
use Rattle.gm_store_parts.proofs.files.all_answers.AllAnswersKeeps.keep.Goals as goal

pub returns-clause-ok : goal.returns-clause-ok
returns-clause-ok c =
    let old = c.args.self.now.asked.items in
    ap (λ (all : List Answered). pairs all) c.in_ok-push.ensures.items ∙ map-append (λ (one : Answered). (name_of one.name, reply_of one.answer)) old _
    ∙ ap (λ (name : Name). pairs old ++ (name, reply_of c.args.answer) ∷ []) c.in_ok-name.ensures
