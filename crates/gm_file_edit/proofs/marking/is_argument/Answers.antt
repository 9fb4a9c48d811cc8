use Rattle.std.proofs.Common.{◌∙◌, Option, List, ℕ, Some, ap, sym}
use Rattle.std.specs.Option.{option_map}
use Rattle.gm_file.specs.Faults.{is_same_version}
use Rattle.gm_file_edit.proofs.WordKeys.{text-argument}
use Rattle.gm_file_edit.proofs.marking.is_argument.Goals as goal

pub returns-in_ok-value-in-Text : goal.returns-in_ok-value-in-Text
returns-in_ok-value-in-Text c =
    let value = text-argument c.args.word.now.word _ (sym c.kind.ensures ∙ c.in-Text.is) c.in_ok-value-in-Text.ensures in
    c.is_same_text-in-Text.ensures
    ∙ ap (λ (o : Option (List ℕ)). is_same_version o (option_map (λ t. t.now) c.args.value)) (ap Some c.as_str.ensures.value ∙ sym value)
