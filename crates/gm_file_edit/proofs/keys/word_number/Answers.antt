use Rattle.std.proofs.Common.{◌∙◌, Some, ap, sym}
use Rattle.gm_file_edit.specs.Private.Keys.{text_number}
use Rattle.gm_file_edit.proofs.WordKeys.{text-argument}
use Rattle.gm_file_edit.proofs.keys.word_number.Goals as goal

pub returns-in_ok-value-in-Text : goal.returns-in_ok-value-in-Text
returns-in_ok-value-in-Text c =
    let value = text-argument c.args.word.now.word _ (sym c.kind.ensures ∙ c.in-Text.is) c.in_ok-value-in-Text.ensures in
    c.text_number-in-Text.ensures ∙ ap text_number (ap Some c.as_str.ensures.value ∙ sym value)
