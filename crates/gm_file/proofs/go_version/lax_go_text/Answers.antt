use Rattle.std.proofs.Common.{None, lit<, ◌∙◌, sym}
use Rattle.std.proofs.lemmas.Str.Pattern.{split_once_first}
use Rattle.gm_file.proofs.GoTexts.{lax-none}
use Rattle.gm_file.proofs.go_version.lax_go_text.Goals as goal

pub returns-in_err-first : goal.returns-in_err-first
returns-in_err-first c =
    c.from_residual.ensures ∙ sym (lax-none c.args.text.now (split_once_first 46 c.args.text.now None c.in_err-first.ensures.cases (lit< tt)))
