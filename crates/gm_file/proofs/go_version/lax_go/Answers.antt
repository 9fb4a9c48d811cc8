use Rattle.std.proofs.Common.{None, lit<, ◌∙◌, sym}
use Rattle.std.proofs.lemmas.Str.Pattern.{strip_prefix_char}
use Rattle.gm_file.proofs.GoTexts.{lax-plain}
use Rattle.gm_file.proofs.go_version.lax_go.Goals as goal

pub returns-in-None : goal.returns-in-None
returns-in-None c =
    c.lax_go_text-in-None.ensures ∙ sym (lax-plain c.args.text.now (strip_prefix_char 118 c.args.text.now None c.in-None.ensures.cases (lit< tt)))
