use Rattle.std.proofs.Common.{refl, sym}
use Rattle.gm_version.proofs.Escapes.{escaped-injective}
use Rattle.gm_name.proofs.laws.unescape_inverts_escape.Goals as goal

pub returns : goal.returns
returns c = λ text no_bang. ((no_bang, refl), λ other is. escaped-injective other text is.0 no_bang (sym is.1))
