use Rattle.std.proofs.Common.{◌≡◌, ◌∙◌, ℕ, Bor, List, None, Option, Some, ap, arith, refl, unwrap_or}
use Rattle.std.proofs.lemmas.Str.Pattern.{strip_prefix_char}
use Rattle.std.specs.Option.{option_copied}
use Rattle.clap.proofs.LexerLemmas.{strip_byte-from}
use Rattle.gomod_hints.proofs.word.without_dash.Goals as goal

copied_or : (found : Option (Bor (List ℕ))) (word : Bor (List ℕ)) → (unwrap_or found word).now ≡ unwrap_or (option_copied found) word.now
copied_or None word = refl
copied_or (Some rest) word = refl

pub returns : goal.returns
returns c =
    let word = c.args.word.now in
    let found = strip_byte-from 45 word c.strip_prefix.result (strip_prefix_char 45 word c.strip_prefix.result c.strip_prefix.ensures.cases (omega arith)) in
    ap (λ (w : Bor (List ℕ)). w.now) c.unwrap_or.ensures ∙ copied_or c.strip_prefix.result c.args.word
    ∙ ap (λ (rest : Option (List ℕ)). unwrap_or rest word) found
