use Rattle.std.proofs.Common.{◌≡◌, ◌∙◌, sym, refl, Bool, true, false, ℕ, List, Result, Ok, Err, Bor}
use Rattle.std.proofs.lemmas.Str.{IsUtf8-from_is_utf8, is_utf8-from_IsUtf8}
use Rattle.std.specs.Result.{MatchResult, is_ok}
use Rattle.std.specs.Str.{IsUtf8, is_utf8}
use Rattle.gm_store_sums.proofs.sum_lines.is_text.Goals as goal

no_text : (bytes : List ℕ) (test : Bool) → is_utf8 bytes ≡ test → ¬ (IsUtf8 bytes) → test ≡ false
no_text bytes true e none = absurd (none (IsUtf8-from_is_utf8 bytes e))
no_text bytes false e none = refl

told : {E : Type 0} (bytes : List ℕ) (r : Result (Bor (List ℕ)) E) (P : E → Type 0)
    → MatchResult r (λ s. (s.now ≡ bytes) × IsUtf8 bytes) (λ e. ¬ (IsUtf8 bytes) × P e) → is_ok r ≡ is_utf8 bytes
told bytes (Ok s) P h = sym (is_utf8-from_IsUtf8 bytes h.1)
told bytes (Err e) P h = sym (no_text bytes (is_utf8 bytes) refl h.0)

pub returns : goal.returns
returns c = c.is_ok.ensures.value ∙ told c.args.word.now c.from_utf8.result _ c.from_utf8.ensures.cases
