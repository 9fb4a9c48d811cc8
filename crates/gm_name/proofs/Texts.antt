-- Texts, as lists of bytes: which ones a test or an order takes for the same.
use Rattle.std.proofs.Common.{◌≡◌, ◌≢◌, ◌∙◌, ℕ, true, false, List, ap, refl, subst, sym}
use Rattle.std.proofs.lemmas.Bool.{false≢true}
use Rattle.std.proofs.lemmas.Map.Text.{is_eq-slice_cmp}
use Rattle.std.proofs.lemmas.Slice.Eq.{bytes_eq-Decides}
use Rattle.std.specs.Cmp.Lexicographic.{slice_cmp}
use Rattle.std.specs.Ordering.{is_eq, nat_cmp}
use Rattle.std.specs.Str.{bytes_eq}
use Rattle.std.specs.declared.cmp.Ordering.TheVariants.{Equal}

pub bytes_eq-self : (a : List ℕ) → bytes_eq a a ≡ true
bytes_eq-self a = (bytes_eq-Decides a a).1 refl

pub bytes_eq-same : (a b : List ℕ) → bytes_eq a b ≡ true → a ≡ b
bytes_eq-same a b e = (bytes_eq-Decides a b).0 e

pub bytes_eq-differ : (a b : List ℕ) → bytes_eq a b ≡ false → a ≢ b
bytes_eq-differ a b e is = false≢true (sym e ∙ subst (λ t. bytes_eq a t ≡ true) is (bytes_eq-self a))

pub slice_cmp-same : (a b : List ℕ) → slice_cmp nat_cmp a b ≡ Equal → a ≡ b
slice_cmp-same a b e = bytes_eq-same a b (sym (is_eq-slice_cmp a b) ∙ ap is_eq e)
