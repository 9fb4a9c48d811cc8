-- What trimming leaves.
use Rattle.std.proofs.Common.{◌≡◌, ℕ, ◌+◌, ◌-◌, ◌<◌, ◌≤◌, true, false, List, [], ◌∷◌, ◌++◌, length, get_or, take, refl, sym, ap, ◌∙◌, arith}
use Rattle.std.proofs.lemmas.List.{take_more}
use Rattle.gm_syntax_words.specs.Bytes.{is_blank}
use Rattle.gm_syntax_words.specs.Private.Scan.{put_front, trim_end}

trim_push_blank : (xs : List ℕ) (b : ℕ) → is_blank b ≡ true → trim_end (xs ++ b ∷ []) ≡ trim_end xs
unfolding trim_end
trim_push_blank [] b h = rw h refl
trim_push_blank (x ∷ xs) b h = ap (put_front x) (trim_push_blank xs b h)

put_front_push : (x : ℕ) (xs : List ℕ) (b : ℕ) → put_front x (xs ++ b ∷ []) ≡ x ∷ (xs ++ b ∷ [])
put_front_push x [] b = refl
put_front_push x (y ∷ xs) b = refl

trim_push_plain : (xs : List ℕ) (b : ℕ) → is_blank b ≡ false → trim_end (xs ++ b ∷ []) ≡ xs ++ b ∷ []
unfolding trim_end
trim_push_plain [] b h = rw h refl
trim_push_plain (x ∷ xs) b h = ap (put_front x) (trim_push_plain xs b h) ∙ put_front_push x xs b

trim_nil : trim_end [] ≡ []
unfolding trim_end
trim_nil = refl

split_at_last : (bytes : List ℕ) (n : ℕ) → 0 < n → n ≤ length bytes → take n bytes ≡ take (n - 1) bytes ++ get_or bytes (n - 1) 0 ∷ []
split_at_last bytes n positive le =
    let e : n - 1 + 1 ≡ n = omega arith in
    ap (λ k. take k bytes) (sym e) ∙ take_more bytes (n - 1) 0 (omega arith)

pub trim_less : (bytes : List ℕ) (n : ℕ) → 0 < n → n ≤ length bytes → is_blank (get_or bytes (n - 1) 0) ≡ true
    → trim_end (take (n - 1) bytes) ≡ trim_end (take n bytes)
trim_less bytes n positive le h = sym (ap trim_end (split_at_last bytes n positive le) ∙ trim_push_blank _ _ h)

pub trim_done : (bytes : List ℕ) (n : ℕ) → 0 < n → n ≤ length bytes → is_blank (get_or bytes (n - 1) 0) ≡ false → trim_end (take n bytes) ≡ take n bytes
trim_done bytes n positive le h =
    let e = split_at_last bytes n positive le in
    ap trim_end e ∙ trim_push_plain _ _ h ∙ sym e

pub trim_empty : (bytes : List ℕ) (n : ℕ) → n ≡ 0 → trim_end (take n bytes) ≡ take n bytes
trim_empty bytes n e = ap (λ k. trim_end (take k bytes)) e ∙ trim_nil ∙ sym (ap (λ k. take k bytes) e)
