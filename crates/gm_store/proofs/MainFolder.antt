-- The last slash of a file's name.
use Rattle.std.proofs.Common.{◌≡◌, ◌≢◌, ◌<◌, ◌+◌, ◌-◌, ℕ, List, [], ◌∷◌, ◌++◌, length, take, drop, ap, ◌∙◌, sym, refl, subst, arith, codes, slice_index_or}
use Rattle.std.proofs.lemmas.List.{append_assoc, drop_more, get_or-drop, get_or_default, length-drop, take-append-drop}
use native.Mathlib.Numerals.{unary_clauses}
use Rattle.std.specs.List.{slice_range}
use Rattle.std.specs.Prelude.{Contains}

pub no_slash_anywhere : (text : List ℕ) → ((i : ℕ) → i < length text → slice_index_or text i 0 ≢ 47) → ¬ (Contains text 47)
no_slash_anywhere text none (k, within, is) = none k within (get_or_default text k 0 47 within ∙ is)

-- a text is the part before a slash, the slash, and the part after it
pub take_drop-at : (text : List ℕ) (k : ℕ) → k < length text → slice_index_or text k 0 ≡ 47 → text ≡ take k text ++ codes "/" ++ drop (k + 1) text
take_drop-at text k within is =
    sym (take-append-drop k text)
    ∙ ap (λ rest. take k text ++ rest) (drop_more text k 0 within ∙ ap (λ b. b ∷ drop (k + 1) text) is)
    ∙ sym (append_assoc (take k text) (47 ∷ []) (drop (k + 1) text))

pub no_later_slash : (text : List ℕ) (k : ℕ) → k < length text
    → ((i : ℕ) → k < i → i < length text → slice_index_or text i 0 ≢ 47) → ¬ (Contains (drop (k + 1) text) 47)
no_later_slash text k within none (i, inside, is) =
    let bound : i < length text - (k + 1) = subst (λ n. i < n) (length-drop (k + 1) text) inside in
    none (k + 1 + i) (omega arith) (omega arith) (get_or_default text (k + 1 + i) 0 47 (omega arith) ∙ sym (get_or-drop (k + 1) text i 47) ∙ is)

pub whole_take : (text : List ℕ) (k : ℕ) → take k text ≡ slice_range text 0 k
whole_take text k = simp unary_clauses refl
