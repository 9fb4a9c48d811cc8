-- The spans of words in the source.
use Rattle.std.proofs.Common.{◌≡◌, ℕ, zero, suc, ◌+◌, ◌-◌, ◌≤◌, List, [], ◌∷◌, ◌++◌, length, take, drop, Some, refl, sym, ap, ◌∙◌, arith}
use Rattle.std.proofs.lemmas.List.{drop-drop, drop-append-le, take-append-le, length-drop, length-take-le, length-append, drop_at}
use Rattle.gm_syntax_words.specs.Tokens.{Placed, AreSlicesBetween}

pub stand_widen : (source : List ℕ) (from to more : ℕ) (ts : List Placed) → to ≤ more
    → AreSlicesBetween source from to ts → AreSlicesBetween source from more ts
stand_widen source from to more [] le h = omega arith
stand_widen source from to more (t ∷ ts) le h = (h.0, h.1, h.2, h.3, h.4, stand_widen source h.0.after to more ts le h.5)

pub stand_from : (source : List ℕ) (less from to : ℕ) (ts : List Placed) → less ≤ from → AreSlicesBetween source from to ts → AreSlicesBetween source less to ts
stand_from source less from to [] le h = omega arith
stand_from source less from to (t ∷ ts) le h = (h.0, h.1, omega (arith, h.2), h.3, h.4, h.5)

pub stand_order : (source : List ℕ) (from to : ℕ) (ts : List Placed) → AreSlicesBetween source from to ts → from ≤ to
stand_order source from to [] h = h
stand_order source from to (t ∷ ts) h = omega (arith, h.2, h.3, stand_order source h.0.after to ts h.5)

pub stand_append : (source : List ℕ) (from mid to : ℕ) (ts us : List Placed) → AreSlicesBetween source from mid ts
    → AreSlicesBetween source mid to us → AreSlicesBetween source from to (ts ++ us)
stand_append source from mid to [] us h g = stand_from source from mid to us h g
stand_append source from mid to (t ∷ ts) us h g = (h.0, h.1, h.2, h.3, h.4, stand_append source h.0.after mid to ts us h.5 g)

pub stand_take : (source : List ℕ) (from to n : ℕ) (ts : List Placed) → AreSlicesBetween source from to ts → AreSlicesBetween source from to (take n ts)
stand_take source from to zero ts h = stand_order source from to ts h
stand_take source from to (suc n) [] h = h
stand_take source from to (suc n) (t ∷ ts) h = (h.0, h.1, h.2, h.3, h.4, stand_take source h.0.after to n ts h.5)

-- a word at the front of the rest of a line
pub stand_push : (source line after rest : List ℕ) (first at n : ℕ) (ts : List Placed) (t : Placed)
    → drop first source ≡ line ++ after → rest ≡ drop at line → at ≤ length line → n ≤ length rest
    → AreSlicesBetween source first (first + at) ts → t.span
    ≡ Some (record { first = first + at; after = first + at + n }) → t.word.spelling ≡ take n rest
    → AreSlicesBetween source first (first + (at + n)) (ts ++ t ∷ [])
stand_push source line after rest first at n ts t whole is_rest in_range fits h is_first text =
    let len : length t.word.spelling ≡ n = rw text (length-take-le n rest fits) in
    let from_there : drop (first + at) source ≡ rest ++ after =
    rw (← drop-drop at first source, whole, drop-append-le at line after in_range, ← is_rest) refl in
    let width : first + at + n - (first + at) ≡ n = omega arith in
    let slice : take (first + at + n - (first + at)) (drop (first + at) source) ≡ t.word.spelling =
    rw (width, from_there, take-append-le n rest after fits, text) refl in
    stand_append source first _ _ ts _ h (
      record { first = first + at; after = first + at + n },
      is_first,
      omega arith,
      omega (arith, len),
      slice,
      omega arith,
    )

-- the rest of a line after another piece of it
pub suffix_more : (line rest : List ℕ) (n : ℕ) → length rest ≤ length line → n ≤ length rest
    → rest ≡ drop (length line - length rest) line → drop n rest ≡ drop (length line - length (drop n rest)) line
suffix_more line rest n le fits e =
    let same : length line - length rest + n ≡ length line - length (drop n rest) = omega (arith, length-drop n rest) in
    ap (drop n) e ∙ drop-drop n (length line - length rest) line ∙ ap (λ k. drop k line) same

pub suffix_of : (text front next : List ℕ) → text ≡ front ++ next → next ≡ drop (length text - length next) text
suffix_of text front next e =
    let len : length front ≡ length text - length next = omega (arith, ap length e, length-append front next) in
    sym (rw (← len, e) (drop_at front next (length front) refl))

pub suffix_of_suffix : (text rest next : List ℕ) → length rest ≤ length text → length next ≤ length rest
    → rest ≡ drop (length text - length rest) text → next ≡ drop (length rest - length next) rest
    → next ≡ drop (length text - length next) text
suffix_of_suffix text rest next a b e f =
    let same : length text - length rest + (length rest - length next) ≡ length text - length next = omega arith in
    f ∙ ap (drop (length rest - length next)) e ∙ drop-drop (length rest - length next) (length text - length rest) text ∙ ap (λ k. drop k text) same
