-- Texts that were given one after another.
use Rattle.std.proofs.Common.{◌≡◌, ◌∙◌, ◌+◌, ◌<◌, ◌≤◌, ◌++◌, ℕ, zero, suc, List, [], ◌∷◌, length, length-append, get_or, take, drop, Result, Ok, Err, IsErr, refl, sym, ap, subst, subst₂, arith, add-one, append_assoc, append-nil, take-suc}
use Rattle.std.proofs.lemmas.List.{flat_map_more}
use Rattle.std.specs.List.{flat_map}
use Rattle.std.specs.Prelude.{IsOk, OnOk, ◌↔◌}
use Rattle.gm_store_parts.specs.Taken.{SinkState}
use Rattle.gm_store_parts.specs.declared.sinks.WriteFault.{WriteFault}
use Rattle.gomod_texts.specs.Taking.{Took, TookAll, TookPrefix}
use Rattle.gomod_texts.specs.Private.Giving.{IsGiven, IsEnded, WasGiven}
use Rattle.gomod_texts.proofs.Takings.{part_of_longer, took_both, took_nothing, took_then_part}

-- one text and then another
pub gives_more : (a b c : SinkState) (w v u xs ys zs : List ℕ) (r : Result (Unit {0}) WriteFault) → zs ≡ xs ++ ys
    → IsGiven {E = WriteFault} a w b v xs (Ok tt) → IsGiven b v c u ys r → IsGiven a w c u zs r
gives_more a b c w v u xs ys zs (Ok t) e one two = λ before given was. rw (e, ← append_assoc _ _ _) (two before (given ++ xs) (one before given was))
gives_more a b c w v u xs ys zs (Err f) e one two = λ before given was. rw (e, ← append_assoc _ _ _) (two before (given ++ xs) (one before given was))

-- the sink failed before all was given
pub gives_part : (a b : SinkState) (w v u xs ys zs : List ℕ) (f : WriteFault) → zs ≡ xs ++ ys
    → IsGiven a w b v xs (Err f) → IsGiven a w b u zs (Err f)
gives_part a b w v u xs ys zs f e one before given was =
    rw (e, ← append_assoc _ _ _) (part_of_longer _ b _ _ (one before given was))

-- one that waits behind what waited
pub gives_waiting : (a : SinkState) (waiting left text : List ℕ) → left ≡ waiting ++ text → IsGiven {E = WriteFault} a waiting a left text (Ok tt)
gives_waiting a waiting left text e before given was = record {
  taken = was.taken;
  parts = ap (λ t. t ++ text) was.parts ∙ append_assoc _ _ text ∙ ap (λ t. was.taken ++ t) (sym e);
  took = was.took;
}

-- ---- what is written at once

-- what waits was written
pub ends : (a b : SinkState) (waiting : List ℕ) (r : Result (Unit {0}) WriteFault)
    → Took a b waiting r → a.faults ≤ b.faults → IsEnded a waiting b r
ends a b waiting (Ok u) took later = λ before given was.
    subst (TookAll before b) (sym was.parts) (took_both _ a b _ _ was.took took)
ends a b waiting (Err f) took later = λ before given was.
    subst (TookPrefix before b) (sym was.parts) (took_then_part _ a b _ _ was.took took later)

-- the end of a part is the end of nothing more
pub gives_end : (a b : SinkState) (waiting : List ℕ) (u : Unit {0})
    → IsEnded {E = WriteFault} a waiting b (Ok u) → IsGiven {E = WriteFault} a waiting b [] [] (Ok tt)
gives_end a b waiting u end before given was = record { taken = given; parts = refl; took = end _ _ was }

-- what waits couldn't be written, and the fault was passed on
pub no_end : (a b : SinkState) (waiting piece : List ℕ) (f : WriteFault) (r : Result (Unit {0}) WriteFault)
    → piece ≡ waiting → IsErr r → Took a b piece (Err f) → a.faults ≤ b.faults → IsEnded a waiting b r
no_end a b waiting piece f (Ok u) same failed took later = let e = failed in cc e
no_end a b waiting piece f (Err g) same failed took later =
    ends a b _ (Err g) (subst (TookPrefix a b) same took) later

pub gives_no_end : (a b : SinkState) (waiting held left text : List ℕ) (f : WriteFault) (r : Result (Unit {0}) WriteFault)
    → held ≡ waiting → IsErr r → IsEnded a held b (Err f) → IsGiven a waiting b left text r
gives_no_end a b waiting held left text f (Ok u) same failed end = let e = failed in cc e
gives_no_end a b waiting held left text f (Err g) same failed end = λ before given was.
    part_of_longer _ b _ _ (end _ _ (subst (λ v. WasGiven before a v given) (sym same) was))

-- with an empty buffer the sink took all that was given
all_taken : (a before : SinkState) (given : List ℕ) → WasGiven before a [] given → TookAll before a given
all_taken a before given was = subst (TookAll before a) (sym (was.parts ∙ append-nil _)) was.took

-- what was given past an empty buffer
pub gives_past : (a b : SinkState) (piece : List ℕ) (r : Result (Unit {0}) WriteFault)
    → Took a b piece r → a.faults ≤ b.faults → IsGiven a [] b [] piece r
gives_past a b piece (Ok u) took later = λ before given was. record {
  taken = given ++ piece;
  parts = sym (append-nil _);
  took = took_both _ a b _ _ (all_taken a _ _ was) took;
}
gives_past a b piece (Err f) took later = λ before given was.
    took_then_part _ a b _ _ (all_taken a _ _ was) took later

-- a piece that was written after what waited
pub gives_after_end : (a b c : SinkState) (waiting held left piece : List ℕ) (u : Unit {0})
    (r : Result (Unit {0}) WriteFault) → held ≡ waiting → IsEnded {E = WriteFault} a held b (Ok u) → left ≡ []
    → Took b c piece r → b.faults ≤ c.faults → IsGiven a waiting c left piece r
gives_after_end a b c waiting held left piece u r same end empty took later =
    subst₂ (λ (t v : List ℕ). IsGiven a t c v piece r) same (sym empty)
    (gives_more a b c _ _ _ _ _ _ r refl (gives_end a b _ u end) (gives_past b c _ r took later))

-- ---- pieces

-- the sink failed at a piece, and the fault was passed on
pub no_more : (a b c : SinkState) (w v u xs ys rest zs : List ℕ) (f : WriteFault) (r : Result (Unit {0}) WriteFault)
    → IsErr r → zs ≡ xs ++ (ys ++ rest) → IsGiven {E = WriteFault} a w b v xs (Ok tt) → IsGiven b v c u ys (Err f)
    → IsGiven a w c u zs r
no_more a b c w v u xs ys rest zs f (Ok t) failed e one two = let e = failed in cc e
no_more a b c w v u xs ys rest zs f (Err g) failed e one two =
    gives_part a c w u u _ _ zs g (e ∙ sym (append_assoc xs ys _))
    (gives_more a b c w v u xs ys _ (Err g) refl one two)

-- the pieces up to one, and that one
pub one_more : {X : Type 0} (f : X → List ℕ) (xs : List X) (i : ℕ) (d : X) → i < length xs
    → flat_map f (take (i + 1) xs) ≡ flat_map f (take i xs) ++ f (get_or xs i d)
one_more f xs i d less =
    ap (λ n. flat_map f (take n xs)) (add-one i) ∙ ap (flat_map f) (take-suc xs i d less)
    ∙ sym (flat_map_more f [] _ (get_or xs i d))

-- the pieces before one, that one, and the rest
pub around : {X : Type 0} (f : X → List ℕ) (xs : List X) (i : ℕ) (d : X) (end : List ℕ) → i < length xs
    → flat_map f xs ++ end ≡ flat_map f (take i xs) ++ (f (get_or xs i d) ++ (flat_map f (drop (suc i) xs) ++ end))
around f [] i d end less = absurd (omega arith)
around f (x ∷ xs) zero d end less = append_assoc _ _ end
around f (x ∷ xs) (suc i) d end less =
    append_assoc _ _ end ∙ ap (λ t. f x ++ t) (around f xs i d end (omega arith))
    ∙ sym (append_assoc (f x) _ _)

-- what has room is appended
has_room : {E : Type 0} {Fits Is : Type 0} (r : Result (Unit {0}) E) → (IsOk r ↔ Fits) → OnOk r Is → Fits → Is
has_room (Ok t) variant is fits = is
has_room (Err e) variant is fits = let e = variant.1 fits in cc e

-- a piece has room if the text has, and is appended to those before it
pub appended : {E X : Type 0} (f : X → List ℕ) (xs : List X) (i : ℕ) (d : X) (old end front new : List ℕ) (room : ℕ) (r : Result (Unit {0}) E)
    → i < length xs → length (old ++ (flat_map f xs ++ end)) ≤ room → front ≡ old ++ flat_map f (take i xs)
    → (IsOk r ↔ (length front + length (f (get_or xs i d)) ≤ room)) → OnOk r (new ≡ front ++ f (get_or xs i d))
    → new ≡ old ++ flat_map f (take (i + 1) xs)
appended f xs i d old end front new room r less whole before variant is =
    let piece = f (get_or xs i d) in
    let so_far = flat_map f (take i xs) in
    let rest = flat_map f (drop (suc i) xs) ++ end in
    let fits : length front + length piece ≤ room = omega (
      arith,
      whole,
      ap length before,
      length-append old so_far,
      ap length (around f xs i d end less),
      length-append old (flat_map f xs ++ end),
      length-append so_far (piece ++ rest),
      length-append piece rest,
    ) in
    has_room r variant is fits ∙ ap (λ t. t ++ piece) before ∙ append_assoc old _ piece
    ∙ ap (λ t. old ++ t) (sym (one_more f xs i d less))

-- ---- a whole text, from an empty buffer to the end

none_given : (a : SinkState) (held : List ℕ) → held ≡ [] → WasGiven a a held []
none_given a held empty = record { taken = []; parts = sym empty; took = took_nothing a }

pub took_given : (a b c : SinkState) (held waiting text : List ℕ) (u : Unit {0}) (r : Result (Unit {0}) WriteFault)
    → held ≡ [] → IsGiven {E = WriteFault} a held b waiting text (Ok u) → IsEnded b waiting c r → Took a c text r
took_given a b c held waiting text u (Ok t) empty one end = end a _ (one a [] (none_given a _ empty))
took_given a b c held waiting text u (Err f) empty one end = end a _ (one a [] (none_given a _ empty))

pub took_part : (a b : SinkState) (held waiting text : List ℕ) (f : WriteFault) (r : Result (Unit {0}) WriteFault)
    → held ≡ [] → IsErr r → IsGiven a held b waiting text (Err f) → Took a b text r
took_part a b held waiting text f (Ok t) empty failed one = let e = failed in cc e
took_part a b held waiting text f (Err g) empty failed one = one a [] (none_given a _ empty)
