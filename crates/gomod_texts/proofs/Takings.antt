-- What a sink took of texts that were written one after another.
use Rattle.std.proofs.Common.{◌≡◌, ◌∙◌, ◌+◌, ◌-◌, ◌≤◌, ◌++◌, ℕ, List, [], length, take, Option, Some, None, Result, Ok, Err, OnOk, OnErr, refl, sym, ap, subst, arith, length-append}
use Rattle.std.proofs.Math.Seq.{take-append-add}
use Rattle.std.proofs.lemmas.List.{take-append-le}
use Rattle.std.specs.Io.KnownBytes.{Appends}
use Rattle.gm_store_parts.proofs.Appending.{appends_more, appends_none}
use Rattle.gm_store_parts.proofs.Counts.{cause_later, later_both}
use Rattle.gm_store_parts.specs.Taken.{AppendsSome, HasCause, SinkState, WritesWhatFits}
use Rattle.gm_store_parts.specs.declared.sinks.WriteFault.{WriteFault}
use Rattle.gomod_texts.specs.Taking.{FitsIn, Overflows, Took, TookAll, TookPrefix}

-- ---- nothing

fits_nothing : (room : Option ℕ) → FitsIn room room 0
fits_nothing None = refl
fits_nothing (Some room) =
    let same : room ≡ room - 0 = omega arith in
    (omega arith, ap Some same)

pub took_nothing : (a : SinkState) → TookAll a a []
took_nothing a = record { bytes = appends_none _; room = fits_nothing _; later = omega arith }

-- ---- two texts

fits_both : (a b c : Option ℕ) (m n : ℕ) → FitsIn a b m → FitsIn b c n → FitsIn a c (m + n)
fits_both None None c m n h k = k
fits_both None (Some left) c m n h k = let e = h in cc e
fits_both (Some room) None c m n h k = let e = h.1 in cc e
fits_both (Some room) (Some left) c m n h k =
    let e = h.1 in
    let same : left ≡ room - m = cc e in
    let first = h.0 in
    let second = k.0 in
    let less : left - n ≡ room - (m + n) = omega arith in
    (omega arith, k.1 ∙ ap Some less)

pub took_both : (a b c : SinkState) (xs ys : List ℕ) → TookAll a b xs → TookAll b c ys → TookAll a c (xs ++ ys)
took_both a b c xs ys one two = record {
  bytes = appends_more _ _ _ _ _ _ refl one.bytes two.bytes;
  room = subst (FitsIn a.room c.room) (sym (length-append _ _))
      (fits_both _ _ _ _ _ one.room two.room);
  later = later_both _ _ _ one.later two.later;
}

-- ---- a text and a prefix of another

overflows_later : (a b : Option ℕ) (old mid new : Option (List ℕ)) (xs ys : List ℕ)
    → FitsIn a b (length xs) → Appends old mid xs → Overflows b mid new ys → Overflows a old new (xs ++ ys)
overflows_later None b old mid new xs ys h front k = tt
overflows_later (Some room) None old mid new xs ys h front k = let e = h.1 in cc e
overflows_later (Some room) (Some left) old mid new xs ys h front k =
    let e = h.1 in
    let same : left ≡ room - length xs = cc e in
    let first = h.0 in
    let second = k.0 in
    let whole : room ≡ length xs + left = omega arith in
    let taken : take room (xs ++ ys) ≡ xs ++ take left ys = ap (λ n. take n (xs ++ ys)) whole ∙ take-append-add _ _ _ in
    (omega (arith, length-append xs ys), appends_more _ _ _ xs _ _ taken front k.1)

pub took_then_part : (a b c : SinkState) (xs ys : List ℕ)
    → TookAll a b xs → TookPrefix b c ys → b.faults ≤ c.faults → TookPrefix a c (xs ++ ys)
took_then_part a b c xs ys one two later = record {
  bytes = (
    length xs + two.bytes.0,
    omega (arith, two.bytes.1, length-append xs ys),
    appends_more _ _ _ xs _ _
        (take-append-add xs ys _) one.bytes two.bytes.2,
  );
  room = overflows_later a.room b.room a.taken b.taken c.taken xs ys one.room one.bytes two.room;
  cause = cause_later _ _ _ _ one.later later two.cause;
}

-- ---- a prefix of a longer text

overflows_longer : (room : Option ℕ) (old new : Option (List ℕ)) (xs ys : List ℕ)
    → Overflows room old new xs → Overflows room old new (xs ++ ys)
overflows_longer None old new xs ys h = tt
overflows_longer (Some room) old new xs ys h =
    let short = h.0 in
    (omega (arith, length-append xs ys), subst (Appends old new) (sym (take-append-le _ xs ys (omega arith))) h.1)

pub part_of_longer : (a b : SinkState) (xs ys : List ℕ) → TookPrefix a b xs → TookPrefix a b (xs ++ ys)
part_of_longer a b xs ys part = record {
  bytes = (
    part.bytes.0,
    omega (arith, part.bytes.1, length-append xs ys),
    subst (Appends a.taken b.taken) (sym (take-append-le _ xs ys part.bytes.1)) part.bytes.2,
  );
  room = overflows_longer _ _ _ _ _ part.room;
  cause = part.cause;
}

-- ---- what one write of a whole piece does

fits_whole : (room left : Option ℕ) (old new : Option (List ℕ)) (piece : List ℕ) (u : Unit {0})
    → WritesWhatFits {E = WriteFault} room left old new piece (Ok u) → FitsIn room left (length piece)
fits_whole None left old new piece u h = h
fits_whole (Some room) left old new piece u h = (h.1, h.0)

overflows_whole : (room left : Option ℕ) (old new : Option (List ℕ)) (piece : List ℕ) (e : WriteFault)
    → WritesWhatFits room left old new piece (Err e) → Overflows room old new piece
overflows_whole None left old new piece e h = tt
overflows_whole (Some room) left old new piece e h = h.1

-- the clauses of `write_all` as one
pub took_piece : (a b : SinkState) (piece : List ℕ) (r : Result (Unit {0}) WriteFault)
    → OnOk r (Appends a.taken b.taken piece) → OnErr r (AppendsSome a.taken b.taken piece)
    → WritesWhatFits a.room b.room a.taken b.taken piece r → HasCause a.faults b.faults r → Took a b piece r
took_piece a b piece (Ok u) whole part fits cause = record {
  bytes = whole;
  room = fits_whole _ _ _ _ _ u fits;
  later = cause.later;
}
took_piece a b piece (Err e) whole part fits cause = record {
  bytes = part;
  room = overflows_whole _ _ _ _ piece e fits;
  cause = cause.cause refl;
}
