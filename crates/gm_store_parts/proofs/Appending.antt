-- Bytes that are appended piece by piece.
use Rattle.std.proofs.Common.{◌≡◌, min, ◌+◌, ◌-◌, ◌≤◌, ℕ, List, [], ◌++◌, length, take, drop, Option, Some, None, Ok, ap, ◌∙◌, sym, arith, append_assoc, append-nil, take-add}
use Rattle.std.proofs.lemmas.Grind.{common_steps}
use Rattle.std.specs.Io.KnownBytes.{Appends}
use Rattle.gm_store_parts.specs.Taken.{TakesWhatFits}
use Rattle.gm_store_parts.specs.declared.sinks.WriteFault.{WriteFault}

-- the room of a sink after it took `count` bytes, if the room is known
abbrev pub RoomLeft : Option ℕ → Option ℕ → ℕ → Type 0
RoomLeft None new count = new ≡ None
RoomLeft (Some room) new count = (count ≤ room) × (new ≡ Some (room - count))

pub appends_none : (old : Option (List ℕ)) → Appends old old []
appends_none None = tt
appends_none (Some xs) = sym (append-nil xs)

pub appends_more : (old mid new : Option (List ℕ)) (xs ys zs : List ℕ) → zs ≡ xs ++ ys → Appends old mid xs → Appends mid new ys → Appends old new zs
appends_more None mid new xs ys zs e g h = tt
appends_more (Some a) None new xs ys zs e g h = absurd g
appends_more (Some a) (Some b) None xs ys zs e g h = absurd h
appends_more (Some a) (Some b) (Some c) xs ys zs e g h = h ∙ ap (λ (t : List ℕ). t ++ ys) g ∙ append_assoc a xs ys ∙ ap (λ (t : List ℕ). a ++ t) (sym e)

whole_rest : (piece : List ℕ) (at : ℕ) → take (length piece - at) (drop at piece) ≡ drop at piece
whole_rest piece at = grind (arith, common_steps)

-- a longer prefix of a piece is a shorter one and a prefix of the rest, as the slice `&piece[at..]` has it
pub front_more : (piece : List ℕ) (at n : ℕ) → take (at + n) piece ≡ take at piece ++ take n (take (length piece - at) (drop at piece))
front_more piece at n = take-add at n piece ∙ ap (λ (t : List ℕ). take at piece ++ take n t) (sym (whole_rest piece at))

-- the room after one more write, which took `count` bytes
pub room_more : (old mid new : Option ℕ) (at count : ℕ) (rest : List ℕ) → RoomLeft old mid at
    → TakesWhatFits {E = WriteFault} mid new rest (Ok count) → RoomLeft old new (at + count)
room_more None None new at count rest e h = h
room_more None (Some mid) new at count rest e h = cc e
room_more (Some room) None new at count rest left h = let e : None ≡ Some (room - at) = left.1 in cc e
room_more (Some room) (Some mid) new at count rest left h =
    let e : Some mid ≡ Some (room - at) = left.1 in
    let same : mid ≡ room - at = cc e in
    let took : count ≡ min mid (length rest) = h.1 in
    let n : new ≡ Some (mid - length rest) = h.0 in
    let place : at ≤ room = left.0 in
    let within : at + count ≤ room = omega arith in
    let less : mid - length rest ≡ room - (at + count) = omega arith in
    (within, n ∙ ap Some less)
