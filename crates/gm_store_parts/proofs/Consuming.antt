-- The bytes that a reader has yielded are a prefix of those that it had.
use Rattle.std.proofs.Common.{◌≡◌, ℕ, ◌≤◌, List, [], ◌∷◌, ◌<◌, ◌++◌, append-nil, append_assoc, refl, subst, length, take, drop, Option, Some, None, IfSome, ap, ◌∙◌, sym, arith}
use Rattle.std.proofs.lemmas.Grind.{common_steps}
use Rattle.std.specs.Io.KnownBytes.{Consumes, IsAtEnd}
use Rattle.gm_store_parts.specs.Private.Reading.{AddsPiece}

-- the first n bytes that the reader had, if n bytes were read
pub full_front : (n : ℕ) (old new : Option (List ℕ)) (bs : List ℕ) → Consumes old new bs → length bs ≤ n → n ≤ length bs → IfSome old (λ all. bs ≡ take n all)
full_front n None new bs h short long = tt
full_front n (Some all) None bs h short long = absurd h
full_front n (Some all) (Some rest) bs h short long = grind (arith, common_steps)

append-no_piece : (before after piece : List ℕ) → after ≡ before ++ piece → length piece ≡ 0 → after ≡ before
append-no_piece before after [] e n = e ∙ append-nil before
append-no_piece before after (x ∷ xs) e n = absurd (omega arith)

ended_front : (n : ℕ) (old mid new : Option (List ℕ)) (bs : List ℕ) → Consumes old mid bs → length bs ≤ n
    → Consumes mid new [] → IsAtEnd new → IfSome old (λ all. bs ≡ take n all)
ended_front n None mid new bs h short g end = tt
ended_front n (Some all) None new bs h short g end = absurd h
ended_front n (Some all) (Some rest) None bs h short g end = absurd g
ended_front n (Some all) (Some rest) (Some last) bs h short g end = grind (arith, common_steps)

no_piece : (piece : List ℕ) → length piece ≡ 0 → piece ≡ []
no_piece [] e = refl
no_piece (x ∷ xs) e = absurd (omega arith)

-- all bytes that the reader had, if the last read yielded none
pub ended_by : (n room count : ℕ) (old mid new : Option (List ℕ)) (before after : List ℕ) → Consumes old mid before
    → length before ≤ n → AddsPiece mid new before after room count → count ≡ 0 → 0 < room
    → IfSome old (λ all. after ≡ take n all)
ended_by n room count old mid new before after h short p zero some =
    let none : p.piece ≡ [] = no_piece p.piece (p.counted ∙ zero) in
    subst (λ bytes. IfSome old (λ all. bytes ≡ take n all)) (sym (append-no_piece before after p.piece p.added (p.counted ∙ zero)))
    (ended_front n old mid new before h short (subst (Consumes mid new) none p.given) (p.ended zero some))

after_front : (n : ℕ) (all front rest : List ℕ) → all ≡ front ++ rest → length front ≤ n → n ≤ length front → rest ≡ drop n all
after_front n all front rest e short long = grind (arith, common_steps)

-- what is left after the first n bytes, if n bytes were read
pub full_rest : (n : ℕ) (old new : Option (List ℕ)) (bs : List ℕ) → Consumes old new bs → length bs ≤ n → n ≤ length bs
    → IfSome old (λ all. new ≡ Some (drop n all))
full_rest n None new bs h short long = tt
full_rest n (Some all) None bs h short long = absurd h
full_rest n (Some all) (Some rest) bs h short long = ap Some (after_front n all bs rest h short long)

none_after : (n : ℕ) (all front rest : List ℕ) → all ≡ front ++ rest → rest ≡ [] → length front ≤ n → [] ≡ drop n all
none_after n all front rest e none short = grind (arith, common_steps)

ended_rest : (n : ℕ) (old mid new : Option (List ℕ)) (bs : List ℕ) → Consumes old mid bs → length bs ≤ n
    → Consumes mid new [] → IsAtEnd new → IfSome old (λ all. new ≡ Some (drop n all))
ended_rest n None mid new bs h short g end = tt
ended_rest n (Some all) None new bs h short g end = absurd h
ended_rest n (Some all) (Some rest) None bs h short g end = absurd g
ended_rest n (Some all) (Some rest) (Some last) bs h short g end = ap Some (end ∙ none_after n all bs rest h (g ∙ end) short)

-- nothing is left, if the last read yielded no byte
pub rest_ended_by : (n room count : ℕ) (old mid new : Option (List ℕ)) (before after : List ℕ) → Consumes old mid before
    → length before ≤ n → AddsPiece mid new before after room count → count ≡ 0 → 0 < room
    → IfSome old (λ all. new ≡ Some (drop n all))
rest_ended_by n room count old mid new before after h short p zero some =
    let none : p.piece ≡ [] = no_piece p.piece (p.counted ∙ zero) in
    ended_rest n old mid new before h short (subst (Consumes mid new) none p.given) (p.ended zero some)

-- one more piece was read
pub consumed_more : (old mid new : Option (List ℕ)) (front piece whole : List ℕ) → whole ≡ front ++ piece
    → Consumes old mid front → Consumes mid new piece → Consumes old new whole
consumed_more None mid new front piece whole is h g = tt
consumed_more (Some all) None new front piece whole is h g = absurd h
consumed_more (Some all) (Some rest) None front piece whole is h g = absurd g
consumed_more (Some all) (Some rest) (Some last) front piece whole is h g =
    h ∙ ap (λ (t : List ℕ). front ++ t) g ∙ sym (append_assoc front piece last) ∙ ap (λ (t : List ℕ). t ++ last) (sym is)
