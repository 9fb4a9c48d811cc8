-- What a lookup shows of a file that was opened: reading up to the limit shows whether there is more.
use Rattle.std.proofs.Common.{◌≡◌, ◌+◌, ◌<◌, ◌≤◌, ◌⊎◌, ◌∙◌, ℕ, Bool, List, Option, Result, Some, None, Ok, Err, IfErr, IfOk, IfSome, Vec, Global, ap, arith, inl, inr, length, sym, take}
use Rattle.std.specs.Prelude.{if◌then◌else◌, nat_le}
use Rattle.std.proofs.lemmas.Bool.{cases_lt}
use Rattle.std.proofs.lemmas.List.{length-take-le, take_all}
use Rattle.gm_store_parts.specs.declared.reading.ReadFault.{ReadFault}
use Rattle.gm_store_parts.specs.declared.reading.ReadFault.TheVariants.{NoMemory, Device}
use Rattle.gm_store_parts.specs.Found.{result_for_bytes}
use Rattle.gm_store_parts.specs.Openings.{MayShow, opened}
use Rattle.gm_store_parts.specs.Private.Reading.{IsReadLookup}
use Rattle.gm_store_parts.specs.Pieces.{IsReadingFault}
use Rattle.gm_store_parts.specs.Steps.{Seen, found, result_of, too_long}
use Rattle.gm_store_parts.specs.declared.looked.Looked.{Looked}

abbrev result_up_to : ℕ → List ℕ → Seen
result_up_to limit bytes = if nat_le (length bytes) limit then found bytes else too_long

exceeds : (limit : ℕ) (bytes : List ℕ) → limit < length bytes → result_up_to limit bytes ≡ too_long
exceeds limit bytes h = grind arith

cut_by : (limit : ℕ) (all : List ℕ) → (limit < length all) ⊎ (length all ≤ limit) → result_up_to limit (take (limit + 1) all) ≡ result_up_to limit all
cut_by limit all (inl more) =
    exceeds limit (take (limit + 1) all) (omega (arith, length-take-le (limit + 1) all (omega (arith, more)))) ∙ sym (exceeds limit all more)
cut_by limit all (inr fits) = ap (result_up_to limit) (take_all (limit + 1) all (omega (arith, fits)))

-- one byte more than the limit shows as much as the whole file
cut_same : (all : List ℕ) → result_for_bytes (take 16777217 all) ≡ result_for_bytes all
cut_same all = cut_by 16777216 all (cases_lt 16777216 (length all))

-- a file that was read up to one byte more than the limit
read_shown : (known : Option (List ℕ)) (may_fail : Bool) (read : Result (Vec ℕ Global) ReadFault) (seen : Seen)
    → IfOk read (λ bytes. IfSome known (λ all. bytes.items ≡ take 16777217 all)) → IfErr read (IsReadingFault may_fail)
    → IsReadLookup read seen → MayShow (opened known may_fail) seen
read_shown None may_fail (Ok bytes) seen e f h = inl (bytes.items, h)
read_shown (Some all) may_fail (Ok bytes) seen e f h = inl (h ∙ ap result_for_bytes e ∙ cut_same all)
read_shown None may_fail (Err Device) seen e f h = inr (f, h)
read_shown (Some all) may_fail (Err Device) seen e f h = inr (f, h)
read_shown None may_fail (Err NoMemory) seen e f h = absurd h
read_shown (Some all) may_fail (Err NoMemory) seen e f h = absurd h

-- the same for the result of a call, which may be refused
pub look_shown : {E : Type 0} (known : Option (List ℕ)) (may_fail : Bool) (read : Result (Vec ℕ Global) ReadFault) (result : Result Looked E)
    → IfOk read (λ bytes. IfSome known (λ all. bytes.items ≡ take 16777217 all)) → IfErr read (IsReadingFault may_fail)
    → IfOk result (λ looked. IsReadLookup read (result_of looked))
    → IfOk result (λ looked. MayShow (opened known may_fail) (result_of looked))
look_shown known may_fail read (Ok looked) bytes fault shown = read_shown known may_fail read (result_of looked) bytes fault shown
look_shown known may_fail read (Err error) bytes fault shown = tt
