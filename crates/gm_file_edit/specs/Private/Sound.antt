-- Parts of an operation while it is parsed.
use Rattle.std.specs.Prelude.{◌≡◌, ℕ, List, Option, Some, None, Result, Ok, Err, ⊤}
use Rattle.std.specs.Option.{option_map}
use Rattle.std.specs.Borrow.{Bor}
use Rattle.gm_file_edit.specs.declared.fault.OpFault.{OpFault}
use Rattle.gm_file_edit.specs.declared.fault.OpFault.TheVariants as fault

-- ---- the program's values as contracts see them

-- the two parts of a split text
abbrev pub split_view : Option (Bor (List ℕ) × Bor (List ℕ)) → Option (List ℕ × List ℕ)
split_view cut = option_map (λ parts. (parts.0.now, parts.1.now)) cut

-- the result is this part, or `Spelling` if there is none; nothing is known if memory runs out
abbrev pub IsParsedPart : {X Y : Type 0} → (Y → X) → Option X → Result Y OpFault → Type 0
IsParsedPart view part (Ok y) = part ≡ Some (view y)
IsParsedPart view part (Err fault.NoMemory) = ⊤
IsParsedPart view part (Err fault.Spelling) = part ≡ None
