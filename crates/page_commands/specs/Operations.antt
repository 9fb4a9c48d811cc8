-- A copy from crates/gm_operation/specs/Operations.antt, which tools/check/headline.py writes.
use Rattle.std.specs.Prelude.{ℕ, ◌==◌, ◌∷◌, if◌then◌else◌, Bool, List, [], codes, Option, Some, None}
use Rattle.std.specs.Option.{option_map}
use Rattle.std.specs.List.{after_first, before_first, find, list_any}
use Rattle.std.specs.Str.{bytes_eq}
use Rattle.page_commands.specs.Types.OperationKind.{OperationKind}
use Rattle.page_commands.specs.Types.OperationKind as op

-- whether the text contains the byte
abbrev pub has_byte : ℕ → List ℕ → Bool
has_byte b text = list_any (λ c. c == b) text

-- the text before the first such byte, and the text after it
abbrev pub split_at_byte : ℕ → List ℕ → Option (List ℕ × List ℕ)
split_at_byte b text =
    if has_byte b text then Some (before_first (λ c. c == b) text, after_first (λ c. c == b) text)
    else None

-- the names of operations, and the kind of each
abbrev pub operation_names : List (List ℕ × OperationKind)
operation_names =
    (codes "module", op.Module) ∷ (codes "go", op.Go)
    ∷ (codes "require", op.Require) ∷ (codes "droprequire", op.DropRequire)
    ∷ (codes "exclude", op.Exclude) ∷ (codes "dropexclude", op.DropExclude)
    ∷ (codes "replace", op.Replace) ∷ (codes "dropreplace", op.DropReplace)
    ∷ (codes "retract", op.Retract) ∷ (codes "dropretract", op.DropRetract) ∷ []

-- the kind of the operation with this name
unfoldable pub operation_named : List ℕ → Option OperationKind
operation_named name = option_map (λ row. row.1) (find (λ row. bytes_eq name row.0) operation_names)
