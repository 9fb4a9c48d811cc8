-- Operations of `edit` that are written with a dash in front, as after `go mod edit`.
use Rattle.std.specs.Prelude.{◌∷◌, if◌then◌else◌, Bool, false, List, Option, Some, None, is_some}
use Rattle.std.specs.List.{find}
use Rattle.std.specs.Option.{option_and_then, option_map_or}
use Rattle.std.specs.Str.{bytes_eq}
use Rattle.clap.specs.Lexer.{without_minus}
use Rattle.clap.specs.Walk.{Text}
use Rattle.gm_operation.specs.Operations.{operation_named, split_at_byte}
use Rattle.gomod_hints.specs.Hints.{begins_with_dash}
use Rattle.gomod_words.specs.Table.{name_in}
use Rattle.gomod_words.specs.declared.table.CommandName.TheVariants.{Edit}

-- the text is the name of an operation, `=` (61) and what follows
abbrev pub is_operation : Text → Bool
is_operation text = option_map_or (λ parts. is_some (operation_named parts.0)) (split_at_byte 61 text) false

-- the operation that a word is, with one dash or two in front or with none
abbrev pub operation_in : Text → Option Text
operation_in word =
    let text = without_minus (without_minus word) in
    if is_operation text then Some text else None

-- The operation with a dash in front that the words of a command line have, if any: after `edit` the first word with a
-- dash decides. The first word of all is the program's name.
abbrev pub dashed_in : List Text → Option Text
dashed_in (program ∷ name ∷ words) =
    if bytes_eq name (name_in Edit) then option_and_then operation_in (find begins_with_dash words) else None
dashed_in _ = None
