-- The program's directives as contracts see them, and the results of reading a line.
use Rattle.std.specs.Prelude.{◌≡◌, List, [], Option, Some, None, Result, Ok, Err, string_bytes, ⊤}
use Rattle.gm_file.specs.declared.directive.Directive as declared
use Rattle.gm_file.specs.declared.directive.Directive.TheVariants as directive
use Rattle.gm_file.specs.declared.fault.LineFault.{LineFault}
use Rattle.gm_file.specs.declared.fault.LineFault.TheVariants as line
use Rattle.gm_file.specs.Directives.{Mode, Item, Directive, DeclaresModule, DeclaresGo, Requires, Excludes, Replaces, Retracts, Kept, directive_in}
use Rattle.gm_file.specs.Faults.{item_kinds}
use Rattle.gm_file.specs.Fields.{first}
use Rattle.gm_file.specs.Reading.{own_kinds}
use Rattle.gm_file.specs.Views.{interval_view, replace_view}

-- a directive of the program as one of the definitions
abbrev pub directive_view : declared.Directive → Directive
directive_view (directive.Module path) = DeclaresModule path
directive_view (directive.Go text) = DeclaresGo (string_bytes text)
directive_view (directive.Require p) = Requires p
directive_view (directive.Exclude p) = Excludes p
directive_view (directive.Replace r) = Replaces (replace_view r)
directive_view (directive.Retract ends) = Retracts (interval_view ends)
directive_view directive.Kept = Kept

-- the result is the directive of a line, which has no fault by itself; or None, where the line has no directive and no
-- fault; or the first kind of the line's faults, whatever directives come before it
abbrev pub IsLineRead : Mode → Item → Result (Option declared.Directive) LineFault → Type 0
IsLineRead mode item (Ok None) = (directive_in mode item ≡ None)
    × ((earlier : List Directive) → item_kinds mode earlier item ≡ [])
IsLineRead mode item (Ok (Some d)) = (directive_in mode item ≡ Some (directive_view d))
    × (own_kinds (directive_view d) ≡ [])
IsLineRead mode item (Err line.NoMemory) = ⊤
IsLineRead mode item (Err (line.Kind kind)) = (earlier : List Directive)
    → first (item_kinds mode earlier item) ≡ Some kind
