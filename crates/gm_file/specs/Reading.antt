-- The results of the functions that read one entry.
use Rattle.std.specs.Prelude.{List, []}
use Rattle.gm_file.specs.declared.fault.DirectiveKind.{DirectiveKind}
use Rattle.gm_file.specs.Directives.{Replacing, Directive, DeclaresModule, DeclaresGo, Requires, Excludes, Replaces, Retracts, Kept}
use Rattle.gm_file.specs.Faults.{ends_kinds, pair_kinds, path_kinds, sides_kinds}

-- the kinds of faults that a replacement has by itself
abbrev pub replacing_kinds : Replacing → List DirectiveKind
replacing_kinds r = sides_kinds r.0 r.1

-- the kinds of faults that a directive has by itself; a go version has none yet, since Repeated comes before BadGo
abbrev pub own_kinds : Directive → List DirectiveKind
own_kinds (DeclaresModule path) = path_kinds path
own_kinds (DeclaresGo text) = []
own_kinds (Requires p) = pair_kinds p
own_kinds (Excludes p) = pair_kinds p
own_kinds (Replaces r) = replacing_kinds r
own_kinds (Retracts ends) = ends_kinds ends
own_kinds Kept = []
