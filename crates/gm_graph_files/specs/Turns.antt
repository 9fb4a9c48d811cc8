-- The turns of a worklist, which are visited one after another.
use Rattle.std.specs.Prelude.{Bool, true, false, ◌&&◌, not}
use Rattle.gm_name.specs.ModuleVersion.{ModuleVersion, pair_eq}
use Rattle.gm_graph_files.specs.declared.depth.Turn.{Turn}
use Rattle.gm_graph_files.specs.declared.depth.Depth.{Depth}
use Rattle.gm_graph_files.specs.declared.depth.Depth.TheVariants.{Top, Deep}
use Rattle.gm_file.specs.Fields.{Dependency}
use Rattle.gm_file.specs.Main.{is_pruned_by}

-- a vertex and a depth
abbrev pub turn : ModuleVersion → Depth → Turn
turn x d = record { vertex = x; depth = d }

-- the same depth
abbrev pub same_depth : Depth → Depth → Bool
same_depth Top Top = true
same_depth Top Deep = false
same_depth Deep Top = false
same_depth Deep Deep = true

-- the same turn
abbrev pub same_turn : Turn → Turn → Bool
same_turn a b = pair_eq a.vertex b.vertex && same_depth a.depth b.depth

-- Whether a visit to this depth also opens what the file requires.
abbrev pub leads_on : Dependency → Depth → Bool
leads_on file Top = not (is_pruned_by file.go)
leads_on file Deep = true
