-- Lines, and how a module is named in them.
use Rattle.std.specs.Prelude.{ℕ, List, ◌++◌, codes}
use Rattle.gm_graph_select.specs.declared.step.Step.{Step}
use Rattle.gm_graph_select.specs.declared.step.Step.TheVariants.{Main, Of}
use Rattle.gm_name.specs.ModuleVersion.{ModuleVersion}

-- a text with the line feed that ends it
abbrev pub line : List ℕ → List ℕ
line text = text ++ codes "\n"

-- `PATH@VERSION`
abbrev pub vertex_text : ModuleVersion → List ℕ
vertex_text x = x.0 ++ codes "@" ++ x.1

-- the main module's path alone, or `PATH@VERSION`
abbrev pub step_text : List ℕ → Step → List ℕ
step_text main Main = main
step_text main (Of x) = vertex_text x
