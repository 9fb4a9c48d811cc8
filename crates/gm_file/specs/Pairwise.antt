-- What strict reading accepts, by single lines and pairs of lines, so that their order doesn't matter.
use Rattle.std.specs.Prelude.{◌≡◌, Bool, true, false, List, [], All, AllPairs, None}
use Rattle.std.specs.List.{list_any}
use Rattle.gm_syntax_words.specs.Words.{Word}
use Rattle.gm_syntax.specs.Document.{Line}
use Rattle.gm_file.specs.Directives.{Strict, Directive, DeclaresModule, DeclaresGo, Replaces, LineInBlock, directives, item_at, with_blocks}
use Rattle.gm_file.specs.Faults.{conflicts, fault_of, is_go, is_module, item_kinds}

-- Whether two directives can't both stand in a main file: two declare a module, two declare a go version, or two
-- replaces have the same left side and different right sides (Go Modules Reference, "go.mod files").
abbrev pub do_clash : Directive → Directive → Bool
do_clash (DeclaresModule path) other = is_module other
do_clash (DeclaresGo text) other = is_go other
do_clash (Replaces r) other = conflicts r other
do_clash _ other = false

-- a line has no fault if no directive precedes it
abbrev pub IsRightAlone : LineInBlock Word → Type 0
IsRightAlone line = item_kinds Strict [] (item_at line) ≡ []

-- Each line is right by itself, the directives at no two places clash, and one of them declares the module.
pub record ArePairwiseRight (lines : List (Line Word)) : Type 0 where
  pub alone : All IsRightAlone (with_blocks lines)
  pub apart : AllPairs (λ one other. do_clash one other ≡ false) (directives Strict lines)
  pub declared : list_any is_module (directives Strict lines) ≡ true

-- strict reading finds no fault exactly if this is so
abbrev pub FaultlessIsPairwise : Type 0
FaultlessIsPairwise = (lines : List (Line Word))
    → (fault_of Strict lines ≡ None → ArePairwiseRight lines) × (ArePairwiseRight lines → fault_of Strict lines ≡ None)

-- which of two directives comes first doesn't matter
abbrev pub ClashIsMutual : Type 0
ClashIsMutual = (one other : Directive) → do_clash one other ≡ do_clash other one
