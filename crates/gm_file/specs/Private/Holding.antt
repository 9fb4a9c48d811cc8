-- How the fields of a file relate to the directives so far, while its lines are read.
use Rattle.std.specs.Prelude.{◌≡◌, ℕ, List, [], ◌∷◌, ◌++◌, Option, Some, None, Result, Ok, Err, is_some, option_and_then, ⊤}
use Rattle.std.specs.Option.{option_to_list}
use Rattle.std.specs.List.{filter_map, list_any}
use Rattle.gm_name.specs.ModuleVersion.{ModuleVersion}
use Rattle.gm_syntax_words.specs.Words.{Word}
use Rattle.gm_syntax.specs.Document.{Line}
use Rattle.gm_file.specs.declared.fault.LineFault.{LineFault}
use Rattle.gm_file.specs.declared.fault.LineFault.TheVariants as line
use Rattle.gm_file.specs.declared.fields.Fields.{Fields}
use Rattle.gm_file.specs.Directives.{Mode, VersionInterval, Replacing, Directive, Item, block_after_lines, directive_in, directives}
use Rattle.gm_file.specs.Faults.{directive_kinds, faults, go_in, is_go, is_module, item_kinds}
use Rattle.gm_file.specs.Fields.{as_exclusion, as_go, as_interval, as_module, as_replacing, as_requirement, first}
use Rattle.gm_file.specs.Indexes.{AreIndexed, IsSetOfLines}
use Rattle.gm_file.specs.Views.{interval_views, replace_views}

-- these are the fields of the directives
pub record HaveFields (mode : Mode) (ds : List Directive) (declared : Option (List ℕ)) (go : Option (ℕ × ℕ))
    (requirements excludes : List ModuleVersion) (replaces : List Replacing)
    (retracts : List VersionInterval) : Type 0 where
  pub declared_is : first (filter_map as_module ds) ≡ declared
  pub is_declared : list_any is_module ds ≡ is_some declared
  pub go_is : option_and_then (go_in mode) (first (filter_map as_go ds)) ≡ go
  pub is_given : list_any is_go ds ≡ is_some go
  pub requirements_are : filter_map as_requirement ds ≡ requirements
  pub excludes_are : filter_map as_exclusion ds ≡ excludes
  pub replaces_are : filter_map as_replacing ds ≡ replaces
  pub retracts_are : filter_map as_interval ds ≡ retracts

-- the program's fields are those of the directives
abbrev pub Holds : Mode → List Directive → Fields → Type 0
Holds mode ds f = HaveFields mode ds f.declared f.go f.requirements.items f.excludes.lines.items
    (replace_views f.replaces.lines.items) (interval_views f.retracts.items)

-- the indexes agree with the lists that they index
pub record HaveIndexes (f : Fields) : Type 0 where
  pub excludes : IsSetOfLines f.excludes
  pub replaces : AreIndexed f.replaces

-- the fields have one more directive, which has no fault after the others; or the result is the first kind of its
-- faults
abbrev pub IsAdded : Mode → Fields → Fields → Directive → Result (Unit {0}) LineFault → Type 0
IsAdded mode old new d (Ok u) = (ds : List Directive) → Holds mode ds old
    → Holds mode (ds ++ d ∷ []) new × (directive_kinds mode ds d ≡ [])
IsAdded mode old new d (Err line.NoMemory) = ⊤
IsAdded mode old new d (Err (line.Kind kind)) = (ds : List Directive) → Holds mode ds old
    → first (directive_kinds mode ds d) ≡ Some kind

-- the same for the content of a line
abbrev pub IsLineAdded : Mode → Fields → Fields → Item → Result (Unit {0}) LineFault → Type 0
IsLineAdded mode old new item (Ok u) = (ds : List Directive) → Holds mode ds old
    → Holds mode (ds ++ option_to_list (directive_in mode item)) new × (item_kinds mode ds item ≡ [])
IsLineAdded mode old new item (Err line.NoMemory) = ⊤
IsLineAdded mode old new item (Err (line.Kind kind)) = (ds : List Directive) → Holds mode ds old
    → first (item_kinds mode ds item) ≡ Some kind

-- the lines have no fault, and these are their fields
pub record AreRead (mode : Mode) (lines : List (Line Word)) (f : Fields) : Type 0 where
  pub sound : faults mode lines ≡ []
  pub holds : Holds mode (directives mode lines) f
  pub found : HaveIndexes f

-- the same for the lines so far, with the verb of the block that is open after them
pub record AreReadTo (mode : Mode) (lines : List (Line Word)) (block : Option Word) (f : Fields) : Type 0 where
  pub open_is : block ≡ block_after_lines None lines
  pub read : AreRead mode lines f
