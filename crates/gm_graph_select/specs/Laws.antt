-- Laws over the definitions alone.
use Rattle.std.specs.Prelude.{◌≡◌, ◌≢◌, ◌<◌, ℕ, suc, false, List, [], ◌∷◌, ◌++◌, length, take, Option, Contains}
use Rattle.std.specs.Ordering.{is_gt}
use Rattle.gm_version.specs.Version.{version_cmp}
use Rattle.gm_name.specs.ModuleVersion.{ModuleVersion}
use Rattle.gm_graph_select.specs.declared.step.Step.{Step}
use Rattle.gm_graph_select.specs.declared.step.Step.TheVariants.{Main, Of}
use Rattle.gm_graph_select.specs.declared.step.Edge.{Edge}
use Rattle.gm_graph_select.specs.Graph.{IsEdgeEnd, among}
use Rattle.gm_graph_select.specs.BuildList.{IsBuildList, IsEntryOf, IsRestAfter, path_of}
use Rattle.gm_graph_select.specs.Chains.{IsChain, IsLevel, IsReached, IsRooted}

-- a module of the build list, and what replaces it
abbrev pub EntryWith : Type 0 → Type 0
EntryWith R = Step × Option R

-- The version of each row is one that an edge leads to.
abbrev pub RowsAreEnds : Type 0 → Type 0
RowsAreEnds R = (main : List ℕ) (replacement : ModuleVersion → Option R) (edges : List Edge)
    (entries : List (EntryWith R))
    → IsBuildList main replacement (among edges) entries
    → (x : ModuleVersion) (right : Option R) → Contains entries (Of x, right) → IsEdgeEnd (among edges) x

-- Each path other than the main module's that an edge leads to has a row, whose version is not below that of the
-- edge.
abbrev pub RowsSatisfy : Type 0 → Type 0
RowsSatisfy R = (main : List ℕ) (replacement : ModuleVersion → Option R) (edges : List Edge)
    (entries : List (EntryWith R))
    → IsBuildList main replacement (among edges) entries
    → (y : ModuleVersion) → IsEdgeEnd (among edges) y → y.0 ≢ main
    → (x : ModuleVersion) × (right : Option R) × Contains entries (Of x, right) × (x.0 ≡ y.0)
    × (is_gt (version_cmp y.1 x.1) ≡ false)

-- The edges have at most one build list.
abbrev pub OneBuildList : Type 0 → Type 0
OneBuildList R = (main : List ℕ) (replacement : ModuleVersion → Option R) (edges : List Edge) (a b : List (EntryWith R))
    → IsBuildList main replacement (among edges) a → IsBuildList main replacement (among edges) b → a ≡ b

-- The edges have a build list.
abbrev pub SomeBuildList : Type 0 → Type 0
SomeBuildList R = (main : List ℕ) (replacement : ModuleVersion → Option R) (edges : List Edge)
    → (entries : List (EntryWith R)) × IsBuildList main replacement (among edges) entries

-- The rest after a path is unique.
abbrev pub OneRest : Type 0 → Type 0
OneRest R = (main : List ℕ) (entries : List (EntryWith R)) (path : List ℕ) (a b : List (EntryWith R))
    → IsRestAfter main entries path a → IsRestAfter main entries path b → a ≡ b

-- Pages of n entries of the remaining list, each starting after the last entry of the page before.
pub data ArePages {R : Type 0} (main : List ℕ) (entries : List (EntryWith R)) (n : ℕ)
    : List (EntryWith R) → List (List (EntryWith R)) → Type 0 where
  no_more : ArePages main entries n [] []
  one_more : {left rest : List (EntryWith R)} {pages : List (List (EntryWith R))} (front : List (EntryWith R))
      (last : EntryWith R) → take n left ≡ front ++ last ∷ [] → IsRestAfter main entries (path_of main last.0) rest
      → ArePages main entries n rest pages → ArePages main entries n left (take n left ∷ pages)

-- the entries of the pages, in order
abbrev pub entries_of_pages : {X : Type 0} → List (List X) → List X
entries_of_pages [] = []
entries_of_pages (page ∷ pages) = page ++ entries_of_pages pages

-- The entries of the pages are the build list.
abbrev pub PagesJoin : Type 0 → Type 0
PagesJoin R = (main : List ℕ) (replacement : ModuleVersion → Option R) (edges : List Edge)
    (entries : List (EntryWith R)) (n : ℕ) (pages : List (List (EntryWith R)))
    → IsBuildList main replacement (among edges) entries → ArePages main entries n entries pages
    → entries_of_pages pages ≡ entries

-- Such pages exist.
abbrev pub PagesExist : Type 0 → Type 0
PagesExist R = (main : List ℕ) (replacement : ModuleVersion → Option R) (edges : List Edge)
    (entries : List (EntryWith R)) (n : ℕ) → 0 < n → IsBuildList main replacement (among edges) entries
    → (pages : List (List (EntryWith R))) × ArePages main entries n entries pages

-- A chain has one step more than its last step's level, and fewer edges never lead there.
abbrev pub ChainIsShortest : Type 0
ChainIsShortest = (edges : List Edge) (s : Step) (steps : List Step) → IsChain (among edges) s steps
    → (n : ℕ) × (length steps ≡ suc n) × IsLevel (among edges) s n

-- The chain to a step is unique.
abbrev pub OneChain : Type 0
OneChain = (edges : List Edge) (s : Step) (a b : List Step) → IsChain (among edges) s a → IsChain (among edges) s b
    → a ≡ b

-- The entry of the main module's path is the main module.
abbrev pub MainIsFirst : Type 0 → Type 0
MainIsFirst R = (main : List ℕ) (replacement : ModuleVersion → Option R) (edges : List Edge)
    (entries : List (EntryWith R)) (s : Step) → IsBuildList main replacement (among edges) entries
    → IsEntryOf main entries main s → s ≡ Main

-- If each edge leaves a step that edges lead to from the main module, edges lead to every entry.
abbrev pub EntriesAreReached : Type 0 → Type 0
EntriesAreReached R = (main : List ℕ) (replacement : ModuleVersion → Option R) (edges : List Edge)
    (entries : List (EntryWith R))
    (path : List ℕ) (s : Step) → IsBuildList main replacement (among edges) entries → IsRooted (among edges)
    → IsEntryOf main entries path s → IsReached (among edges) s
