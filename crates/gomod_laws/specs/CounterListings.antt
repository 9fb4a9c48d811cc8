-- What the laws on `list`, `graph` and `chain` conclude is false of outputs that contradict them.
use Rattle.std.specs.Prelude.{◌≡◌, ℕ, List, [], Option, None, Some, codes}
use Rattle.gm_name.specs.ModuleVersion.{ModuleVersion}
use Rattle.gm_file.specs.Main.{Main, IsMainFile}
use Rattle.gm_graph.specs.Run.{IsTop}
use Rattle.gm_graph_cache.specs.Sayings.{run_of}
use Rattle.gomod_texts.specs.QueryLaws.{JoinsPages, ShowsBuildList, ShowsShortestWalk}
use Rattle.gomod_texts.specs.Queries.{Given}
use Rattle.gomod_texts.specs.ListQuery.{ListEnds}
use Rattle.gomod_texts.specs.Outcome.{Outcome, text_outcome}
use Rattle.gomod_laws.specs.Counterexamples.{a_one, chain_to_a, graph_of_a, list_of_a}
use Rattle.gomod_laws.specs.DeterminedLaws.{ShowOneGraph, ShowsPart}

abbrev pub a_two : ModuleVersion
a_two = (codes "a.b", codes "v1.1.0")

-- the main file requires that version of that path, and does not exclude it
abbrev pub IsRequiredBy : Main → ModuleVersion → Type 0
IsRequiredBy main x = IsTop (run_of main None []) x

-- ---- `ListIsBuildList`

-- a path has two rows
abbrev pub PathIsTwice : Type 0
PathIsTwice = (run : Given) → ¬ (ShowsBuildList run (text_outcome (codes "m\na.b v1.0.0\na.b v1.1.0\n")))

-- the rows are not in path order
abbrev pub RowsAreUnordered : Type 0
RowsAreUnordered = (run : Given) → ¬ (ShowsBuildList run (text_outcome (codes "m\nb.c v1.0.0\na.b v1.0.0\n")))

-- the main module is missing
abbrev pub MainIsMissing : Type 0
MainIsMissing = (run : Given) → ¬ (ShowsBuildList run (text_outcome (codes "a.b v1.0.0\n")))

-- the main module requires a.b v1.1.0, and a.b has a row at v1.0.0,
abbrev pub RowIsTooLow : Type 0
RowIsTooLow = (run : Given) (main : Main) → IsMainFile run.file main → IsRequiredBy main a_two
    → ¬ (ShowsBuildList run list_of_a)

-- or no row
abbrev pub RequiredHasNoRow : Type 0
RequiredHasNoRow = (run : Given) (main : Main) → IsMainFile run.file main → IsRequiredBy main a_one
    → ¬ (ShowsBuildList run (text_outcome (codes "m\n")))

-- the main module requires nothing, and a.b has a row
abbrev pub RowIsNotRequired : Type 0
RowIsNotRequired = (run : Given) (main : Main) → IsMainFile run.file main → main.requirements ≡ []
    → ¬ (ShowsBuildList run list_of_a)

-- ---- `PartsOfOneList`

-- a row of the part is none of the list
abbrev pub PartHasAnotherRow : Type 0
PartHasAnotherRow = (after : Option (List ℕ)) (limit : Option ℕ) (run : Given)
    → ¬ (ShowsPart after limit run list_of_a (text_outcome (codes "b.c v1.0.0\n")))

-- a part of one row has two
abbrev pub PartIsTooLong : Type 0
PartIsTooLong = (run : Given) → ¬ (ShowsPart None (Some 1) run list_of_a list_of_a)

-- the part after a path is all of the list
abbrev pub PartIsTheWhole : Type 0
PartIsTheWhole = (path : List ℕ) (limit : Option ℕ) (run : Given)
    → ¬ (ShowsPart (Some path) limit run list_of_a list_of_a)

-- ---- `PrintedPagesJoin`

-- the page after m has a row of b.c
abbrev pub PageHasAnotherRow : Type 0
PageHasAnotherRow = (run : Given) → ListEnds None (Some 1) run (text_outcome (codes "m\n"))
    → ListEnds (Some (codes "m")) (Some 1) run (text_outcome (codes "b.c v1.0.0\n"))
    → ¬ (JoinsPages 1 run list_of_a)

-- there is no page after m
abbrev pub PageIsMissing : Type 0
PageIsMissing = (run : Given) → ListEnds None (Some 1) run (text_outcome (codes "m\n"))
    → ListEnds (Some (codes "m")) (Some 1) run (text_outcome [])
    → ¬ (JoinsPages 1 run list_of_a)

-- ---- `PrintedChainIsShortest`

-- the chain to b.c ends at a.b
abbrev pub ChainEndsElsewhere : Type 0
ChainEndsElsewhere = (run : Given) → ¬ (ShowsShortestWalk (codes "b.c") run chain_to_a)

-- the chain does not begin with the main module
abbrev pub ChainBeginsElsewhere : Type 0
ChainBeginsElsewhere = (path : List ℕ) (run : Given)
    → ¬ (ShowsShortestWalk path run (text_outcome (codes "a.b@v1.0.0\n")))

-- the main module requires a.b v1.0.0, and the chain goes by b.c
abbrev pub ChainIsTooLong : Type 0
ChainIsTooLong = (run : Given) (main : Main) → IsMainFile run.file main → IsRequiredBy main a_one
    → ¬ (ShowsShortestWalk (codes "a.b") run (text_outcome (codes "m\nb.c@v1.0.0\na.b@v1.0.0\n")))

-- ---- `OneGraph`

-- the list has a row of b.c, to which no line of the graph leads
abbrev pub ListIsOfAnotherGraph : Type 0
ListIsOfAnotherGraph = (path : List ℕ) (run : Given) (chain : Outcome)
    → ¬ (ShowOneGraph None None path run graph_of_a (text_outcome (codes "m\nb.c v1.0.0\n")) chain)

-- the chain leads to b.c
abbrev pub ChainIsOfAnotherGraph : Type 0
ChainIsOfAnotherGraph = (after : Option (List ℕ)) (limit : Option ℕ) (path : List ℕ) (run : Given) (list : Outcome)
    → ¬ (ShowOneGraph after limit path run graph_of_a list (text_outcome (codes "m\nb.c@v1.0.0\n")))
