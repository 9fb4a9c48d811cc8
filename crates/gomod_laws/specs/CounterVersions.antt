-- What the law of `versions` concludes is false of outputs that contradict it.
use Rattle.std.specs.Prelude.{◌≡◌, ◌∷◌, ℕ, List, [], Some, codes}
use Rattle.gm_store_parts.specs.Asked.{Name, Reply, answer_in, bytes, list_file}
use Rattle.gm_file.specs.Directives.{pair}
use Rattle.gomod_texts.specs.Outcome.{Outcome, text_outcome}
use Rattle.gomod_laws.specs.VersionLaws.{LeavesOutRetracted, Retracts}

-- the store answered with this list file of a.b
abbrev pub HasListFile : List (Name × Reply) → List ℕ → Type 0
HasListFile asked list = answer_in asked (list_file (codes "a.b")) ≡ Some (bytes list)

-- both versions of a.b
abbrev pub both_of_a : Outcome
both_of_a = text_outcome (codes "a.b v1.0.0 v1.1.0\n")

-- `RetractedAreLeftOut` for a.b, if a version is printed without `--retracted` that the latest one retracts,
abbrev pub RetractedIsShown : Type 0
RetractedIsShown = (asked : List (Name × Reply))
    → Retracts asked (codes "a.b") (codes "v1.1.0") (pair (codes "v1.0.0") (codes "v1.0.0") ∷ [])
    → ¬ (LeavesOutRetracted asked (codes "a.b") both_of_a both_of_a)

-- if one is left out that the latest one does not retract,
abbrev pub UnretractedIsLeftOut : Type 0
UnretractedIsLeftOut = (asked : List (Name × Reply)) → Retracts asked (codes "a.b") (codes "v1.1.0") []
    → ¬ (LeavesOutRetracted asked (codes "a.b") (text_outcome (codes "a.b v1.1.0\n")) both_of_a)

-- and if one is not printed with `--retracted` that the list names
abbrev pub ListedIsMissing : Type 0
ListedIsMissing = (asked : List (Name × Reply)) (one : Outcome) → HasListFile asked (codes "v1.0.0\nv1.1.0\n")
    → ¬ (LeavesOutRetracted asked (codes "a.b") one (text_outcome (codes "a.b v1.1.0\n")))
