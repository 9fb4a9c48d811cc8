-- The greatest version of each path. Among vertices in ascending order it is the last one of that path.
use Rattle.std.specs.Prelude.{ℕ, Bool, false, not, ◌&&◌, List, [], ◌∷◌, if◌then◌else◌}
use Rattle.std.specs.Str.{bytes_eq}
use Rattle.gm_name.specs.ModuleVersion.{ModuleVersion}

-- Whether the first of these vertices has the path.
abbrev pub first_has_path : List ℕ → List ModuleVersion → Bool
first_has_path path [] = false
first_has_path path (first ∷ rest) = bytes_eq first.0 path

-- Whether the path is not the main module's, and the vertices after this one don't begin with the same path.
abbrev pub is_selected : List ℕ → ModuleVersion → List ModuleVersion → Bool
is_selected main x behind = not (bytes_eq x.0 main) && not (first_has_path x.0 behind)

-- the selected ones of vertices in ascending order, in that order
abbrev pub greatest_of : List ℕ → List ModuleVersion → List ModuleVersion
greatest_of main [] = []
greatest_of main (x ∷ behind) = if is_selected main x behind then x ∷ greatest_of main behind
    else greatest_of main behind
