-- What a reader says by its result: one fact for each case.
use Rattle.std.specs.Prelude.{◌≡◌, ℕ, List, Result, Ok, Err}
use Rattle.gm_name.specs.Path.{IsPath}
use Rattle.gm_name.specs.declared.path.PathFault.{PathFault}
use Rattle.gm_name.specs.declared.path.PathFault.TheVariants as path

-- of a path in a text
abbrev pub PathReading : List ℕ → Result (List ℕ) PathFault → Type 0
PathReading text (Ok path) = (path ≡ text) × IsPath text
PathReading text (Err path.NoMemory) = IsPath text
PathReading text (Err path.BadPath) = ¬ (IsPath text)
