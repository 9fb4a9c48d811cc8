-- Runs of which one asks for a file and the other does not.
use Rattle.std.proofs.Common.{Contains, arith, refl}
use Rattle.std.specs.Prelude.{codes}
use Rattle.gm_store_parts.specs.Asked.{Name, mod_file, names_in}
use Rattle.gm_graph_select.proofs.Ascending.{no_member}
use Rattle.gomod_laws.specs.CounterFolders.{FileIsAskedForInOne, asks_for_a}

abbrev file_of_a : Name
file_of_a = mod_file (codes "a.b") (codes "v1.0.0")

asked_for : Contains (names_in asks_for_a) file_of_a
asked_for = (0, omega arith, refl)

pub asked_files_can_differ : FileIsAskedForInOne
asked_files_can_differ = (
  λ same. no_member _ ((same file_of_a).1 asked_for),
  λ same. no_member _ ((same file_of_a).0 asked_for),
)
