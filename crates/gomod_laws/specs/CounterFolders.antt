-- What the laws on two stores conclude of the files that are asked for is false of runs that ask for others.
use Rattle.std.specs.Prelude.{List, [], ◌∷◌, codes}
use Rattle.gm_store_parts.specs.Asked.{Name, Reply, bytes, mod_file}
use Rattle.gomod_laws.specs.FolderLaws.{AskForTheSame}

-- a run that asks for the file of a.b v1.0.0, and gets it
abbrev pub asks_for_a : List (Name × Reply)
asks_for_a = (mod_file (codes "a.b") (codes "v1.0.0"), bytes (codes "module a.b\n")) ∷ []

-- `MoreFoldersChangeNothing` and `LaterAsksTheSame`: such a run does not ask for the same files as one that asks for
-- none, and one that asks for none does not ask for the same as such a run.
abbrev pub FileIsAskedForInOne : Type 0
FileIsAskedForInOne = ¬ (AskForTheSame asks_for_a []) × ¬ (AskForTheSame [] asks_for_a)
