-- Names that are kept under tags: which one, how many there are, and what keeping one more changes.
use Rattle.std.specs.Prelude.{ℕ, length}
use Rattle.gm_name_table.specs.declared.kept_names.KeptNames.{KeptNames}

-- how many names are kept
abbrev pub count_of : {T : Type 0} → KeptNames T → ℕ
count_of kept = length kept.names.items
