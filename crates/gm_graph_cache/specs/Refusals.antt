-- The names on which loading was refused, as its result reports them.
use Rattle.std.specs.Prelude.{List, [], ◌∷◌, Result, Ok, Err}
use Rattle.gm_store_parts.specs.Asked.{Name, name_of}
use Rattle.gm_graph_cache.specs.declared.cache.load_fault.LoadFault.{LoadFault}
use Rattle.gm_graph_cache.specs.declared.cache.load_fault.LoadFault.TheVariants.{NoMemory, Device, TooMany}

-- the name on which the device failed, if that is the fault
abbrev pub refused_names : LoadFault → List Name
refused_names NoMemory = []
refused_names (Device name) = name_of name ∷ []
refused_names TooMany = []

-- the name on which the device failed, if that is the refusal
abbrev pub refused_in : {T : Type 0} → Result T LoadFault → List Name
refused_in (Ok value) = []
refused_in (Err fault) = refused_names fault
