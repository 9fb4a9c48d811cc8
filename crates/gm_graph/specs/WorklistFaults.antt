-- The fault of loading when the worklist takes no more turns.
use Rattle.gm_graph_cache.specs.declared.cache.load_fault.LoadFault.{LoadFault}
use Rattle.gm_graph_cache.specs.declared.cache.load_fault.LoadFault.TheVariants as load
use Rattle.gm_graph.specs.declared.worklist.AddFault.{AddFault}
use Rattle.gm_graph.specs.declared.worklist.AddFault.TheVariants as add

-- the fault of loading for a fault of the worklist
abbrev pub load_fault_of : AddFault → LoadFault
load_fault_of add.NoMemory = load.NoMemory
load_fault_of add.TooMany = load.TooMany
