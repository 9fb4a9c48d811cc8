-- A fault of the worklist that loading passes on.
use Rattle.std.proofs.Common.{◌≡◌, Result, Ok, Err, ◌∙◌, sym, refl}
use Rattle.std.specs.Prelude.{IsErrAnd}
use Rattle.gm_graph_cache.specs.declared.cache.load_fault.LoadFault.{LoadFault}
use Rattle.gm_graph_cache.specs.declared.cache.load_fault.LoadFault.TheVariants as load
use Rattle.gm_graph.specs.declared.worklist.AddFault.{AddFault}
use Rattle.gm_graph.specs.declared.worklist.AddFault.TheVariants as add
use Rattle.gm_graph.specs.WorklistFaults.{load_fault_of}

many_is : (f : AddFault) → load_fault_of f ≡ load.TooMany → f ≡ add.TooMany
many_is add.NoMemory e = cc
many_is add.TooMany e = refl

-- It is that of too many vertices only if the worklist's is.
pub add_too_many : {T : Type 0} (r : Result T LoadFault) (f : AddFault) → IsErrAnd r (λ h. h ≡ load_fault_of f)
    → r ≡ Err load.TooMany → f ≡ add.TooMany
add_too_many (Ok x) f given e = absurd given
add_too_many (Err h) f given e = many_is f (sym given ∙ cc)
