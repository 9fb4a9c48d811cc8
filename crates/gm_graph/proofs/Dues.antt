-- What is asked for while a worklist is visited.
use Rattle.std.proofs.Common.{◌≡◌, List, [], Option, Result, Ok, Err, ap}
use Rattle.std.specs.Prelude.{IsErrAnd}
use Rattle.gm_store_parts.specs.Asked.{Name, Reply}
use Rattle.gm_graph_cache.specs.declared.cache.load_fault.LoadFault.{LoadFault}
use Rattle.gm_graph_cache.specs.Refusals.{refused_names, refused_in}
use Rattle.gm_graph.specs.Run.{AskedInTurn, nothing}

-- Nothing was asked for.
pub none_in_turn : (needs : (Name → Option Reply) → Name → Type 0) (pairs : List (Name × Reply)) → pairs ≡ [] → AskedInTurn needs pairs
none_in_turn needs pairs e = rw e nothing

-- ---- the refused names of a refusal that is passed on

pub refused_same : {T : Type 0} (r : Result T LoadFault) (f : LoadFault) → IsErrAnd r (λ h. h ≡ f) → refused_in r ≡ refused_names f
refused_same (Ok x) f given = absurd given
refused_same (Err h) f given = ap refused_names given
