use Rattle.gomod_laws.proofs.RunsOnce.{one_for_stores}
use Rattle.gomod_laws.proofs.determined.one_store.Goals as goal

pub returns : goal.returns
returns c = one_for_stores
