use Rattle.std.proofs.Common.{refl}
use Rattle.gm_graph_cache.proofs.Keeping.{holds_beside}
use Rattle.gm_graph_cache.proofs.cache.Cache.load_fault.Goals as goal

pub returns-clause-holds : goal.returns-clause-holds
returns-clause-holds c = holds_beside c.args.self.now _ refl refl refl refl
