use Rattle.gm_graph.proofs.loading.load.Goals as goal

pub returns-clause-loaded : goal.returns-clause-loaded
returns-clause-loaded g c = rw c.main_module.ensures at c.load_module.ensures.loaded

pub returns-clause-too_many : goal.returns-clause-too_many
returns-clause-too_many g c = rw c.main_module.ensures at c.load_module.ensures.too_many

pub returns-clause-asks : goal.returns-clause-asks
returns-clause-asks g c = rw c.main_module.ensures at c.load_module.ensures.asks

pub returns-clause-device : goal.returns-clause-device
returns-clause-device g c = rw c.main_module.ensures at c.load_module.ensures.device
