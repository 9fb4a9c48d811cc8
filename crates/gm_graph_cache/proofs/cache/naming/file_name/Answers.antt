use Rattle.gm_graph_cache.proofs.cache.naming.file_name.Goals as goal

pub returns-in-Some : goal.returns-in-Some
returns-in-Some c = rw⁻¹ c.in-Some.ensures (c.right_name.ensures c.args.x.now)
