use Rattle.gm_graph_cache.proofs.cache.Cache.known_by.Goals as goal

pub returns-in-Sound : goal.returns-in-Sound
returns-in-Sound c = λ pairs knows.
    let at = (rw c.in-Sound.is at c.verdict.ensures pairs knows).0 in
    record { name_is = c.requires.name; file = at.file; says = at.says }
