use Rattle.std.specs.Option.{option_map}
use Rattle.gm_store_parts.specs.Asked.{name_of}
use Rattle.gm_graph_cache.proofs.Named.{lender_still}
use Rattle.gm_graph_files.specs.Turns.{turn}
use Rattle.gm_graph_files.specs.declared.depth.Depth.TheVariants.{Deep}
use Rattle.gomod_tests.proofs.tests.graphs.lent_count.Goals as goal

pub returns : goal.returns
returns g c =
    lender_still c.lend.result c.args.cache.now c.lend.follows.lender-at-none (turn c.args.vertex.now Deep)
    c.args.vertex.now (option_map (λ n. name_of n.now) c.args.name)
    c.lend.follows.holds-at-none c.requires
