use Rattle.std.proofs.Common.{refl}
use Rattle.gm_graph_cache.proofs.Keeping.{holds_beside}
use Rattle.gm_graph_cache.proofs.Lending.{lent_within}
use Rattle.gm_graph_cache.proofs.cache.Cache.lend_at.Goals as goal

pub at-requires : goal.at-requires
at-requires c = rw c.span_of-span.ensures (lent_within c.args.self.now c.args.place)

pub returns : goal.returns
returns c =
    let cache = c.args.self.now in (
      (
        refl,
        λ _. tt,
        record {
          turns = refl;
          holds = holds_beside cache _ refl refl refl refl;
          modules = refl;
          files = refl;
        },
      ),
      record {
        modules = rw c.span_of-span.ensures at c.at.ensures.modules;
        table = c.at.ensures.table;
        after = tt;
      },
    )
