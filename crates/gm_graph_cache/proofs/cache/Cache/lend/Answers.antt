use Rattle.std.proofs.Common.{refl}
use Rattle.std.proofs.lemmas.List.{map_push}
use Rattle.gm_graph_cache.proofs.Lending.{lender_there, lent_kept}
use Rattle.gm_graph_cache.proofs.cache.Cache.lend.Goals as goal

pub lend_at-requires : goal.lend_at-requires
lend_at-requires c = record { place = lender_there c.args.self.now c.args.vertex.now c.lender-place.result c.lender-place.ensures }

pub returns : goal.returns
returns c = (
  (
    refl,
    λ _. tt,
    rw (c.with-turns.ensures, map_push) at c.lend_at.follows.holds-at-none,
  ),
  record {
    lent = λ pairs knows.
        rw c.lend_at.ensures.modules
        (lent_kept c.args.self.now pairs c.args.vertex.now c.lender-place.result knows (c.lender-place.ensures pairs knows));
    after = tt;
  },
)
