use Rattle.std.proofs.Common.{refl}
use Rattle.gm_graph_files.proofs.KeptLists.{kept_once}
use Rattle.gm_graph_cache.proofs.cache.Cache.into_parts.Goals as goal

pub invariant_of-result : goal.invariant_of-result
invariant_of-result c =
    record {
      distinct = c.into_parts-modules.ensures.distinct;
      few = c.into_parts-modules.ensures.few;
      below = c.into_parts-modules.ensures.below;
      in_order = rw (c.into_files.ensures, c.into_parts-modules.ensures.numbers) c.args.self.consistent.in_order;
    }

pub returns : goal.returns
returns c =
    let cache = c.args.self in
    record {
      parts = record {
        modules = c.into_parts-modules.ensures.modules;
        numbers = c.into_parts-modules.ensures.numbers;
        first = refl;
        files = c.into_files.ensures;
      };
      once = rw (c.into_files.ensures, c.into_parts-modules.ensures.numbers)
          (kept_once cache.lists cache.modules.numbers cache.files.files.items cache.notes);
    }
