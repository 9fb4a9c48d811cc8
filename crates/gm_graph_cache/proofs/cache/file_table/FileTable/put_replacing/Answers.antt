use Rattle.std.proofs.Common.{◌∙◌, Some, sym}
use Rattle.gm_store_parts.proofs.NameOrder.{found_by}
use Rattle.gm_store_parts.specs.Asked.{name_of}
use Rattle.gm_graph_cache.proofs.PuttingPlaces.{none_set, replacing_set}
use Rattle.gm_graph_cache.proofs.cache.file_table.FileTable.put_replacing.Goals as goal

-- The name is not that of a replacement's file.
pub returns-in_default-clause-puts : goal.returns-in_default-clause-puts
returns-in_default-clause-puts c = λ other.
    let entries = c.args.self.now.replacing.entries in
    rw c.get_mut.follows.holds-at-none (none_set entries (name_of c.args.name.now) (Some c.args.place) other
    (sym (c.in_default.ensures.value ∙ found_by c.args.name.now entries)))

-- It is.
pub returns-in-Some-clause-puts : goal.returns-in-Some-clause-puts
returns-in-Some-clause-puts c = λ other.
    rw (c.get_mut.follows.holds c.some.result).0
    (replacing_set c.args.self.now.replacing.entries c.args.name.now c.some.result c.args.place c.some.ensures other)
