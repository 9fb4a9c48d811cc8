use Rattle.std.proofs.Common.{ap, ◌∙◌}
use Rattle.std.specs.Map.{lookup}
use Rattle.gm_store_parts.specs.Asked.{name_of, same_name}
use Rattle.gm_store_parts.proofs.NameOrder.{held_inserted}
use Rattle.gm_store_parts.proofs.memory_folder.MemoryFolder.put.Goals as goal

pub returns-clause-held : goal.returns-clause-held
returns-clause-held c = λ other.
    ap (lookup (λ file. same_name other (name_of file))) c.in_ok-insert.ensures.entries
    ∙ held_inserted c.args.self.now.held.entries c.args.name c.args.file other
