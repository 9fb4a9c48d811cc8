use Rattle.std.proofs.Common.{◌≡◌, ap, ◌∙◌, Bool, true, false, cond, Option, Some, refl}
use Rattle.std.specs.Option.{option_map}
use Rattle.std.specs.Map.{lookup}
use Rattle.gm_store_parts.specs.Asked.{name_of, same_name}
use Rattle.gm_store_parts.proofs.NameOrder.{held_inserted}
use Rattle.gm_store_parts.proofs.files.memory.MemoryFiles.put.Goals as goal

map_cond : {A B : Type 0} (f : A → B) (b : Bool) (v : A) (r : Option A) → option_map f (cond b (Some v) r) ≡ cond b (Some (f v)) (option_map f r)
map_cond f true v r = refl
map_cond f false v r = refl

pub returns-clause-held : goal.returns-clause-held
returns-clause-held c = λ other.
    ap (λ es. option_map (λ content. content.items) (lookup (λ file. same_name other (name_of file)) es)) c.in_ok-insert.ensures.entries
    ∙ ap (option_map (λ content. content.items)) (held_inserted c.args.self.now.held.entries c.args.name c.args.content other)
    ∙ map_cond (λ content. content.items) (same_name other (name_of c.args.name)) c.args.content _
