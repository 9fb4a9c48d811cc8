use Rattle.std.proofs.Common.{◌∙◌, None, Option, ap}
use Rattle.std.specs.Option.{option_map}
use Rattle.std.specs.Prelude.{unwrap_or}
use Rattle.gm_name_table.specs.OptionalPlaces.{place_in}
use Rattle.gm_name_table.specs.declared.place.OptionalPlace.{OptionalPlace}
use Rattle.gm_store_parts.proofs.NameOrder.{found_by}
use Rattle.gm_graph_cache.proofs.cache.file_table.FileTable.replacing_place.Goals as goal

pub returns-in-None : goal.returns-in-None
returns-in-None c = ap (λ (o : Option OptionalPlace). unwrap_or (option_map place_in o) None)
    (c.in-None.ensures.value ∙ found_by c.args.name.now c.args.self.now.replacing.entries)

pub returns-in-Some : goal.returns-in-Some
returns-in-Some c = c.get-in-Some.ensures
    ∙ ap (λ (o : Option OptionalPlace). unwrap_or (option_map place_in o) None)
    (c.in-Some.ensures.value ∙ found_by c.args.name.now c.args.self.now.replacing.entries)
