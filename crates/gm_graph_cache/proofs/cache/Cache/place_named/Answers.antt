use Rattle.std.proofs.Common.{◌≡◌, ◌∙◌, [], Some, ap, sym}
use Rattle.std.proofs.lemmas.Option.{get_or_from_slice_get, slice_get-get_or}
use Rattle.gm_store_parts.specs.Asked.{name_of}
use Rattle.gm_graph_cache.specs.Cached.{main_in, table_in, module_numbered}
use Rattle.gm_graph_files.specs.Reading.{file_of}
use Rattle.gm_graph_cache.proofs.FilePlaces.{place_by, place_by_absent}
use Rattle.gm_graph_cache.proofs.cache.Cache.place_named.Goals as goal

pub returns-in-Some : goal.returns-in-Some
returns-in-Some c = λ pairs knows named.
    let cache = c.args.self.now in
    let number = c.in-Some.number in
    let is : module_numbered cache number ≡ c.args.vertex.now = get_or_from_slice_get _ number _ ([], []) ((c.find.ensures number).0 c.in-Some.is) in
    let there = place_by (main_in cache) (table_in cache) cache.files number _ cache.consistent.notes
    (λ k below same. cc (sym ((c.find.ensures k).1 (slice_get-get_or _ k ([], []) below ∙ ap Some (same ∙ is))) ∙ c.in-Some.is))
    (named.name_is ∙ ap (file_of (main_in cache)) (sym is)) in
    c.place_of.ensures ∙ sym there

pub returns-in-None : goal.returns-in-None
returns-in-None c = λ pairs knows named.
    let cache = c.args.self.now in
    let there = place_by_absent _ _ _ cache.consistent.notes c.args.vertex.now (name_of c.args.name.now)
    (λ number is. cc (sym ((c.find.ensures number).1 is) ∙ c.in-None.is)) named.name_is in
    c.replacing_place.ensures ∙ sym there
