use Rattle.std.proofs.Common.{◌≡◌, ◌∙◌, Some, ap, subst, sym}
use Rattle.std.proofs.lemmas.List.{length-set}
use Rattle.std.proofs.lemmas.Option.{none-some, slice_get-get_or}
use Rattle.std.specs.Option.{option_and_then}
use Rattle.std.specs.Prelude.{slice_get}
use Rattle.gm_name_table.specs.TagIndex.{place_under}
use Rattle.gm_name_table.specs.Private.Tags.{ArePlacesBelow}
use Rattle.gm_name_table.proofs.KeptPlaces.{put_again}
use Rattle.gm_name_table.proofs.kept_names.KeptNames.keep.Goals as goal

pub returns-in-Some-clause-keeps : goal.returns-in-Some-clause-keeps
returns-in-Some-clause-keeps g c = λ t.
    let old = c.args.self.now in
    put_again old.names.items c.args.name old.places c.args.tag c.in-Some.place old.placed (sym c.get.ensures ∙ c.in-Some.is) t

pub invariant_of-self : goal.invariant_of-self
invariant_of-self g c =
    let old = c.args.self.now in
    record {
      placed = subst (ArePlacesBelow old.places) (sym (length-set old.names.items c.in-Some.place c.args.name)) old.placed;
    }

pub returns-in-Some-clause-more : goal.returns-in-Some-clause-more
returns-in-Some-clause-more g c = λ none.
    let old = c.args.self.now in
    let held : place_under old.places c.args.tag ≡ Some c.in-Some.place = sym c.get.ensures ∙ c.in-Some.is in
    let there = slice_get-get_or old.names.items c.in-Some.place c.args.name (old.placed.below _ _ held) in
    absurd (none-some _ (sym none ∙ ap (option_and_then (slice_get old.names.items)) held ∙ there))
