use Rattle.std.proofs.Common.{◌∙◌, Some, ap, length, refl, sym}
use Rattle.std.proofs.lemmas.Bool.{false≢true}
use Rattle.std.proofs.lemmas.Option.{none-some, same_Some, slice_get_past, slice_get_read}
use Rattle.gm_name.specs.Private.ModuleVersion.{pair_eq-Decides}
use Rattle.gm_name_table.proofs.index.stands_at.Goals as goal

pub returns-in-Some : goal.returns-in-Some
returns-in-Some c =
    let pairs = c.args.pairs.now in
    let there = c.in-Some.there.now in
    let read = c.in-Some.ensures.lookup in
    let stands = slice_get_read pairs (length pairs) c.args.place there refl read.3.0 read.1 in
    let decides = pair_eq-Decides there c.args.pair.now in (
      λ equal. stands ∙ ap Some (decides.0 (sym c.eq.ensures ∙ equal)),
      λ here. c.eq.ensures ∙ decides.1 (same_Some _ _ (sym stands ∙ here)),
    )

pub returns-in-None : goal.returns-in-None
returns-in-None c =
    let past = slice_get_past c.args.pairs.now c.args.place c.in-None.ensures.lookup.3 in
    (λ never. absurd (false≢true never), λ here. absurd (none-some _ (sym past ∙ here)))
