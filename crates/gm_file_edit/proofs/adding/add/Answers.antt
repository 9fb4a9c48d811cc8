use Rattle.std.proofs.Common.{◌∷◌, ◌∙◌, [], sym}
use Rattle.gm_syntax.specs.Document.{Blank}
use Rattle.gm_file_edit.specs.NewWords.{single}
use Rattle.gm_file_edit.proofs.AddingCode.{at-end, entry-loose}
use Rattle.gm_file_edit.proofs.Insertions.{added-at-end}
use Rattle.gm_file_edit.proofs.adding.add.Goals as goal

pub insert-requires-clause-in_range : goal.insert-requires-clause-in_range
insert-requires-clause-in_range c = let spot = rw c.in-Some.is at c.added_spot.ensures.place in spot.in_range

pub insert-requires-clause-loose : goal.insert-requires-clause-loose
insert-requires-clause-loose c = rw c.in_ok-entry-in-Some.ensures (entry-loose c.in-Some.spot.inside c.args.verb.now c.args.arguments.items)

pub insert-requires-clause-key : goal.insert-requires-clause-key
insert-requires-clause-key c =
    let spot = rw c.in-Some.is at c.added_spot.ensures.place in
    rw c.in_ok-entry-in-Some.ensures
    (c.placed.ensures ∙ sym (c.requires.about _ c.in-Some.spot.inside spot.inside (spot.of_verb c.args.verb.now (sym c.main_verb.ensures))))

pub returns-in_ok-entry-in-Some-clause-ok : goal.returns-in_ok-entry-in-Some-clause-ok
returns-in_ok-entry-in-Some-clause-ok c =
    let spot = rw c.in-Some.is at c.added_spot.ensures.place in
    rw (c.in_ok-entry-in-Some.ensures, spot.adds c.args.verb.now c.args.arguments.items (sym c.main_verb.ensures)) at c.insert.ensures.ok

pub returns-in-None-clause-ok : goal.returns-in-None-clause-ok
returns-in-None-clause-ok c =
    let verb = c.args.verb.now in
    let words = c.args.arguments.items in
    let none = rw (c.in-None.is, c.main_verb.ensures) at c.added_spot.ensures.none in
    rw (added-at-end verb words c.args.lines.now none)
    (rw (at-end c.args.lines.now (Blank ∷ single verb words ∷ []) c.len-end.result c.len-end.ensures) at c.insert_single.ensures.ok)
