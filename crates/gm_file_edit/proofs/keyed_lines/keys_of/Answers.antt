use Rattle.std.proofs.Common.{arith, refl}
use Rattle.std.proofs.lemmas.List.{length-map}
use Rattle.gm_syntax.specs.LineViews.{line_of, line_views}
use Rattle.gm_file_edit.proofs.KeyedChanges.{count-end, keyed-end, keyed-more, valid-at, view-at}
use Rattle.gm_file_edit.proofs.Pairs.{document-sound}
use Rattle.gm_file_edit.proofs.keyed_lines.keys_of.Goals as goal

pub loop-line-init : goal.loop-line-init
loop-line-init c = record { block_is = refl; keys_are = c.in_ok-keys.ensures.items }

pub key_of-requires : goal.key_of-requires
key_of-requires c =
    let lines = c.args.lines.now in
    let inside = c.loop-line-test.true in
    let count = length-map lines line_of in
    valid-at (document-sound (line_views lines) c.requires.document c.requires.sound) (omega (arith, inside, count))
    (view-at lines c.loop-line.line-index inside c.line-item.is) c.loop-line.invariant

pub loop-line-preserved : goal.loop-line-preserved
loop-line-preserved c =
    let lines = c.args.lines.now in
    let inside = c.loop-line-test.true in
    let count = length-map lines line_of in
    keyed-more (omega (arith, inside, count)) (view-at lines c.loop-line.line-index inside c.line-item.is) c.in_ok-key.ensures
    c.in_ok-push.ensures.items c.block_after_line-block.ensures.placed c.loop-line.invariant

pub returns-clause-keys : goal.returns-clause-keys
returns-clause-keys c =
    let lines = c.args.lines.now in
    let over = c.loop-line-test.false in
    let count = length-map lines line_of in
    keyed-end (omega (arith, over, count)) c.loop-line.invariant

pub returns-clause-len : goal.returns-clause-len
returns-clause-len c = let over = c.loop-line-test.false in count-end c.args.lines.now (omega (arith, over)) c.loop-line.invariant
