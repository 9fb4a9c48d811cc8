use Rattle.std.proofs.Common.{Bor, get_or}
use Rattle.clap.specs.Walk.{Text}
use Rattle.gomod_hints.proofs.HintWords.{map_at}
use Rattle.gomod_hints.proofs.hints.rows_say.Goals as goal

pub returns-then-is : goal.returns-then-is
returns-then-is c =
    let rows = c.args.rows.now in
    let row = get_or rows c.loop-names.names-index _ in (
      row.0.now,
      map_at (λ (r : Bor Text × Bor Text). (r.0.now, r.1.now)) rows c.loop-names.names-index _ c.loop-names-test.true,
      c.in_ok-is.ensures c.if-is.true,
    )
