use Rattle.std.proofs.Common.{◌≡◌, ◌∙◌, IfSome, List, ℕ, ap, arith, length, length-append, subst, sym, take}
use Rattle.gm_store_parts.proofs.Consuming.{consumed_more, ended_by, full_front, full_rest, rest_ended_by}
use Rattle.gm_store_parts.proofs.reading.read_by_pieces.Goals as goal

pub returns-clause-bytes : goal.returns-clause-bytes
returns-clause-bytes g c = full_front 16777217 _ _ _ c.fill.invariant.given c.fill.invariant.short (omega arith)

pub returns-clause-rest : goal.returns-clause-rest
returns-clause-rest g c = full_rest 16777217 _ _ _ c.fill.invariant.given c.fill.invariant.short (omega arith)

pub returns-then-count-eq0-clause-bytes : goal.returns-then-count-eq0-clause-bytes
returns-then-count-eq0-clause-bytes g c =
    let (room, some, _, adds) = c.in_ok-count.ensures.adds in
    subst (λ (bytes : List ℕ). IfSome (g.R.ByteReader.remaining c.args.reader.now) (λ all. bytes ≡ take 16777217 all))
    (sym {A = List ℕ} c.shrink_to_fit.ensures.items)
    (ended_by 16777217 room c.in_ok-count.count _ _ _ c.fill.bytes.items c.read_next.new.bytes.items
    c.fill.invariant.given c.fill.invariant.short adds c.if-count-eq0.true some)

pub returns-then-count-eq0-clause-rest : goal.returns-then-count-eq0-clause-rest
returns-then-count-eq0-clause-rest g c =
    let (room, some, _, adds) = c.in_ok-count.ensures.adds in
    rest_ended_by 16777217 room c.in_ok-count.count _ _ _ c.fill.bytes.items c.read_next.new.bytes.items
    c.fill.invariant.given c.fill.invariant.short adds c.if-count-eq0.true some

pub fill-preserved : goal.fill-preserved
fill-preserved g c =
    let (room, some, within, adds) = c.in_ok-count.ensures.adds in
    record {
      given = consumed_more _ _ _ c.fill.bytes.items adds.piece c.read_next.new.bytes.items adds.added c.fill.invariant.given adds.given;
      short = omega (arith, ap length adds.added, length-append c.fill.bytes.items adds.piece, adds.counted, adds.within, within);
      room = c.in_ok-count.ensures.room;
      may_fail = c.in_ok-count.ensures.may_fail ∙ c.fill.invariant.may_fail;
    }
