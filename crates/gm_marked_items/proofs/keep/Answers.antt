use Rattle.std.proofs.Common.{◌≡◌, arith}
use Rattle.gm_marked_items.proofs.Kept.{kept-here, swap-front, swap-rest}
use Rattle.gm_marked_items.proofs.keep.Goals as goal

pub returns-then-kept-n-clause-front : goal.returns-then-kept-n-clause-front
returns-then-kept-n-clause-front g c = rw c.swap.ensures.items (swap-front c.args.list.now.items c.args.kept c.args.n c.if-kept-n.true c.requires.in_range)

pub returns-else-kept-n-clause-front : goal.returns-else-kept-n-clause-front
returns-else-kept-n-clause-front g c =
    let no = c.if-kept-n.false in
    let le = c.requires.ordered in
    let same : c.args.kept ≡ c.args.n = omega (arith, no, le) in
    rw same (kept-here c.args.list.now.items c.args.n c.requires.in_range)

pub returns-then-kept-n-clause-rest : goal.returns-then-kept-n-clause-rest
returns-then-kept-n-clause-rest g c = rw c.swap.ensures.items (swap-rest c.args.list.now.items c.args.kept c.args.n c.if-kept-n.true c.requires.in_range)
