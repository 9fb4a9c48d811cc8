use Rattle.std.proofs.Common.{sym}
use Rattle.gm_graph_cache.proofs.Named.{lender_named, named_kept}
use Rattle.gm_graph_cache.proofs.cache.Cache.lender.Goals as goal

pub returns-in_err-name : goal.returns-in_err-name
returns-in_err-name c = rw c.from_residual.ensures (λ pairs knows. rw c.in_err-name.was at (c.requires pairs knows))

pub returns-in_err-place : goal.returns-in_err-place
returns-in_err-place c = λ pairs knows.
    let named = rw c.in_ok-name.was at (c.requires pairs knows) in
    absurd (named_kept c.args.self.now pairs _ _ knows named (sym (rw c.in_err-place.was at (c.place_named.ensures pairs knows named))))

pub returns : goal.returns
returns c = λ pairs knows.
    let named = rw c.in_ok-name.was at (c.requires pairs knows) in
    rw c.list_place.ensures
    (lender_named c.args.self.now pairs _ _ knows named c.in_ok-place.place (sym (rw c.in_ok-place.was at (c.place_named.ensures pairs knows named))))
