use Rattle.std.proofs.Common.{◌∙◌, cond, nat_eq, Some, ap}
use Rattle.std.specs.Option.{option_or}
use Rattle.std.proofs.Math.ListN.{set}
use Rattle.gm_name_table.specs.Overflow.{place_over}
use Rattle.gm_name_table.specs.Slots.{place_in_buckets}
use Rattle.gm_name_table.proofs.Buckets.{set_there}
use Rattle.gm_name_table.proofs.Places.{bucket_free, is_chosen, put_or, refused, rest_or}
use Rattle.gm_name_table.proofs.tag_index.TagIndex.put.Goals as goal

pub put-requires-clause-free : goal.put-requires-clause-free
put-requires-clause-free c =
    let one = is_chosen c.make_room.new.self.buckets.items c.args.tag _ _ _ c.bucket_of-chosen.ensures (c.len.ensures ∙ c.make_room.new.self.buckets.ok.0)
    c.ranges.tag.fits c.in_ok-make_room.ensures.some c.index_mut.ensures.value in
    bucket_free (place_over c.make_room.new.self.overflow c.args.tag) one (c.in_ok-make_room.ensures.same c.args.tag ∙ c.requires.free)

pub returns-then-put-clause-put : goal.returns-then-put-clause-put
returns-then-put-clause-put c = λ t.
    let one = is_chosen c.make_room.new.self.buckets.items c.args.tag _ _ _ c.bucket_of-chosen.ensures (c.len.ensures ∙ c.make_room.new.self.buckets.ok.0)
    c.ranges.tag.fits c.in_ok-make_room.ensures.some c.index_mut.ensures.value in
    put_or c.put.new.self c.args.place one (c.put.ensures.put c.if-put.true) t (place_over c.make_room.new.self.overflow t)
    ∙ ap (cond (nat_eq c.args.tag t) (Some c.args.place)) (c.in_ok-make_room.ensures.same t)

pub returns-clause-put : goal.returns-clause-put
returns-clause-put c = λ t.
    let one = is_chosen c.make_room.new.self.buckets.items c.args.tag _ _ _ c.bucket_of-chosen.ensures (c.len.ensures ∙ c.make_room.new.self.buckets.ok.0)
    c.ranges.tag.fits c.in_ok-make_room.ensures.some c.index_mut.ensures.value in
    let none = bucket_free (place_over c.make_room.new.self.overflow c.args.tag) one (c.in_ok-make_room.ensures.same c.args.tag ∙ c.requires.free) in
    ap (option_or (place_in_buckets (set c.make_room.new.self.buckets.items c.bucket_of-chosen.result c.put.new.self) t)) (c.in_ok-add.ensures.added t)
    ∙ rest_or c.put.new.self c.args.place one (c.put.ensures.full c.if-put.false) none t (place_over c.make_room.new.self.overflow t)
    ∙ ap (cond (nat_eq c.args.tag t) (Some c.args.place)) (c.in_ok-make_room.ensures.same t)

pub returns-in_err-add-clause-err : goal.returns-in_err-add-clause-err
returns-in_err-add-clause-err c = refused c.from_residual-in_err-add.result _ (λ t.
    let buckets = c.make_room.new.self.buckets.items in
    ap (λ bs. option_or (place_in_buckets bs t) (place_over c.add.new.self t))
    (set_there buckets c.index_mut.result.now c.put.new.self c.bucket_of-chosen.result c.index_mut.ensures.value (c.put.ensures.full c.if-put.false))
    ∙ ap (option_or (place_in_buckets buckets t)) (c.in_err-add.ensures.err t)
    ∙ c.in_ok-make_room.ensures.same t)
