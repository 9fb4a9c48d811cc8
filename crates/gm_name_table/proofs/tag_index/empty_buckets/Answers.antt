use Rattle.std.proofs.Common.{◌≡◌, None, length, replicate, subst, sym, of_calls, rules}
use Rattle.gm_name_table.specs.Buckets.{bucket_of}
use Rattle.gm_name_table.specs.Slots.{place_in_bucket, place_in_buckets}
use Rattle.gm_name_table.proofs.Buckets.{none_in}
use Rattle.gm_name_table.proofs.tag_index.empty_buckets.Goals as goal

pub returns-clause-none : goal.returns-clause-none
returns-clause-none c = λ t.
    let same : c.in_ok-vec.field-0.items ≡ replicate c.args.many c.new.result = search (rules, of_calls) in
    subst (λ buckets. place_in_buckets buckets t ≡ None) (sym same)
    (none_in place_in_bucket c.new.result c.new.ensures c.args.many (bucket_of t (length (replicate c.args.many c.new.result))) t)
