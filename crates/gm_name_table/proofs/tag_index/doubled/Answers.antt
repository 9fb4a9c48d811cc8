use Rattle.std.proofs.Common.{◌≡◌, ◌∙◌, ◌/◌, ◌*◌, ◌∷◌, [], List, Some, ap, arith, get_or, length, length-append, subst, sym}
use Rattle.std.proofs.lemmas.Option.{slice_get-get_or}
use Rattle.std.specs.Prelude.{slice_get}
use Rattle.gm_name_table.specs.Buckets.{bucket_of}
use Rattle.gm_name_table.specs.Private.Tags.{AreParts}
use Rattle.gm_name_table.specs.Slots.{place_in_bucket}
use Rattle.gm_name_table.specs.declared.bucket.Bucket.{Bucket}
use Rattle.gm_name_table.proofs.Buckets.{one_more_part, parts_hold}
use Rattle.gm_name_table.proofs.tag_index.doubled.Goals as goal

pub loop-bucket-preserved : goal.loop-bucket-preserved
loop-bucket-preserved c =
    let buckets = c.args.buckets.now in
    let grown = c.in_ok-push.ensures.items in
    let many = c.loop-bucket.invariant.many in
    let whole = get_or buckets (c.loop-bucket.bucket / 2) (record { slots = [] }) in
    let there : slice_get buckets (c.loop-bucket.bucket / 2) ≡ Some whole =
    slice_get-get_or buckets (c.loop-bucket.bucket / 2) (record { slots = [] }) (omega (arith, c.loop-bucket-test.true)) in
    record {
      many = omega (arith, ap length grown, length-append c.loop-bucket.doubled.items (c.part.result ∷ []), many);
      parts =
          subst (AreParts place_in_bucket bucket_of buckets (length buckets * 2)) (sym {A = List Bucket} grown)
          (one_more_part place_in_bucket bucket_of buckets (length buckets * 2) c.loop-bucket.doubled.items whole c.part.result
          c.loop-bucket.invariant.parts (ap (λ n. slice_get buckets (n / 2)) many ∙ there)
          (λ number chosen. c.part.ensures number (chosen ∙ many)));
    }

pub returns-clause-same : goal.returns-clause-same
returns-clause-same c =
    parts_hold place_in_bucket c.args.buckets.now c.loop-bucket.doubled.items
    (omega (arith, c.loop-bucket.invariant.many, c.loop-bucket-test.false, c.loop-bucket.auto.bucket-end))
    c.loop-bucket.invariant.parts
