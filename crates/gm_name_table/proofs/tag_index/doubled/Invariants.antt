use Rattle.std.proofs.Common.{◌≡◌, length}
use Rattle.gm_name_table.specs.Buckets.{bucket_of}
use Rattle.gm_name_table.specs.Private.Tags.{AreParts}
use Rattle.gm_name_table.specs.Slots.{place_in_bucket}
use Rattle.gm_name_table.proofs.tag_index.doubled.Given as goal

abbrev pub invariant-loop-bucket : goal.invariant-loop-bucket
invariant-loop-bucket l = record {
  many : length l.doubled.items ≡ l.bucket;
  parts : AreParts place_in_bucket bucket_of l.buckets l.many l.doubled.items;
}
