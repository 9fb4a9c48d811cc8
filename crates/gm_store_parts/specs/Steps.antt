-- The GOPROXY fallback: which of several folders answers (Go Modules Reference, GOPROXY). "A comma indicates" that
-- the next is tried if a file isn't found, "a pipe indicates" that it is tried "regardless of the error".
use Rattle.std.specs.Prelude.{◌≡◌, ◌≢◌, ◌-◌, ◌^◌, ◌+◌, ◌<◌, ℕ, min, Bool, true, false, List, [], ◌∷◌, ◌++◌, length, Option, Some, None, slice_get}
use Rattle.std.specs.List.{count_by}
use Rattle.gm_store_parts.specs.declared.fallback.proxy_list.Mark.{Mark}
use Rattle.gm_store_parts.specs.declared.fallback.proxy_list.Mark.TheVariants.{Comma, Bar}
use Rattle.gm_store_parts.specs.declared.looked.Looked.{Looked}
use Rattle.gm_store_parts.specs.declared.looked.Looked.TheVariants.{Found, TooLong, Absent, Failed}
use Rattle.gm_store_parts.specs.declared.fallback.step.Next.{Next}
use Rattle.gm_store_parts.specs.declared.fallback.step.Next.TheVariants.{Take, Go, Fail}
use Rattle.gm_store_parts.specs.Asked.{Reply}
use Rattle.gm_store_parts.specs.Asked as reply

-- the result of a lookup in one folder: a file's bytes, a file that is too long, no file, or a failure of the
-- device
pub data Seen : Type 0 where
  found : List ℕ → Seen
  too_long : Seen
  absent : Seen
  failed : Seen

-- the view of a result
abbrev pub result_of : Looked → Seen
result_of (Found content) = found content.items
result_of TooLong = too_long
result_of Absent = absent
result_of Failed = failed

-- what happens after a lookup, given the mark after the folder, or none after the last folder
abbrev pub step_of : Seen → Option Mark → Next
step_of (found content) mark = Take
step_of too_long mark = Take
step_of absent (Some mark) = Go
step_of absent None = Take
step_of failed (Some Bar) = Go
step_of failed (Some Comma) = Fail
step_of failed None = Fail

-- whether the device failed in a lookup
abbrev pub has_failed : Seen → Bool
has_failed failed = true
has_failed (found content) = false
has_failed too_long = false
has_failed absent = false

-- the answer that a result stands for; after a failure it isn't used
abbrev pub reply_in : Seen → Reply
reply_in (found content) = reply.bytes content
reply_in too_long = reply.too_long
reply_in absent = reply.absent
reply_in failed = reply.absent

-- the outcome of a request whose last lookup has this result and next step: an answer, or none if the device
-- failed
abbrev pub outcome_of : Seen → Next → Option Reply
outcome_of seen Take = Some (reply_in seen)
outcome_of seen Go = None
outcome_of seen Fail = None

-- The request falls back from folder to folder while `step` says so. Its outcome is that of the first folder at
-- which `step` stops. Each failure up to there is counted, including those that the request falls back from.
pub record StopsAt (looks : List Seen) (marks : List Mark) (outcome : Option Reply) (failures : ℕ) : Type 0 where
  pub passed : List Seen
  pub last : Seen
  pub rest : List Seen
  pub in_order : looks ≡ passed ++ last ∷ rest
  pub goes : (k : ℕ) (seen : Seen) → slice_get passed k ≡ Some seen → step_of seen (slice_get marks k) ≡ Go
  pub stops : step_of last (slice_get marks (length passed)) ≢ Go
  pub answers : outcome ≡ outcome_of last (step_of last (slice_get marks (length passed)))
  pub counted : failures ≡ count_by has_failed (passed ++ last ∷ [])

-- a count increased by `more`; it saturates at the greatest `u64`
abbrev pub counted_up : ℕ → ℕ → ℕ
counted_up before more = min (before + more) (2 ^ 64 - 1)

-- the same for some list of results, each of which is possible in the folder of its number
abbrev pub MayStop : (ℕ → Seen → Type 0) → List Mark → Option Reply → ℕ → Type 0
MayStop may_find marks outcome failures = (looks : List Seen)
    × ((k : ℕ) (seen : Seen) → slice_get looks k ≡ Some seen → may_find k seen)
    × StopsAt looks marks outcome failures

-- The results of the lookups that a request has made so far, one in each folder from the first on: each is possible
-- in its folder, and the request fell back from each folder but the last. So none was made after the folder at which
-- `step` stops.
pub record AreLookups (may_find : ℕ → Seen → Type 0) (marks : List Mark) (looks : List Seen) : Type 0 where
  pub possible : (k : ℕ) (seen : Seen) → slice_get looks k ≡ Some seen → may_find k seen
  pub fell_back : (k : ℕ) (seen : Seen) → slice_get looks k ≡ Some seen → k + 1 < length looks
      → step_of seen (slice_get marks k) ≡ Go

-- how often folders were looked into, and how often the device failed in that
pub record Counts : Type 0 where
  pub lookups : ℕ
  pub failures : ℕ

-- lookups with these results were counted, those of them that failed as failures too, and nothing else
abbrev pub AreCounted : List Seen → Counts → Counts → Type 0
AreCounted looks before after = (after.lookups ≡ counted_up before.lookups (length looks))
    × (after.failures ≡ counted_up before.failures (count_by has_failed looks))

-- a request made zero or more lookups, and exactly these were counted
abbrev pub HasCounted : (ℕ → Seen → Type 0) → List Mark → Counts → Counts → Type 0
HasCounted may_find marks before after = (looks : List Seen) × AreLookups may_find marks looks
    × AreCounted looks before after
