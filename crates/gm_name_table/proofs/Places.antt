-- What an index holds after a place was put in a bucket, or among those that found their bucket full.
use Rattle.std.proofs.Common.{◌≡◌, ◌∙◌, ◌<◌, ℕ, Bool, true, false, cond, List, Option, None, Some, Result, Ok, Err, OnErr, length, get_or, nat_eq, ap, arith, sym, refl}
use Rattle.std.specs.Option.{option_or}
use Rattle.std.proofs.Math.ListN.{set}
use Rattle.std.proofs.lemmas.Bool.{eqb-true}
use Rattle.gm_name_table.specs.Buckets.{PutsIn, bucket_of, value_at}
use Rattle.gm_name_table.specs.Slots.{place_in_bucket, place_in_buckets}
use Rattle.gm_name_table.specs.declared.bucket.Bucket.{Bucket}
use Rattle.gm_name_table.proofs.Buckets.{put_in, set_there, value_there, within}

or_put : (b : Bool) (place : ℕ) (held rest : Option ℕ) → option_or (cond b (Some place) held) rest ≡ cond b (Some place) (option_or held rest)
or_put true place held rest = refl
or_put false place held rest = refl

or_rest : (b : Bool) (place : ℕ) (held rest : Option ℕ) → (b ≡ true → held ≡ None)
    → option_or held (cond b (Some place) rest) ≡ cond b (Some place) (option_or held rest)
or_rest true place held rest none = ap (λ o. option_or o (Some place)) (none refl)
or_rest false place held rest none = refl

held_no_place : (held rest : Option ℕ) → option_or held rest ≡ None → held ≡ None
held_no_place None rest e = refl
held_no_place (Some place) rest e = absurd (cc e)

-- The bucket that a tag chooses, and its place.
pub record IsChosen (buckets : List Bucket) (tag at : ℕ) (bucket : Bucket) : Type 0 where
  pub chosen : at ≡ bucket_of tag (length buckets)
  pub inside : at < length buckets
  pub is : bucket ≡ get_or buckets at bucket

pub is_chosen : (buckets : List Bucket) (tag at many : ℕ) (bucket : Bucket) → at ≡ bucket_of tag many → many ≡ length buckets
    → tag < 4294967296 → 0 < length buckets → bucket ≡ get_or buckets at bucket → IsChosen buckets tag at bucket
is_chosen buckets tag at many bucket chosen size fits some is =
    let there : at ≡ bucket_of tag (length buckets) = chosen ∙ ap (bucket_of tag) size in
    record { chosen = there; inside = omega (arith, there, within tag (length buckets) fits some); is = is }

-- The bucket that a tag without a place chooses holds none under it.
pub bucket_free : {buckets : List Bucket} {tag at : ℕ} {bucket : Bucket} (rest : Option ℕ) → IsChosen buckets tag at bucket
    → option_or (place_in_buckets buckets tag) rest ≡ None → place_in_bucket bucket tag ≡ None
bucket_free {buckets} {tag} {at} {bucket} rest one free =
    sym (value_there place_in_bucket buckets bucket at tag one.inside one.is)
    ∙ ap (λ m. value_at place_in_bucket buckets m tag) one.chosen
    ∙ held_no_place (place_in_buckets buckets tag) rest free

-- A place that is put in the bucket of its tag is put in the index.
pub put_or : {buckets : List Bucket} {tag at : ℕ} {old : Bucket} (new : Bucket) (place : ℕ) → IsChosen buckets tag at old
    → PutsIn place_in_bucket old new tag place → (t : ℕ) (rest : Option ℕ) → option_or (place_in_buckets (set buckets at new) t) rest
    ≡ cond (nat_eq tag t) (Some place) (option_or (place_in_buckets buckets t) rest)
put_or {buckets} {tag} {at} {old} new place one puts t rest =
    ap (λ o. option_or o rest) (put_in place_in_bucket bucket_of buckets old new at tag place one.chosen one.inside one.is puts t)
    ∙ or_put (nat_eq tag t) place (place_in_buckets buckets t) rest

-- So is one that is put among those that found their bucket full, where the bucket holds none under its tag and was left
-- as it was.
pub rest_or : {buckets : List Bucket} {tag at : ℕ} {old : Bucket} (new : Bucket) (place : ℕ) → IsChosen buckets tag at old
    → new ≡ old → place_in_bucket old tag ≡ None → (t : ℕ) (rest : Option ℕ)
    → option_or (place_in_buckets (set buckets at new) t) (cond (nat_eq tag t) (Some place) rest)
    ≡ cond (nat_eq tag t) (Some place) (option_or (place_in_buckets buckets t) rest)
rest_or {buckets} {tag} {at} {old} new place one same none t rest =
    ap (λ bs. option_or (place_in_buckets bs t) (cond (nat_eq tag t) (Some place) rest)) (set_there buckets old new at one.is same)
    ∙ or_rest (nat_eq tag t) place (place_in_buckets buckets t) rest
    (λ equal. ap (place_in_buckets buckets) (sym (eqb-true tag t equal))
    ∙ ap (λ m. value_at place_in_bucket buckets m tag) (sym one.chosen)
    ∙ value_there place_in_bucket buckets old at tag one.inside one.is ∙ none)

-- What is refused leaves what it left.
pub refused : {A B : Type 0} (r : Result A B) (P : Type 0) → P → OnErr r P
refused (Ok x) P p = tt
refused (Err e) P p = p
