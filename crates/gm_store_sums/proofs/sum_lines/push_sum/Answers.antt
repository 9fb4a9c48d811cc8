use Rattle.std.proofs.Common.{inl, inr, refl}
use Rattle.std.proofs.lemmas.List.{map_push}
use Rattle.gm_store_sums.proofs.sum_lines.push_sum.Goals as goal

pub returns-in_ok-push-clause-added : goal.returns-in_ok-push-clause-added
returns-in_ok-push-clause-added c = λ _. inl (
  c.in-Some.sum.path.now,
  c.in-Some.sum.version.now,
  c.in-Some.sum.hash.now,
  c.in-Some.ensures.some _ c.fields_of-found.ensures,
  rw (c.in_ok-push.ensures.items, map_push) refl,
)

pub returns-in_default-clause-added : goal.returns-in_default-clause-added
returns-in_default-clause-added c = λ _. inr (c.in_default.ensures.none _ c.fields_of-found.ensures, refl)
