use Rattle.std.proofs.Common.{◌≡◌, ◌∙◌, ap, codes, ◌++◌, ◌∷◌, [], nat_eq, true, rules}
use Rattle.std.specs.List.{starts_with}
use Rattle.gm_store_sums.proofs.Summing.{stripped}
use Rattle.gm_store_sums.proofs.sum_lines.sum_in.Goals as goal

pub returns-clause-some : goal.returns-clause-some
returns-clause-some c = λ words are.
    let cut = c.in_ok-version.ensures.cases in
    let version : c.in-Three.version.now ≡ c.in_ok-version.version.now ++ codes "/go.mod" =
    stripped c.in-Three.version.now (codes "/go.mod") c.in_ok-version.version.now (rw c.as_slice.ensures at cut.0)
    (rw c.as_slice.ensures at cut.1) in
    let kind : starts_with nat_eq c.in-Three.hash.now (codes "h1:") ≡ true = search rules in
    (rw c.in-Three.is at are ∙ ap (λ version. c.in-Three.path.now ∷ version ∷ c.in-Three.hash.now ∷ []) version, kind)
