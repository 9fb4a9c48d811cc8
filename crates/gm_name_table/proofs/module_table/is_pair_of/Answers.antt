use Rattle.std.proofs.Common.{◌≡◌, ◌∙◌, refl, subst, sym}
use Rattle.std.proofs.lemmas.Slice.Eq.{bytes_eq-Decides}
use Rattle.gm_name.specs.Fit.{Fits}
use Rattle.gm_name.specs.Path.{IsPath}
use Rattle.gm_version.specs.Version.{IsVersion}
use Rattle.gm_name_table.proofs.module_table.is_pair_of.Goals as goal

pub returns-then-eq : goal.returns-then-eq
returns-then-eq c = λ both.
    let pair = c.args.pair.now in
    let version = c.args.version.now in
    let same_path : pair.0 ≡ c.args.path.now =
    sym c.path.ensures.path ∙ sym c.as_str.ensures.text ∙ (bytes_eq-Decides _ _).0 (sym c.eq.ensures ∙ c.if-eq.true) in
    let same_version : pair.1 ≡ version =
    sym c.version.ensures ∙ sym c.as_str-then-eq.ensures.text
    ∙ (bytes_eq-Decides _ _).0 (sym c.eq-then-eq.ensures ∙ both) in (
      subst (λ p. pair ≡ (p, version)) same_path
          (subst (λ v. pair ≡ (pair.0, v)) same_version refl),
      subst IsPath same_path (rw c.path.ensures.path at c.as_str.ensures.path),
      subst IsVersion same_version (rw c.version.ensures at c.as_str-then-eq.ensures.version),
      subst (λ p. Fits p version) same_path
          (subst (Fits pair.0) same_version c.path.ensures.fit),
    )
