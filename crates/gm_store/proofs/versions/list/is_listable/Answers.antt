use Rattle.std.proofs.Common.{rules}
use Rattle.gm_store.proofs.versions.list.is_listable.Goals as goal

pub returns-in-Some : goal.returns-in-Some
returns-in-Some c =
    let stamp = rw c.in-Some.is at c.pseudo.ensures.some in
    (λ t. cc t, λ listable. absurd (listable.no_pseudo (_, _, _, stamp)))

pub returns-in-None : goal.returns-in-None
returns-in-None c =
    let none = rw c.in-None.is at c.pseudo.ensures.none in (
      λ t. record {
        canonical = search rules;
        fit = c.fits.ensures.0 t;
        no_pseudo = λ found. none found.0 found.1 found.2 found.3;
      },
      λ listable. c.fits.ensures.1 listable.fit,
    )
