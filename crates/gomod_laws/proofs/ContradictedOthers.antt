-- What the laws of `edit` conclude is false of outputs that contradict them.
use Rattle.std.proofs.Common.{◌≡◌, ap, arith, drop, inl, inr, refl, sym}
use Rattle.gomod_texts.specs.Outcome.{Outcome}
use Rattle.gomod_run.proofs.ListLines.{heads}
use Rattle.gomod_laws.specs.CounterOthers.{FormatsAnother, NeitherFormats, TwiceIsRefused, TwicePrintsAnother, file_of_m, file_of_n}
use Rattle.gomod_laws.proofs.ShownTexts.{same_text}

codes_differ : {a b : Outcome} → a.status ≡ 0 → b.status ≡ 1 → a ≡ b → ⊥
codes_differ {a} {b} p q e = let codes_are : a.status ≡ b.status = ap (λ o. o.status) e in omega (arith, codes_are, p, q)

files_differ : file_of_m ≡ file_of_n → ⊥
files_differ e =
    let text = same_text _ _ e in
    let letter = heads _ _ _ _ (ap (drop 7) text) in omega (arith, letter)

pub twice_prints_another : TwicePrintsAnother
twice_prints_another number (inl same) = files_differ same
twice_prints_another number (inr later) = codes_differ refl refl later.refused_once

pub twice_is_refused : TwiceIsRefused
twice_is_refused number report (inl same) = codes_differ refl refl same
twice_is_refused number report (inr later) = codes_differ refl refl later.refused_once

pub formats_another : FormatsAnother
formats_another (same, text, is) = files_differ same

pub neither_formats : NeitherFormats
neither_formats report (same, text, is) = codes_differ refl refl (sym is)
