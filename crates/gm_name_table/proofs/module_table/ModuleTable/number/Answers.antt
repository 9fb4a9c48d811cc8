use Rattle.std.proofs.Common.{◌≡◌, ◌∙◌, ◌++◌, ◌∷◌, [], Ok, ap, arith, inr, length, refl, subst, sym}
use Rattle.std.proofs.lemmas.Bool.{false≢true}
use Rattle.std.proofs.lemmas.List.{length_push}
use Rattle.std.specs.Prelude.{slice_get}
use Rattle.gm_name_table.specs.Index.{IsIndexOf}
use Rattle.gm_name_table.proofs.Buckets.{last}
use Rattle.gm_name_table.proofs.Lists.{found-exactly}
use Rattle.gm_name_table.proofs.module_table.ModuleTable.number.Goals as goal

-- the modules with the new one at the end
grown : (c : goal.In_ok-push) → c.push.new.self.items ≡ c.self.inside.modules.items ++ c.args.pair.now ∷ []
grown c =
    c.in_ok-push.ensures.items
    ∙ ap (λ pairs. pairs ++ c.in_ok-copy.copy ∷ []) c.in_ok-reserve.ensures.items
    ∙ ap (λ pair. c.self.inside.modules.items ++ pair ∷ []) c.in_ok-copy.ensures

pub returns-in-Some-clause-found : goal.returns-in-Some-clause-found
returns-in-Some-clause-found c = λ number there.
    let pairs = c.self.inside.modules.items in
    let pair = c.args.pair.now in
    let found = (found-exactly pairs pair c.find.result c.self.invariant.0.distinct (rw c.deref.ensures.value at c.find.ensures.some)
    (rw c.deref.ensures.value at c.find.ensures.none) number).1
    (ap (λ ps. slice_get ps number) c.self.view_is ∙ there) in
    let same : c.in-Some.number ≡ number = cc (sym c.in-Some.is ∙ found) in (ap Ok same, refl)

pub returns-clause-number : goal.returns-clause-number
returns-clause-number c =
    let pairs = c.self.inside.modules.items in
    let pair = c.args.pair.now in
    ap (λ new. slice_get new c.len-number.result) (grown c)
    ∙ ap (slice_get (pairs ++ pair ∷ []))
    (c.len-number.ensures ∙ c.reserve.ensures.len ∙ c.self.inside.modules.ok.0)
    ∙ last pairs pair

pub returns-clause-only : goal.returns-clause-only
returns-clause-only c =
    inr (grown c ∙ ap (λ pairs. pairs ++ c.args.pair.now ∷ []) c.self.view_is)

pub invariant_of-self-2 : goal.invariant_of-self-2
invariant_of-self-2 c =
    let same = ap (◌++ c.args.pair.now ∷ []) (c.deref-2.ensures.value ∙ c.in_ok-reserve.ensures.items) ∙ sym (grown c) in
    let size = length_push c.self.inside.modules.items c.args.pair.now in
    (subst (IsIndexOf c.add.new.self) same c.in_ok-add.ensures.ok, omega (arith, ap length (grown c), c.if-len.false))

pub invariant_of-self-in_err-push : goal.invariant_of-self-in_err-push
invariant_of-self-in_err-push c = absurd (false≢true (c.in_err-push.ensures.succeeds (omega (arith, c.in_ok-reserve.ensures.ok))))

pub invariant_of-self-in_err-add : goal.invariant_of-self-in_err-add
invariant_of-self-in_err-add c =
    (subst (IsIndexOf c.add.new.self) c.deref-2.ensures.value c.in_err-add.ensures.err, rw c.in_ok-reserve.ensures.items c.self.invariant.1)

pub invariant_of-self : goal.invariant_of-self
invariant_of-self c = rw c.in_err-reserve.ensures.items c.self.invariant

pub add-requires-clause-indexed : goal.add-requires-clause-indexed
add-requires-clause-indexed c = rw (c.deref-2.ensures.value, c.in_ok-reserve.ensures.items) c.self.invariant.0

pub add-requires-clause-absent : goal.add-requires-clause-absent
add-requires-clause-absent c =
    rw (c.deref-2.ensures.value, c.in_ok-reserve.ensures.items, ← c.deref.ensures.value) (c.find.ensures.none c.in_default.is)
