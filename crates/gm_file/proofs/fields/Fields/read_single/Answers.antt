use Rattle.std.proofs.Common.{ℕ, List, Option, Ok, ap, refl, sym, ◌∙◌}
use Rattle.std.proofs.lemmas.Result.{err_from_is_err_and}
use Rattle.std.specs.Option.{option_map}
use Rattle.gm_file.specs.Directives.{DeclaresGo, DeclaresModule, Kept, Lax}
use Rattle.gm_file.specs.Faults.{directive_kinds}
use Rattle.gm_file.specs.Private.SimpleLines.{single_item}
use Rattle.gm_file.proofs.LineSaid.{line-added}
use Rattle.gm_file.proofs.SimpleLines.{single-bad, single-go, single-module, single-nothing, single-require}
use Rattle.gm_file.proofs.Saying.{say-kept}
use Rattle.gm_file.proofs.fields.Fields.read_single.Goals as goal

pub returns-in_err-path-clause-added : goal.returns-in_err-path-clause-added
returns-in_err-path-clause-added c =
    let p = err_from_is_err_and c.from_residual.result c.from_residual.ensures.1 in
    rw (p.1, p.2) (single-bad c.args.self.now c.args.self.now c.args.verb.now c.args.value.now c.in_err-path.field-0.0
    (sym c.eq.ensures ∙ c.if-eq.true) c.in_err-path.ensures.read)

pub returns-then-eq-clause-added : goal.returns-then-eq-clause-added
returns-then-eq-clause-added c =
    line-added Lax c.args.self.now c.add_module.new.self (single_item c.args.verb.now c.args.value.now) (DeclaresModule c.in_ok-path.path) c.add_module.result
    (single-module c.args.verb.now c.args.value.now (sym c.eq.ensures ∙ c.if-eq.true)
    ∙ ap (λ (o : Option (List ℕ)). option_map DeclaresModule o) c.in_ok-path.ensures.read.0)
    (c.add_module.ensures.added Lax)

pub returns-then-eq-2-clause-added : goal.returns-then-eq-2-clause-added
returns-then-eq-2-clause-added c =
    line-added Lax c.args.self.now c.add_go.new.self (single_item c.args.verb.now c.args.value.now) (DeclaresGo c.args.value.now) c.add_go.result
    (single-go c.args.verb.now c.args.value.now (sym c.eq.ensures ∙ c.if-eq.false) (sym c.eq-2.ensures ∙ c.if-eq-2.true)) c.add_go.ensures.added

pub returns-then-eq-3-clause-added : goal.returns-then-eq-3-clause-added
returns-then-eq-3-clause-added c = λ ds holds.
    single-require c.args.verb.now c.args.value.now (sym c.eq.ensures ∙ c.if-eq.false)
    (sym c.eq-2.ensures ∙ c.if-eq-2.false) (sym c.eq-3.ensures ∙ c.if-eq-3.true) ds

pub returns-clause-added : goal.returns-clause-added
unfolding directive_kinds
returns-clause-added c =
    line-added Lax c.args.self.now c.args.self.now (single_item c.args.verb.now c.args.value.now) Kept (Ok tt)
    (single-nothing c.args.verb.now c.args.value.now (sym c.eq.ensures ∙ c.if-eq.false)
    (sym c.eq-2.ensures ∙ c.if-eq-2.false) (sym c.eq-3.ensures ∙ c.if-eq-3.false))
    (λ ds holds. (say-kept holds, refl))
