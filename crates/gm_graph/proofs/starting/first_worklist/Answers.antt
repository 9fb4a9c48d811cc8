use Rattle.std.proofs.Common.{◌∙◌, [], Err, ap, refl, subst, sym}
use Rattle.gm_graph_cache.specs.Lent.{lent_table}
use Rattle.gm_file.specs.Main.{Main, is_pruned_by, without_excluded}
use Rattle.gm_graph.specs.Private.Turns.{OverflowsWith, depth_by}
use Rattle.gm_graph.proofs.AddFaults.{add_too_many}
use Rattle.gm_graph_cache.proofs.Keeping.{none_refused}
use Rattle.gm_graph.proofs.starting.first_worklist.Goals as goal

pub add_all-requires : goal.add_all-requires
add_all-requires c =
    c.in_ok-worklist.ensures.worklist (lent_table c.first_requirements-required.result) c.module_count.ensures.distinct

pub returns-in_err-add_all-clause-too_many : goal.returns-in_err-add_all-clause-too_many
returns-in_err-add_all-clause-too_many c = λ e.
    let many = add_too_many c.from_residual-in_err-add_all.result c.in_err-add_all.field-0.0 c.from_residual-in_err-add_all.ensures.1 e in
    let over = c.in_err-add_all.ensures.too_many (ap Err many) in
    subst (λ (main : Main). OverflowsWith [] (without_excluded main main.requirements)) c.requires
    (rw (c.in_ok-worklist.ensures.turns, c.first_requirements-required.ensures.modules) at over)

pub returns-clause-first : goal.returns-clause-first
returns-clause-first c =
    let turned = c.in_ok-add_all.ensures in
    rw⁻¹ c.first_requirements-required.ensures.table (record {
      worklist_is = turned.worklist;
      adds = rw (
        c.in_ok-worklist.ensures.turns,
        c.first_requirements-required.ensures.modules,
        c.first_depth.ensures ∙ ap (λ (main : Main). depth_by (is_pruned_by main.go)) (sym c.requires),
      ) at turned.adds;
    })

-- ---- memory ran out

pub returns-in_err-worklist-clause-too_many : goal.returns-in_err-worklist-clause-too_many
returns-in_err-worklist-clause-too_many c = λ e. absurd (cc (rw e at c.from_residual.ensures.1))

pub returns-in_err-worklist-clause-not_refused : goal.returns-in_err-worklist-clause-not_refused
returns-in_err-worklist-clause-not_refused c = sym (none_refused c.from_residual.result [] [] c.from_residual.ensures.1 refl)
