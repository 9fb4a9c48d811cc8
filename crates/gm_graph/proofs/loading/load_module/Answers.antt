use Rattle.std.proofs.Common.{◌∙◌, Err, append-nil, refl, sym, ap}
use Rattle.std.specs.Option.{option_copied}
use Rattle.gm_store_parts.specs.Asked.{name_of}
use Rattle.gm_store_parts.proofs.Serving.{nothing_served}
use Rattle.gm_graph_cache.specs.Refusals.{refused_names}
use Rattle.gm_graph.specs.Run.{nothing}
use Rattle.gm_graph.proofs.Dues.{refused_same}
use Rattle.gm_graph_cache.proofs.Keeping.{none_refused}
use Rattle.gm_graph.proofs.FoundGraph.{found_faults, found_places}
use Rattle.gm_graph.proofs.Loads.{found_ends, found_rooted, loads}
use Rattle.gm_graph.proofs.loading.load_module.Goals as goal

pub returns-in_err-cache-clause-asks : goal.returns-in_err-cache-clause-asks
returns-in_err-cache-clause-asks g c = rw c.requires nothing

pub returns-in_err-worklist-clause-asks : goal.returns-in_err-worklist-clause-asks
returns-in_err-worklist-clause-asks g c = rw (c.in_ok-cache.ensures.main, c.in_ok-cache.ensures.sums) at c.visit_all-found.ensures.asks.asks

pub returns-in_err-assemble-clause-asks : goal.returns-in_err-assemble-clause-asks
returns-in_err-assemble-clause-asks g c = rw (c.in_ok-cache.ensures.main, c.in_ok-cache.ensures.sums) at c.visit_all-found.ensures.asks.asks

pub returns-clause-asks : goal.returns-clause-asks
returns-clause-asks g c = rw (c.in_ok-cache.ensures.main, c.in_ok-cache.ensures.sums) at c.visit_all-found.ensures.asks.asks

pub returns-in_err-worklist-clause-device : goal.returns-in_err-worklist-clause-device
returns-in_err-worklist-clause-device g c = λ name e.
    rw (c.in_ok-cache.ensures.main, c.in_ok-cache.ensures.sums)
    at (c.in_err-worklist.ensures.asks.device (name_of name) (ap refused_names (sym (rw e at c.from_residual-in_err-worklist.ensures.1))))

pub returns-in_err-worklist-clause-refused : goal.returns-in_err-worklist-clause-refused
returns-in_err-worklist-clause-refused g c =
    rw (refused_same _ _ c.from_residual-in_err-worklist.ensures.1)
    c.in_err-worklist.ensures.asks.refused

pub returns-in_err-worklist-clause-too_many : goal.returns-in_err-worklist-clause-too_many
returns-in_err-worklist-clause-too_many g c = λ e.
    rw (c.in_ok-cache.ensures.main, c.in_ok-cache.ensures.sums)
    at (c.in_err-worklist.ensures.too_many (ap Err (sym (rw e at c.from_residual-in_err-worklist.ensures.1))))

pub assemble-requires : goal.assemble-requires
assemble-requires g c =
    let opened = c.in_ok-worklist.ensures.opened in
    let are = c.into_parts-parts.ensures.parts in
    record {
      turned = rw (c.into_turns.ensures, are.modules) opened.worklist_is.turned;
      faults = found_faults opened are;
      places = found_places opened are;
      rooted = found_rooted opened are;
      sources = found_ends opened are;
    }

pub returns-clause-loaded : goal.returns-clause-loaded
returns-clause-loaded g c =
    let told = c.in_ok-assemble.ensures in
    loads c.args.main.now (option_copied c.args.sums) (g.F.Asks.state c.visit_all-found.new.files).asked
    (rw (c.in_ok-cache.ensures.main, c.in_ok-cache.ensures.sums) at c.in_ok-worklist.ensures.opened) c.into_parts-parts.ensures.parts
    (rw (c.in_ok-cache.ensures.main, c.in_ok-cache.ensures.sums) at c.visit_all-found.ensures.asks.asks)
    c.in_ok-assemble.field-0 told.main told.faults told.ascending told.edges told.rows (rw c.into_turns.ensures at told.turns)

pub returns-in_err-cache-clause-served : goal.returns-in_err-cache-clause-served
returns-in_err-cache-clause-served g c = nothing_served _ (g.F.Asks.state c.args.files.now)

-- ---- memory ran out

pub returns-in_err-cache-clause-too_many : goal.returns-in_err-cache-clause-too_many
returns-in_err-cache-clause-too_many g c = λ e. absurd (cc (rw e at c.from_residual.ensures.1))

pub returns-in_err-cache-clause-device : goal.returns-in_err-cache-clause-device
returns-in_err-cache-clause-device g c = λ name e. absurd (cc (rw e at c.from_residual.ensures.1))

pub returns-in_err-cache-clause-refused : goal.returns-in_err-cache-clause-refused
returns-in_err-cache-clause-refused g c = none_refused _ _ _ c.from_residual.ensures.1 refl

pub returns-in_err-assemble-clause-too_many : goal.returns-in_err-assemble-clause-too_many
returns-in_err-assemble-clause-too_many g c = λ e. absurd (cc (rw e at c.from_residual-in_err-assemble.ensures.1))

pub returns-in_err-assemble-clause-device : goal.returns-in_err-assemble-clause-device
returns-in_err-assemble-clause-device g c = λ name e. absurd (cc (rw e at c.from_residual-in_err-assemble.ensures.1))

pub returns-in_err-assemble-clause-refused : goal.returns-in_err-assemble-clause-refused
returns-in_err-assemble-clause-refused g c =
    none_refused _ _ _ c.from_residual-in_err-assemble.ensures.1
    (c.in_ok-worklist.ensures.asks.refused ∙ append-nil _)
