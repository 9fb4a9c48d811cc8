use Rattle.std.proofs.Common.{sym}
use Rattle.gm_graph_cache.specs.declared.cache.visit.Visit.{Visit}
use Rattle.gm_graph_cache.specs.Cached.{run_in, table_in}
use Rattle.gm_graph_cache.specs.Lent.{lent_table}
use Rattle.gm_graph_cache.proofs.AskedFile.{asks_by, has_some, refused_failed}
use Rattle.gm_graph.proofs.FollowedFiles.{has_its_turns}
use Rattle.gm_graph.proofs.Growing.{worklist_over}
use Rattle.gm_graph_cache.proofs.Keeping.{never_many}
use Rattle.gm_graph_cache.proofs.Lending.{lends_file}
use Rattle.gm_graph.proofs.TurnEnds.{overflows_at, turn_visited}
use Rattle.gm_graph.proofs.visiting.visit.Goals as goal

-- ---- the vertex has no fault

pub add_requirements-requires : goal.add_requirements-requires
add_requirements-requires g c =
    let old = c.args.cache.now in
    let run = run_in old (g.F.Asks.state c.args.files.now).asked in
    let required = c.in-Ok-Required.required in
    let ready = c.requires.ready in
    let (mid, made, distinct, is) = rw c.in-Ok-Required.field-0-is at c.in-Ok-Required.ensures.lends in
    let lends = lends_file old mid _ _ _ _ required made distinct is in
    record {
      worklist = worklist_over (table_in old) (lent_table required.list) c.args.worklist.now ready.worklist_is lends.begins lends.distinct;
      followed = has_its_turns old run c.args.worklist.now c.args.followed.now required ready.worklist_is lends ready.followed;
    }

pub returns-in-Ok-Required-clause-visited : goal.returns-in-Ok-Required-clause-visited
returns-in-Ok-Required-clause-visited g c =
    turn_visited c.requires.ready _ _ _ c.add_requirements.result c.requires.below
    (rw (c.in-Ok-Required.is, c.in-Ok-Required.field-0-is) at c.visit.follows.holds-at-none) (c.add_requirements.ensures.adds _ _ _)

pub returns-in-Ok-Required-clause-too_many : goal.returns-in-Ok-Required-clause-too_many
returns-in-Ok-Required-clause-too_many g c = λ e.
    let has = rw (c.in-Ok-Required.is, c.in-Ok-Required.field-0-is) at c.visit.follows.holds-at-none in
    let many = c.add_requirements.ensures.too_many e in
    overflows_at c.requires.ready has many.0 many.1

pub returns-in-Ok-Required-clause-asks : goal.returns-in-Ok-Required-clause-asks
returns-in-Ok-Required-clause-asks g c = asks_by (sym c.add_requirements.ensures.not_refused) c.in-Ok-Required.ensures.asks

-- ---- it has one

pub returns-in-Ok-Fault-clause-visited : goal.returns-in-Ok-Fault-clause-visited
returns-in-Ok-Fault-clause-visited g c =
    turn_visited c.requires.ready _ _ _ c.add_fault.result c.requires.below
    (rw (c.in-Ok-Fault.is, c.in-Ok-Fault.field-0-is) at c.visit.follows.holds-at-none) (c.add_fault.ensures.adds _ _ _ _ _)

pub returns-in-Ok-Fault-clause-too_many : goal.returns-in-Ok-Fault-clause-too_many
returns-in-Ok-Fault-clause-too_many g c = λ e. absurd (c.add_fault.ensures.not_too_many e)

pub returns-in-Ok-Fault-clause-asks : goal.returns-in-Ok-Fault-clause-asks
returns-in-Ok-Fault-clause-asks g c = asks_by (sym c.add_fault.ensures.not_refused) c.in-Ok-Fault.ensures.asks

-- ---- it was refused

pub load_fault-requires : goal.load_fault-requires
load_fault-requires g c = λ is.
    let ended = rw c.in-Err.is at c.visit.follows.holds-at-none in
    has_some _ _ (ended.1 is)

pub returns-in-Err-clause-too_many : goal.returns-in-Err-clause-too_many
returns-in-Err-clause-too_many g c = λ e.
    absurd (never_many c.in-Err.fault c.visit.follows.lender-at-none.failed c.load_fault.result c.load_fault.ensures.fault (cc e))

pub returns-in-Err-clause-asks : goal.returns-in-Err-clause-asks
returns-in-Err-clause-asks g c =
    let ended = rw c.in-Err.is at c.visit.follows.holds-at-none in
    asks_by (refused_failed Visit _ c.in-Err.fault _ c.load_fault.result ended.1 c.load_fault.ensures.fault) c.in-Err.ensures.asks
