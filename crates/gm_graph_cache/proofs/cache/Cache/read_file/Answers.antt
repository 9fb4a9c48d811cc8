use Rattle.std.proofs.Common.{Ok, Err, drop, refl}
use Rattle.gm_store_parts.specs.Asked.{name_of}
use Rattle.gm_name_table.specs.Listed.{modules_of}
use Rattle.gm_graph_files.specs.KeptFiles.{listed_reading}
use Rattle.gm_graph_cache.proofs.AskedFile.{asked_one, asks_passed, asks_still}
use Rattle.gm_graph_cache.proofs.GrownCache.{grown_consistent, grown_notes}
use Rattle.gm_graph_cache.proofs.Keeping.{holds_grown, holds_itself}
use Rattle.gm_graph_files.proofs.Ordered.{order_push}
use Rattle.gm_graph_files.proofs.SharedLists.{grown_after, listed_front}
use Rattle.gm_graph_files.specs.KeptFiles.{Grows}
use Rattle.gm_graph_cache.proofs.cache.Cache.read_file.Given.{Over}
use Rattle.gm_graph_cache.proofs.cache.Cache.read_file.Goals.{After-kept_of}
use Rattle.gm_graph_cache.proofs.cache.Cache.read_file.Goals as goal

pub kept_of-requires-clause-listed : goal.kept_of-requires-clause-listed
kept_of-requires-clause-listed g c =
    let cache = c.args.self.now in
    rw c.files.ensures
    (listed_front cache.modules c.read_answer.new.modules c.len-start.result c.len-start.ensures.len c.read_answer.ensures.grows
    cache.files.files.items cache.consistent.listed)

pub kept_of-requires-clause-notes : goal.kept_of-requires-clause-notes
kept_of-requires-clause-notes g c = rw c.files.ensures (grown_notes c.args.self.now c.read_answer.new.modules c.read_answer.ensures.grows)

-- the list of modules only grew
grown : (g : Over) (c : After-kept_of g) → Grows c.args.self.now.modules c.kept_of.new.modules
grown g c = grown_after c.args.self.now.modules c.read_answer.new.modules c.len-start.result c.len-start.ensures.len c.read_answer.ensures.grows
    c.kept_of.new.modules c.kept_of.ensures.grows

pub invariant_of-self : goal.invariant_of-self
invariant_of-self g c =
    let cache = c.args.self.now in
    let grows = c.read_answer.ensures.grows in
    record { consistent = grown_consistent cache _ grows; notes = grown_notes cache _ grows }

pub invariant_of-self-2 : goal.invariant_of-self-2
invariant_of-self-2 g c =
    let cache = c.args.self.now in
    record {
      consistent = grown_consistent cache _ (grown g (goal.at.invariant_of-self-2 g c).After-kept_of);
      notes = rw c.files.ensures at c.kept_of.ensures.notes;
    }

-- ---- the store refused

pub returns-in_err-ask-clause-holds : goal.returns-in_err-ask-clause-holds
returns-in_err-ask-clause-holds g c = holds_itself

pub returns-in_err-ask-clause-asks : goal.returns-in_err-ask-clause-asks
returns-in_err-ask-clause-asks g c =
    asks_passed (Unit {0}) _ c.in_err-ask.field-0.0 c.from_residual.result c.from_residual.ensures.1
    (asked_one (g.F.Asks.state c.args.files.now) _ (name_of c.args.name.now) c.requires.fresh (Err _) c.in_err-ask.ensures)

-- ---- memory ran out while the answer was read

pub returns-in_err-read-clause-holds : goal.returns-in_err-read-clause-holds
returns-in_err-read-clause-holds g c = holds_grown c.args.self.now _ refl refl refl c.read_answer.ensures.grows

pub returns-in_err-read-clause-asks : goal.returns-in_err-read-clause-asks
returns-in_err-read-clause-asks g c =
    asks_still _ c.from_residual-in_err-read.result c.from_residual-in_err-read.ensures.1
    (asked_one (g.F.Asks.state c.args.files.now) _ (name_of c.args.name.now) c.requires.fresh (Ok _) c.in_ok-ask.ensures)

-- ---- or was to be kept

pub returns-in_err-kept-clause-holds : goal.returns-in_err-kept-clause-holds
returns-in_err-kept-clause-holds g c =
    holds_grown c.args.self.now _ refl refl refl (grown g (goal.at.returns-in_err-kept-clause-holds g c).After-kept_of)

pub returns-in_err-kept-clause-asks : goal.returns-in_err-kept-clause-asks
returns-in_err-kept-clause-asks g c =
    asks_still _ c.from_residual-in_err-kept.result c.from_residual-in_err-kept.ensures.1
    (asked_one (g.F.Asks.state c.args.files.now) _ (name_of c.args.name.now) c.requires.fresh (Ok _) c.in_ok-ask.ensures)

-- ---- the file was read

pub returns-clause-holds : goal.returns-clause-holds
returns-clause-holds g c =
    holds_grown c.args.self.now _ refl refl refl (grown g (goal.at.returns-clause-holds g c).After-kept_of)

pub returns-clause-order : goal.returns-clause-order
returns-clause-order g c =
    let old = c.args.self.now in
    order_push old.first old.files.files.items _ c.in_ok-kept.kept _ old.consistent.in_order (rw c.len-start.ensures.len at c.in_ok-kept.ensures.order)

pub returns-clause-next : goal.returns-clause-next
returns-clause-next g c = rw c.files.ensures at c.in_ok-kept.ensures.next

pub returns-clause-reading : goal.returns-clause-reading
returns-clause-reading g c =
    let (reply, _, _, adds) = c.in_ok-ask.ensures.answered in
    let same = c.last.ensures.value (g.F.Asks.state c.args.files.now).asked (name_of c.args.name.now, reply) adds in (
      reply,
      adds,
      record {
        said = listed_reading (drop c.len-start.result (modules_of c.read_answer.new.modules)) c.in_ok-read.read;
        reads = rw c.len-start.ensures.len (rw same at (c.in_ok-read.ensures.reading c.last.ensures.within_limit));
        without = c.in_ok-kept.ensures.reading;
      },
    )

pub returns-clause-asks : goal.returns-clause-asks
returns-clause-asks g c =
    asked_one (g.F.Asks.state c.args.files.now) _ (name_of c.args.name.now) c.requires.fresh (Ok _) c.in_ok-ask.ensures
