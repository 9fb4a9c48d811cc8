use Rattle.std.proofs.Common.{◌≡◌, ◌<◌, ◌∙◌, [], ℕ, Option, Some, ap, length, refl, sym}
use Rattle.std.proofs.lemmas.Option.{get_or_from_slice_get, slice_get_within}
use Rattle.gm_store_parts.specs.Asked.{name_of}
use Rattle.gm_graph_cache.specs.declared.cache.load_fault.LoadFault.TheVariants as load
use Rattle.gm_graph_cache.specs.Asking.{AsksOne, IsAskableFile}
use Rattle.gm_graph_cache.specs.Refusals.{refused_names}
use Rattle.gm_graph_cache.proofs.AskedFile.{asks_by, asks_for, lacks_still, refused_failed}
use Rattle.gm_graph_cache.specs.Cached.{main_in, run_in, sums_in, table_in, module_numbered}
use Rattle.gm_graph_files.specs.Reading.{file_of}
use Rattle.gm_graph_files.specs.KeptFiles.{Grows}
use Rattle.gm_name.specs.ModuleVersion.{module_at}
use Rattle.gm_graph_cache.proofs.GrownCache.{grown_consistent, grown_notes}
use Rattle.gm_graph_cache.proofs.NumberedModules.{number_below, number_stays}
use Rattle.gm_graph_cache.proofs.HeldFiles.{grown_holds, numbered_more}
use Rattle.gm_graph_cache.proofs.Keeping.{holds_after, holds_grown, never_many, says_still}
use Rattle.gm_graph_cache.proofs.Named.{named_known}
use Rattle.gm_graph_cache.proofs.cache.Cache.known.Given.{Over}
use Rattle.gm_graph_cache.proofs.cache.Cache.known.Goals as goal
use Rattle.gm_graph_cache.proofs.cache.Cache.known.Goals.{After-number, After-of_request, In-Ok, In_ok-number}

-- ---- the module has a number

-- the list of modules is the same, and one more may have a number
grows : (g : Over) (c : After-number g) → Grows c.args.self.now.modules c.number.new.self
grows g c = let more = c.number.ensures in numbered_more c.args.vertex.now more.only more.numbers more.list

within : (g : Over) (c : In_ok-number g) → c.in_ok-number.number < length c.number.new.self.modules
within g c = slice_get_within _ c.in_ok-number.number _ c.in_ok-number.ensures.number

is_vertex : (g : Over) (c : In_ok-number g) → module_at c.number.new.self.modules c.in_ok-number.number ≡ c.args.vertex.now
is_vertex g c = get_or_from_slice_get _ c.in_ok-number.number _ ([], []) c.in_ok-number.ensures.number

pub invariant_of-self : goal.invariant_of-self
invariant_of-self g c =
    let cache = c.args.self.now in
    let more = grows g (goal.at.invariant_of-self g c).After-number in
    record { consistent = grown_consistent cache _ more; notes = grown_notes cache _ more }

pub known_at-requires-clause-knows : goal.known_at-requires-clause-knows
known_at-requires-clause-knows g c =
    let cache = c.args.self.now in
    grown_holds (main_in cache) cache.modules c.number.new.self cache.files (grows g (goal.at.known_at-requires-clause-knows g c).After-number)
    cache.consistent.listed (sums_in cache) _ c.requires.knows

pub known_at-requires-clause-vertex : goal.known_at-requires-clause-vertex
known_at-requires-clause-vertex g c = within g (goal.at.known_at-requires-clause-vertex g c).In_ok-number

pub returns-in-Err-clause-lent : goal.returns-in-Err-clause-lent
returns-in-Err-clause-lent g c = let lent = c.known_at.ensures.lent in record { main = lent.main; sums = lent.sums; turns = lent.turns }

pub returns-in-Err-clause-err : goal.returns-in-Err-clause-err
returns-in-Err-clause-err g c =
    holds_after (holds_grown c.args.self.now _ refl refl refl (grows g (goal.at.returns-in-Err-clause-err g c).After-number)) c.in-Err.ensures.err

-- ---- what was asked for

pub returns-in-Ok-clause-asks : goal.returns-in-Ok-clause-asks
returns-in-Ok-clause-asks g c =
    asks_for (main_in c.args.self.now) c.args.vertex.now
    (rw (is_vertex g (goal.at.returns-in-Ok-clause-asks g c).In_ok-number) at c.in-Ok.ensures.asks)

asked : (g : Over) (c : After-of_request g)
    → AsksOne (IsAskableFile (main_in c.args.self.now) c.args.vertex.now) (g.F.Asks.may_answer c.args.files.now) (g.F.Asks.may_answer c.known_at.new.files)
    (g.F.Asks.state c.args.files.now) (g.F.Asks.state c.known_at.new.files) (refused_names c.of_request.result)
asked g c =
    let is = get_or_from_slice_get _ c.in_ok-number.number _ ([], []) c.in_ok-number.ensures.number in
    rw is at (asks_by (refused_failed (Option ℕ) _ c.in-Err.fault (Some c.in_ok-name.name) c.of_request.result
    (λ _. c.in_ok-name.ensures ∙ ap (file_of (main_in c.args.self.now)) (sym is)) c.of_request.ensures) c.in-Err.ensures.asks)

pub returns-in-Err-clause-asks : goal.returns-in-Err-clause-asks
returns-in-Err-clause-asks g c = asks_for (main_in c.args.self.now) c.args.vertex.now (asked g c)

pub returns-in-Err-clause-device : goal.returns-in-Err-clause-device
returns-in-Err-clause-device g c = λ name e.
    let same : c.of_request.result ≡ load.Device name = cc e in
    lacks_still (main_in c.args.self.now) c.args.vertex.now (asked g c) (name_of name) (ap refused_names same)

pub returns-in-Err-clause-refused : goal.returns-in-Err-clause-refused
returns-in-Err-clause-refused g c = (asked g c).refused

-- ---- what files said

pub returns-in_err-number-clause-stays : goal.returns-in_err-number-clause-stays
returns-in_err-number-clause-stays g c = λ x said says. says

pub returns-in_err-name-clause-stays : goal.returns-in_err-name-clause-stays
returns-in_err-name-clause-stays g c = λ x said says. says

pub returns-in-Ok-clause-stays : goal.returns-in-Ok-clause-stays
returns-in-Ok-clause-stays g c =
    let lent = c.known_at.ensures.lent in
    says_still c.args.self.now c.known_at.new.self (g.F.Asks.state c.args.files.now) (g.F.Asks.state c.known_at.new.files) c.args.vertex.now
    (record { main = lent.main; sums = lent.sums; turns = lent.turns }) (returns-in-Ok-clause-asks g c)

pub returns-in-Err-clause-stays : goal.returns-in-Err-clause-stays
returns-in-Err-clause-stays g c =
    says_still c.args.self.now c.known_at.new.self (g.F.Asks.state c.args.files.now) (g.F.Asks.state c.known_at.new.files) c.args.vertex.now
    (returns-in-Err-clause-lent g c) (returns-in-Err-clause-asks g c)

-- the number of the vertex is still its own
numbered : (g : Over) (c : In-Ok g) → module_numbered c.known_at.new.self c.in_ok-number.number ≡ c.args.vertex.now
numbered g c =
    number_stays _ (table_in c.known_at.new.self) c.in_ok-number.number c.in-Ok.ensures.known.0.numbered
    (slice_get_within _ c.in_ok-number.number _ c.in_ok-number.ensures.number)
    ∙ get_or_from_slice_get _ c.in_ok-number.number _ ([], []) c.in_ok-number.ensures.number

pub returns-in-Ok-clause-known : goal.returns-in-Ok-clause-known
returns-in-Ok-clause-known g c =
    rw (numbered g (goal.at.returns-in-Ok-clause-known g c).In-Ok) at
    (c.known_by.ensures (g.F.Asks.state c.known_at.new.files).asked c.in-Ok.ensures.known.0.knows)

pub returns-in-Ok-clause-lender : goal.returns-in-Ok-clause-lender
returns-in-Ok-clause-lender g c = λ pairs knows.
    named_known (run_in c.known_at.new.self pairs) c.args.vertex.now c.known_by.result
    (rw (numbered g (goal.at.returns-in-Ok-clause-lender g c).In-Ok) at (c.known_by.ensures pairs knows))

pub known_by-requires-clause-name : goal.known_by-requires-clause-name
known_by-requires-clause-name g c =
    c.in_ok-name.ensures ∙ ap (file_of (main_in c.args.self.now)) (sym (numbered g (goal.at.known_by-requires-clause-name g c).In-Ok))
    ∙ ap (λ m. file_of m (module_numbered c.known_at.new.self c.in_ok-number.number)) (sym c.known_at.ensures.lent.main)

pub known_by-requires-clause-vertex : goal.known_by-requires-clause-vertex
known_by-requires-clause-vertex g c =
    number_below _ (table_in c.known_at.new.self) c.in_ok-number.number c.in-Ok.ensures.known.0.numbered
    (slice_get_within _ c.in_ok-number.number _ c.in_ok-number.ensures.number)

pub known_by-requires-clause-place : goal.known_by-requires-clause-place
known_by-requires-clause-place g c =
    rw (number_stays _ (table_in c.known_at.new.self) c.in_ok-number.number c.in-Ok.ensures.known.0.numbered
    (slice_get_within _ c.in_ok-number.number _ c.in_ok-number.ensures.number)) c.in-Ok.ensures.known.1

pub returns-in-Err-clause-not_too_many : goal.returns-in-Err-clause-not_too_many
returns-in-Err-clause-not_too_many g c = λ e.
    let same : c.of_request.result ≡ load.TooMany = cc e in
    never_many c.in-Err.fault (Some c.in_ok-name.name) c.of_request.result c.of_request.ensures same
