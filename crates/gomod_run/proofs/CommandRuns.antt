-- How a command ends that was served with what was read for it.
use Rattle.std.proofs.Common.{◌≡◌, ◌∙◌, ℕ, IfErr, IfOk, List, [], Option, Some, None, Result, Ok, Err, ap, false, option_map, refl}
use Rattle.std.proofs.lemmas.Str.{IsUtf8-nil}
use Rattle.std.specs.Global.{Vec}
use Rattle.std.specs.Result.{IsErrAnd}
use Rattle.gm_store_parts.specs.Asked.{Name, Reply, reply_for}
use Rattle.gm_store_parts.specs.Memory.{held_at, may_give}
use Rattle.gm_store_parts.specs.Openings.{Opening}
use Rattle.gm_store_parts.specs.States.{HasServed, StoreState}
use Rattle.gm_store_parts.specs.Taken.{SinkState}
use Rattle.gm_store_parts.specs.declared.files.memory.MemoryFiles.{MemoryFiles}
use Rattle.gm_store_parts.proofs.Serving.{may_all, may_refuse_all}
use Rattle.gomod_words.specs.declared.usage.Command.{Command}
use Rattle.gomod_texts.specs.Queries.{Answers, longest}
use Rattle.gomod_texts.specs.Outcome.{OrNoMemory, Outcome, code_of, report_outcome}
use Rattle.gomod_texts.specs.declared.reports.report.Report.{Report}
use Rattle.gomod_texts.specs.declared.reports.status.Status.{Status}
use Rattle.gomod_run.specs.Program.{AreAnswersBy, IsInput, file_in_memory, sums_input}
use Rattle.gomod_outcomes.specs.Runs.{is_query, answers_between}
use Rattle.gomod_run.specs.Written.{EndsAsStated, IsWritten}
use Rattle.gomod_run.specs.Private.Stopped.{EndsOrStops}

-- ---- what was read

-- a command that is no query reads no go.sum
pub no_sums_read : (may_give : List ℕ → Opening → Type 0) (command : Command) (name : Option (List ℕ)) (read : Option (Vec ℕ))
    → IsInput may_give (sums_input command name) read → is_query command ≡ false → option_map (λ sums. sums.items) read ≡ None
no_sums_read may_give command name None is isnt = refl
no_sums_read may_give command name (Some sums) is isnt = absurd (rw isnt at is)

-- ---- what a store answered

-- the answers of a store that had not been asked before are those that it may give
pub are_its_own : {before after : Name → Option Reply → Type 0} {old new : StoreState} → old.asked ≡ [] → old.refused ≡ []
    → HasServed before after old new → AreAnswersBy before (answers_between old new)
are_its_own {before} {after} {old} {new} unasked unrefused served = (
  may_all _ _ _ _ unasked served,
  λ name k. may_refuse_all _ _ _ _ unrefused served _ (rw unrefused at k),
)

-- what a store may answer, another may answer
pub answers_allowed : {one other : Name → Option Reply → Type 0} (answers : Answers)
    → ((name : Name) (answer : Option Reply) → one name answer → other name answer) → AreAnswersBy one answers → AreAnswersBy other answers
answers_allowed answers wider are = ((λ name reply k. wider name (Some _) (are.0 name reply k)), (λ name k. wider name None (are.1 name k)))

-- a store in memory answers with what it holds, and its device never fails
pub memory_allowed : (path : Option (List ℕ)) (list : Option (Vec ℕ)) (store : MemoryFiles) → ((name : Name) → held_at store name ≡ file_in_memory path list name)
    → (name : Name) (answer : Option Reply) → may_give store name answer → answer ≡ Some (reply_for longest (file_in_memory path list name))
memory_allowed path list store holds name (Some reply) given = ap Some (given ∙ ap (reply_for longest) (holds name))
memory_allowed path list store holds name None given = absurd given

-- ---- a run that may have stopped before it began

-- nothing was written before what `?` passes on
pub stopped : (stated : Outcome → Type 0) (out report : SinkState) (told : Report) (served : Result Status Report) → IsErrAnd served (λ passed. passed ≡ told)
    → OrNoMemory stated (report_outcome told) → EndsOrStops stated out out report report served
stopped stated out report told (Err passed) same is = (rw same is, refl, refl)
stopped stated out report told (Ok status) same is = absurd same

-- the end of a command that was served
pub served_ends : {stated : Outcome → Type 0} {out mid report report' : SinkState} (between : SinkState) (served : Result Status Report) (status : Status)
    → EndsOrStops stated out mid report between served → IfOk served (λ ran. status ≡ ran) → IfOk served (λ _. report' ≡ between)
    → IfErr served (λ told. (any : SinkState) → IsWritten (report_outcome told) any any between report' (code_of status))
    → EndsAsStated stated out mid report report' (code_of status)
served_ends between (Ok ran) status run is same written = rw (is, same) run
served_ends {mid} between (Err told) status (unread, no_text, no_report) is same written =
    record { outcome = report_outcome told; as_stated = unread; utf8 = IsUtf8-nil; written = rw (← no_text, ← no_report) (written mid) }
