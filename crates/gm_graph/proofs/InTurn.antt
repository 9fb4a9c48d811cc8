-- What loading asks a store for and what it visits, turn by turn.
use Rattle.std.proofs.Common.{◌≡◌, ◌∙◌, arith, take, ◌+◌, ◌<◌, ◌++◌, ◌∷◌, [], ℕ, true, List, Option, ap, append-nil, get_or, inl, inr, length, refl, sym}
use Rattle.std.proofs.lemmas.List.{get_or-map, length-map, take_more, take-append-le}
use Rattle.gm_name.specs.ModuleVersion.{ModuleVersion}
use Rattle.gm_store_parts.specs.Asked.{Name, Reply}
use Rattle.gm_store_parts.specs.States.{StoreState}
use Rattle.gm_store_parts.proofs.Serving.{nothing_served, served_both}
use Rattle.gm_store_sums.specs.Sums.{Sums}
use Rattle.gm_file.specs.Main.{Main}
use Rattle.gm_graph_cache.specs.declared.cache.Cache.{Cache}
use Rattle.gm_graph_files.specs.declared.depth.Turn.{Turn}
use Rattle.gm_graph.specs.declared.findings.Findings.{Findings}
use Rattle.gm_graph.specs.declared.followed.Followed.{Followed}
use Rattle.gm_graph.specs.declared.worklist.Worklist.{Worklist}
use Rattle.gm_graph.specs.declared.worklist.NumberedTurn.{NumberedTurn}
use Rattle.gm_graph.specs.Private.Asking.{AsksInTurn}
use Rattle.gm_graph_cache.specs.Asking.{AsksFor, AsksOne, IsAskableFile}
use Rattle.gm_graph.specs.Private.Worklists.{turn_of, turns_of}
use Rattle.gm_graph_cache.specs.Cached.{main_in, module_numbered, run_in, sums_in, table_in}
use Rattle.gm_graph_files.specs.Reading.{file_of, is_askable}
use Rattle.gm_graph.specs.Run.{AreTooMany, AskedInTurn, CallsFor, IsDue, IsRead, LoadingNeeds, TakesTurn, more, nothing}
use Rattle.gm_graph_cache.specs.Sayings.{KeepsSayings, Run, run_of}
use Rattle.gm_graph.specs.Private.TurnVisits.{IsTurnVisited}
use Rattle.gm_graph_files.specs.Turns.{turn}
use Rattle.gm_graph.specs.Private.Turns.{Visits}
use Rattle.gm_graph.specs.Private.Visiting.{OverflowsAt}
use Rattle.gm_graph_cache.proofs.AskedFile.{asks_for, lacks_still}
use Rattle.gm_graph_cache.proofs.Sayings.{says_asked}
use Rattle.gm_graph.proofs.FoundFiles.{same_module}
use Rattle.gm_graph.proofs.Growing.{turns_over}
use Rattle.gm_graph.proofs.Queueing.{many_followed, takes_kept, visited_more}
use Rattle.gm_graph.proofs.DoneTurns.{opened_from}
use Rattle.gm_graph.proofs.Stepping.{IsAt, answers_read, by_run, number_here}

-- Nothing was asked for.
pub nothing_asked : (main : Main) (sums : Option Sums) (may : Name → Option Reply → Type 0) (state : StoreState) → state.asked ≡ []
    → AsksInTurn main sums may may state state []
nothing_asked main sums may state none = record {
  asks = rw none nothing;
  device = λ name e. absurd (cc e);
  refused = sym (append-nil state.refused);
  served = nothing_served may state;
}

-- other words for the same
pub in_turn_by : {main other : Main} {sums others : Option Sums} {before after : Name → Option Reply → Type 0} {old new : StoreState}
    {failed names : List Name} → main ≡ other → sums ≡ others → failed ≡ names → AsksInTurn main sums before after old new failed
    → AsksInTurn other others before after old new names
in_turn_by same sums_same is asks = rw⁻¹ (same, sums_same, is) asks

-- ---- one more turn

module _ {main : Main} {sums : Option Sums} {cache : Cache} {worklist : Worklist} {at : ℕ} {before after : Name → Option Reply → Type 0}
    {old new : StoreState} {failed : List Name} (one : NumberedTurn) (state : IsAt main sums cache old.asked worklist at)
    (below : at < length worklist.turns.items) (here : one ≡ get_or worklist.turns.items at one)
    (asks : AsksOne (IsAskableFile (main_in cache) (module_numbered cache one.number)) before after old new failed) where
  abbrev vertex : ModuleVersion
  vertex = module_numbered cache one.number

  abbrev turns : List Turn
  turns = turns_of (table_in cache) worklist

  abbrev earlier : Run
  earlier = run_of main sums old.asked

  abbrev later : Run
  later = run_of main sums new.asked

  inside : at < length turns
  inside = rw length-map below

  there : get_or turns at (turn vertex one.depth) ≡ turn vertex one.depth
  there = get_or-map (turn_of (table_in cache)) worklist.turns.items at one _ below ∙ ap (turn_of (table_in cache)) (sym here)

  -- The vertex takes the turn, so it is opened, and its file may be asked for.
  takes : TakesTurn earlier vertex one.depth
  takes = state.visited.valid (turn vertex one.depth) (at, inside, there)

  called : (name : Name) → file_of main vertex ≡ name → is_askable name ≡ true → CallsFor earlier name
  called name is askable = record {
    read = rw⁻¹ state.sums_are (answers_read cache old.asked state.knows);
    needed = (vertex, opened_from earlier vertex one.depth takes, is, askable);
  }

  adds_file : AsksFor main old new vertex
  adds_file = rw⁻¹ state.main_is (asks_for (main_in cache) vertex asks)

  keeps : KeepsSayings earlier later
  keeps = says_asked main sums old new vertex adds_file

  still_takes : TakesTurn later vertex one.depth
  still_takes = takes_kept old.asked new.asked keeps vertex one.depth takes

  asked_more : AskedInTurn (LoadingNeeds main sums) old.asked → AskedInTurn (LoadingNeeds main sums) new.asked
  asked_more before = elim adds_file [
    | inl same ↦ rw same before
    | inr asked ↦ rw asked.2.1
        (more asked.2.0 before (called (file_of main vertex) refl asked.0) asked.1)
  ]

  due_here : (name : Name) → failed ≡ name ∷ [] → IsDue later name
  due_here name e =
      let lacks = lacks_still (main_in cache) vertex asks name e in
      rw lacks.0 (record {
        calls = called name (sym (lacks.1 ∙ ap (λ (m : Main). file_of m vertex) state.main_is)) lacks.2;
        unasked = lacks.3;
      })

  -- what was asked for
  pub asked_in_turn : {first : Name → Option Reply → Type 0} {start : StoreState}
      → AsksInTurn main sums first before start old [] → AsksInTurn main sums first after start new failed
  asked_in_turn {first} {start} is = record {
    asks = asked_more is.asks;
    device = due_here;
    refused = asks.refused ∙ ap (λ (ns : List Name). ns ++ failed) (is.refused ∙ append-nil start.refused);
    served = served_both first before after start old new is.served asks.served;
  }

  -- too many vertices
  pub many_in_turn : OverflowsAt (run_in cache new.asked) turns vertex one.depth → IsRead later × AreTooMany later
  many_in_turn over =
      let (read, (said, says, many)) = by_run (λ (run : Run). OverflowsAt run turns vertex one.depth) cache new.asked state.main_is state.sums_are over in
      (read, many_followed old.asked new.asked keeps vertex one.depth still_takes turns state.visited.valid said says many)

  -- It was visited.
  module _ {end : Cache} {made : Worklist} {marks : Followed} {found : Findings}
      (is : IsTurnVisited cache end old.asked new.asked worklist made marks found one) where
    abbrev after_it : List Turn
    after_it = turns_of (table_in end) made

    within : one.number < length (table_in cache)
    within = number_here one state.worklist_is below here

    main_is : main_in end ≡ main
    main_is = is.has.follows.main ∙ state.main_is

    sums_are : sums_in end ≡ sums
    sums_are = is.has.follows.sums ∙ state.sums_are

    visits : Visits later turns after_it (turn vertex one.depth)
    visits = rw⁻¹ (main_is, sums_are)
        (rw (same_module cache end one.number is.has.follows.numbered within)
        (rw⁻¹ (turns_over (table_in cache) (table_in end) worklist state.worklist_is is.has.follows.numbered) is.adds.follows))

    pub stepped : IsAt main sums end new.asked made (at + 1)
    stepped = record {
      worklist_is = is.adds.ready.worklist_is;
      main_is = main_is;
      sums_are = sums_are;
      knows = is.has.follows.knows;
      lent = rw (is.has.turns, state.lent, visits.adds.extends.1)
          (sym (take-append-le (at + 1) turns visits.adds.extends.0 (omega (arith, inside)) ∙ take_more turns at _ inside
          ∙ ap (λ (t : Turn). take at turns ++ t ∷ []) there));
      visited = rw is.has.turns (visited_more old.asked new.asked keeps vertex one.depth still_takes after_it state.visited visits);
    }
