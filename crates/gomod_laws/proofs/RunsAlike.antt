-- Runs whose main files say the same, and that read the same of the files which the one needs, have the same module graph.
use Rattle.std.proofs.Common.{◌≡◌, ◌∙◌, ◌↔◌, ◌∷◌, ℕ, false, List, Option, Some, Result, ap, map, refl, subst, sym, inl, inr}
use mathlib.Core.Path.{fun_ext}
use Rattle.gm_name.specs.ModuleVersion.{ModuleVersion}
use Rattle.gm_file.specs.Directives.{Right}
use Rattle.gm_file.specs.Fields.{Dependency}
use Rattle.gm_file.specs.Main.{Main, is_pruned_by, replacement_in}
use Rattle.gm_store_parts.specs.Asked.{Name, Reply, names_in}
use Rattle.gm_store_sums.specs.Sums.{Sums}
use Rattle.gm_graph_files.specs.declared.class.Class.{Class}
use Rattle.gm_graph.specs.declared.fault.Fault.{Fault}
use Rattle.gm_graph_files.specs.Reading.{IsFileReading, file_of}
use Rattle.gm_graph.specs.Run.{AreEdges, AreFaults, AreRows, AreTooMany, IsDue, IsEdge, IsFault, IsNeeded, IsOpened, IsRead, IsSettled, IsTop}
use Rattle.gm_graph_cache.specs.Sayings.{FileSays, Run, Says, answered, run_of, unaskable}
use Rattle.gm_graph.proofs.RunLemmas.{RequiresToo, edge_too, many_too, opened_too}
use Rattle.gm_graph_cache.proofs.Sayings.{says_if}
use Rattle.gm_graph_select.specs.declared.step.Edge.{Edge}
use Rattle.gm_graph_select.specs.declared.step.Step.{Step}
use Rattle.gm_graph_select.specs.declared.step.Step.TheVariants.{Of}
use Rattle.gm_graph_select.specs.BuildList.{IsBuildList, main_entry}
use Rattle.gm_graph.specs.Entries.{Entry}
use Rattle.gm_graph_select.proofs.Same.{AreSame, same_build_list, same_chain}
use Rattle.gomod_texts.specs.ListQuery.{list_text, PrintsRows, no_path, path_listed, path_unlisted}
use Rattle.gomod_texts.specs.Outcome.{Outcome, text_outcome}
use Rattle.gomod_texts.specs.Queries.{Answers, AreFound, FilesReadAs, given_of}
use Rattle.gomod_texts.specs.ChainQuery.{ShowsChain}
use Rattle.gomod_outcomes.specs.Private.ByCommand.{PrintsOf}
use Rattle.gomod_words.specs.declared.usage.Command.{Command}
use Rattle.gomod_words.specs.declared.usage.Command.TheVariants.{Graph, List as Rows, Chain}
use Rattle.gomod_laws.proofs.LineOrderSame.{SayTheSame, files_same, says_back, without_same}

-- ---- what is printed

abbrev with_path : List ℕ → Main → Main
with_path path main = record main { path = path }

module _ (r s : Run) (mains : SayTheSame r.main s.main) (edges_same : AreSame (IsEdge r) (IsEdge s)) where
  edges_to : (edges : List Edge) → AreEdges r edges → AreEdges s edges
  edges_to edges are = record {
    ascending = are.ascending;
    each = λ one. (
      (λ there. (edges_same one.from one.to).0 ((are.each one).0 there)),
      (λ is. (are.each one).1 ((edges_same one.from one.to).1 is)),
    );
  }

  rows_to : (rows : List Entry) → AreRows r rows → AreRows s rows
  rows_to rows are =
      let list = same_build_list _ _ edges_same are in
      let entry : ModuleVersion → Option Right → Entry = λ x right. (Of x, right) in
      let replaced = fun_ext (λ x. ap (entry x) (mains.replaced x)) in
      subst (λ path. IsBuildList path (replacement_in s.main) (IsEdge s) rows) mains.path
      (record {
        selected = list.selected;
        entries_are = list.entries_are ∙ ap (λ f. main_entry ∷ map f list.selected) replaced;
        ascending = list.ascending;
        each = list.each;
      })

  same_text : (shown : List Entry) (outcome : Outcome) → outcome ≡ text_outcome (list_text r.main.path shown)
      → outcome ≡ text_outcome (list_text s.main.path shown)
  same_text shown outcome says = rw mains.path at says

  rows_printed : (rows : List Entry) (after : Option (List ℕ)) (limit : Option ℕ) (outcome : Outcome)
      → PrintsRows r.main rows after limit outcome → PrintsRows s.main rows after limit outcome
  rows_printed rows after limit outcome (no_path none says) = no_path none (same_text _ _ says)
  rows_printed rows after limit outcome (path_listed path others is at says) = path_listed _ _ is (rw mains.path at at) (same_text _ _ says)
  rows_printed rows after limit outcome (path_unlisted path is (none, says)) = path_unlisted _ is (rw mains.path at none, says)

  chain_shown : (path : List ℕ) (rows : List Entry) (outcome : Outcome) → ShowsChain path r.main (IsEdge r) rows outcome
      → ShowsChain path s.main (IsEdge s) rows outcome
  chain_shown path rows outcome shows = rw mains.path at (by shows)
    where
      by : ShowsChain path r.main (IsEdge r) rows outcome → ShowsChain path r.main (IsEdge s) rows outcome
      by (inl (step, steps, entry, chain, says)) = inl (step, steps, entry, same_chain _ _ edges_same chain, says)
      by (inr unlisted) = inr unlisted

  -- What a query prints of the one run, it prints of the other, which has the same edges.
  pub printed_by_edges : (command : Command) (outcome : Outcome) → PrintsOf command r outcome → PrintsOf command s outcome
  printed_by_edges Graph outcome (edges, are, says) = (
    edges,
    edges_to _ are,
    rw mains.path at says,
  )
  printed_by_edges (Rows after limit) outcome (rows, are, says) = (rows, rows_to _ are, rows_printed _ _ _ _ says)
  printed_by_edges (Chain path) outcome (rows, are, shows) = (rows, rows_to _ are, chain_shown _ _ _ shows)
  printed_by_edges command outcome says = absurd says

-- ---- runs that are alike

-- The main files say the same, and both runs have the same answers. Of an answer that both need they read the same.
pub record ReadAlike (r s : Run) : Type 0 where
  pub mains : SayTheSame r.main s.main
  pub answers : (name : Name) → r.answers name ≡ s.answers name
  pub read : (name : Name) (reply : Reply) (said : Result Dependency Class) → IsNeeded r name → IsNeeded s name
      → r.answers name ≡ Some reply → IsFileReading r.sums name reply said ↔ IsFileReading s.sums name reply said

alike_back : {r s : Run} → ReadAlike r s → ReadAlike s r
alike_back alike = record {
  mains = says_back alike.mains;
  answers = λ name. sym (alike.answers _);
  read = λ name reply said need needs at. let is = alike.read _ _ _ needs need (alike.answers _ ∙ at) in (is.1, is.0);
}

-- ---- what is opened by the one run, the other opens

module _ (r s : Run) (alike : ReadAlike r s) where
  -- what a module says that both open
  says_to : (x : ModuleVersion) → IsOpened r x → IsOpened s x → (said : Result Dependency Class) → Says r x said → Says s x said
  says_to x opens opened said says =
      says_if (alike.mains.replaced x) (λ it is. rw (files_same _ s.main alike.mains x) at (file_to _ is)) says
    where
      file_to : (it : Result Dependency Class) → FileSays r (file_of r.main x) it → FileSays s (file_of r.main x) it
      file_to it (unaskable isnt) = unaskable isnt
      file_to it (answered reply ask at is) =
          answered _ ask (sym (alike.answers _) ∙ at) ((alike.read _ _ it (x, opens, refl, ask)
          (x, opened, sym (files_same _ s.main alike.mains x), ask) at).0 is)

  requires_to : RequiresToo r s
  requires_to x y file is be says there = (says_to x is be _ says, rw (without_same r.main s.main alike.mains file.requirements) at there)

  unpruned_to : is_pruned_by r.main.go ≡ false → is_pruned_by s.main.go ≡ false
  unpruned_to e = sym alike.mains.pruned ∙ e

  tops_to : (x : ModuleVersion) → IsTop r x → IsOpened s x
  tops_to x top = inl ((alike.mains.required x).0 top)

  opened_to : (x : ModuleVersion) → IsOpened r x → IsOpened s x
  opened_to x is = opened_too r s unpruned_to tops_to requires_to x is

  needed_to : (name : Name) → IsNeeded r name → IsNeeded s name
  needed_to name (x, opens, is, ask) = (x, opened_to x opens, sym (files_same _ s.main alike.mains x) ∙ is, ask)

  edge_to : (step : Step) (y : ModuleVersion) → IsEdge r step y → IsEdge s step y
  edge_to step y is = edge_too r s unpruned_to tops_to requires_to (λ x top. (alike.mains.required x).0 top) _ y is

  fault_to : (one : Fault) → IsFault r one → IsFault s one
  fault_to one (opens, says) =
      let opened = opened_to _ opens in (opened, says_to _ opens opened _ says)

-- ---- what is opened, asked for and found

module _ (r s : Run) (alike : ReadAlike r s) where
  pub due_to : IsRead s → (name : Name) → IsDue r name → IsDue s name
  due_to read name due = record {
    calls = record { read = read; needed = needed_to r s alike _ due.calls.needed };
    unasked = sym (alike.answers _) ∙ due.unasked;
  }

  pub many_to : AreTooMany r → AreTooMany s
  many_to many = many_too r s (unpruned_to r s alike) (tops_to r s alike) (requires_to r s alike) many

  settled_to : IsRead s → (names : List Name) → IsSettled r names → IsSettled s names
  settled_to read names settled = record {
    read = read;
    once = settled.once;
    needed = λ name. (
      (λ there. needed_to r s alike _ ((settled.needed name).0 there)),
      (λ need. (settled.needed name).1 (needed_to s r (alike_back alike) _ need)),
    );
    few = λ xs are. settled.few xs (record { once = are.once; each = λ x there. opened_to s r (alike_back alike) x (are.each x there) });
  }

  faults_to : (faults : List Fault) → AreFaults r faults → AreFaults s faults
  faults_to faults are = record {
    ascending = are.ascending;
    each = λ one. (
      (λ there. fault_to r s alike _ ((are.each one).0 there)),
      (λ is. (are.each one).1 (fault_to s r (alike_back alike) _ is)),
    );
  }

  pub prints_to : (command : Command) (outcome : Outcome) → PrintsOf command r outcome → PrintsOf command s outcome
  prints_to = printed_by_edges r s alike.mains (λ step y. (edge_to r s alike step y, edge_to s r (alike_back alike) step y))

-- What was found over the one main file and go.sum is found over the other, if the two runs are alike.
pub found_to : (file other : List ℕ) (sums others : Option (List ℕ)) {told : Answers} (m n : Main) (t u : Option Sums)
    → ReadAlike (run_of m t told.asked) (run_of n u told.asked) → IsRead (run_of n u told.asked) → FilesReadAs other others n u
    → (faults : List Fault) → AreFound (given_of file sums told) m t faults → AreFound (given_of other others told) n u faults
found_to file other sums others {told} m n t u alike read files faults found = record {
  read = files;
  settled = settled_to _ _ alike read (names_in told.asked) found.settled;
  faults_are = faults_to _ (run_of n u _) alike _ found.faults_are;
  none_failed = found.none_failed;
}
