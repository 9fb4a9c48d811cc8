-- A query prints one thing of a run that opens few modules.
use Rattle.std.proofs.Common.{◌≡◌, ◌≢◌, ◌∙◌, ◌⊎◌, ℕ, List, Option, Some, None, sym, ap, refl, inl, inr}
use Rattle.std.proofs.lemmas.Bool.{cases_Bool}
use Rattle.gm_name.proofs.Texts.{bytes_eq-differ, bytes_eq-same}
use Rattle.gm_file.specs.Main.{Main}
use Rattle.gm_graph_select.specs.declared.step.Step.{Step}
use Rattle.gm_graph_select.specs.declared.step.Edge.{Edge}
use Rattle.gm_graph_select.specs.BuildList.{HasEntryFor, IsEntryOf, IsRestAfter}
use Rattle.gm_graph_select.specs.Chains.{IsChain}
use Rattle.gm_graph_select.specs.Private.EdgeOrder.{edge_total}
use Rattle.gm_graph_select.proofs.Ascending.{same_lists}
use Rattle.gm_graph_select.proofs.Lawful.{one_chain, same_build_lists}
use Rattle.gm_graph_select.proofs.RestRows.{entry_listed, one_at, one_entry}
use Rattle.gm_graph_select.proofs.Same.{same_back, same_chain}
use Rattle.gm_graph.specs.Entries.{Entry}
use Rattle.gm_graph.specs.Run.{AreEdges, IsEdge}
use Rattle.gm_graph_cache.specs.Sayings.{Run}
use Rattle.gomod_words.specs.declared.usage.Command.{Command}
use Rattle.gomod_words.specs.declared.usage.Command.TheVariants.{Graph, List as Rows, Chain}
use Rattle.gomod_texts.specs.ChainQuery.{ShowsChain, chain_text}
use Rattle.gomod_texts.specs.GraphQuery.{graph_text}
use Rattle.gomod_texts.specs.ListQuery.{PrintsRows, list_text, no_path, path_listed, path_unlisted, up_to}
use Rattle.gomod_texts.specs.Outcome.{Outcome, text_outcome}
use Rattle.gomod_outcomes.specs.Private.ByCommand.{PrintsOf}
use Rattle.gomod_texts.specs.Queries.{IsUnlisted}
use Rattle.gomod_texts.proofs.FewOpened.{IsFew, edges_listed}

-- ---- a step has one chain

-- Equality of texts is decidable, so texts are equal if it can't be refuted that they are.
same_texts : (a b : List ℕ) → ((a ≢ b) → ⊥) → a ≡ b
same_texts a b is = elim (cases_Bool _) [ inl e ↦ bytes_eq-same a b e | inr e ↦ absurd (is (bytes_eq-differ a b e)) ]

-- If few modules are opened, the edges are those of a list, and for a list this is known.
one_chain_text : (run : Run) → IsFew run → (s : Step) (steps others : List Step) → IsChain (IsEdge run) s steps → IsChain (IsEdge run) s others
    → chain_text run.main.path steps ≡ chain_text run.main.path others
one_chain_text run few s steps others chain other =
    same_texts _ _
    (λ differ. edges_listed run few (λ edges same.
    let back = same_back _ _ same in
    differ (ap (chain_text run.main.path) (one_chain edges s steps others (same_chain _ _ back chain) (same_chain _ _ back other)))))

-- ---- a path has a row, or none

-- what is printed if it has one, or the report that it has none
listed_once : (main : Main) (rows : List Entry) (path : List ℕ) {A B : Type 0} {a b : Outcome}
    → (A → HasEntryFor main.path rows path) → (B → HasEntryFor main.path rows path) → (A → B → a ≡ b)
    → A ⊎ IsUnlisted main rows path a → B ⊎ IsUnlisted main rows path b → a ≡ b
listed_once main rows path here there once (inl is) (inl be) = once is be
listed_once main rows path here there once (inl is) (inr none) = absurd (none.0 (here is))
listed_once main rows path here there once (inr none) (inl be) = absurd (none.0 (there be))
listed_once main rows path here there once (inr none) (inr none_too) = none.1 ∙ sym none_too.1

module _ (main : Main) (rows : List Entry) (limit : Option ℕ) where
  -- the rows after the path's are printed
  abbrev ShowsRest : List ℕ → Outcome → Type 0
  ShowsRest path outcome = (others : List Entry) × IsRestAfter main.path rows path others
      × (outcome ≡ text_outcome (list_text main.path (up_to limit others)))

  -- what is printed, by whether a path is given
  abbrev IsShown : Option (List ℕ) → Outcome → Type 0
  IsShown None outcome = outcome ≡ text_outcome (list_text main.path (up_to limit rows))
  IsShown (Some path) outcome = ShowsRest path outcome ⊎ IsUnlisted main rows path outcome

  shown : (after : Option (List ℕ)) (outcome : Outcome) → PrintsRows main rows after limit outcome → IsShown after outcome
  shown after outcome (no_path none says) = rw none says
  shown after outcome (path_listed path others is at says) = rw is (inl (others, at, says))
  shown after outcome (path_unlisted path is says) = rw is (inr says)

  shown_once : (after : Option (List ℕ)) (a b : Outcome) → IsShown after a → IsShown after b → a ≡ b
  shown_once None a b says tells = says ∙ sym tells
  shown_once (Some path) a b is be = listed_once main _ _ listed listed once is be
    where
      -- a path that has a row is listed
      listed : {outcome : Outcome} → ShowsRest path outcome → HasEntryFor main.path rows path
      listed (others, (entry, at), says) = entry_listed main.path rows path _ (entry, others, at, refl)

      once : ShowsRest path a → ShowsRest path b → a ≡ b
      once (others, (entry, at), says) (more, (first, begun), tells) =
          says ∙ ap (λ es. text_outcome (list_text main.path (up_to limit es))) (one_at _ _ _ _ _ _ _ at begun).1 ∙ sym tells

module _ (path : List ℕ) (run : Run) (rows : List Entry) (few : IsFew run) where
  -- the steps of a chain to its row are printed
  abbrev ShowsSteps : Outcome → Type 0
  ShowsSteps outcome = (s : Step) × (steps : List Step) × IsEntryOf run.main.path rows path s × IsChain (IsEdge run) s steps
      × (outcome ≡ text_outcome (chain_text run.main.path steps))

  chain_once : (a b : Outcome) → ShowsChain path run.main (IsEdge run) rows a → ShowsChain path run.main (IsEdge run) rows b → a ≡ b
  chain_once a b is be = listed_once run.main _ _ listed listed once is be
    where
      listed : {outcome : Outcome} → ShowsSteps outcome → HasEntryFor run.main.path rows path
      listed (s, steps, entry, chain, says) = entry_listed _ _ _ s entry

      once : ShowsSteps a → ShowsSteps b → a ≡ b
      once (s, steps, entry, chain, says) (t, more, first, also, tells) =
          let same = one_entry _ _ _ s t entry first in
          says ∙ ap text_outcome (one_chain_text _ few t _ _ (rw same at chain) also) ∙ sym tells

-- ---- a query

one_edges : {run : Run} {edges others : List Edge} → AreEdges run edges → AreEdges run others → edges ≡ others
one_edges is be =
    same_lists edge_total _ _ is.ascending be.ascending (λ e. (
      (λ there. (be.each e).1 ((is.each e).0 there)),
      (λ there. (is.each e).1 ((be.each e).0 there)),
    ))

pub prints_once : (command : Command) (run : Run) (a b : Outcome) → IsFew run → PrintsOf command run a → PrintsOf command run b → a ≡ b
prints_once Graph run a b few (edges, are, says) (others, be, tells) =
    says ∙ ap (λ (es : List Edge). text_outcome (graph_text run.main.path es)) (one_edges are be) ∙ sym tells
prints_once (Rows after limit) run a b few (rows, are, is) (others, be, other) =
    let same = same_build_lists are be in
    shown_once run.main others limit _ a b (shown _ _ _ _ a (rw same at is)) (shown _ _ _ _ b other)
prints_once (Chain path) run a b few (rows, are, is) (others, be, other) =
    let same = same_build_lists are be in chain_once _ _ _ few a b (rw same at is) other
prints_once command run a b few is be = absurd is
