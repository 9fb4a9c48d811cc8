-- A listed path has a first entry, and edges lead to it.
use Rattle.std.proofs.Common.{◌≡◌, ◌≢◌, ℕ, zero, suc, List, [], ◌∷◌, Contains, ap, ◌∙◌, refl, inl, inr, arith}
use Rattle.std.specs.Str.{bytes_eq}
use Rattle.std.proofs.lemmas.Bool.{cases_Bool}
use Rattle.std.proofs.lemmas.Slice.Eq.{bytes_eq-Decides}
use Rattle.gm_graph_select.specs.declared.step.Edge.{Edge}
use Rattle.gm_graph_select.specs.declared.step.Step.{Step}
use Rattle.gm_graph_select.specs.BuildList.{IsAt, IsEntryOf, HasEntryFor, path_of}
use Rattle.gm_graph_select.specs.Chains.{IsReached}
use Rattle.gm_graph_select.specs.Graph.{among}
use Rattle.gm_graph_select.specs.Laws.{EntryWith}
use Rattle.gm_graph_select.proofs.RestRows.{entry_there}
use Rattle.gm_name.proofs.Texts.{bytes_eq-differ}

abbrev Found : {R : Type 0} → List ℕ → List (EntryWith R) → List ℕ → Type 0
Found {R} main entries path = (entry : EntryWith R) × (rest : List (EntryWith R)) × IsAt main entries path entry rest

behind : {R : Type 0} (main : List ℕ) (e : EntryWith R) (es : List (EntryWith R)) (path : List ℕ) → path_of main e.0 ≢ path
    → HasEntryFor main (e ∷ es) path → HasEntryFor main es path
behind main e es path other (entry, (zero, below, is), same) = absurd (other (ap (λ x. path_of main x.0) is ∙ same))
behind main e es path other (entry, (suc k, below, is), same) = (entry, (k, omega arith, is), same)

not_before : {R : Type 0} (main : List ℕ) (e : EntryWith R) (before : List (EntryWith R)) (path : List ℕ) → path_of main e.0 ≢ path
    → ((x : EntryWith R) → Contains before x → path_of main x.0 ≢ path) → (x : EntryWith R) → Contains (e ∷ before) x
    → path_of main x.0 ≢ path
not_before main e before path other others x (zero, below, is) = rw⁻¹ is other
not_before main e before path other others x (suc k, below, is) = others x (k, omega arith, is)

found_later : {R : Type 0} (main : List ℕ) (e : EntryWith R) (es : List (EntryWith R)) (path : List ℕ) → path_of main e.0 ≢ path
    → Found main es path → Found main (e ∷ es) path
found_later main e es path other (entry, rest, at) = (
  entry,
  rest,
  record {
    before = e ∷ at.before;
    parts = ap (λ xs. e ∷ xs) at.parts;
    path_is = at.path_is;
    others = not_before main e at.before path other at.others;
  },
)

found_now : {R : Type 0} (main : List ℕ) (e : EntryWith R) (es : List (EntryWith R)) (path : List ℕ) → path_of main e.0 ≡ path → Found main (e ∷ es) path
found_now main e es path is = (e, es, record { before = []; parts = refl; path_is = is; others = λ x h. absurd (omega (arith, h.1)) })

-- A listed path has a first entry.
first_at : {R : Type 0} (main : List ℕ) (entries : List (EntryWith R)) (path : List ℕ) → HasEntryFor main entries path → Found main entries path
first_at main [] path (entry, there, same) = absurd (omega (arith, there.1))
first_at main (e ∷ es) path listed = elim (cases_Bool (bytes_eq (path_of main e.0) path)) [
  | inl is ↦ found_now main e es path ((bytes_eq-Decides (path_of main e.0) path).0 is)
  | inr is_not ↦ (let other = bytes_eq-differ (path_of main e.0) path is_not in
      found_later main e es path other (first_at main es path (behind main e es path other listed)))
]

-- Edges lead to that entry.
pub reached_entry : {R : Type 0} {main path : List ℕ} (edges : List Edge) (entries : List (EntryWith R))
    → ((entry : EntryWith R) → Contains entries entry → ¬ (¬ (IsReached (among edges) entry.0)))
    → ¬ ((s : Step) × IsEntryOf main entries path s × IsReached (among edges) s) → ¬ (HasEntryFor main entries path)
reached_entry {R} {main} {path} edges entries reached none listed =
    let (entry, rest, at) = first_at main entries path listed in
    reached entry (entry_there at) (λ is. none (entry.0, (entry, rest, at, refl), is))
