-- What follows the rows that were skipped.
use Rattle.std.proofs.Common.{◌≡◌, ◌≢◌, ℕ, List, map, [], ◌∷◌, ◌++◌, Contains, ap, ◌∙◌, sym, refl, inl, inr, append_assoc, append-nil, arith}
use Rattle.std.proofs.lemmas.List.Elements.{Contains-append_right, Contains-push_cases}
use Rattle.std.specs.Option.{option_map}
use mathlib.Core.List.{map-map}
use Rattle.std.proofs.lemmas.List.{map-append}
use Rattle.gm_graph_select.specs.BuildList.{IsAt, IsEntryOf, IsRestAfter, HasEntryFor, entries_in, path_of}
use Rattle.gm_graph_select.specs.declared.row.Row.{Row}
use Rattle.gm_graph_select.proofs.RankedLists.{from_mapped, in_mapped}
use Rattle.gm_graph_select.specs.Laws.{EntryWith}
use Rattle.gm_graph_select.specs.declared.step.Step.{Step}

-- The entries are some of other paths, followed by what is left.
pub record IsRemainder {R : Type 0} (main : List ℕ) (entries : List (EntryWith R)) (path : List ℕ) (left : List (EntryWith R)) : Type 0 where
  pub before : List (EntryWith R)
  pub parts : entries ≡ before ++ left
  pub others : (other : EntryWith R) → Contains before other → path_of main other.0 ≢ path

module _ {R : Type 0} {main path : List ℕ} {entries old left : List (EntryWith R)} {entry : EntryWith R} (e : old ≡ entry ∷ left) where
  -- one more entry of another path
  pub behind_more : path_of main entry.0 ≢ path → IsRemainder main entries path old → IsRemainder main entries path left
  behind_more differs h = record {
    before = h.before ++ entry ∷ [];
    parts = h.parts ∙ ap (λ t. h.before ++ t) e ∙ sym (append_assoc h.before (entry ∷ []) left);
    others = λ one there. elim (Contains-push_cases h.before entry one there)
        [ inl earlier ↦ h.others one earlier | inr same ↦ rw⁻¹ same differs ];
  }

  -- The entry of the path was found.
  pub at_found : path_of main entry.0 ≡ path → IsRemainder main entries path old → IsAt main entries path entry left
  at_found is h = record { before = h.before; parts = h.parts ∙ ap (λ t. h.before ++ t) e; path_is = is; others = h.others }

-- The entry of the path is there.
pub entry_there : {R : Type 0} {main path : List ℕ} {entries rest : List (EntryWith R)} {entry : EntryWith R} → IsAt main entries path entry rest
    → Contains entries entry
entry_there {rest} {entry} at = rw at.parts (Contains-append_right at.before (entry ∷ rest) entry (0, omega arith, refl))

-- An entry of the path is listed.
pub entry_listed : {R : Type 0} (main : List ℕ) (entries : List (EntryWith R)) (path : List ℕ) (s : Step)
    → IsEntryOf main entries path s → HasEntryFor main entries path
entry_listed main entries path s (entry, rest, at, is) = (entry, entry_there at, at.path_is)

-- The first entry of a path is unique.
same_first : {R : Type 0} (main : List ℕ) (path : List ℕ) (a b : EntryWith R) (rest more before other : List (EntryWith R))
    → before ++ a ∷ rest ≡ other ++ b ∷ more → path_of main a.0 ≡ path → path_of main b.0 ≡ path
    → ((x : EntryWith R) → Contains before x → path_of main x.0 ≢ path)
    → ((x : EntryWith R) → Contains other x → path_of main x.0 ≢ path) → (a ≡ b) × (rest ≡ more)
same_first main path a b rest more [] [] e p q none nil = let same : a ∷ rest ≡ b ∷ more = e in
    (let one : a ≡ b = cc same in one, let two : rest ≡ more = cc same in two)
same_first main path a b rest more [] (y ∷ other) e p q none nil =
    absurd (let same : a ∷ rest ≡ y ∷ (other ++ b ∷ more) = e in let one : a ≡ y = cc same in
    nil y (0, omega arith, refl) (rw⁻¹ one p))
same_first main path a b rest more (x ∷ before) [] e p q none nil =
    absurd (let same : x ∷ (before ++ a ∷ rest) ≡ b ∷ more = e in let one : x ≡ b = cc same in
    none x (0, omega arith, refl) (rw one q))
same_first main path a b rest more (x ∷ before) (y ∷ other) e p q none nil =
    let same : x ∷ (before ++ a ∷ rest) ≡ y ∷ (other ++ b ∷ more) = e in
    let tails : before ++ a ∷ rest ≡ other ++ b ∷ more = cc same in
    same_first main path a b rest more before other tails p q
    (λ z h. none z (Contains-append_right (x ∷ []) before z h))
    (λ z h. nil z (Contains-append_right (y ∷ []) other z h))

pub one_at : {R : Type 0} (main : List ℕ) (entries : List (EntryWith R)) (path : List ℕ) (a b : EntryWith R) (rest more : List (EntryWith R))
    → IsAt main entries path a rest → IsAt main entries path b more → (a ≡ b) × (rest ≡ more)
one_at main entries path a b rest more h g = same_first main path a b rest more h.before g.before (sym h.parts ∙ g.parts) h.path_is g.path_is h.others g.others

pub one_entry : {R : Type 0} (main : List ℕ) (entries : List (EntryWith R)) (path : List ℕ) (s t : Step)
    → IsEntryOf main entries path s → IsEntryOf main entries path t → s ≡ t
one_entry main entries path s t (a, rest, h, is) (b, more, g, other) = sym is ∙ ap (λ x. x.0) (one_at main entries path a b rest more h g).0 ∙ other

-- No entry has the path.
pub not_found : {R : Type 0} {main path : List ℕ} {entries left : List (EntryWith R)} → left ≡ [] → IsRemainder main entries path left
    → HasEntryFor main entries path → ⊥
not_found e h (entry, there, is) =
    h.others entry (rw⁻¹ (h.parts ∙ ap (λ t. h.before ++ t) e ∙ append-nil h.before) there) is

pub behind_from : {R : Type 0} {main path : List ℕ} {entries left : List (EntryWith R)} → entries ≡ left → IsRemainder main entries path left
behind_from e = record { before = []; parts = e; others = λ other h. absurd (omega (arith, h.1)) }

-- ---- rows whose replacements are seen in another way

module _ {R V : Type 0} (see : R → V) where
  abbrev seen : EntryWith R → EntryWith V
  seen entry = (entry.0, option_map see entry.1)

  abbrev rows_seen : List (Row R) → List (EntryWith V)
  rows_seen rows = map (λ row. (row.step, option_map see row.right)) rows

  seen_twice : (rows : List (Row R)) → map seen (entries_in rows) ≡ rows_seen rows
  seen_twice rows = map-map seen _ rows

  at_seen : {main path : List ℕ} {entries rest : List (EntryWith R)} {entry : EntryWith R} → IsAt main entries path entry rest
      → IsAt main (map seen entries) path (seen entry) (map seen rest)
  at_seen {main} {path} {rest} {entry} at = record {
    before = map seen at.before;
    parts = ap (map seen) at.parts ∙ map-append seen at.before (entry ∷ rest);
    path_is = at.path_is;
    others = λ other there. let (one, inside, same) = from_mapped seen at.before other there in
        rw⁻¹ same (at.others one inside);
  }

  pub rest_seen : {main path : List ℕ} (rows left : List (Row R)) → IsRestAfter main (entries_in rows) path (entries_in left)
      → IsRestAfter main (rows_seen rows) path (rows_seen left)
  rest_seen rows left (entry, at) = (seen entry, rw (seen_twice rows, seen_twice left) at (at_seen at))

  pub entry_seen : {main path : List ℕ} {s : Step} (rows : List (Row R)) → IsEntryOf main (entries_in rows) path s
      → IsEntryOf main (rows_seen rows) path s
  entry_seen rows (entry, rest, at, is) = (seen entry, map seen rest, rw (seen_twice rows) at (at_seen at), is)

  pub member_seen : (rows : List (Row R)) (entry : EntryWith R) → Contains (entries_in rows) entry → Contains (rows_seen rows) (seen entry)
  member_seen rows entry there = rw (seen_twice rows) at (in_mapped seen (entries_in rows) entry there)

  pub path_unseen : {main path : List ℕ} (rows : List (Row R)) → HasEntryFor main (rows_seen rows) path → HasEntryFor main (entries_in rows) path
  path_unseen {main} rows (entry, there, is) =
      let (row, inside, same) = from_mapped _ rows entry there in
      ((row.step, row.right), in_mapped _ rows row inside, ap (λ (e : EntryWith V). path_of main e.0) same ∙ is)
