-- What single definitions say, each from its own rules.
use Rattle.std.proofs.Common.{◌≡◌, ℕ, false, List, [], ◌∷◌, Contains, Some, None, Result, Ok, Err, arith, codes, inl, inr, refl, subst, sym}
use Rattle.std.specs.Fmt.{digits}
use Rattle.std.specs.Ordering.{is_gt}
use Rattle.page.specs.Asked.{Reply, bytes, folder_file, list_file, mod_file}
use Rattle.page.specs.BuildList.{main_entry, path_of}
use Rattle.page.specs.Entries.{Entry}
use Rattle.page.specs.Fields.{Dependency}
use Rattle.page.specs.Files.{folder_says, folder_text, end_one, low_ten, mid_file, mid_nine, mid_ten, mid_text, top_file, top_one, top_text}
use Rattle.page.specs.Files.RowFiles.{file_requiring, first_of, going, huge_text, malformed_text, one_file, requiring, three_file}
use Rattle.page.specs.Graph.{IsEdgeEnd}
use Rattle.page.specs.ModuleVersion.{ModuleVersion}
use Rattle.page.specs.Path.{is_fetchable}
use Rattle.page.specs.Reading.{IsFileReading}
use Rattle.page.specs.Run.{IsDeep, IsOpened, IsRead, from_deep, from_main, from_top}
use Rattle.page.specs.Sayings.{Says, answered, faulty, run_of, sound, wrong_path}
use Rattle.page.specs.Types.{Class, Main, Malformed, NoSum, Of, WrongArguments}
use Rattle.page.specs.Version.{version_cmp}
use Rattle.page.specs.Worlds.Parts.{PartsAreShown, huge_answers, pruned_run, two_paths, two_versions}
use Rattle.page.specs.Worlds.Rows.{a_name, malformed_answers}
use Rattle.page.proofs.Forms.{answer_is, edge_to, end_of, no_greater}
use Rattle.page.proofs.Members.{differ, member_cases, no_member}

top_says : Says pruned_run top_one (Ok top_file)
unfolding is_fetchable
top_says = sound (answered (bytes top_text) refl refl refl) refl

mid_is_deep : IsDeep pruned_run mid_ten
mid_is_deep = from_top top_file (0, omega arith, refl) top_says refl (0, omega arith, refl)

before_end : (other : Entry) → Contains (main_entry ∷ []) other → path_of (codes "m") other.0 ≡ codes "end.org" → ⊥
before_end other there same = elim (member_cases main_entry other [] there) [
  | inl is ↦ not_main (subst (λ (e : Entry). path_of (codes "m") e.0 ≡ codes "end.org") (sym is) same)
  | inr later ↦ no_member other later
]
  where
    not_main : path_of (codes "m") Main ≡ codes "end.org" → ⊥
    not_main e = cc e

abbrev a_file : Dependency
a_file = file_requiring (codes "a") (1, 17) (codes "c") (codes "v1.0.0")

abbrev a_text : List ℕ
a_text = going (codes "a") (codes "1.17") (codes "c") (codes "v1.0.0")

b_is_opened : IsOpened (run_of three_file None malformed_answers) (first_of (codes "b"))
unfolding is_fetchable
b_is_opened = inr (from_deep (from_main refl (0, omega arith, refl)) (
  file_requiring (codes "a") (1, 16) (codes "b") (codes "v1.0.0"),
  sound (answered (bytes (requiring (codes "a") (codes "b") (codes "v1.0.0"))) refl refl refl) refl,
  (0, omega arith, refl),
))

b_is_faulty : Says (run_of three_file None malformed_answers) (first_of (codes "b")) (Err (Malformed 3 WrongArguments))
unfolding is_fetchable
b_is_faulty = faulty (answered (bytes malformed_text) refl refl refl)

greatest_version : (y : ModuleVersion) → IsEdgeEnd two_versions y → y.0 ≡ mid_ten.0 → is_gt (version_cmp y.1 mid_ten.1) ≡ false
greatest_version y is same = elim (edge_to two_versions y is).1 [
  | inl e ↦ subst (λ (z : ModuleVersion). is_gt (version_cmp z.1 mid_ten.1) ≡ false) (sym e) refl
  | inr e ↦ subst (λ (z : ModuleVersion). is_gt (version_cmp z.1 mid_ten.1) ≡ false) (sym e) refl
]

greatest_of_path : (y : ModuleVersion) → IsEdgeEnd two_paths y → y.0 ≡ mid_nine.0 → is_gt (version_cmp y.1 mid_nine.1) ≡ false
greatest_of_path y is same = elim (edge_to two_paths y is).1 [
  | inl e ↦ subst (λ (z : ModuleVersion). is_gt (version_cmp z.1 mid_nine.1) ≡ false) (sym e) refl
  | inr e ↦ absurd (differ low_ten.0 mid_nine.0 refl (subst (λ (z : ModuleVersion). z.0 ≡ mid_nine.0) e same))
]

-- whatever has the answer, the go.sum lists nothing
huge_is_read : IsRead (run_of one_file (Some []) huge_answers)
huge_is_read (mod_file path version) reply at = elim (answer_is (a_name, bytes huge_text) [] (mod_file path version) reply at) [
  | inl own ↦ subst (λ (r : Reply). (said : Result Dependency Class) × IsFileReading (Some []) (mod_file path version) r said) own (Err NoSum, refl)
  | inr later ↦ absurd (cc later)
]
huge_is_read (folder_file text) reply at = absurd (cc at)
huge_is_read (list_file path) reply at = absurd (cc at)

pub parts_are_shown : PartsAreShown
unfolding is_fetchable digits
parts_are_shown = record {
  answered = refl;
  missing = refl;
  long = refl;
  first = refl;
  lax = refl;
  read = huge_is_read;
  left = refl;
  unlisted = answered _ refl refl refl;
  wrong = wrong_path top_file (answered (bytes top_text) refl refl refl) refl;
  from_main = from_main refl (0, omega arith, refl);
  from_top = mid_is_deep;
  from_deep = from_deep mid_is_deep (folder_says, sound (answered (bytes folder_text) refl refl refl) refl, (0, omega arith, refl));
  opened = inr mid_is_deep;
  needed = (mid_ten, inr mid_is_deep, refl, refl);
  fault = assumption (b_is_opened, b_is_faulty);
  edge = (inl (1, omega arith, refl), (mid_file, sound (answered (bytes mid_text) refl refl refl) refl, (0, omega arith, refl)));
  top_edge = (inl (0, omega arith, refl), (a_file, sound (answered (bytes a_text) refl refl refl) refl, (0, omega arith, refl)));
  end = (let leads : Of mid_nine ≡ Of mid_nine = refl in search leads);
  greater = record {
    not_main = differ mid_ten.0 (codes "m") refl;
    is_end = end_of two_versions (Of mid_nine) mid_ten (inr refl);
    greatest = λ y is same. search (no_greater, greatest_version y is same);
  };
  other_path = record {
    not_main = differ mid_nine.0 (codes "m") refl;
    is_end = end_of two_paths (Of mid_nine) mid_nine (inl refl);
    greatest = λ y is same. search (no_greater, greatest_of_path y is same);
  };
  tie = refl;
  builds = refl;
  first_right = refl;
  whole = refl;
  replacing = refl;
  has_row = ((Of end_one, None), (1, omega arith, refl), refl);
  rest = ((Of end_one, None), record { before = main_entry ∷ []; parts = refl; path_is = refl; others = before_end });
}
