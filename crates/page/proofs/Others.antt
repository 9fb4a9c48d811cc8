-- What does not hold in worlds.
use Rattle.std.proofs.Common.{◌≡◌, ◌++◌, ◌&&◌, ℕ, Bool, true, false, List, [], ◌∷◌, Contains, None, Some, Option, Result, Ok, Err, ◌∙◌, ap, arith, codes, inl, inr, nat_eq, not, refl, subst, sym}
use Rattle.std.specs.Cmp.Lexicographic.{pointwise}
use Rattle.std.specs.Ordering.{is_gt}
use Rattle.std.proofs.lemmas.Bool.{and_parts, false≢true, not-true}
use Rattle.std.proofs.lemmas.Option.{same_Some}
use Rattle.page.specs.Asked.{Name, Reply, bytes}
use Rattle.page.specs.BuildList.{HasEntryFor, IsRestAfter, IsSelected, path_of}
use Rattle.page.specs.Entries.{Entry}
use Rattle.page.specs.Fields.{Dependency}
use Rattle.page.specs.Files.{end_one, local_file, low_ten, main_file, mid_nine, mid_ten, own_one, top_file, top_one, top_text}
use Rattle.page.specs.Files.RowFiles.{alone_file, file_requiring, first_of, huge_text, one_file}
use Rattle.page.specs.Graph.{IsEdgeEnd}
use Rattle.page.specs.Main.{is_pruned_by, without_excluded}
use Rattle.page.specs.ModuleVersion.{ModuleVersion}
use Rattle.page.specs.Outcome.{Outcome}
use Rattle.page.specs.ListQuery.{PrintsRows, no_path, path_listed, path_unlisted}
use Rattle.page.specs.Path.{is_fetchable}
use Rattle.page.specs.Reading.{IsFileReading}
use Rattle.page.specs.Run.{IsDeep, IsEdge, IsNeeded, IsOpened, IsRead, IsTop, from_deep, from_main, from_top}
use Rattle.page.specs.Sayings.{FileSays, Requires, Says, answered, run_of, sound, unaskable}
use Rattle.page.specs.Types.{Class, Malformed, NotFetchable, Of, TooMany, WrongPath}
use Rattle.page.specs.Version.{version_cmp}
use Rattle.page.specs.Worlds.{printing, pruned_answers, wrong_answers}
use Rattle.page.specs.Worlds.Parts.{OthersDoNotHold, huge_answers, local_answers, local_name, pruned_run, stray_answers, three_rows, to_own, twice_rows}
use Rattle.page.specs.Worlds.Rows.{a_name, unopened_answers}
use Rattle.page.proofs.Forms.{end_of, no_greater}
use Rattle.page.proofs.Members.{differ, member_cases, no_member}
use Rattle.page.proofs.Saying.{file_is, reading_of, reads, said_of, says}

-- ---- what is excluded

abbrev are_other : List ModuleVersion → List ℕ → Bool
are_other [] path = true
are_other (y ∷ ys) path = not (pointwise nat_eq y.0 path) && are_other ys path

other_paths : (ys : List ModuleVersion) (x : ModuleVersion) → are_other ys x.0 ≡ true → Contains ys x → ⊥
other_paths [] x are there = no_member x there
other_paths (y ∷ ys) x are there =
    let parts = and_parts (not (pointwise nat_eq y.0 x.0)) (are_other ys x.0) are in
    elim (member_cases y x ys there) [
      | inl same ↦ differ y.0 x.0 (not-true (pointwise nat_eq y.0 x.0) parts.0) (ap (λ (z : ModuleVersion). z.0) same)
      | inr later ↦ other_paths ys x parts.1 later
    ]

not_top : IsTop pruned_run low_ten → ⊥
not_top there = other_paths (without_excluded main_file main_file.requirements) low_ten refl there

top_says : said_of main_file None pruned_answers top_one ≡ Some (Ok top_file)
unfolding is_fetchable
top_says = refl

not_required : Requires pruned_run top_one low_ten → ⊥
not_required (file, tells, there) =
    other_paths (without_excluded main_file top_file.requirements) low_ten refl
    (subst (λ (f : Dependency). Contains (without_excluded main_file f.requirements) low_ten)
    (sym (file_is main_file None pruned_answers top_one top_file top_says file tells)) there)

mid_says : said_of local_file None wrong_answers mid_nine ≡ Some (Err WrongPath)
unfolding is_fetchable
mid_says = refl

no_file : (file : Dependency) → ◌≡◌ {A = Option (Result Dependency Class)} (Some (Err WrongPath)) (Some (Ok file)) → ⊥
no_file file e = cc e

not_wrong : (y : ModuleVersion) → Requires (run_of local_file None wrong_answers) mid_nine y → ⊥
not_wrong y (file, tells, there) = no_file file (sym mid_says ∙ says local_file None wrong_answers mid_nine (Ok file) tells)

-- ---- what is not opened deeply

abbrev a_file : Dependency
a_file = file_requiring (codes "a") (1, 17) (codes "c") (codes "v1.0.0")

a_says : said_of one_file None unopened_answers (first_of (codes "a")) ≡ Some (Ok a_file)
unfolding is_fetchable
a_says = refl

-- nothing is, if the one module at the top is pruned
module _ (asked : List (Name × Reply)) (file : Dependency) (is : said_of one_file None asked (first_of (codes "a")) ≡ Some (Ok file))
    (is_pruned : is_pruned_by file.go ≡ true) where
  not_unpruned : (other : Dependency) → Says (run_of one_file None asked) (first_of (codes "a")) (Ok other) → is_pruned_by other.go ≡ false → ⊥
  not_unpruned other tells unpruned =
      false≢true (sym (subst (λ (f : Dependency). is_pruned_by f.go ≡ false)
      (sym (file_is one_file None asked (first_of (codes "a")) file is other tells)) unpruned) ∙ is_pruned)

  pub none_deep : (x : ModuleVersion) → IsDeep (run_of one_file None asked) x → ⊥
  none_deep x (from_main unpruned top) = false≢true (sym unpruned)
  none_deep y (from_top {x = x} other top tells unpruned there) = elim (member_cases (first_of (codes "a")) x [] top) [
    | inl same ↦ not_unpruned other (subst (λ (z : ModuleVersion). Says (run_of one_file None asked) z (Ok other)) (sym same) tells) unpruned
    | inr later ↦ no_member x later
  ]
  none_deep y (from_deep {x = x} deep requires) = none_deep x deep

stray_says : said_of one_file None stray_answers (first_of (codes "a")) ≡ Some (Err WrongPath)
unfolding is_fetchable
stray_says = refl

not_sound : (file : Dependency) → Says (run_of one_file None stray_answers) (first_of (codes "a")) (Ok file) → ⊥
not_sound file tells = no_file file (sym stray_says ∙ says one_file None stray_answers (first_of (codes "a")) (Ok file) tells)

not_wrong_deep : (x : ModuleVersion) → IsDeep (run_of one_file None stray_answers) x → ⊥
not_wrong_deep x (from_main unpruned top) = false≢true (sym unpruned)
not_wrong_deep y (from_top {x = x} file top tells unpruned there) = elim (member_cases (first_of (codes "a")) x [] top) [
  | inl same ↦ not_sound file (subst (λ (z : ModuleVersion). Says (run_of one_file None stray_answers) z (Ok file)) (sym same) tells)
  | inr later ↦ no_member x later
]
not_wrong_deep y (from_deep {x = x} is requires) = not_wrong_deep x is

idle_deep : (x : ModuleVersion) → IsDeep (run_of alone_file None unopened_answers) x → ⊥
idle_deep x (from_main unpruned top) = no_member x top
idle_deep y (from_top {x = x} file top tells unpruned there) = no_member x top
idle_deep y (from_deep {x = x} is requires) = idle_deep x is

idle_opened : (x : ModuleVersion) → IsOpened (run_of alone_file None unopened_answers) x → ⊥
idle_opened x (inl top) = no_member x top
idle_opened x (inr is) = idle_deep x is

-- ---- a file that may not be asked for

not_otherwise : (said : Result Dependency Class) → FileSays (run_of local_file None local_answers) local_name said → said ≡ Err NotFetchable
unfolding is_fetchable
not_otherwise said (unaskable e) = refl
not_otherwise said (answered reply may heard is) = absurd (false≢true may)

not_needed : IsNeeded (run_of local_file None local_answers) local_name → ⊥
unfolding is_fetchable
not_needed (x, opens, is, may) = false≢true may

huge_says : reading_of None a_name (bytes huge_text) ≡ Err (Malformed 0 TooMany)
huge_says = refl

not_read : IsRead (run_of one_file None huge_answers) → ⊥
not_read read =
    let (said, is) = read a_name (bytes huge_text) refl in
    subst (IsFileReading None a_name (bytes huge_text)) (sym (sym huge_says ∙ reads None a_name (bytes huge_text) said is)) is

-- ---- what a module does not say

not_faulty : (said : Result Dependency Class) → Says pruned_run top_one said → said ≡ Ok top_file
not_faulty said tells = sym (same_Some (Ok top_file) said (sym top_says ∙ says main_file None pruned_answers top_one said tells))

not_right : (said : Result Dependency Class) → Says (run_of local_file None wrong_answers) mid_nine said → said ≡ Err WrongPath
not_right said tells = sym (same_Some (Err WrongPath) said (sym mid_says ∙ says local_file None wrong_answers mid_nine said tells))

-- ---- what is not selected

not_own : IsSelected (codes "m") (IsEdge pruned_run) own_one → ⊥
not_own is = is.not_main refl

not_to_own : IsSelected (codes "m") to_own own_one → ⊥
not_to_own is = is.not_main refl

top_requires : IsEdge pruned_run (Of top_one) mid_ten
unfolding is_fetchable
top_requires = (inl (0, omega arith, refl), (top_file, sound (answered (bytes top_text) refl refl refl) refl, (0, omega arith, refl)))

not_lesser : IsSelected (codes "m") (IsEdge pruned_run) mid_nine → ⊥
not_lesser is =
    let end : IsEdgeEnd (IsEdge pruned_run) mid_ten = end_of (IsEdge pruned_run) (Of top_one) mid_ten top_requires in
    let not_greater : is_gt (version_cmp mid_ten.1 mid_nine.1) ≡ false = search (no_greater, is.greatest mid_ten end refl) in
    false≢true (sym not_greater)

-- ---- what does not follow

first_is : (a b : Entry) (xs ys : List Entry) → a ∷ xs ≡ b ∷ ys → a ≡ b
first_is a b xs ys e = cc e

not_later : IsRestAfter (codes "m") twice_rows (codes "end.org") [] → ⊥
not_later (entry, at) = by_before at.before at.parts at.others
  where
    by_before : (before : List Entry) → twice_rows ≡ before ++ entry ∷ []
        → ((other : Entry) → Contains before other → path_of (codes "m") other.0 ≡ codes "end.org" → ⊥) → ⊥
    by_before [] parts others = cc parts
    by_before (b ∷ bs) parts others = others b (0, omega arith, refl)
        (subst (λ (e : Entry). path_of (codes "m") e.0 ≡ codes "end.org") (first_is (Of end_one, None) b _ (bs ++ entry ∷ []) parts) refl)

end_has_row : HasEntryFor (codes "m") three_rows (codes "end.org")
end_has_row = ((Of end_one, None), (1, omega arith, refl), refl)

not_limited : (outcome : Outcome) → PrintsRows main_file three_rows (Some (codes "end.org")) (Some 0) outcome → outcome ≡ printing []
not_limited outcome (no_path e is) = absurd (cc e)
not_limited outcome (path_listed path others e rest is) = is
not_limited outcome (path_unlisted path e unlisted) =
    absurd (unlisted.0 (subst (HasEntryFor (codes "m") three_rows) (same_Some (codes "end.org") path e) end_has_row))

pub others_do_not_hold : OthersDoNotHold
others_do_not_hold = record {
  top = not_top;
  required = not_required;
  wrong = not_wrong;
  deep = none_deep unopened_answers a_file a_says refl;
  wrong_deep = not_wrong_deep;
  unopened = λ leads. idle_opened (first_of (codes "a")) leads.0;
  said = not_otherwise;
  needed = not_needed;
  unread = not_read;
  right = not_faulty;
  faulty = not_right;
  own = not_own;
  to_own = not_to_own;
  lesser = not_lesser;
  later = not_later;
  limited = not_limited;
}
