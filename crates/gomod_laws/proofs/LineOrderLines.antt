-- Valid main files that hold the same directives say the same.
use Rattle.std.proofs.Common.{◌≡◌, ◌∙◌, ◌⊎◌, ℕ, Bool, true, false, cond, List, [], ◌∷◌, Option, Some, None, Contains, sym, ap, ap₂, refl, subst, inl, inr}
use Rattle.std.specs.Prelude.{find, option_and_then, unwrap_or}
use Rattle.std.specs.List.{cons_option, filter_map}
use Rattle.std.specs.Option.{option_map, option_or}
use Rattle.std.proofs.lemmas.Bool.{cases_Bool, false≢true}
use Rattle.std.proofs.lemmas.List.Folds.{list_any-from_Any}
use Rattle.gm_syntax_words.specs.Tokens.{Placed}
use Rattle.gm_syntax.specs.Document.{Line}
use Rattle.gm_syntax.specs.LineViews.{plain_lines}
use Rattle.gm_file.specs.Directives.{Strict, Directive, DeclaresModule, DeclaresGo, Replaces, Left, Replacing, directives, left_with, left_without}
use Rattle.gm_file.specs.Faults.{fault_of, go_in, is_same_left}
use Rattle.gm_file.specs.Pairwise.{do_clash}
use Rattle.gm_file.proofs.Pairwise.{AreApart, clash-mutual, faultless-apart}
use Rattle.gm_file.specs.Fields.{as_exclusion, as_go, as_module, as_replacing, as_requirement, first, right_for}
use Rattle.gm_file.specs.Main.{is_pruned_by, main_of}
use Rattle.gm_file.proofs.Indexed.{left-self, same-left, same-right}
use Rattle.gm_graph_select.proofs.Ascending.{member_cases, member_head, member_tail, no_member}
use Rattle.gomod_laws.specs.LineOrderLaws.{HoldTheSame, LinesInAnyOrder}
use Rattle.gomod_laws.proofs.FormattingBlanks.{main_said}
use Rattle.gomod_laws.proofs.LineOrderProofs.{queries_move}
use Rattle.gomod_laws.proofs.LineOrderRuns.{same_outcome}
use Rattle.gomod_texts.proofs.FileNames.{found_among, replaces_is}
use Rattle.gomod_laws.proofs.LineOrderSame.{SayTheSame}
use Rattle.gomod_laws.proofs.AdditionsKept.{kept_more}

-- ---- directives that clash

-- two directives that clash are one
one_of_two : (ds : List Directive) (d e : Directive) → AreApart ds → Contains ds d → Contains ds e → do_clash d e ≡ true → d ≡ e
one_of_two [] d e apart here there clash = absurd (no_member d here)
one_of_two (x ∷ ds) d e apart here there clash = by_places (member_cases x d _ here) (member_cases x e ds there) (λ a b. one_of_two ds d e apart.1 a b clash)
  where
    never : (y : Directive) → Contains ds y → do_clash x y ≡ true → ⊥
    never y inside holds = false≢true (sym apart.0 ∙ list_any-from_Any _ ds (inside.0, y, inside.1, inside.2, holds))

    by_places : (x ≡ d) ⊎ Contains ds d → (x ≡ e) ⊎ Contains ds e → (Contains ds d → Contains ds e → d ≡ e) → d ≡ e
    by_places (inl a) (inl b) rest = sym a ∙ b
    by_places (inl a) (inr b) rest = absurd (never e b (ap (λ y. do_clash y e) a ∙ clash))
    by_places (inr a) (inl b) rest = absurd (never d a (ap (λ y. do_clash y d) b ∙ clash-mutual e d ∙ clash))
    by_places (inr a) (inr b) rest = rest a b

-- ---- lists with the same members

abbrev AreMembers : {X : Type 0} → List X → List X → Type 0
AreMembers {X} xs ys = (x : X) → Contains xs x → Contains ys x

module _ {X : Type 0} (part : Directive → Option X) where
  some_part : (ds : List Directive) (x : X) → Contains (filter_map part ds) x → (d : Directive) × Contains ds d × (part d ≡ Some x)
  some_part [] x there = absurd (no_member x there)
  some_part (d ∷ ds) x there = by_part _ refl there (some_part ds x)
    where
      by_part : (o : Option X) → part d ≡ o → Contains (cons_option o (filter_map part ds)) x
          → (Contains (filter_map part ds) x → (e : Directive) × Contains ds e × (part e ≡ Some x))
          → (e : Directive) × Contains (d ∷ ds) e × (part e ≡ Some x)
      by_part None is inside rest = let (e, later, says) = rest inside in (e, member_tail d e _ later, says)
      by_part (Some y) is inside rest = elim (member_cases y x _ inside) [
        | inl same ↦ (d, member_head d ds, is ∙ ap Some same)
        | inr behind ↦ (let (e, later, says) = rest behind in (e, member_tail d e _ later, says))
      ]

  part_of : (ds : List Directive) (d : Directive) (x : X) → Contains ds d → part d ≡ Some x → Contains (filter_map part ds) x
  part_of [] d x there is = absurd (no_member d there)
  part_of (e ∷ ds) d x there is = elim (member_cases e d _ there) [
    | inl same ↦ let here : part e ≡ Some x = ap part same ∙ is in rw here (member_head x _)
    | inr later ↦ behind _ (part_of ds d x later is)
  ]
    where
      behind : (o : Option X) → Contains (filter_map part ds) x → Contains (cons_option o (filter_map part ds)) x
      behind None inside = inside
      behind (Some y) inside = member_tail y x _ inside

  parts_into : (ds es : List Directive) → AreMembers ds es → AreMembers (filter_map part ds) (filter_map part es)
  parts_into ds es into x there = let (d, inside, is) = some_part _ x there in part_of _ d x (into d inside) is

-- a member that is found passes the test
found_passes : {X : Type 0} (test : X → Bool) (xs : List X) (x : X) → find test xs ≡ Some x → test x ≡ true
found_passes test [] x e = absurd cc
found_passes {X} test (y ∷ xs) x e = by_test _ refl e (found_passes _ xs x)
  where
    by_test : (b : Bool) → test y ≡ b → cond b (Some y) (find test xs) ≡ Some x → (find test xs ≡ Some x → test x ≡ true) → test x ≡ true
    by_test true is f rest = let same : y ≡ x = cc in rw same at is
    by_test false is f rest = rest f

not_found : {X : Type 0} (test : X → Bool) (xs : List X) (x : X) → find test xs ≡ None → Contains xs x → test x ≡ true → ⊥
not_found test [] x e there holds = no_member x there
not_found {X} test (y ∷ xs) x e there holds = by_test _ refl e (member_cases y x xs there) (λ f later. not_found _ xs x f later holds)
  where
    by_test : (b : Bool) → test y ≡ b → cond b (Some y) (find test xs) ≡ None → (y ≡ x) ⊎ Contains xs x → (find test xs ≡ None → Contains xs x → ⊥) → ⊥
    by_test true is f place rest = cc
    by_test false is f (inl same) rest = false≢true (sym is ∙ ap test same ∙ holds)
    by_test false is f (inr later) rest = rest f later

-- What the first member that passes the test says is one thing for two lists with the same members, if all that pass
-- say the same.
one_found : {X Y : Type 0} (says : X → Y) (test : X → Bool) (xs ys : List X) → AreMembers xs ys → AreMembers ys xs
    → ((x y : X) → Contains ys x → Contains ys y → test x ≡ true → test y ≡ true → says x ≡ says y)
    → option_map says (find test xs) ≡ option_map says (find test ys)
one_found {X} says test xs ys into back one = by_found _ _ refl refl
  where
    is : (zs : List X) (z : X) → find test zs ≡ Some z → Contains zs z × (test z ≡ true)
    is zs z e = (found_among _ _ z e, found_passes test _ z e)

    by_found : (a b : Option X) → find test xs ≡ a → find test ys ≡ b → option_map says a ≡ option_map says b
    by_found None None e f = refl
    by_found None (Some y) e f = let there = is _ y f in absurd (not_found _ _ y e (back y there.0) there.1)
    by_found (Some x) None e f = let here = is _ x e in absurd (not_found _ _ x f (into x here.0) here.1)
    by_found (Some x) (Some y) e f =
        let here = is _ x e in
        let there = is _ y f in
        ap Some (one x y (into x here.0) there.0 here.1 there.1)

-- the first member is the first that passes a test which all pass
first_found : {X : Type 0} (xs : List X) → option_map (λ x. x) (find (λ x. true) xs) ≡ first xs
first_found [] = refl
first_found (x ∷ xs) = refl

one_first : {X : Type 0} (xs ys : List X) → AreMembers xs ys → AreMembers ys xs → ((x y : X) → Contains ys x → Contains ys y → x ≡ y) → first xs ≡ first ys
one_first {X} xs ys into back one =
    sym (first_found _) ∙ one_found (λ x. x) (λ x. true) _ _ into back (λ x y here there is also. one x y here there) ∙ first_found _

-- ---- what a directive is, from its part

module_is : (d : Directive) (p : List ℕ) → as_module d ≡ Some p → d ≡ DeclaresModule p
module_is (DeclaresModule q) p e = let same : q ≡ p = cc in ap DeclaresModule same
module_is d p e = absurd cc

go_is : (d : Directive) (p : List ℕ) → as_go d ≡ Some p → d ≡ DeclaresGo p
go_is (DeclaresGo text) p e = let same : text ≡ p = cc in ap DeclaresGo same
go_is d p e = absurd cc

module _ (ds : List Directive) (are : AreApart ds) where
  -- what directives of one kind say is one thing, if two of them clash
  one_said : {X : Type 0} (part : Directive → Option X) (made : X → Directive) → ((d : Directive) (x : X) → part d ≡ Some x → d ≡ made x)
      → (x y : X) → Contains (filter_map part ds) x → Contains (filter_map part ds) y → do_clash (made x) (made y) ≡ true
      → made x ≡ made y
  one_said part made is x y here there clash =
      let (d, in_d, is_d) = some_part _ _ x here in
      let (e, in_e, is_e) = some_part _ _ y there in
      one_of_two _ _ _ are (subst (Contains ds) (is d x is_d) in_d) (subst (Contains ds) (is e y is_e) in_e) clash

  one_module : (p q : List ℕ) → Contains (filter_map as_module ds) p → Contains (filter_map as_module ds) q → p ≡ q
  one_module p q here there = let one = one_said _ _ module_is p q here there refl in cc

  one_go : (p q : List ℕ) → Contains (filter_map as_go ds) p → Contains (filter_map as_go ds) q → p ≡ q
  one_go p q here there = let one = one_said _ _ go_is p q here there refl in cc

  one_replaced : (left : Left) (r s : Replacing) → Contains (filter_map as_replacing ds) r
      → Contains (filter_map as_replacing ds) s → is_same_left left r.0 ≡ true → is_same_left left s.0 ≡ true
      → r.1 ≡ s.1
  one_replaced left r s here there is_r is_s =
      let lefts : r.0 ≡ s.0 = sym (same-left _ _ is_r) ∙ same-left _ _ is_s in
      elim (cases_Bool _) [
        | inl same ↦ same-right _ _ same
        | inr apart ↦
            let same : is_same_left r.0 s.0 ≡ true = subst (λ x. is_same_left r.0 x ≡ true) lefts (left-self r.0) in
            let clash : do_clash (Replaces r) (Replaces s) ≡ true = rw (same, apart) refl in
            let one = one_said _ _ replaces_is r s here there clash in
            let both : r ≡ s = cc in
            ap (λ x. x.1) both
      ]

-- ---- two files

module _ (ds es : List Directive) (one : AreApart ds) (other : AreApart es) (into : AreMembers ds es) (back : AreMembers es ds) where
  modules : first (filter_map as_module ds) ≡ first (filter_map as_module es)
  modules = one_first _ _ (parts_into as_module _ _ into) (parts_into as_module _ _ back) (one_module es other)

  versions : first (filter_map as_go ds) ≡ first (filter_map as_go es)
  versions = one_first _ _ (parts_into as_go _ _ into) (parts_into as_go _ _ back) (one_go es other)

  rights : (left : Left) → right_for (filter_map as_replacing ds) left ≡ right_for (filter_map as_replacing es) left
  rights left =
      one_found (λ r. r.1) (λ r. is_same_left left r.0) _ _
      (parts_into as_replacing _ _ into) (parts_into as_replacing _ _ back)
      (λ r s here there is_r is_s. one_replaced _ other _ r s here there is_r is_s)

  said_alike : SayTheSame (main_said ds) (main_said es)
  said_alike = record {
    path = ap (λ o. unwrap_or o []) modules;
    pruned = ap (λ o. is_pruned_by (unwrap_or (option_and_then (go_in Strict) o) (1, 16))) versions;
    required = λ x. (
      kept_more (main_said ds) (main_said es) (parts_into as_exclusion _ _ back) _
          _ x (parts_into as_requirement _ _ into x),
      kept_more (main_said es) (main_said ds) (parts_into as_exclusion _ _ into) _
          _ x (parts_into as_requirement _ _ back x),
    );
    excluded = λ x. (parts_into as_exclusion _ _ into x, parts_into as_exclusion _ _ back x);
    replaced = λ x. ap₂ option_or (rights (left_with x.0 x.1)) (rights (left_without x.0));
  }

-- valid lines that hold the same directives say the same
say_the_same : (lines also : List (Line Placed)) → fault_of Strict (plain_lines lines) ≡ None
    → fault_of Strict (plain_lines also) ≡ None → HoldTheSame (plain_lines lines) (plain_lines also)
    → SayTheSame (main_of lines) (main_of also)
say_the_same lines also none nothing hold =
    let one = faultless-apart _ none in
    let other = faultless-apart _ nothing in
    said_alike (directives Strict (plain_lines lines)) (directives Strict (plain_lines also))
    one.apart other.apart (λ d. (hold d).0) (λ d. (hold d).1)

pub lines_in_any_order : LinesInAnyOrder
lines_in_any_order command file other lines also sums asked answered a b query is too hold alike one two =
    same_outcome _ _ _ _ _ _ a b query (queries_move file other sums (main_of lines) (main_of also) (lines, is, refl) (also, too, refl)
    (say_the_same _ _ is.1 too.1 hold)) alike one.0 two.0
