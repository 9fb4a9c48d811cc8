-- Marks of the numbers that sources and their lists name.
use Rattle.std.proofs.Common.{◌≡◌, ◌⊎◌, ◌<◌, ◌+◌, ◌∙◌, ℕ, zero, suc, Bool, cond, List, [], ◌∷◌, ◌++◌, Option, Some, None, Contains, length, append-nil, true, false, get_or, replicate, set, take, ap, arith, inl, inr, refl, sym}
use Rattle.std.specs.List.{flat_map}
use Rattle.std.specs.Option.{option_to_list}
use Rattle.std.proofs.lemmas.Bool.{cases_eq, cases_lt, false≢true}
use Rattle.std.proofs.lemmas.List.{get_or-replicate, get_or-set_other, get_or-set_same, get_or_past, length-replicate, length-set, take_more}
use Rattle.std.proofs.lemmas.List.Concat.{flat_map-append}
use Rattle.std.proofs.lemmas.List.Elements.{Contains-append_cases, Contains-append_left, Contains-append_right}
use Rattle.std.proofs.lemmas.List.Sums.{sum_by-set}
use Rattle.gm_graph_select.specs.Adjacency.{StepEdges}
use Rattle.gm_graph_select.specs.Private.Marking.{AreMarked, HasMark, named_by}
use Rattle.gm_graph_select.specs.Private.Searching.{count_left}
use Rattle.gm_graph_select.proofs.Ascending.{member_head, no_member, one_member}

-- ---- lists of parts

module _ {T X : Type 0} (parts : T → List X) where
  pub in_flat : (all : List T) (one : T) (x : X) → Contains all one → Contains (parts one) x → Contains (flat_map parts all) x
  in_flat [] one x there h = absurd (no_member one there)
  in_flat (first ∷ all) one x (zero, below, is) h =
      Contains-append_left (parts first) (flat_map parts all) x
      (rw is h)
  in_flat (first ∷ all) one x (suc k, below, is) h =
      Contains-append_right (parts first) (flat_map parts all) x
      (in_flat all one x (k, omega (arith, below), is) h)

  pub from_flat : (all : List T) (x : X) → Contains (flat_map parts all) x → (one : T) × Contains all one × Contains (parts one) x
  from_flat [] x h = absurd (no_member x h)
  from_flat (first ∷ all) x h = elim (Contains-append_cases (parts first) (flat_map parts all) x h) [
    | inl here ↦ (first, (0, omega arith, refl), here)
    | inr later ↦ (let (one, (k, below, is), at) = from_flat all x later in (one, (suc k, omega (arith, below), is), at))
  ]

-- ---- marks

-- A marked number is one of those that there are.
pub marked_inside : (marks : List Bool) (number : ℕ) → HasMark marks number → number < length marks
marked_inside [] number h = absurd (false≢true h)
marked_inside (mark ∷ marks) zero h = omega arith
marked_inside (mark ∷ marks) (suc number) h = let inside = marked_inside marks number h in omega (arith, inside)

-- If no number was marked at first, none is.
pub none_marked : (count number : ℕ) → HasMark (replicate count false) number → ⊥
none_marked count number h = elim (cases_lt number count) [
  | inl below ↦ false≢true (sym (get_or-replicate count number false false below) ∙ h)
  | inr past ↦ false≢true (sym (get_or_past (replicate count false) number false (omega (arith, past, length-replicate count false))) ∙ h)
]

-- One number fewer is left.
pub count_set : (marks : List Bool) (i : ℕ) → i < length marks → get_or marks i false ≡ false → count_left (set marks i true) + 1 ≡ count_left marks
count_set marks i below none =
    let sums = sum_by-set (λ (b : Bool). cond b 0 1) marks i true false below in
    let one : cond (get_or marks i false) 0 1 ≡ 1 = ap {B = ℕ} (λ (b : Bool). cond b 0 1) none in
    omega (arith, sums, one)

-- ---- one more item that names numbers

pub none_more : (marks : List Bool) → AreMarked marks [] marks
none_more marks = record { count = refl; each = λ k. ((λ h. inl h), (λ so. elim so [ inl h ↦ h | inr never ↦ absurd (no_member k never) ])) }

pub one_marked : (marks : List Bool) (number : ℕ) → number < length marks → AreMarked marks (number ∷ []) (set marks number true)
one_marked marks number inside = record { count = length-set marks number true; each = λ k. (there k, back k) }
  where
    there : (k : ℕ) → HasMark (set marks number true) k → HasMark marks k ⊎ Contains (number ∷ []) k
    there k h = elim (cases_eq k number) [
      | inl is ↦ inr (0, omega arith, sym is)
      | inr ne ↦ inl (sym (get_or-set_other marks number k true false ne) ∙ h)
    ]

    marked : HasMark (set marks number true) number
    marked = get_or-set_same marks number true false inside

    back : (k : ℕ) → HasMark marks k ⊎ Contains (number ∷ []) k → HasMark (set marks number true) k
    back k so = elim (cases_eq k number) [
      | inl is ↦ rw is marked
      | inr ne ↦ get_or-set_other marks number k true false ne ∙ elim so [
        | inl h ↦ h
        | inr here ↦ absurd (ne (sym (one_member number k here)))
      ]
    ]

pub marked_already : (marks : List Bool) (number : ℕ) → HasMark marks number → AreMarked marks (number ∷ []) marks
marked_already marks number mark = record {
  count = refl;
  each = λ k. (
    (λ h. inl h),
    (λ so. elim so [ inl h ↦ h | inr here ↦ rw⁻¹ (one_member number k here) mark ]),
  );
}

-- Some numbers were marked, and then others.
pub both_marked : {old mid new : List Bool} {first second : List ℕ} → AreMarked old first mid → AreMarked mid second new → AreMarked old (first ++ second) new
both_marked {old} {mid} {new} {first} {second} a b = record {
  count = b.count ∙ a.count;
  each = λ k. (there k, back k);
}
  where
    along : (k : ℕ) → HasMark mid k → HasMark old k ⊎ Contains (first ++ second) k
    along k h = elim ((a.each k).0 h) [ inl so ↦ inl so | inr found ↦ inr (Contains-append_left first second k found) ]

    there : (k : ℕ) → HasMark new k → HasMark old k ⊎ Contains (first ++ second) k
    there k h = elim ((b.each k).0 h) [ inl so ↦ along k so | inr found ↦ inr (Contains-append_right first second k found) ]

    back : (k : ℕ) → HasMark old k ⊎ Contains (first ++ second) k → HasMark new k
    back k (inl h) = (b.each k).1 (inl ((a.each k).1 (inl h)))
    back k (inr h) = elim (Contains-append_cases first second k h) [
      | inl found ↦ (b.each k).1 (inl ((a.each k).1 (inr found)))
      | inr found ↦ (b.each k).1 (inr found)
    ]

module _ {T : Type 0} (names : T → List ℕ) where
  -- The numbers that one more item names were marked.
  pub next_named : {old mid new : List Bool} (all : List T) (i : ℕ) (one : T) → i < length all → one ≡ get_or all i one
      → AreMarked old (flat_map names (take i all)) mid → AreMarked mid (names one) new
      → AreMarked old (flat_map names (take (i + 1) all)) new
  next_named all i one inside is so more =
      rw⁻¹ same
      (both_marked so
      (rw (append-nil (names one)) more))
    where
      same : flat_map names (take i all) ++ flat_map names (one ∷ []) ≡ flat_map names (take (i + 1) all)
      same = sym (flat_map-append names (take i all) (one ∷ []))
          ∙ ap (λ (o : T). flat_map names (take i all ++ o ∷ [])) is
          ∙ ap (λ (os : List T). flat_map names os) (sym (take_more all i one inside))

-- ---- numbers that the edges of steps name

-- Edges name the number of the step that they leave, and those that they lead to.
pub names_from : (one : StepEdges) (number : ℕ) → one.from ≡ Some number → Contains (named_by one) number
names_from one number is = Contains-append_left (option_to_list one.from) one.to number
    (rw is (member_head number []))

pub names_to : (one : StepEdges) (number : ℕ) → Contains one.to number → Contains (named_by one) number
names_to one number h = Contains-append_right (option_to_list one.from) one.to number h

pub names_only : (one : StepEdges) (number : ℕ) → Contains (named_by one) number → (one.from ≡ Some number) ⊎ Contains one.to number
names_only one number h = elim (Contains-append_cases (option_to_list one.from) one.to number h) [
  | inl left ↦ inl (is_left one.from left)
  | inr found ↦ inr found
]
  where
    is_left : (from : Option ℕ) → Contains (option_to_list from) number → from ≡ Some number
    is_left None there = absurd (no_member number there)
    is_left (Some n) (zero, below, is) = ap Some is
    is_left (Some n) (suc k, below, is) = absurd (omega (arith, below))
