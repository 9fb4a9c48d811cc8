-- Strict reading finds no fault exactly if each line is right by itself and no two directives clash.
use Rattle.std.proofs.Common.{◌≡◌, ℕ, suc, ◌+◌, ◌&&◌, not, Bool, true, false, List, [], ◌∷◌, ◌++◌, length, map, Option, Some, None, refl, sym, ap, subst, ◌∙◌, append-nil, append_assoc, arith}
use Rattle.std.specs.Prelude.{⊤, if◌then◌else◌, All, AllPairs}
use Rattle.std.specs.Option.{option_or, option_to_list}
use Rattle.std.specs.List.{AllByRecursion, cons_option, filter_map, flat_map, list_any}
use Rattle.std.specs.Str.{bytes_eq}
use Rattle.std.specs.Cmp.Lexicographic.{nat_list_eq_equiv}
use Rattle.std.proofs.lemmas.Bool.{or_from, or_parts}
use Rattle.std.proofs.lemmas.List.Elements.{All-cons, All-from_recursion, All-nil, filter_map-append, recursion_from_All}
use Rattle.std.proofs.lemmas.List.Folds.{list_any-append, list_any_none}
use Rattle.std.proofs.lemmas.List.Kept.{AllPairs-cons}
use Rattle.gm_syntax_words.specs.Words.{Word}
use Rattle.gm_syntax.specs.Document.{Line}
use Rattle.gm_file.specs.declared.fault.DirectiveKind.{DirectiveKind}
use Rattle.gm_file.specs.declared.verb.Verb.{Verb}
use Rattle.gm_file.specs.Directives.{Strict, Left, Right, Folder, Module, Replacing, Directive, DeclaresModule, DeclaresGo, Requires, Excludes, Replaces, Retracts, Kept, LineInBlock, Item, Silent, Opening, Saying, directive_in, item_at, directive_said, with_blocks}
use Rattle.gm_file.specs.Faults.{Fault, directive_kinds, entry_kinds, fault_of, faults, faults_after, is_conflict, is_module, is_same_left, is_same_right, is_same_version, item_kinds, unless, with_before_from}
use Rattle.gm_file.specs.Pairwise.{ClashIsMutual, FaultlessIsPairwise, IsRightAlone, do_clash}
use Rattle.gm_file.proofs.First.{first-none}

-- ---- empty lists

pub nil-parts : {X : Type 0} (xs ys : List X) → xs ++ ys ≡ [] → (xs ≡ []) × (ys ≡ [])
nil-parts [] ys e = (refl, e)
nil-parts (x ∷ xs) ys e = absurd cc

pub both-nil : {X : Type 0} (xs ys : List X) → xs ≡ [] → ys ≡ [] → xs ++ ys ≡ []
both-nil xs ys e f = rw (e, f) refl

pub nil-map : {X Y : Type 0} (f : X → Y) (xs : List X) → map f xs ≡ [] → xs ≡ []
nil-map f [] e = refl
nil-map f (x ∷ xs) e = absurd cc

-- ---- which of two directives comes first doesn't matter

same-text : (a b : List ℕ) → bytes_eq a b ≡ bytes_eq b a
same-text a b = nat_list_eq_equiv.symm a b

same-version : (a b : Option (List ℕ)) → is_same_version a b ≡ is_same_version b a
same-version None None = refl
same-version None (Some w) = refl
same-version (Some v) None = refl
same-version (Some v) (Some w) = same-text v w

and-both-ways : {a b c d : Bool} → a ≡ b → c ≡ d → (a && c) ≡ (b && d)
and-both-ways e f = rw (e, f) refl

pub same-left : (a b : Left) → is_same_left a b ≡ is_same_left b a
same-left a b = and-both-ways (same-text a.path b.path) (same-version a.version b.version)

same-right : (a b : Right) → is_same_right a b ≡ is_same_right b a
same-right (Folder a) (Folder b) = same-text a b
same-right (Folder a) (Module q w) = refl
same-right (Module p v) (Folder b) = refl
same-right (Module p v) (Module q w) = and-both-ways (same-text p q) (same-text v w)

same-conflict : (a b : Replacing) → is_conflict a b ≡ is_conflict b a
same-conflict a b = and-both-ways (same-left a.0 b.0) (ap not (same-right a.1 b.1))

pub clash-mutual : (one other : Directive) → do_clash one other ≡ do_clash other one
clash-mutual (DeclaresModule p) (DeclaresModule q) = refl
clash-mutual (DeclaresGo t) (DeclaresGo u) = refl
clash-mutual (Requires p) (Requires q) = refl
clash-mutual (Excludes p) (Excludes q) = refl
clash-mutual (Replaces r) (Replaces s) = same-conflict r s
clash-mutual (Retracts a) (Retracts b) = refl
clash-mutual Kept Kept = refl
clash-mutual one other = refl

-- ---- directives of which no two clash

-- each clashes with none of the later ones
abbrev pub AreApart : List Directive → Type 0
AreApart [] = ⊤
AreApart (d ∷ ds) = (list_any (do_clash d) ds ≡ false) × AreApart ds

any-middle : (p : Directive → Bool) (xs : List Directive) (d : Directive) (ys : List Directive)
    → list_any p (xs ++ d ∷ ys) ≡ false → (p d ≡ false) × (list_any p (xs ++ ys) ≡ false)
any-middle p [] d ys e = or_parts _ _ e
any-middle p (x ∷ xs) d ys e =
    let parts = or_parts _ _ e in
    let rest = any-middle p xs d ys parts.1 in
    (rest.0, or_from _ _ parts.0 rest.1)

middle-any : (p : Directive → Bool) (xs : List Directive) (d : Directive) (ys : List Directive) → p d ≡ false
    → list_any p (xs ++ ys) ≡ false → list_any p (xs ++ d ∷ ys) ≡ false
middle-any p [] d ys one none = or_from _ _ one none
middle-any p (x ∷ xs) d ys one none =
    let parts = or_parts _ _ none in
    or_from _ _ parts.0 (middle-any p xs d ys one parts.1)

-- one more, at any place, that clashes with none of them
pub apart-with : (xs : List Directive) (d : Directive) (ys : List Directive) → list_any (do_clash d) (xs ++ ys) ≡ false
    → AreApart (xs ++ ys) → AreApart (xs ++ d ∷ ys)
apart-with [] d ys clear apart = (clear, apart)
apart-with (x ∷ xs) d ys clear apart =
    let parts = or_parts _ _ clear in
    (middle-any (do_clash x) xs d ys (clash-mutual x d ∙ parts.0) apart.0, apart-with xs d ys parts.1 apart.1)

-- one clashes with none of the others
apart-but : (xs : List Directive) (d : Directive) (ys : List Directive) → AreApart (xs ++ d ∷ ys)
    → (list_any (do_clash d) (xs ++ ys) ≡ false) × AreApart (xs ++ ys)
apart-but [] d ys apart = apart
apart-but (x ∷ xs) d ys apart =
    let here = any-middle (do_clash x) xs d ys apart.0 in
    let rest = apart-but xs d ys apart.1 in
    (or_from _ _ (clash-mutual d x ∙ here.0) rest.0, (here.1, rest.1))

none-pass : (p : Directive → Bool) (ds : List Directive) → list_any p ds ≡ false → All (λ d. p d ≡ false) ds
none-pass p [] e = All-nil _
none-pass p (d ∷ ds) e = let parts = or_parts _ _ e in All-cons (λ d. p d ≡ false) d ds parts.0 (none-pass p ds parts.1)

apart-pairs : (ds : List Directive) → AreApart ds → AllPairs (λ one other. do_clash one other ≡ false) ds
apart-pairs [] apart = λ i j d before within. absurd (omega (arith, within))
apart-pairs (d ∷ ds) apart = AllPairs-cons (λ one other. do_clash one other ≡ false) d _ (none-pass _ _ apart.0) (apart-pairs ds apart.1)

pairs-apart : (ds : List Directive) → AllPairs (λ one other. do_clash one other ≡ false) ds → AreApart ds
pairs-apart [] all = tt
pairs-apart (d ∷ ds) all = (
  list_any_none (do_clash d) ds (λ k e within. all 0 (suc k) e (omega arith) (omega (arith, within))),
  pairs-apart ds (λ i j e before within. all (suc i) (suc j) e (omega (arith, before)) (omega (arith, within))),
)

-- ---- the faults of a line, by itself and with the directives before it

none-so : (a : Bool) (kind : DirectiveKind) → unless (not a) kind ≡ [] → a ≡ false
none-so true kind e = absurd cc
none-so false kind e = refl

so-none : (a : Bool) (kind : DirectiveKind) → a ≡ false → unless (not a) kind ≡ []
so-none a kind e = rw e refl

pub never : (p : Directive → Bool) (ds : List Directive) → ((d : Directive) → p d ≡ false) → list_any p ds ≡ false
never p [] none = refl
never p (d ∷ ds) none = or_from _ _ (none d) (never p ds none)

directive-parts : (earlier : List Directive) (d : Directive) → directive_kinds Strict earlier d ≡ []
    → (directive_kinds Strict [] d ≡ []) × (list_any (do_clash d) earlier ≡ false)
unfolding directive_kinds
directive-parts earlier (DeclaresModule path) e =
    let parts = nil-parts _ _ e in
    (both-nil _ [] parts.0 refl, none-so _ _ parts.1)
directive-parts earlier (DeclaresGo text) e =
    let parts = nil-parts _ _ e in
    (parts.1, none-so _ _ parts.0)
directive-parts earlier (Requires p) e = (e, never _ earlier (λ d. refl))
directive-parts earlier (Excludes p) e = (e, never _ earlier (λ d. refl))
directive-parts earlier (Replaces r) e =
    let parts = nil-parts _ _ e in
    (both-nil _ [] parts.0 refl, none-so _ _ parts.1)
directive-parts earlier (Retracts ends) e = (e, never _ earlier (λ d. refl))
directive-parts earlier Kept e = (e, never _ earlier (λ d. refl))

directive-whole : (earlier : List Directive) (d : Directive) → directive_kinds Strict [] d ≡ []
    → list_any (do_clash d) earlier ≡ false → directive_kinds Strict earlier d ≡ []
unfolding directive_kinds
directive-whole earlier (DeclaresModule path) alone clear =
    both-nil _ _ (nil-parts _ [] alone).0 (so-none _ _ clear)
directive-whole earlier (DeclaresGo text) alone clear =
    both-nil _ _ (so-none _ _ clear) alone
directive-whole earlier (Requires p) alone clear = alone
directive-whole earlier (Excludes p) alone clear = alone
directive-whole earlier (Replaces r) alone clear =
    both-nil _ _ (nil-parts _ [] alone).0 (so-none _ _ clear)
directive-whole earlier (Retracts ends) alone clear = alone
directive-whole earlier Kept alone clear = alone

-- a directive, if there is one, clashes with none of the others
abbrev pub IsClear : Option Directive → List Directive → Type 0
IsClear None others = ⊤
IsClear (Some d) others = list_any (do_clash d) others ≡ false

entry-parts : (earlier : List Directive) (verb : Verb) (o : Option Directive) → entry_kinds Strict earlier verb o ≡ []
    → (entry_kinds Strict [] verb o ≡ []) × IsClear o earlier
entry-parts earlier verb None e = (e, tt)
entry-parts earlier verb (Some d) e = directive-parts _ _ e

item-parts : (earlier : List Directive) (item : Item) → item_kinds Strict earlier item ≡ []
    → (item_kinds Strict [] item ≡ []) × IsClear (directive_in Strict item) earlier
item-parts earlier Silent e = (e, tt)
item-parts earlier (Opening verb) e = (e, tt)
item-parts earlier (Saying verb arguments) e = entry-parts _ _ _ e

entry-whole : (earlier : List Directive) (verb : Verb) (o : Option Directive) → entry_kinds Strict [] verb o ≡ []
    → IsClear o earlier → entry_kinds Strict earlier verb o ≡ []
entry-whole earlier verb None alone clear = alone
entry-whole earlier verb (Some d) alone clear = directive-whole _ _ alone clear

item-whole : (earlier : List Directive) (item : Item) → item_kinds Strict [] item ≡ []
    → IsClear (directive_in Strict item) earlier → item_kinds Strict earlier item ≡ []
item-whole earlier Silent alone clear = alone
item-whole earlier (Opening verb) alone clear = alone
item-whole earlier (Saying verb arguments) alone clear = entry-whole _ _ _ alone clear

-- ---- line after line

-- each line has no fault after the earlier directives and those of the lines before it
abbrev AreInTurn : List Directive → List (LineInBlock Word) → Type 0
AreInTurn earlier [] = ⊤
AreInTurn earlier (line ∷ lines) = (item_kinds Strict earlier (item_at line) ≡ []) × AreInTurn (earlier ++ option_to_list (directive_said Strict line)) lines

more-said : (before : List (LineInBlock Word)) (line : LineInBlock Word)
    → filter_map (directive_said Strict) (before ++ line ∷ []) ≡ filter_map (directive_said Strict) before
    ++ option_to_list (directive_said Strict line)
more-said before line = filter_map-append (directive_said Strict) _ _
    ∙ ap (λ ds. filter_map (directive_said Strict) before ++ ds) (as-list _)
  where
    as-list : (o : Option Directive) → cons_option o [] ≡ option_to_list o
    as-list None = refl
    as-list (Some d) = refl

in-turn : (before : List (LineInBlock Word)) (earlier : List Directive) (lines : List (LineInBlock Word)) → filter_map (directive_said Strict) before ≡ earlier
    → flat_map (faults_after Strict) (with_before_from before lines) ≡ [] → AreInTurn earlier lines
in-turn before earlier [] is none = tt
in-turn before earlier (line ∷ lines) is none =
    let parts = nil-parts _ _ none in
    let kinds = nil-map _ _ parts.0 in (
      subst (λ (ds : List Directive). item_kinds Strict ds (item_at line) ≡ []) is kinds,
      in-turn (before ++ line ∷ []) (earlier ++ option_to_list (directive_said Strict line)) lines (more-said _ _ ∙ rw is)
          parts.1,
    )

from-turn : (before : List (LineInBlock Word)) (earlier : List Directive) (lines : List (LineInBlock Word))
    → filter_map (directive_said Strict) before ≡ earlier
    → AreInTurn earlier lines → flat_map (faults_after Strict) (with_before_from before lines) ≡ []
from-turn before earlier [] is turn = refl
from-turn before earlier (line ∷ lines) is turn =
    let kinds : item_kinds Strict (filter_map (directive_said Strict) before) (item_at line) ≡ [] =
    rw is turn.0 in
    both-nil _ _ (ap (map (λ (kind : DirectiveKind). (length before + 1, kind))) kinds)
    (from-turn (before ++ line ∷ []) (earlier ++ option_to_list (directive_said Strict line)) lines (more-said _ _ ∙ rw is)
    turn.1)

one-next : (earlier : List Directive) (o : Option Directive) (rest : List Directive) → (earlier ++ option_to_list o) ++ rest ≡ earlier ++ cons_option o rest
one-next earlier None rest = rw (append-nil earlier)
one-next earlier (Some d) rest = append_assoc earlier _ _

apart-more : (earlier : List Directive) (o : Option Directive) → IsClear o earlier → AreApart earlier → AreApart (earlier ++ option_to_list o)
apart-more earlier None clear apart = rw (append-nil earlier) apart
apart-more earlier (Some d) clear apart =
    let same = sym (append-nil earlier) in
    apart-with _ _ [] (rw same at clear) (rw same at apart)

clear-before : (earlier : List Directive) (o : Option Directive) (rest : List Directive) → AreApart (earlier ++ cons_option o rest) → IsClear o earlier
clear-before earlier None rest apart = tt
clear-before earlier (Some d) rest apart =
    (or_parts _ (list_any (do_clash d) rest) (sym (list_any-append (do_clash d) earlier rest) ∙ (apart-but _ _ _ apart).0)).0

turn-apart : (earlier : List Directive) (lines : List (LineInBlock Word)) → AreApart earlier → AreInTurn earlier lines
    → AllByRecursion IsRightAlone lines × AreApart (earlier ++ filter_map (directive_said Strict) lines)
turn-apart earlier [] apart turn = (tt, rw (append-nil earlier) apart)
turn-apart earlier (line ∷ lines) apart turn =
    let parts = item-parts _ _ turn.0 in
    let rest = turn-apart (earlier ++ option_to_list (directive_said Strict line)) lines (apart-more _ _ parts.1 apart) turn.1 in
    ((parts.0, rest.0), rw (one-next earlier (directive_said Strict line) (filter_map (directive_said Strict) lines)) at rest.1)

apart-turn : (earlier : List Directive) (lines : List (LineInBlock Word)) → AllByRecursion IsRightAlone lines
    → AreApart (earlier ++ filter_map (directive_said Strict) lines) → AreInTurn earlier lines
apart-turn earlier [] alone apart = tt
apart-turn earlier (line ∷ lines) alone apart =
    let rest : List Directive = filter_map (directive_said Strict) lines in (
      item-whole earlier (item_at line) alone.0 (clear-before earlier (directive_said Strict line) rest apart),
      apart-turn (earlier ++ option_to_list (directive_said Strict line)) lines alone.1
          (rw (one-next earlier (directive_said Strict line) rest) apart),
    )

-- ---- whole files

option_or_parts : {X : Type 0} (a b : Option X) → option_or a b ≡ None → (a ≡ None) × (b ≡ None)
option_or_parts None b e = (refl, e)
option_or_parts (Some x) b e = absurd cc

none-missing : (fault : Fault) (b : Bool) → (if b then None else Some fault) ≡ None → b ≡ true
none-missing fault true e = refl
none-missing fault false e = absurd cc

-- the same as `ArePairwiseRight`, by recursion
pub record AreRightApart (lines : List (LineInBlock Word)) : Type 0 where
  pub alone : AllByRecursion IsRightAlone lines
  pub apart : AreApart (filter_map (directive_said Strict) lines)
  pub declared : list_any is_module (filter_map (directive_said Strict) lines) ≡ true

pub faultless-apart : (lines : List (Line Word)) → fault_of Strict lines ≡ None → AreRightApart (with_blocks lines)
unfolding fault_of faults
faultless-apart lines none =
    let parts = option_or_parts _ _ none in
    let right = turn-apart [] _ tt (in-turn [] [] _ refl (first-none _ parts.0)) in
    record { alone = right.0; apart = right.1; declared = none-missing _ _ parts.1 }

pub apart-faultless : (lines : List (Line Word)) → AreRightApart (with_blocks lines) → fault_of Strict lines ≡ None
unfolding fault_of faults
apart-faultless lines right =
    let none : flat_map (faults_after Strict) (with_before_from [] (with_blocks lines)) ≡ [] =
    from-turn [] [] _ refl (apart-turn [] _ right.alone right.apart) in
    rw (none, right.declared) refl

-- ---- the laws

pub faultless_is_pairwise : FaultlessIsPairwise
faultless_is_pairwise lines = (
  λ none.
      let right = faultless-apart _ none in
      record {
        alone = All-from_recursion _ _ right.alone;
        apart =
            apart-pairs _ right.apart;
        declared = right.declared;
      },
  λ right. apart-faultless _ (record {
    alone = recursion_from_All _ _ right.alone;
    apart = pairs-apart _ right.apart;
    declared = right.declared;
  }),
)

pub clash_is_mutual : ClashIsMutual
clash_is_mutual = clash-mutual
