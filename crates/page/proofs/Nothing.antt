-- Runs without an outcome.
use Rattle.std.proofs.Common.{◌≡◌, ◌∙◌, ◌≤◌, ℕ, List, [], ◌∷◌, Option, None, Some, Ok, Err, arith, codes, inl, inr, length, refl, subst, sym}
use Rattle.std.specs.List.{IsDistinct}
use Rattle.std.proofs.lemmas.Bool.{false≢true}
use Rattle.page.specs.Asked.{Name, Reply, names_in, same_name}
use Rattle.page.specs.Files.{main_in}
use Rattle.page.specs.Files.RowFiles.{alone_file, alone_text, bare_file, first_of, one_file, one_text}
use Rattle.page.specs.Files.RowFiles.{most_opened}
use Rattle.page.specs.Main.{Main, without_excluded}
use Rattle.page.specs.ModuleVersion.{ModuleVersion}
use Rattle.page.specs.Queries.{AreFound, Given, IsUnasked, bad_main, bad_sums, device, faulty, no_fault, too_many}
use Rattle.page.specs.Path.{is_fetchable}
use Rattle.page.specs.Run.{AreTooMany, IsDeep, IsDue, IsNeeded, IsOpened, IsTop, from_deep, from_main, from_top}
use Rattle.page.specs.Sayings.{Requires, Run, run_of}
use Rattle.page.specs.Types.{AreSums, Fault, Misreading, Sums}
use Rattle.page.specs.Worlds.{HasNoOutcome, failing, given_by}
use Rattle.page.specs.Worlds.Rows.{OthersHaveNone, a_bare, a_name}
use Rattle.page.proofs.Members.{each_member, few_members, no_member}
use Rattle.page.proofs.OneOutcome.{not_both, one_main}
use Rattle.page.proofs.Saying.{required_in, said_of, says}

-- ---- lists, and what files say

pub no_cons : {X : Type 0} (x : X) (xs : List X) → x ∷ xs ≡ [] → ⊥
no_cons x xs e = cc e

pub same_one : {X : Type 0} (x y : X) → x ∷ [] ≡ y ∷ [] → x ≡ y
same_one x y e = cc e

pub some_not_none : {X : Type 0} (a : X) → Some a ≡ None → ⊥
some_not_none a e = cc e

-- ---- a main file that is invalid

pub no_main : (run : Given) (place : ℕ × Misreading) → main_in run.file ≡ Err place → run.sums ≡ None
    → (IsUnasked run.answers → ⊥) → HasNoOutcome run
no_main run place is none asks outcome (bad_main other misread unasked says) = asks unasked
no_main run place is none asks outcome (bad_sums main report read bad unasked says) = not_both main place (sym read ∙ is)
no_main run place is none asks outcome (device main table name read due failed says) = not_both main place (sym read.main_file ∙ is)
no_main run place is none asks outcome (too_many main table read readable over unfailed says) = not_both main place (sym read.main_file ∙ is)
no_main run place is none asks outcome (faulty main table first others found says) = not_both main place (sym found.read.main_file ∙ is)
no_main run place is none asks outcome (no_fault main table found prints) = not_both main place (sym found.read.main_file ∙ is)

-- ---- a main file whose modules require nothing

module _ (content : List ℕ) (main : Main) (asked : List (Name × Reply)) (failed : List Name) (is_main : main_in content ≡ Ok main) where
  abbrev run : Run
  run = run_of main None asked

  abbrev given : Given
  given = record { file = content; sums = None; answers = record { asked = asked; failed = failed } }

  module _ (bare : (x : ModuleVersion) → IsTop run x → (y : ModuleVersion) → Requires run x y → ⊥) where
    deep_is_top : (x : ModuleVersion) → IsDeep run x → IsTop run x
    deep_is_top x (from_main unpruned top) = top
    deep_is_top y (from_top {x = x} file top tells unpruned there) = absurd (bare x top y (file, tells, there))
    deep_is_top y (from_deep {x = x} is requires) = absurd (bare x (deep_is_top x is) y requires)

    opened_is_top : (x : ModuleVersion) → IsOpened run x → IsTop run x
    opened_is_top x (inl top) = top
    opened_is_top x (inr is) = deep_is_top x is

    not_over : length (without_excluded main main.requirements) ≤ most_opened → AreTooMany run → ⊥
    not_over few (xs, over, are) =
        let all = few_members xs (without_excluded main main.requirements) are.once (λ x there. opened_is_top x (are.each x there)) in
        omega (arith, all, few, over)

    none_ends : length (without_excluded main main.requirements) ≤ most_opened → ((name : Name) → failed ≡ name ∷ [] → IsDue run name → ⊥)
        → ((faults : List Fault) → AreFound given main None faults → ⊥) → HasNoOutcome given
    none_ends few undue unfound outcome (bad_main place misread unasked is) = not_both main place (sym is_main ∙ misread)
    none_ends few undue unfound outcome (bad_sums other report is bad unasked says) = bad
    none_ends few undue unfound outcome (device other (Some table) name read due fails is) = read.sums
    none_ends few undue unfound outcome (device other None name read due fails is) =
        undue name fails (subst (λ (m : Main). IsDue (run_of m None asked) name) (one_main content other main read.main_file is_main) due)
    none_ends few undue unfound outcome (too_many other (Some table) read readable over unfailed is) = read.sums
    none_ends few undue unfound outcome (too_many other None read readable over unfailed is) =
        not_over few (subst (λ (m : Main). AreTooMany (run_of m None asked)) (one_main content other main read.main_file is_main) over)
    none_ends few undue unfound outcome (faulty other (Some table) first others found is) = found.read.sums
    none_ends few undue unfound outcome (faulty other None first others found is) =
        unfound (first ∷ others) (subst (λ (m : Main). AreFound given m None (first ∷ others)) (one_main content other main found.read.main_file is_main) found)
    none_ends few undue unfound outcome (no_fault other (Some table) found prints) = found.read.sums
    none_ends few undue unfound outcome (no_fault other None found prints) =
        unfound [] (subst (λ (m : Main). AreFound given m None []) (one_main content other main found.read.main_file is_main) found)

-- ---- worlds

alone_is_bare : (asked : List (Name × Reply)) (x : ModuleVersion) → IsTop (run_of alone_file None asked) x
    → (y : ModuleVersion) → Requires (run_of alone_file None asked) x y → ⊥
alone_is_bare asked x top y requires = no_member x top

nothing_failed : (asked : List (Name × Reply)) (main : Main) (name : Name) → ◌≡◌ {A = List Name} [] (name ∷ []) → IsDue (run_of main None asked) name → ⊥
nothing_failed asked main name e due = cc e

unanswered : said_of one_file None [] (first_of (codes "a")) ≡ None
unfolding is_fetchable
unanswered = refl

a_says_nothing : (y : ModuleVersion) → Requires (run_of one_file None []) (first_of (codes "a")) y → ⊥
a_says_nothing y (file, tells, there) = some_not_none _ (sym (says one_file None [] (first_of (codes "a")) (Ok file) tells) ∙ unanswered)

a_needed : (asked : List (Name × Reply)) → IsNeeded (run_of one_file None asked) a_name
unfolding is_fetchable
a_needed asked = (first_of (codes "a"), inl (0, omega arith, refl), refl, refl)

none_unasked : HasNoOutcome (given_by one_text [])
none_unasked = none_ends one_text one_file [] [] refl
    (each_member (λ (x : ModuleVersion). (y : ModuleVersion) → Requires (run_of one_file None []) x y → ⊥) (first_of (codes "a") ∷ []) (a_says_nothing, tt))
    (omega arith) (nothing_failed [] one_file) (λ faults found. no_member a_name ((found.settled.needed a_name).1 (a_needed [])))

not_needed : (asked : List (Name × Reply)) (name : Name) → IsNeeded (run_of alone_file None asked) name → ⊥
not_needed asked name (x, opens, is, may) =
    no_member x (opened_is_top alone_text alone_file asked [] refl (alone_is_bare asked) x opens)

none_unneeded : HasNoOutcome (given_by alone_text (a_bare ∷ []))
none_unneeded = none_ends alone_text alone_file (a_bare ∷ []) [] refl (alone_is_bare (a_bare ∷ [])) (omega arith) (nothing_failed (a_bare ∷ []) alone_file)
    (λ faults found. not_needed (a_bare ∷ []) a_name ((found.settled.needed a_name).0 (0, omega arith, refl)))

none_failed : HasNoOutcome (failing alone_text [] a_name)
none_failed = none_ends alone_text alone_file [] (a_name ∷ []) refl (alone_is_bare []) (omega arith)
    (λ name is due. not_needed [] name due.calls.needed) (λ faults found. no_cons a_name [] found.none_failed)

abbrev twice : List (Name × Reply)
twice = a_bare ∷ a_bare ∷ []

a_is_bare : said_of one_file None twice (first_of (codes "a")) ≡ Some (Ok (bare_file (codes "a")))
unfolding is_fetchable
a_is_bare = refl

requires_none : (y : ModuleVersion) → Requires (run_of one_file None twice) (first_of (codes "a")) y → ⊥
requires_none y is = no_member y (required_in one_file None twice (first_of (codes "a")) (bare_file (codes "a")) a_is_bare y is)

not_once : IsDistinct same_name (names_in twice) → ⊥
unfolding IsDistinct
not_once once = false≢true (sym once.0.0)

none_twice : HasNoOutcome (given_by one_text twice)
none_twice = none_ends one_text one_file twice [] refl
    (each_member (λ (x : ModuleVersion). (y : ModuleVersion) → Requires (run_of one_file None twice) x y → ⊥) (first_of (codes "a") ∷ []) (requires_none, tt))
    (omega arith) (nothing_failed twice one_file) (λ faults found. not_once found.settled.once)

-- its only line is invalid
abbrev bad : Option (List ℕ)
bad = Some (codes "a b\n")

not_read : (table : Option Sums) → AreSums bad table → ⊥
not_read None is = is
not_read (Some table) is = cc is

-- a file was asked for beside it, or the device failed on one
beside_bad : (content : List ℕ) (main : Main) (asked : List (Name × Reply)) (failed : List Name) → main_in content ≡ Ok main
    → (IsUnasked (record { asked = asked; failed = failed }) → ⊥)
    → HasNoOutcome (record { file = content; sums = bad; answers = record { asked = asked; failed = failed } })
beside_bad content main asked failed is_main asks outcome (bad_main place misread unasked is) = not_both main place (sym is_main ∙ misread)
beside_bad content main asked failed is_main asks outcome (bad_sums other report is invalid unasked says) = asks unasked
beside_bad content main asked failed is_main asks outcome (device other table name read due fails is) = not_read table read.sums
beside_bad content main asked failed is_main asks outcome (too_many other table read readable over unfailed is) = not_read table read.sums
beside_bad content main asked failed is_main asks outcome (faulty other table first others found is) = not_read table found.read.sums
beside_bad content main asked failed is_main asks outcome (no_fault other table found prints) = not_read table found.read.sums

pub others_have_none : OthersHaveNone
others_have_none = record {
  unasked = none_unasked;
  unneeded = none_unneeded;
  twice = none_twice;
  failed = none_failed;
  beside_sums = beside_bad alone_text alone_file (a_bare ∷ []) [] refl (λ unasked. no_cons a_bare [] (search));
  failed_beside_sums = beside_bad one_text one_file [] (a_name ∷ []) refl (λ unasked. no_cons a_name [] (search));
}
