-- The world of a main file that requires too many modules.
use Rattle.std.proofs.Common.{◌≡◌, ◌++◌, ◌<◌, ◌≤◌, ◌^◌, ℕ, zero, suc, Bool, false, List, [], ◌∷◌, None, Option, Some, Result, Ok, Err, Contains, ap, arith, codes, inl, inr, length, refl, subst, sym}
use Rattle.std.specs.Prelude.{if◌then◌else◌}
use Rattle.std.specs.Fmt.{decimal}
use Rattle.std.specs.Option.{option_map}
use Rattle.std.specs.List.{AllByRecursion, IsDistinct}
use Rattle.std.proofs.lemmas.Bool.{false_from_ne_true}
use Rattle.std.proofs.lemmas.Fmt.{decimal_injective}
use Rattle.std.proofs.lemmas.List.{append_cancel_left}
use Rattle.page.specs.Asked.{Name, Reply}
use Rattle.page.specs.Directives.{Replacing}
use Rattle.page.specs.Fields.{Dependency}
use Rattle.page.specs.Files.{main_in}
use Rattle.page.specs.Files.RowFiles.{at, corp_file, first_of, full_file, many_file, many_text, most_opened, one_file, versions_below, wide_file, wide_text}
use Rattle.page.specs.Main.{Main, without_excluded}
use Rattle.page.specs.ModuleVersion.{ModuleVersion, pair_eq}
use Rattle.page.specs.Queries.{bad_sums, too_many}
use Rattle.page.specs.Run.{AreTooMany, IsDeep, IsOpened, IsTop, from_deep, from_main, from_top}
use Rattle.page.specs.Sayings.{Requires, Run, answered, run_of, sound}
use Rattle.page.specs.Path.{is_fetchable}
use Rattle.page.specs.Types.{Class, Misreading, Missing, Unknown}
use Rattle.page.specs.Worlds.Rows.{TooManyAreReported, all_absent, wide_answers}
use Rattle.page.proofs.Ending.{IsReadable, all_read}
use Rattle.page.proofs.Others.{none_deep}
use Rattle.page.proofs.Saying.{as_class, checked, said_of}
use Rattle.page.proofs.Members.{few_members, pair_same, text_itself}

abbrev version : ℕ → ModuleVersion
version n = at (codes "a") (codes "v0.0." ++ decimal n)

length_is : (n : ℕ) → length (versions_below n) ≡ n
unfolding versions_below
length_is zero = refl
length_is (suc n) = ap suc (length_is n)

-- ---- they differ

unlike : (m n : ℕ) → n < m → m < 2 ^ 64 → pair_eq (version m) (version n) ≡ false
unlike m n below few = false_from_ne_true _ (λ e.
    let same : version m ≡ version n = pair_same (version m) (version n) e in
    let texts : codes "v0.0." ++ decimal m ≡ codes "v0.0." ++ decimal n = ap (λ (x : ModuleVersion). x.1) same in
    let one = decimal_injective m n few (omega (arith, below, few)) (append_cancel_left (codes "v0.0.") (decimal m) (decimal n) texts) in
    omega (arith, below, one))

unlike_below : (m n : ℕ) → n ≤ m → m < 2 ^ 64 → AllByRecursion (λ (y : ModuleVersion). pair_eq (version m) y ≡ false) (versions_below n)
unfolding versions_below
unlike_below m zero below few = tt
unlike_below m (suc n) below few = (unlike m n (omega (arith, below)) few, unlike_below m n (omega (arith, below)) few)

distinct_below : (n : ℕ) → n < 2 ^ 64 → IsDistinct pair_eq (versions_below n)
unfolding versions_below IsDistinct
distinct_below zero few = tt
distinct_below (suc n) few = (unlike_below n n (omega arith) (omega (arith, few)), distinct_below n (omega (arith, few)))

-- ---- they are required

none_excluded : (xs : List ModuleVersion) → without_excluded many_file xs ≡ xs
none_excluded [] = refl
none_excluded (x ∷ xs) = ap (λ (ys : List ModuleVersion). x ∷ ys) (none_excluded xs)

abbrev chosen : Bool → Result Main (ℕ × Misreading)
chosen b = if b then Ok many_file else Err (1, Unknown)

is_main : main_in many_text ≡ Ok many_file
is_main = ap chosen (text_itself many_text)

-- a main file that differs in its replaces alone
module _ (replaces : List Replacing) (asked : List (Name × Reply)) where
  abbrev main : Main
  main = record many_file { replaces = replaces }

  are_too_many : AreTooMany (run_of main None asked)
  are_too_many = (
    versions_below (suc most_opened),
    subst (λ (n : ℕ). most_opened < n) (sym (length_is (suc most_opened))) (omega arith),
    record {
      once = distinct_below (suc most_opened) (omega arith);
      each = λ x there. inl (subst (λ (xs : List ModuleVersion). Contains xs x) (sym (none_excluded (versions_below (suc most_opened)))) there);
    },
  )

abbrev many_absent : List (Name × Reply)
many_absent = all_absent (versions_below (suc most_opened))

absent_read : (xs : List ModuleVersion) → AllByRecursion (IsReadable None) (all_absent xs)
absent_read [] = tt
absent_read (x ∷ xs) = (λ name. (Err Missing, refl), absent_read xs)

-- ---- as many as may be opened

abbrev full : Run
full = run_of full_file None []

nothing_said : (x y : ModuleVersion) → Requires full x y → ⊥
nothing_said x y (file, sound (answered reply may at is) right, there) = cc at

full_top : (x : ModuleVersion) → IsDeep full x → IsTop full x
full_top x (from_main unpruned top) = top
full_top y (from_top {x = x} file top tells unpruned there) = absurd (nothing_said x y (file, tells, there))
full_top y (from_deep {x = x} is requires) = absurd (nothing_said x y requires)

top_of : (x : ModuleVersion) → IsOpened full x → IsTop full x
top_of x (inl top) = top
top_of x (inr deep) = full_top x deep

all_kept : (xs : List ModuleVersion) → without_excluded full_file xs ≡ xs
all_kept [] = refl
all_kept (x ∷ xs) = ap (λ (ys : List ModuleVersion). x ∷ ys) (all_kept xs)

not_too_many : AreTooMany full → ⊥
not_too_many (xs, over, are) =
    let all = few_members xs (versions_below most_opened) are.once
    (λ x there. subst (λ (ys : List ModuleVersion). Contains ys x) (all_kept (versions_below most_opened)) (top_of x (are.each x there))) in
    omega (arith, all, length_is most_opened, over)

-- ---- more than that below a pruned file

abbrev a : ModuleVersion
a = first_of (codes "a")

abbrev read_if : Bool → Option (Result Dependency Class)
read_if b = option_map (checked a None) (Some (as_class (if b then Ok wide_file else Err (1, Unknown))))

wide_says : said_of one_file None wide_answers a ≡ Some (Ok wide_file)
unfolding is_fetchable
wide_says = ap read_if (text_itself wide_text)

only_a : (x : ModuleVersion) → IsOpened (run_of one_file None wide_answers) x → Contains (a ∷ []) x
only_a x (inl top) = top
only_a x (inr deep) = absurd (none_deep wide_answers wide_file wide_says refl x deep)

not_wide : AreTooMany (run_of one_file None wide_answers) → ⊥
not_wide (xs, over, are) =
    let all : length xs ≤ 1 = few_members xs (a ∷ []) are.once (λ x there. only_a x (are.each x there)) in omega (arith, all, over)

pub too_many_are_reported : TooManyAreReported
too_many_are_reported = record {
  over = too_many many_file None (record { main_file = is_main; sums = tt }) (all_read many_file None [] tt)
      (are_too_many [] []) refl refl;
  asked = too_many many_file None (record { main_file = is_main; sums = tt })
      (all_read many_file None many_absent (absent_read (versions_below (suc most_opened)))) (are_too_many [] many_absent) refl refl;
  corp = are_too_many corp_file.replaces [];
  full = not_too_many;
  unopened = not_wide;
  sums = bad_sums many_file _ is_main refl (search) refl;
}
