-- How a run ends, computed from its bytes and answers alone, and proved to be how it ends if a test passes.
use Rattle.std.proofs.Common.{◌≡◌, ◌∙◌, ◌++◌, ◌&&◌, ◌||◌, ◌≤◌, ◌⊎◌, ℕ, zero, suc, Bool, true, false, List, [], ◌∷◌, Option, Some, None, Result, Ok, Err, Contains, ap, ap₂, inl, inr, length, map, nat_eq, not, refl, subst, sym}
use Rattle.std.specs.Prelude.{if◌then◌else◌, filter, nat_le}
use Rattle.std.specs.Cmp.Lexicographic.{pointwise, same_text}
use Rattle.std.specs.List.{AllByRecursion, IsDistinct}
use Rattle.std.specs.Option.{option_map}
use Rattle.std.specs.declared.cmp.Ordering.{Ordering}
use Rattle.std.specs.declared.cmp.Ordering.TheVariants.{Less, Equal, Greater}
use Rattle.std.proofs.lemmas.Bool.{and_parts, false≢true, leb-true, not-true, or_cases}
use Rattle.std.proofs.lemmas.Option.{same_Some}
use Rattle.page.specs.Asked.{Name, Reply, absent, answer_in, bytes, folder_file, list_file, mod_file, names_in, same_name, too_long}
use Rattle.page.specs.BuildList.{HasEntryFor, IsRestAfter, entry_of, main_entry, path_cmp, path_of}
use Rattle.page.specs.Entries.{Entry}
use Rattle.page.specs.Fields.{Dependency}
use Rattle.page.specs.Files.{main_in, said_in, sum_fault}
use Rattle.page.specs.Files.RowFiles.{most_opened}
use Rattle.page.specs.ListQuery.{list_text, up_to, ListEnds, PrintsRows, no_path, path_listed, path_unlisted}
use Rattle.page.specs.Main.{Main, is_pruned_by, replacement_in, without_excluded}
use Rattle.page.specs.ModuleVersion.{ModuleVersion, pair_cmp}
use Rattle.page.specs.Outcome.{Outcome, refusal_outcome, text_outcome}
use Rattle.page.specs.Queries.{AreFound, faulty as some_faulty, no_fault}
use Rattle.page.specs.Reading.{IsContentReading, IsFileReading, IsReadUnless, file_of, is_askable, is_right_path}
use Rattle.page.specs.Reports.{faults_text, not_listed_line}
use Rattle.page.specs.Run.{IsRead}
use Rattle.page.specs.Sayings.{FileSays, Run, Says, answered, faulty, run_of, sound, unaskable, wrong_path}
use Rattle.page.specs.Types.{AreSums, BadVersion, Class, Fault, Misreading, Missing, NoModule, Sums, TooLong, TooMany, Unknown, WrongArguments, WrongPath}
use Rattle.page.specs.Worlds.{given_with}
use Rattle.page.proofs.Ending.{IsReadable, all_read}
use Rattle.page.proofs.Members.{Pairs, differ, member_cases, member_head, member_tail, no_member}
use Rattle.page.proofs.RowsTable.{IsAsked, IsReported, IsTable, Row, are_in, are_members, either_side, ends_of, every, fault_with, firsts, found_with, gathered, has, in_left, in_right, is_bounded, is_no_greater, is_reached, is_selection, is_shallow, rows_from, some, some_one}
use Rattle.page.proofs.Saying.{as_class, checked, file_said, reads, said_of}

-- ---- lists

module _ {T : Type 0} where
  all_so : (P : T → Type 0) (p : T → Bool) → ((x : T) → p x ≡ true → P x) → (xs : List T) → every p xs ≡ true → AllByRecursion P xs
  all_so P p so [] h = tt
  all_so P p so (x ∷ xs) h = let parts = and_parts (p x) (every p xs) h in (so x parts.0, all_so P p so xs parts.1)

  abbrev are_distinct : (T → T → Bool) → List T → Bool
  are_distinct eq [] = true
  are_distinct eq (x ∷ xs) = every (λ (y : T). not (eq x y)) xs && are_distinct eq xs

  distinct_so : (eq : T → T → Bool) (xs : List T) → are_distinct eq xs ≡ true → IsDistinct eq xs
  unfolding IsDistinct
  distinct_so eq [] h = tt
  distinct_so eq (x ∷ xs) h =
      let parts = and_parts (every (λ (y : T). not (eq x y)) xs) (are_distinct eq xs) h in
      (all_so (λ (y : T). eq x y ≡ false) (λ (y : T). not (eq x y)) (λ y is. not-true (eq x y) is) xs parts.0, distinct_so eq xs parts.1)

abbrev is_less : Ordering → Bool
is_less Less = true
is_less Equal = false
is_less Greater = false

less_so : (o : Ordering) → is_less o ≡ true → o ≡ Less
less_so Less h = refl
less_so Equal h = absurd (false≢true h)
less_so Greater h = absurd (false≢true h)

module _ {T : Type 0} (cmp : T → T → Ordering) where
  abbrev ascends : List T → Bool
  ascends [] = true
  ascends (x ∷ xs) = every (λ (y : T). is_less (cmp x y)) xs && ascends xs

  ascends_so : (xs : List T) → ascends xs ≡ true → Pairs (λ (a b : T). cmp a b ≡ Less) xs
  ascends_so [] h = tt
  ascends_so (x ∷ xs) h =
      let parts = and_parts (every (λ (y : T). is_less (cmp x y)) xs) (ascends xs) h in
      (all_so (λ (y : T). cmp x y ≡ Less) (λ (y : T). is_less (cmp x y)) (λ y is. less_so (cmp x y) is) xs parts.0, ascends_so xs parts.1)

-- the modules and others, each once
abbrev joined : List ModuleVersion → List ModuleVersion → List ModuleVersion
joined xs [] = xs
joined xs (y ∷ ys) = if has xs y then joined xs ys else joined (xs ++ y ∷ []) ys

abbrev inserted : ModuleVersion → List ModuleVersion → List ModuleVersion
inserted x [] = x ∷ []
inserted x (y ∷ ys) = if is_less (pair_cmp x y) then x ∷ y ∷ ys else y ∷ inserted x ys

abbrev sorted : List ModuleVersion → List ModuleVersion
sorted [] = []
sorted (x ∷ xs) = inserted x (sorted xs)

-- ---- answers

abbrev can_be_told : Result Dependency (ℕ × Misreading) → Bool
can_be_told (Err (line, TooMany)) = false
can_be_told _ = true

content_so : (content : List ℕ) (r : Result Dependency (ℕ × Misreading)) → said_in content ≡ r → can_be_told r ≡ true → IsContentReading content (as_class r)
content_so content (Ok file) e h = e
content_so content (Err (line, TooMany)) e h = absurd (false≢true h)
content_so content (Err (line, NoModule)) e h = e
content_so content (Err (line, WrongArguments)) e h = e
content_so content (Err (line, Unknown)) e h = e
content_so content (Err (line, BadVersion)) e h = e

abbrev is_readable : Reply → Bool
is_readable absent = true
is_readable too_long = true
is_readable (bytes content) = can_be_told (said_in content)

unless_so : (fault : Option Class) (content : List ℕ) → can_be_told (said_in content) ≡ true
    → (said : Result Dependency Class) × IsReadUnless fault content said
unless_so (Some class) content h = (Err class, refl)
unless_so None content h = (as_class (said_in content), content_so content (said_in content) refl h)

reply_so : (sums : Option Sums) (reply : Reply) → is_readable reply ≡ true → (name : Name)
    → (said : Result Dependency Class) × IsFileReading sums name reply said
reply_so sums absent h name = (Err Missing, refl)
reply_so sums too_long h name = (Err TooLong, refl)
reply_so sums (bytes content) h name = unless_so (sum_fault sums name content) content h

-- the same name; not same_name, so that a change of that is tried alone
abbrev is_name : Name → Name → Bool
is_name (mod_file p v) (mod_file q w) = pointwise nat_eq p q && pointwise nat_eq v w
is_name (folder_file t) (folder_file u) = pointwise nat_eq t u
is_name _ _ = false

name_so : (a b : Name) → is_name a b ≡ true → a ≡ b
name_so (mod_file p v) (mod_file q w) h =
    let parts = and_parts (pointwise nat_eq p q) (pointwise nat_eq v w) h in ap₂ mod_file (same_text p q (sym parts.0)) (same_text v w (sym parts.1))
name_so (folder_file t) (folder_file u) h = ap folder_file (same_text t u (sym h))
name_so (mod_file p v) (folder_file u) h = absurd (false≢true h)
name_so (mod_file p v) (list_file q) h = absurd (false≢true h)
name_so (folder_file t) (mod_file q w) h = absurd (false≢true h)
name_so (folder_file t) (list_file q) h = absurd (false≢true h)
name_so (list_file p) b h = absurd (false≢true h)

-- ---- tests

-- what a world can get wrong
pub data Failure : Type 0 where
  an_answer_says_nothing : Failure
  a_file_is_asked_for_twice : Failure
  a_file_is_not_needed : Failure
  a_needed_file_is_not_asked_for : Failure
  a_module_at_the_top_says_nothing : Failure
  a_deep_module_says_nothing : Failure
  an_opened_module_is_left_out : Failure
  a_deep_module_is_not_opened : Failure
  too_many_are_opened : Failure
  rows_do_not_ascend : Failure
  rows_are_not_those_selected : Failure
  faults_do_not_ascend : Failure
  faults_are_of_other_modules : Failure

-- Rows are printed if there is no fault.
abbrev where_printed : List Fault → Bool → Bool
where_printed [] test = test
where_printed (first ∷ others) test = true

abbrev failing : List (Bool × Failure) → List Failure
failing [] = []
failing (test ∷ tests) = if test.0 then failing tests else test.1 ∷ failing tests

abbrev Passes : Bool × Failure → Type 0
Passes test = test.0 ≡ true

all_pass : (tests : List (Bool × Failure)) → failing tests ≡ [] → AllByRecursion Passes tests
all_pass [] none = tt
all_pass (test ∷ tests) none = by_result test.0 refl none (all_pass tests)
  where
    by_result : (b : Bool) → test.0 ≡ b → (if b then failing tests else test.1 ∷ failing tests) ≡ []
        → (failing tests ≡ [] → AllByRecursion Passes tests) → AllByRecursion Passes (test ∷ tests)
    by_result true is none others = (is, others none)
    by_result false is none others = absurd (cc none)

-- ---- what follows a path

module _ (main : List ℕ) (path : List ℕ) where
  abbrev rest_of : List Entry → Option (List Entry)
  rest_of [] = None
  rest_of (entry ∷ entries) = if pointwise nat_eq (path_of main entry.0) path then Some entries else rest_of entries

  -- ---- an entry of another path comes before
  rest_later : (entry : Entry) (entries rest : List Entry) → pointwise nat_eq (path_of main entry.0) path ≡ false
      → IsRestAfter main entries path rest → IsRestAfter main (entry ∷ entries) path rest
  rest_later entry entries rest unlike (found, at) = (
    found,
    record {
      before = entry ∷ at.before;
      parts = ap (λ (es : List Entry). entry ∷ es) at.parts;
      path_is = at.path_is;
      others = λ other there. elim (member_cases entry other at.before there) [
        | inl same ↦ subst (λ (e : Entry). path_of main e.0 ≡ path → ⊥) same (differ (path_of main entry.0) path unlike)
        | inr later ↦ at.others other later
      ];
    },
  )

  rest_first : (entry : Entry) (entries : List Entry) → pointwise nat_eq (path_of main entry.0) path ≡ true → IsRestAfter main (entry ∷ entries) path entries
  rest_first entry entries like = (
    entry,
    record { before = []; parts = refl; path_is = same_text (path_of main entry.0) path (sym like); others = λ other there. absurd (no_member other there) },
  )

  rest_so : (entries rest : List Entry) → rest_of entries ≡ Some rest → IsRestAfter main entries path rest
  rest_so [] rest e = absurd (cc e)
  rest_so (entry ∷ entries) rest e = by_test (pointwise nat_eq (path_of main entry.0) path) refl e (rest_so entries rest)
    where
      by_test : (b : Bool) → pointwise nat_eq (path_of main entry.0) path ≡ b → (if b then Some entries else rest_of entries) ≡ Some rest
          → (rest_of entries ≡ Some rest → IsRestAfter main entries path rest) → IsRestAfter main (entry ∷ entries) path rest
      by_test true like f later = subst (IsRestAfter main (entry ∷ entries) path) (same_Some entries rest f) (rest_first entry entries like)
      by_test false unlike f later = rest_later entry entries rest unlike (later f)

  none_so : (entries : List Entry) → rest_of entries ≡ None → HasEntryFor main entries path → ⊥
  none_so [] e (found, there, is) = no_member found there
  none_so (entry ∷ entries) e (found, there, is) = by_test (pointwise nat_eq (path_of main entry.0) path) refl e (none_so entries)
    where
      by_test : (b : Bool) → pointwise nat_eq (path_of main entry.0) path ≡ b → (if b then Some entries else rest_of entries) ≡ None
          → (rest_of entries ≡ None → HasEntryFor main entries path → ⊥) → ⊥
      by_test true like f none = cc f
      by_test false unlike f none = elim (member_cases entry found entries there) [
        | inl same ↦ differ (path_of main entry.0) path unlike (subst (λ (e : Entry). path_of main e.0 ≡ path) (sym same) is)
        | inr later ↦ none f (found, later, is)
      ]

abbrev rest_printed : List ℕ → List ℕ → Option ℕ → Option (List Entry) → Outcome
rest_printed main path limit (Some rest) = text_outcome (list_text main (up_to limit rest))
rest_printed main path limit None = refusal_outcome (not_listed_line path)

abbrev printed : Option (List ℕ) → Option ℕ → List ℕ → List Entry → Outcome
printed None limit main rows = text_outcome (list_text main (up_to limit rows))
printed (Some path) limit main rows = rest_printed main path limit (rest_of main path rows)

printed_so : (after : Option (List ℕ)) (limit : Option ℕ) (main : Main) (rows : List Entry)
    → PrintsRows main rows after limit (printed after limit main.path rows)
printed_so None limit main rows = no_path refl refl
printed_so (Some path) limit main rows = by_rest (rest_of main.path path rows) refl
  where
    by_rest : (found : Option (List Entry)) → rest_of main.path path rows ≡ found
        → PrintsRows main rows (Some path) limit (rest_printed main.path path limit found)
    by_rest (Some rest) e = path_listed path rest refl (rest_so main.path path rows rest e) refl
    by_rest None e = path_unlisted path refl (none_so main.path path rows e, refl)

-- ---- modules

abbrev is_told : Option (Result Dependency Class) → Bool
is_told None = false
is_told (Some said) = true

abbrev told : Option (Result Dependency Class) → Result Dependency Class
told None = Err Missing
told (Some said) = said

told_so : (said : Option (Result Dependency Class)) → is_told said ≡ true → said ≡ Some (told said)
told_so None h = absurd (false≢true h)
told_so (Some said) h = refl

abbrev fault_row : ModuleVersion → Option (Result Dependency Class) → List Fault → List Fault
fault_row x (Some (Err class)) faults = fault_with x class ∷ faults
fault_row x _ faults = faults

module _ (main : Main) (sums : Option Sums) (asked : List (Name × Reply)) where
  abbrev run : Run
  run = run_of main sums asked

  file_so : IsRead run → (name : Name) (may : Bool) (reply : Option Reply) (said : Result Dependency Class) → is_askable name ≡ may
      → answer_in asked name ≡ reply → file_said sums name may reply ≡ Some said → FileSays run name said
  file_so read name false reply said is heard e = subst (FileSays run name) (same_Some _ said e) (unaskable is)
  file_so read name true None said is heard e = absurd (cc e)
  file_so read name true (Some reply) said is heard e =
      let (other, be) = read name reply heard in
      answered reply is heard (subst (IsFileReading sums name reply) (sym (reads sums name reply other be) ∙ same_Some _ said e) be)

  right_so : (x : ModuleVersion) (file : Dependency) (said : Result Dependency Class) (b : Bool) → is_right_path x (replacement_in main x) file.declared ≡ b
      → FileSays run (file_of main x) (Ok file) → (if b then Ok file else Err WrongPath) ≡ said → Says run x said
  right_so x file said true is says e = subst (Says run x) e (sound says is)
  right_so x file said false is says e = subst (Says run x) e (wrong_path file says is)

  abbrev file_in : ModuleVersion → Option (Result Dependency Class)
  file_in x = file_said sums (file_of main x) (is_askable (file_of main x)) (answer_in asked (file_of main x))

  says_so : IsRead run → (x : ModuleVersion) (said : Result Dependency Class) → said_of main sums asked x ≡ Some said → Says run x said
  says_so read x said e = by_file (file_in x) refl e
    where
      by_file : (file : Option (Result Dependency Class)) → file_in x ≡ file → option_map (checked x (replacement_in main x)) file ≡ Some said → Says run x said
      by_file None is f = absurd (cc f)
      by_file (Some (Err class)) is f = subst (Says run x) (same_Some _ said f) (faulty (file_so read (file_of main x) _ _ (Err class) refl refl is))
      by_file (Some (Ok file)) is f =
          right_so x file said _ refl (file_so read (file_of main x) _ _ (Ok file) refl refl is) (same_Some _ said f)

  abbrev row_of : ModuleVersion → Row
  row_of x = (x, told (said_of main sums asked x))

  abbrev rows_of : List ModuleVersion → List Row
  rows_of [] = []
  rows_of (x ∷ xs) = row_of x ∷ rows_of xs

  firsts_are : (xs : List ModuleVersion) → firsts (rows_of xs) ≡ xs
  firsts_are [] = refl
  firsts_are (x ∷ xs) = ap (λ (ys : List ModuleVersion). x ∷ ys) (firsts_are xs)

  abbrev are_told : List ModuleVersion → Bool
  are_told xs = every (λ (x : ModuleVersion). is_told (said_of main sums asked x)) xs

  abbrev Tells : Row → Type 0
  Tells row = Says run row.0 row.1

  told_all : IsRead run → (xs : List ModuleVersion) (more : List Row) → are_told xs ≡ true → AllByRecursion Tells more
      → AllByRecursion Tells (rows_of xs ++ more)
  told_all read [] more h rest = rest
  told_all read (x ∷ xs) more h rest =
      let parts = and_parts (is_told (said_of main sums asked x)) (are_told xs) h in
      (says_so read x (told (said_of main sums asked x)) (told_so (said_of main sums asked x) parts.0), told_all read xs more parts.1 rest)

  none_more : IsRead run → (xs : List ModuleVersion) → are_told xs ≡ true → AllByRecursion Tells (rows_of xs)
  none_more read [] h = tt
  none_more read (x ∷ xs) h =
      let parts = and_parts (is_told (said_of main sums asked x)) (are_told xs) h in
      (says_so read x (told (said_of main sums asked x)) (told_so (said_of main sums asked x) parts.0), none_more read xs parts.1)

  -- ---- what is opened

  abbrev top_modules : List ModuleVersion
  top_modules = without_excluded main main.requirements

  abbrev unpruned : List Row → List Row
  unpruned [] = []
  unpruned (row ∷ rows) = if is_shallow row.1 then unpruned rows else row ∷ unpruned rows

  abbrev started : List ModuleVersion
  started = joined (if is_pruned_by main.go then [] else top_modules) (gathered main (unpruned (rows_of top_modules)))

  abbrev grown : ℕ → List ModuleVersion → List ModuleVersion
  grown zero xs = xs
  grown (suc n) xs = grown n (joined xs (gathered main (rows_of xs)))

  -- no world is deeper
  abbrev deep_modules : List ModuleVersion
  deep_modules = grown 3 started

  abbrev tops : List Row
  tops = rows_of top_modules

  abbrev deep : List Row
  deep = rows_of deep_modules

  abbrev rows : List Row
  rows = tops ++ deep

  abbrev modules : List ModuleVersion
  modules = top_modules ++ deep_modules

  -- ---- its faults and rows

  abbrev opened : List ModuleVersion
  opened = sorted (joined [] modules)

  abbrev faults_among : List ModuleVersion → List Fault
  faults_among [] = []
  faults_among (x ∷ xs) = fault_row x (said_of main sums asked x) (faults_among xs)

  abbrev faults : List Fault
  faults = faults_among opened

  abbrev ends : List ModuleVersion
  ends = ends_of main tops deep

  -- no other end has the path and a greater version, and it is not the main module's
  abbrev is_row : ModuleVersion → Bool
  is_row x = not (pointwise nat_eq x.0 main.path) && every (is_no_greater x) ends

  abbrev selected : List ModuleVersion
  selected = filter is_row (sorted (joined [] ends))

  abbrev build_list : List Entry
  build_list = main_entry ∷ map (entry_of (replacement_in main)) selected

  abbrev ending_of : Option (List ℕ) → Option ℕ → List Fault → Outcome
  ending_of after limit [] = printed after limit main.path build_list
  ending_of after limit (first ∷ others) = refusal_outcome (faults_text (first ∷ others))

  -- how the run ends
  abbrev pub ending : Option (List ℕ) → Option ℕ → Outcome
  ending after limit = ending_of after limit faults

  -- ---- the test

  abbrev is_needed : Name → Bool
  is_needed name = some (λ (row : Row). is_name (file_of main row.0) name && is_askable name) rows

  abbrev was_asked : ModuleVersion → Bool
  was_asked x = not (is_askable (file_of main x)) || some (λ (name : Name). is_name name (file_of main x)) (names_in asked)

  abbrev tests : List (Bool × Failure)
  tests =
      (every (λ (pair : Name × Reply). is_readable pair.1) asked, an_answer_says_nothing)
      ∷ (are_distinct same_name (names_in asked), a_file_is_asked_for_twice)
      ∷ (every is_needed (names_in asked), a_file_is_not_needed)
      ∷ (every was_asked (firsts rows), a_needed_file_is_not_asked_for)
      ∷ (are_told top_modules, a_module_at_the_top_says_nothing)
      ∷ (are_told deep_modules, a_deep_module_says_nothing)
      ∷ (is_bounded main tops deep, an_opened_module_is_left_out)
      ∷ (is_reached main tops [] deep, a_deep_module_is_not_opened)
      ∷ (nat_le (length (firsts rows)) most_opened, too_many_are_opened)
      ∷ (where_printed faults (ascends path_cmp selected), rows_do_not_ascend)
      ∷ (where_printed faults (is_selection main tops deep selected), rows_are_not_those_selected)
      ∷ (ascends (λ (a b : Fault). pair_cmp a.vertex b.vertex) faults, faults_do_not_ascend)
      ∷ (are_in modules opened && are_in opened modules, faults_are_of_other_modules) ∷ []

  abbrev pub failures : List Failure
  failures = failing tests

-- ---- how the run ends

nat_le_so : (a b : ℕ) → nat_le a b ≡ true → a ≤ b
nat_le_so a b h = leb-true a b h

module _ (content : List ℕ) (text : Option (List ℕ)) (main : Main) (sums : Option Sums) (asked : List (Name × Reply))
    (is_main : main_in content ≡ Ok main) (are_sums : AreSums text sums) (none : failures main sums asked ≡ []) where
  passed : AllByRecursion Passes (tests main sums asked)
  passed = all_pass (tests main sums asked) none

  readable : AllByRecursion (IsReadable sums) asked
  readable = all_so (IsReadable sums) (λ (pair : Name × Reply). is_readable pair.1) (λ pair is name. reply_so sums pair.1 is name) asked passed.0

  read : IsRead (run main sums asked)
  read = all_read main sums asked readable

  is_table : IsTable content text main sums asked (tops main sums asked) (deep main sums asked)
  is_table = record {
    is_main = is_main;
    are_sums = are_sums;
    tops_are = firsts_are main sums asked (top_modules main sums asked);
    tells = told_all main sums asked read (top_modules main sums asked) (deep main sums asked) passed.1.1.1.1.0
        (none_more main sums asked read (deep_modules main sums asked) passed.1.1.1.1.1.0);
    bounded = passed.1.1.1.1.1.1.0;
    reached = passed.1.1.1.1.1.1.1.0;
    few = nat_le_so _ _ passed.1.1.1.1.1.1.1.1.0;
  }

  name_needed : (name : Name) → is_needed main sums asked name ≡ true
      → (row : Row) × Contains (rows main sums asked) row × (file_of main row.0 ≡ name) × (is_askable name ≡ true)
  name_needed name is =
      let (row, there, both) = some_one (λ (row : Row). is_name (file_of main row.0) name && is_askable name) (rows main sums asked) is in
      let parts = and_parts (is_name (file_of main row.0) name) (is_askable name) both in
      (row, there, name_so (file_of main row.0) name parts.0, parts.1)

  module_asked : (x : ModuleVersion) → was_asked main sums asked x ≡ true → is_askable (file_of main x) ≡ true → Contains (names_in asked) (file_of main x)
  module_asked x is askable = elim (or_cases (not (is_askable (file_of main x))) _ is) [
    | inl never ↦ absurd (false≢true (sym (not-true (is_askable (file_of main x)) never) ∙ askable))
    | inr found ↦ (let (name, there, same) = some_one (λ (name : Name). is_name name (file_of main x)) (names_in asked) found in
        subst (Contains (names_in asked)) (name_so name (file_of main x) same) there)
  ]

  are_so : IsAsked main sums asked (rows main sums asked)
  are_so = record {
    readable = readable;
    once = distinct_so same_name (names_in asked) passed.1.0;
    needed = all_so _ (is_needed main sums asked) name_needed (names_in asked) passed.1.1.0;
    were = all_so _ (was_asked main sums asked) module_asked (firsts (rows main sums asked)) passed.1.1.1.0;
  }

  -- ---- faults

  abbrev HasFault : ModuleVersion → Class → Type 0
  HasFault x class = said_of main sums asked x ≡ Some (Err class)

  fault_there : (xs : List ModuleVersion) (x : ModuleVersion) (class : Class) → Contains xs x → HasFault x class
      → Contains (faults_among main sums asked xs) (fault_with x class)
  fault_there [] x class there is = absurd (no_member x there)
  fault_there (y ∷ ys) x class there is = by_said (said_of main sums asked y) refl (member_cases y x ys there) (λ later. fault_there ys x class later is)
    where
      by_said : (said : Option (Result Dependency Class)) → said_of main sums asked y ≡ said → (y ≡ x) ⊎ Contains ys x
          → (Contains ys x → Contains (faults_among main sums asked ys) (fault_with x class))
          → Contains (fault_row y said (faults_among main sums asked ys)) (fault_with x class)
      by_said (Some (Err own)) e (inl same) rest =
          let both : Some (Err own) ≡ Some (Err class) = sym e ∙ subst (λ (z : ModuleVersion). HasFault z class) (sym same) is in
          let one : own ≡ class = cc both in
          subst (λ (z : ModuleVersion). Contains (fault_with y own ∷ faults_among main sums asked ys) (fault_with z class)) same
          (subst (λ (c : Class). Contains (fault_with y own ∷ faults_among main sums asked ys) (fault_with y c)) one
          (member_head (fault_with y own) (faults_among main sums asked ys)))
      by_said (Some (Ok file)) e (inl same) rest =
          absurd (let both : Some (Ok file) ≡ Some (Err class) = sym e ∙ subst (λ (z : ModuleVersion). HasFault z class) (sym same) is in cc both)
      by_said None e (inl same) rest =
          absurd (let both : None ≡ Some (Err class) = sym e ∙ subst (λ (z : ModuleVersion). HasFault z class) (sym same) is in cc both)
      by_said (Some (Err own)) e (inr later) rest = member_tail (fault_with y own) (fault_with x class) _ (rest later)
      by_said (Some (Ok file)) e (inr later) rest = rest later
      by_said None e (inr later) rest = rest later

  abbrev IsFrom : List ModuleVersion → Fault → Type 0
  IsFrom xs one = Contains xs one.vertex × HasFault one.vertex one.class

  fault_from : (xs : List ModuleVersion) (one : Fault) → Contains (faults_among main sums asked xs) one → IsFrom xs one
  fault_from [] one there = absurd (no_member one there)
  fault_from (y ∷ ys) one there = by_said (said_of main sums asked y) refl there
      (λ inside. let rest = fault_from ys one inside in (member_tail y one.vertex ys rest.0, rest.1))
    where
      by_said : (said : Option (Result Dependency Class)) → said_of main sums asked y ≡ said
          → Contains (fault_row y said (faults_among main sums asked ys)) one
          → (Contains (faults_among main sums asked ys) one → IsFrom (y ∷ ys) one) → IsFrom (y ∷ ys) one
      by_said (Some (Err own)) e inside later = elim (member_cases (fault_with y own) one (faults_among main sums asked ys) inside) [
        | inl same ↦ subst (IsFrom (y ∷ ys)) same (member_head y ys, e)
        | inr rest ↦ later rest
      ]
      by_said (Some (Ok file)) e inside later = later inside
      by_said None e inside later = later inside

  abbrev all_faults : List Fault
  all_faults = faults main sums asked

  is_reported : (x : ModuleVersion) (said : Option (Result Dependency Class)) → said_of main sums asked x ≡ said → is_told said ≡ true
      → Contains (opened main sums asked) x → IsReported all_faults (x, told said)
  is_reported x None e is there = absurd (false≢true is)
  is_reported x (Some (Ok file)) e is there = tt
  is_reported x (Some (Err class)) e is there = fault_there (opened main sums asked) x class there e

  reported_rows : (xs : List ModuleVersion) (more : List Row) → are_told main sums asked xs ≡ true
      → ((x : ModuleVersion) → Contains xs x → Contains (opened main sums asked) x)
      → AllByRecursion (IsReported all_faults) more → AllByRecursion (IsReported all_faults) (rows_of main sums asked xs ++ more)
  reported_rows [] more is within rest = rest
  reported_rows (x ∷ xs) more is within rest =
      let parts = and_parts (is_told (said_of main sums asked x)) (are_told main sums asked xs) is in (
        is_reported x (said_of main sums asked x) refl parts.0 (within x (member_head x xs)),
        reported_rows xs more parts.1 (λ y there. within y (member_tail x y xs there)) rest,
      )

  reported_deep : (xs : List ModuleVersion) → are_told main sums asked xs ≡ true → ((x : ModuleVersion) → Contains xs x → Contains (opened main sums asked) x)
      → AllByRecursion (IsReported all_faults) (rows_of main sums asked xs)
  reported_deep [] is within = tt
  reported_deep (x ∷ xs) is within =
      let parts = and_parts (is_told (said_of main sums asked x)) (are_told main sums asked xs) is in (
        is_reported x (said_of main sums asked x) refl parts.0 (within x (member_head x xs)),
        reported_deep xs parts.1 (λ y there. within y (member_tail x y xs there)),
      )

  row_in : (xs : List ModuleVersion) (x : ModuleVersion) → Contains xs x → Contains (rows_of main sums asked xs) (row_of main sums asked x)
  row_in [] x there = absurd (no_member x there)
  row_in (y ∷ ys) x there = elim (member_cases y x ys there) [
    | inl same ↦ subst (λ (z : ModuleVersion). Contains (row_of main sums asked y ∷ rows_of main sums asked ys) (row_of main sums asked z)) same
        (member_head (row_of main sums asked y) (rows_of main sums asked ys))
    | inr later ↦ member_tail (row_of main sums asked y) (row_of main sums asked x) (rows_of main sums asked ys) (row_in ys x later)
  ]

  row_there : (x : ModuleVersion) → Contains (modules main sums asked) x → Contains (rows main sums asked) (row_of main sums asked x)
  row_there x there = elim (either_side x (top_modules main sums asked) (deep_modules main sums asked) there) [
    | inl top ↦ in_left (row_of main sums asked x) (tops main sums asked) (deep main sums asked) (row_in (top_modules main sums asked) x top)
    | inr is ↦ in_right (row_of main sums asked x) (tops main sums asked) (deep main sums asked) (row_in (deep_modules main sums asked) x is)
  ]

  in_opened : (x : ModuleVersion) → Contains (modules main sums asked) x → Contains (opened main sums asked) x
  in_opened = are_members (modules main sums asked) (opened main sums asked) (and_parts _ _ passed.1.1.1.1.1.1.1.1.1.1.1.1.0).0

  from_opened : (x : ModuleVersion) → Contains (opened main sums asked) x → Contains (modules main sums asked) x
  from_opened = are_members (opened main sums asked) (modules main sums asked) (and_parts _ _ passed.1.1.1.1.1.1.1.1.1.1.1.1.0).1

  abbrev IsRowed : Fault → Type 0
  IsRowed one = Contains (rows main sums asked) (one.vertex, Err one.class)

  rowed : (one : Fault) → IsFrom (opened main sums asked) one → IsRowed one
  rowed one (there, is) =
      subst (λ (said : Option (Result Dependency Class)). Contains (rows main sums asked) (one.vertex, told said)) is
      (row_there one.vertex (from_opened one.vertex there))

  all_members : (P : Fault → Type 0) (xs : List Fault) → ((x : Fault) → Contains xs x → P x) → AllByRecursion P xs
  all_members P [] f = tt
  all_members P (x ∷ xs) f = (f x (member_head x xs), all_members P xs (λ y there. f y (member_tail x y xs there)))

  found : AreFound (given_with content text asked) main sums all_faults
  found = found_with content text main sums asked (tops main sums asked) (deep main sums asked) is_table are_so all_faults
      (ascends_so (λ (a b : Fault). pair_cmp a.vertex b.vertex) all_faults passed.1.1.1.1.1.1.1.1.1.1.1.0)
      (all_members IsRowed all_faults (λ one there. rowed one (fault_from (opened main sums asked) one there)))
      (reported_rows (top_modules main sums asked) (deep main sums asked) passed.1.1.1.1.0
      (λ x there. in_opened x (in_left x (top_modules main sums asked) (deep_modules main sums asked) there))
      (reported_deep (deep_modules main sums asked) passed.1.1.1.1.1.0
      (λ x there. in_opened x (in_right x (top_modules main sums asked) (deep_modules main sums asked) there))))

  ends_as : (after : Option (List ℕ)) (limit : Option ℕ) (fs : List Fault) → AreFound (given_with content text asked) main sums fs
      → where_printed fs (ascends path_cmp (selected main sums asked)) ≡ true
      → where_printed fs (is_selection main (tops main sums asked) (deep main sums asked) (selected main sums asked)) ≡ true
      → ListEnds after limit (given_with content text asked) (ending_of main sums asked after limit fs)
  ends_as after limit [] are ascend are_those = no_fault main sums are (
    build_list main sums asked,
    rows_from content text main sums asked (tops main sums asked) (deep main sums asked) is_table (selected main sums asked)
        (ascends_so path_cmp (selected main sums asked) ascend) are_those,
    printed_so after limit main (build_list main sums asked),
  )
  ends_as after limit (first ∷ others) are ascend are_those = some_faulty main sums first others are refl

  -- with an outcome that is written out
  pub ends_so : (after : Option (List ℕ)) (limit : Option ℕ) (outcome : Outcome) → ending main sums asked after limit ≡ outcome
      → ListEnds after limit (given_with content text asked) outcome
  ends_so after limit outcome is = subst (ListEnds after limit (given_with content text asked)) is
      (ends_as after limit all_faults found passed.1.1.1.1.1.1.1.1.1.0 passed.1.1.1.1.1.1.1.1.1.1.0)
