-- A run has one outcome.
use Rattle.std.proofs.Common.{◌≡◌, ◌∙◌, ◌↔◌, ◌++◌, ℕ, List, [], ◌∷◌, Option, Some, None, Result, Ok, Err, Contains, ap, arith, map, refl, subst, sym}
use Rattle.std.specs.Prelude.{AllPairs}
use Rattle.std.specs.declared.cmp.Ordering.TheVariants.{Less}
use Rattle.std.specs.Cmp.{IsTotalOrder, nat_cmp_total, on_total, then_total}
use Rattle.std.specs.Cmp.Lexicographic.{nat_list_cmp_total, slice_cmp}
use Rattle.std.specs.Ordering.{nat_cmp, on}
use Rattle.page.specs.Asked.{Name}
use Rattle.page.specs.BuildList.{HasEntryFor, IsRestAfter, entry_of, main_entry, path_cmp, path_of}
use Rattle.page.specs.Entries.{Entry}
use Rattle.page.specs.Files.{IsMainFile, IsMisread}
use Rattle.page.specs.Directives.{Strict}
use Rattle.page.specs.ListQuery.{list_text, up_to, ListEnds, PrintsList, PrintsRows, no_path, path_listed, path_unlisted}
use Rattle.page.specs.Main.{Main, replacement_in}
use Rattle.page.specs.ModuleVersion.{ModuleVersion, pair_cmp}
use Rattle.page.specs.Order.{IsAscending}
use Rattle.page.specs.Outcome.{Outcome, failure_outcome, refusal_outcome, text_outcome}
use Rattle.page.specs.Queries.{AreFound, FilesReadAs, Given, bad_main, bad_sums, device, faulty, no_fault, too_many}
use Rattle.page.specs.Reports.{FaultPlace, device_line, faults_text, main_line, not_listed_line, too_many_line}
use Rattle.page.specs.Run.{AreFaults, AreRows, AreTooMany}
use Rattle.page.specs.Sayings.{Run, run_of}
use Rattle.page.specs.Types.{AreInvalidSums, AreSums, Fault, Parts, Sums, parts_in, pre_cmp, pre_rank}
use Rattle.page.specs.Version.{precedence, version_cmp}
use Rattle.page.specs.Worlds.{OneOutcome}
use Rattle.page.proofs.Members.{member_head, member_tail, same_lists}

-- ---- orders

-- The keys that are compared, each of them in a total order. An order that compares some of them in turn is total by these
-- alone, whichever comes first, so that a wrong one is refused by the worlds and not here.
major_total : IsTotalOrder (on (λ (p : Parts). p.0) nat_cmp)
major_total = on_total (λ (p : Parts). p.0) nat_cmp_total

minor_total : IsTotalOrder (on (λ (p : Parts). p.1) nat_cmp)
minor_total = on_total (λ (p : Parts). p.1) nat_cmp_total

patch_total : IsTotalOrder (on (λ (p : Parts). p.2) nat_cmp)
patch_total = on_total (λ (p : Parts). p.2) nat_cmp_total

pre_total : IsTotalOrder (on (λ (p : Parts). p.3) pre_cmp)
pre_total = on_total (λ (p : Parts). p.3) (on_total pre_rank nat_cmp_total)

ruleset parts_in_turn = (then_total, major_total, minor_total, patch_total, pre_total)

precedence_total : IsTotalOrder precedence
precedence_total = search parts_in_turn

by_precedence : IsTotalOrder (on parts_in precedence)
by_precedence = on_total parts_in precedence_total

ruleset versions_in_turn = (then_total, by_precedence, nat_list_cmp_total)

version_total : IsTotalOrder version_cmp
version_total = search versions_in_turn

path_text_total : IsTotalOrder (on (λ (x : ModuleVersion). x.0) (slice_cmp nat_cmp))
path_text_total = on_total (λ (x : ModuleVersion). x.0) nat_list_cmp_total

version_text_total : IsTotalOrder (on (λ (x : ModuleVersion). x.1) (slice_cmp nat_cmp))
version_text_total = on_total (λ (x : ModuleVersion). x.1) nat_list_cmp_total

version_key_total : IsTotalOrder (on (λ (x : ModuleVersion). x.1) version_cmp)
version_key_total = on_total (λ (x : ModuleVersion). x.1) version_total

ruleset modules_in_turn = (then_total, path_text_total, version_key_total, version_text_total)

pair_total : IsTotalOrder pair_cmp
pair_total = search modules_in_turn

path_total : IsTotalOrder path_cmp
path_total = search modules_in_turn

-- ---- files

same_ok : {X Y : Type 0} (a b : X) → ◌≡◌ {A = Result X Y} (Ok a) (Ok b) → a ≡ b
same_ok a b e = cc e

pub same_err : {X Y : Type 0} (a b : Y) → ◌≡◌ {A = Result X Y} (Err a) (Err b) → a ≡ b
same_err a b e = cc e

pub not_both : {X Y : Type 0} (a : X) (b : Y) → ◌≡◌ {A = Result X Y} (Ok a) (Err b) → ⊥
not_both a b e = cc e

pub one_main : (content : List ℕ) (a b : Main) → IsMainFile content a → IsMainFile content b → a ≡ b
one_main content a b is be = same_ok a b (sym is ∙ be)

one_place : (content : List ℕ) (a b : FaultPlace) → IsMisread Strict content a.0 a.1 → IsMisread Strict content b.0 b.1 → a ≡ b
one_place content a b is be = same_err a b (sym is ∙ be)

one_table : (text : Option (List ℕ)) (a b : Option Sums) → AreSums text a → AreSums text b → a ≡ b
one_table None None None is be = refl
one_table None None (Some b) is be = absurd be
one_table None (Some a) b is be = absurd is
one_table (Some text) None b is be = absurd is
one_table (Some text) (Some a) None is be = absurd be
one_table (Some text) (Some a) (Some b) is be = ap Some (same_ok a b (sym is ∙ be))

one_report : (text : Option (List ℕ)) (a b : List ℕ) → AreInvalidSums text a → AreInvalidSums text b → a ≡ b
one_report None a b is be = absurd is
one_report (Some text) a b is be = same_err a b (sym is ∙ be)

not_invalid : (text : Option (List ℕ)) (table : Option Sums) (report : List ℕ) → AreSums text table → AreInvalidSums text report → ⊥
not_invalid None table report is bad = bad
not_invalid (Some text) None report is bad = is
not_invalid (Some text) (Some table) report is bad = not_both table report (sym is ∙ bad)

-- ---- faults and rows

both : {A B C : Type 0} → A ↔ C → B ↔ C → A ↔ B
both f g = ((λ a. g.1 (f.0 a)), (λ b. f.1 (g.0 b)))

faults_total : IsTotalOrder (λ (a b : Fault). pair_cmp a.vertex b.vertex)
faults_total = on_total (λ (f : Fault). f.vertex) pair_total

one_faults : (run : Run) (a b : List Fault) → AreFaults run a → AreFaults run b → a ≡ b
one_faults run a b is be = same_lists faults_total a b is.ascending be.ascending (λ f. both (is.each f) (be.each f))

rows_ascend : (xs : List ModuleVersion) → IsAscending path_cmp xs → AllPairs (λ (a b : ModuleVersion). path_cmp a b ≡ Less) xs
rows_ascend xs are = λ i j d lt below. search (are i j d lt below)

one_rows : (run : Run) (a b : List Entry) → AreRows run a → AreRows run b → a ≡ b
one_rows run a b is be =
    let same : is.selected ≡ be.selected = same_lists path_total is.selected be.selected
    (rows_ascend is.selected is.ascending) (rows_ascend be.selected be.ascending) (λ x. both (is.each x) (be.each x)) in
    is.entries_are ∙ ap (λ (xs : List ModuleVersion). main_entry ∷ map (entry_of (replacement_in run.main)) xs) same ∙ sym be.entries_are

-- ---- what follows a path

abbrev Differ : List ℕ → List ℕ → List Entry → Type 0
Differ main path before = (other : Entry) → Contains before other → path_of main other.0 ≡ path → ⊥

same_rest : (main path : List ℕ) (a b : Entry) (rest more before other : List Entry) → before ++ a ∷ rest ≡ other ++ b ∷ more
    → path_of main a.0 ≡ path → path_of main b.0 ≡ path → Differ main path before → Differ main path other → rest ≡ more
same_rest main path a b rest more [] [] e p q none nil = let same : a ∷ rest ≡ b ∷ more = e in cc same
same_rest main path a b rest more [] (y ∷ other) e p q none nil =
    absurd (let same : a ∷ rest ≡ y ∷ (other ++ b ∷ more) = e in let one : a ≡ y = cc same in
    nil y (member_head y other) (subst (λ (x : Entry). path_of main x.0 ≡ path) one p))
same_rest main path a b rest more (x ∷ before) [] e p q none nil =
    absurd (let same : x ∷ (before ++ a ∷ rest) ≡ b ∷ more = e in let one : x ≡ b = cc same in
    none x (member_head x before) (subst (λ (z : Entry). path_of main z.0 ≡ path) (sym one) q))
same_rest main path a b rest more (x ∷ before) (y ∷ other) e p q none nil =
    let same : x ∷ (before ++ a ∷ rest) ≡ y ∷ (other ++ b ∷ more) = e in
    let tails : before ++ a ∷ rest ≡ other ++ b ∷ more = cc same in
    same_rest main path a b rest more before other tails p q
    (λ z h. none z (member_tail x z before h)) (λ z h. nil z (member_tail y z other h))

one_rest : (main : List ℕ) (entries : List Entry) (path : List ℕ) (rest more : List Entry)
    → IsRestAfter main entries path rest → IsRestAfter main entries path more → rest ≡ more
one_rest main entries path rest more (a, h) (b, g) =
    same_rest main path a b rest more h.before g.before (sym h.parts ∙ g.parts) h.path_is g.path_is h.others g.others

in_rest : (before : List Entry) (entry : Entry) (rest : List Entry) → Contains (before ++ entry ∷ rest) entry
in_rest [] entry rest = member_head entry rest
in_rest (x ∷ before) entry rest = member_tail x entry (before ++ entry ∷ rest) (in_rest before entry rest)

has_entry : (main : List ℕ) (entries : List Entry) (path : List ℕ) (rest : List Entry) → IsRestAfter main entries path rest → HasEntryFor main entries path
has_entry main entries path rest (entry, at) =
    (entry, subst (λ (es : List Entry). Contains es entry) (sym at.parts) (in_rest at.before entry rest), at.path_is)

-- ---- what is printed

one_path : (after : Option (List ℕ)) (a b : List ℕ) → after ≡ Some a → after ≡ Some b → a ≡ b
one_path after a b is be = let same : Some a ≡ Some b = sym is ∙ be in cc same

no_one : (after : Option (List ℕ)) (path : List ℕ) → after ≡ None → after ≡ Some path → ⊥
no_one after path none some = let same : None ≡ Some path = sym none ∙ some in cc same

module _ (main : Main) (rows : List Entry) (after : Option (List ℕ)) (limit : Option ℕ) (a b : Outcome) where
  abbrev Rest : List ℕ → List Entry → Type 0
  Rest path rest = IsRestAfter main.path rows path rest

  listed : (path other : List ℕ) (rest : List Entry) → path ≡ other → Rest path rest → ¬ (HasEntryFor main.path rows other) → ⊥
  listed path other rest same is none = none (subst (HasEntryFor main.path rows) same (has_entry main.path rows path rest is))

  one_text : PrintsRows main rows after limit a → PrintsRows main rows after limit b → a ≡ b
  one_text (no_path none says) (no_path nothing tells) = says ∙ sym tells
  one_text (no_path none says) (path_listed path rest some is tells) = absurd (no_one after path none some)
  one_text (no_path none says) (path_unlisted path some is) = absurd (no_one after path none some)
  one_text (path_listed path rest some is says) (no_path none tells) = absurd (no_one after path none some)
  one_text (path_listed path rest some is says) (path_listed other more any be tells) =
      says ∙ ap (λ (es : List Entry). text_outcome (list_text main.path (up_to limit es)))
      (one_rest main.path rows other rest more (subst (λ (p : List ℕ). Rest p rest) (one_path after path other some any) is) be) ∙ sym tells
  one_text (path_listed path rest some is says) (path_unlisted other any be) = absurd (listed path other rest (one_path after path other some any) is be.0)
  one_text (path_unlisted path some is) (no_path none tells) = absurd (no_one after path none some)
  one_text (path_unlisted path some is) (path_listed other more any be tells) = absurd (listed other path more (one_path after other path any some) be is.0)
  one_text (path_unlisted path some is) (path_unlisted other any be) =
      is.1 ∙ ap (λ (p : List ℕ). refusal_outcome (not_listed_line p)) (one_path after path other some any) ∙ sym be.1

-- ---- how a run ends

-- the faults are reported, or the list is printed
abbrev Tells : Option (List ℕ) → Option ℕ → Run → List Fault → Outcome → Type 0
Tells after limit run [] outcome = PrintsList after limit run outcome
Tells after limit run (first ∷ others) outcome = outcome ≡ refusal_outcome (faults_text (first ∷ others))

one_told : (after : Option (List ℕ)) (limit : Option ℕ) (run : Run) (faults : List Fault) (a b : Outcome)
    → Tells after limit run faults a → Tells after limit run faults b → a ≡ b
one_told after limit run [] a b (rows, are, says) (others, be, tells) =
    one_text run.main others after limit a b (subst (λ (es : List Entry). PrintsRows run.main es after limit a) (one_rows run rows others are be) says) tells
one_told after limit run (first ∷ others) a b is be = is ∙ sym be

-- how it ends if its files are valid
data Ends (after : Option (List ℕ)) (limit : Option ℕ) (run : Given) (main : Main) (table : Option Sums) (outcome : Outcome) : Type 0 where
  broken : (name : Name) → run.answers.failed ≡ name ∷ [] → outcome ≡ failure_outcome (device_line name) → Ends after limit run main table outcome
  many : AreTooMany (run_of main table run.answers.asked) → run.answers.failed ≡ [] → outcome ≡ refusal_outcome too_many_line
      → Ends after limit run main table outcome
  known : (faults : List Fault) → AreFound run main table faults
      → Tells after limit (run_of main table run.answers.asked) faults outcome → Ends after limit run main table outcome

-- its files are invalid, or it ends otherwise
data Reads (after : Option (List ℕ)) (limit : Option ℕ) (run : Given) (outcome : Outcome) : Type 0 where
  no_main : (place : FaultPlace) → IsMisread Strict run.file place.0 place.1 → outcome ≡ refusal_outcome (main_line place) → Reads after limit run outcome
  no_sums : (main : Main) (report : List ℕ) → IsMainFile run.file main → AreInvalidSums run.sums report
      → outcome ≡ refusal_outcome report → Reads after limit run outcome
  valid : (main : Main) (table : Option Sums) → FilesReadAs run.file run.sums main table
      → Ends after limit run main table outcome → Reads after limit run outcome

reads : (after : Option (List ℕ)) (limit : Option ℕ) (run : Given) (outcome : Outcome) → ListEnds after limit run outcome → Reads after limit run outcome
reads after limit run outcome (bad_main place misread unasked is) = no_main place misread search
reads after limit run outcome (bad_sums main report is bad unasked says) = no_sums main report is bad search
reads after limit run outcome (device main table name read due failed is) = valid main table read (broken name failed (search))
reads after limit run outcome (too_many main table read readable over unfailed is) = valid main table read (many over unfailed (search))
reads after limit run outcome (faulty main table first others found is) = valid main table found.read (known (first ∷ others) found (search))
reads after limit run outcome (no_fault main table found prints) = valid main table found.read (known [] found prints)

module _ (after : Option (List ℕ)) (limit : Option ℕ) (run : Given) where
  some_failed : (name : Name) → run.answers.failed ≡ name ∷ [] → run.answers.failed ≡ [] → ⊥
  some_failed name some none = let same : name ∷ [] ≡ [] = sym some ∙ none in cc same

  one_failed : (name other : Name) → run.answers.failed ≡ name ∷ [] → run.answers.failed ≡ other ∷ [] → name ≡ other
  one_failed name other is be = let same : name ∷ [] ≡ other ∷ [] = sym is ∙ be in cc same

  not_many : (main : Main) (table : Option Sums) (faults : List Fault) → AreFound run main table faults → AreTooMany (run_of main table run.answers.asked) → ⊥
  not_many main table faults found (xs, over, are) = let few = found.settled.few xs are in omega (arith, over, few)

  one_end : (main : Main) (table : Option Sums) (a b : Outcome) → Ends after limit run main table a → Ends after limit run main table b → a ≡ b
  one_end main table a b (broken name some is) (broken other any be) =
      is ∙ ap (λ (n : Name). failure_outcome (device_line n)) (one_failed name other some any) ∙ sym be
  one_end main table a b (broken name some is) (many over none be) = absurd (some_failed name some none)
  one_end main table a b (broken name some is) (known faults found be) = absurd (some_failed name some found.none_failed)
  one_end main table a b (many over none is) (broken name some be) = absurd (some_failed name some none)
  one_end main table a b (many over none is) (many above nothing be) = is ∙ sym be
  one_end main table a b (many over none is) (known faults found be) = absurd (not_many main table faults found over)
  one_end main table a b (known faults found is) (broken name some be) = absurd (some_failed name some found.none_failed)
  one_end main table a b (known faults found is) (many over none be) = absurd (not_many main table faults found over)
  one_end main table a b (known faults found is) (known others finds be) =
      let r = run_of main table run.answers.asked in
      one_told after limit r others a b (subst (λ (fs : List Fault). Tells after limit r fs a)
      (one_faults r faults others found.faults_are finds.faults_are) is) be

  by_reads : (a b : Outcome) → Reads after limit run a → Reads after limit run b → a ≡ b
  by_reads a b (no_main place bad is) (no_main other worse be) =
      is ∙ ap (λ (p : FaultPlace). refusal_outcome (main_line p)) (one_place run.file place other bad worse) ∙ sym be
  by_reads a b (no_main place bad is) (no_sums main report read worse be) = absurd (not_both main place (sym read ∙ bad))
  by_reads a b (no_main place bad is) (valid main table read be) = absurd (not_both main place (sym read.main_file ∙ bad))
  by_reads a b (no_sums main report read bad is) (no_main place worse be) = absurd (not_both main place (sym read ∙ worse))
  by_reads a b (no_sums main report read bad is) (no_sums again other also worse be) =
      is ∙ ap refusal_outcome (one_report run.sums report other bad worse) ∙ sym be
  by_reads a b (no_sums main report read bad is) (valid again table also be) = absurd (not_invalid run.sums table report also.sums bad)
  by_reads a b (valid main table read is) (no_main place bad be) = absurd (not_both main place (sym read.main_file ∙ bad))
  by_reads a b (valid main table read is) (no_sums again report also bad be) = absurd (not_invalid run.sums table report read.sums bad)
  by_reads a b (valid main table read is) (valid again other also be) =
      one_end again other a b
      (subst (λ (t : Option Sums). Ends after limit run again t a) (one_table run.sums table other read.sums also.sums)
      (subst (λ (m : Main). Ends after limit run m table a) (one_main run.file main again read.main_file also.main_file) is)) be

pub one_outcome : OneOutcome
one_outcome after limit run a b is be = by_reads after limit run a b (reads after limit run a is) (reads after limit run b be)
