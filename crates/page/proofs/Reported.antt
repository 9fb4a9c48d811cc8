-- The worlds in which something is reported, and those without an outcome.
use Rattle.std.proofs.Common.{◌≡◌, ℕ, List, [], ◌∷◌, Err, Ok, Option, None, Some, arith, codes, inl, inr, refl, subst, sym}
use Rattle.std.specs.Fmt.{digits}
use Rattle.page.specs.Asked.{Name, Reply, absent, answer_in, folder_file}
use Rattle.page.specs.Files.{local_file, local_text, mid_nine, old_file}
use Rattle.page.specs.Files.RowFiles.{alone_file, file_requiring, first_of, forking_file, forking_text, hosts_file, hosts_text, late_text, local_zero, malformed_text, nine_file, nine_text, one_file, one_text, replacing_file, replacing_text, three_file, three_text, two_file, two_text, unfetchable_file, unfetchable_text}
use Rattle.page.specs.Main.{Main}
use Rattle.page.specs.Queries.{bad_main, bad_sums, device, faulty, no_fault, too_many}
use Rattle.page.specs.Path.{is_fetchable}
use Rattle.page.specs.Fields.{Dependency}
use Rattle.page.specs.Run.{IsDue, from_top}
use Rattle.page.specs.Sayings.{answered, run_of, sound}
use Rattle.page.specs.Types.{Misreading, Missing, NoModule, Sums, first_table, first_text, fork_table, fork_text, Unknown, sums_table, sums_text, twice_table, twice_text}
use Rattle.page.specs.Worlds.{DeviceIsReported, FaultsAreReported, HasNoOutcome, asked_mid, failing, printing, reporting, wrong_answers}
use Rattle.page.specs.Worlds.Rows.{EmptyMainIsReported, FolderDeviceIsReported, ForkIsReported, HostsAreReported, MalformedIsReported, OneFileIsReported, SumsAreReported, TwoFaultsAreReported, UnfetchableIsReported, a_bare, a_name, answer, first_answers, folder_answers, fork_answers, fork_name, lower_answers, malformed_answers, malformed_report, name_at, nine_answers, sums_answers, two_long, two_missing, wrong_fork_answers}
use Rattle.page.proofs.Checked.{ends_so}
use Rattle.page.proofs.Ending.{all_read}
use Rattle.page.proofs.Nothing.{no_cons, no_main, same_one, some_not_none}
use Rattle.page.proofs.OneOutcome.{not_both}

-- ---- faults

pub faults_are_reported : FaultsAreReported
unfolding is_fetchable digits
faults_are_reported = ends_so local_text None local_file None wrong_answers refl tt refl None None
    (reporting (codes "local@v1.0.0: NotFetchable\nmid.org@v1.9.0: WrongPath\n")) refl

pub unfetchable_is_reported : UnfetchableIsReported
unfolding is_fetchable digits
unfetchable_is_reported = ends_so unfetchable_text None unfetchable_file None [] refl tt refl None None
    (reporting (codes "local@v0.0.0: NotFetchable\n")) refl

pub fork_is_reported : ForkIsReported
unfolding is_fetchable digits
fork_is_reported = ends_so forking_text None forking_file None wrong_fork_answers refl tt refl None None
    (reporting (codes "example.com/fork@v1.1.0: WrongPath\n")) refl

pub malformed_is_reported : MalformedIsReported
unfolding is_fetchable digits
malformed_is_reported = record {
  both = ends_so three_text None three_file None malformed_answers refl tt refl None None (reporting malformed_report) refl;
  long = ends_so replacing_text None replacing_file None _ refl tt refl None None
      (reporting (codes "local@v0.0.0: TooLong\n")) refl;
  limited = ends_so three_text None three_file None malformed_answers refl tt refl None (Some 1) (reporting malformed_report) refl;
  after = ends_so three_text None three_file None malformed_answers refl tt refl (Some (codes "example.com/q")) None
      (reporting malformed_report) refl;
  folder = ends_so replacing_text None replacing_file None _ refl tt refl None None
      (reporting (codes "local@v0.0.0: Malformed 3 WrongArguments\n")) refl;
}

pub two_faults_are_reported : TwoFaultsAreReported
unfolding is_fetchable digits
two_faults_are_reported = ends_so nine_text None nine_file None nine_answers refl tt refl None None
    (reporting (codes "example.com/a@v1.9.0: Missing\nexample.com/a@v1.10.0: TooLong\n")) refl

pub hosts_are_reported : HostsAreReported
unfolding is_fetchable digits
hosts_are_reported = ends_so hosts_text None hosts_file None _ refl tt refl None None
    (reporting (codes "-a.org@v1.0.0: NotFetchable\nA.org@v1.0.0: NotFetchable\na-1.org@v1.0.0: Missing\n")) refl

pub one_file_is_reported : OneFileIsReported
unfolding is_fetchable digits
one_file_is_reported = record {
  undeclared = ends_so one_text None one_file None (answer (codes "a") [] ∷ []) refl tt refl None None
      (reporting (codes "example.com/a@v1.0.0: WrongPath\n")) refl;
  late = ends_so one_text None one_file None (answer (codes "a") late_text ∷ []) refl tt refl None None
      (reporting (codes "example.com/a@v1.0.0: Malformed 12 BadVersion\n")) refl;
  no_path = refl;
}

pub sums_are_reported : SumsAreReported
unfolding is_fetchable digits
sums_are_reported = record {
  checked = ends_so three_text (Some sums_text) three_file (Some sums_table) sums_answers refl refl refl None None
      (reporting (codes "example.com/b@v1.1.0: NoSum\nexample.com/c@v1.0.0: SumDiffers\n")) refl;
  invalid = bad_sums alone_file _ refl refl (search) refl;
  twice = ends_so one_text (Some twice_text) one_file (Some twice_table) (a_bare ∷ []) refl refl refl None None
      (reporting (codes "example.com/a@v1.0.0: SumDiffers\n")) refl;
  folder = ends_so replacing_text (Some sums_text) replacing_file (Some sums_table) folder_answers refl refl refl None None
      (printing (codes "example.com/m\nlocal v0.0.0 => ../local\n")) refl;
  both = bad_main (0, NoModule) refl (search) refl;
  empty = ends_so one_text (Some sums_text) one_file (Some sums_table) (answer (codes "a") [] ∷ []) refl refl refl None None
      (reporting (codes "example.com/a@v1.0.0: SumDiffers\n")) refl;
  missing = ends_so two_text (Some sums_text) two_file (Some sums_table) two_missing refl refl refl None None
      (reporting (codes "example.com/a@v1.0.0: Missing\nexample.com/b@v1.0.0: Missing\n")) refl;
  long = ends_so two_text (Some sums_text) two_file (Some sums_table) two_long refl refl refl None None
      (reporting (codes "example.com/a@v1.0.0: TooLong\nexample.com/b@v1.0.0: TooLong\n")) refl;
  fork = ends_so forking_text (Some sums_text) forking_file (Some sums_table) fork_answers refl refl refl None None
      (reporting (codes "example.com/a@v1.0.0: NoSum\nexample.com/fork@v1.1.0: NoSum\n")) refl;
  fork_alone = ends_so forking_text (Some fork_text) forking_file (Some fork_table) fork_answers refl refl refl None None
      (printing (codes "example.com/m\nexample.com/a v1.0.0 => example.com/fork v1.1.0\nexample.com/fork v1.1.0\n")) refl;
  lower = ends_so three_text (Some first_text) three_file (Some first_table) lower_answers refl refl refl None None
      (reporting (codes "example.com/b@v1.0.0: NoSum\nexample.com/b@v1.1.0: NoSum\nexample.com/c@v1.0.0: NoSum\n")) refl;
  none = ends_so one_text (Some []) one_file (Some []) (a_bare ∷ []) refl refl refl None None
      (reporting (codes "example.com/a@v1.0.0: NoSum\n")) refl;
  malformed = ends_so one_text (Some []) one_file (Some []) (answer (codes "a") malformed_text ∷ []) refl refl refl None None
      (reporting (codes "example.com/a@v1.0.0: NoSum\n")) refl;
}

-- ---- the device

mid_is_due : IsDue (run_of old_file None []) asked_mid
unfolding is_fetchable
mid_is_due = record {
  calls = record { read = all_read old_file None [] tt; needed = (mid_nine, inl (0, omega arith, refl), refl, refl) };
  unasked = refl;
}

pub device_is_reported : DeviceIsReported
device_is_reported = device old_file None asked_mid (record { main_file = refl; sums = tt }) mid_is_due refl refl

folder_is_due : IsDue (run_of replacing_file None []) (folder_file (codes "../local"))
folder_is_due = record {
  calls = record { read = all_read replacing_file None [] tt; needed = (local_zero, inl (0, omega arith, refl), refl, refl) };
  unasked = refl;
}

fork_is_due : IsDue (run_of forking_file None []) fork_name
unfolding is_fetchable
fork_is_due = record {
  calls = record { read = all_read forking_file None [] tt; needed = (first_of (codes "a"), inl (0, omega arith, refl), refl, refl) };
  unasked = refl;
}

a_is_due : IsDue (run_of two_file None []) a_name
unfolding is_fetchable
a_is_due = record {
  calls = record { read = all_read two_file None [] tt; needed = (first_of (codes "a"), inl (0, omega arith, refl), refl, refl) };
  unasked = refl;
}

abbrev a_file : Dependency
a_file = file_requiring (codes "a") (1, 16) (codes "c") (codes "v1.0.0")

c_is_due : IsDue (run_of one_file None first_answers) (name_at (codes "c") (codes "v1.0.0"))
unfolding is_fetchable
c_is_due = record {
  calls = record {
    read = all_read one_file None first_answers ((λ name. (Ok a_file, refl)), tt);
    needed = (
      first_of (codes "c"),
      inr (from_top a_file (0, omega arith, refl) (sound (answered _ refl refl refl) refl) refl (0, omega arith, refl)),
      refl,
      refl,
    );
  };
  unasked = refl;
}

abbrev a_is_absent : List (Name × Reply)
a_is_absent = (a_name, absent) ∷ []

b_is_due : IsDue (run_of two_file None a_is_absent) (name_at (codes "b") (codes "v1.0.0"))
unfolding is_fetchable
b_is_due = record {
  calls = record {
    read = all_read two_file None a_is_absent ((λ name. (Err Missing, refl)), tt);
    needed = (first_of (codes "b"), inl (1, omega arith, refl), refl, refl);
  };
  unasked = refl;
}

-- ---- no outcome

abbrev empty_place : ℕ × Misreading
empty_place = (0, NoModule)

abbrev a_answer : List (Name × Reply)
a_answer = a_bare ∷ []

not_due : (main : Main) (table : Option Sums) (name : Name) → a_name ≡ name → IsDue (run_of main table a_answer) name → ⊥
not_due main table name same due = some_not_none _ (subst (λ (n : Name). answer_in a_answer n ≡ None) (sym same) due.unasked)

none_answered : HasNoOutcome (failing one_text a_answer a_name)
none_answered outcome (bad_main place misread unasked is) = not_both one_file place misread
none_answered outcome (bad_sums main report is bad unasked reported) = bad
none_answered outcome (device main table name read due failed is) = not_due main table name (same_one a_name name failed) due
none_answered outcome (too_many main table read readable over unfailed is) = no_cons a_name [] unfailed
none_answered outcome (faulty main table first others found is) = no_cons a_name [] found.none_failed
none_answered outcome (no_fault main table found prints) = no_cons a_name [] found.none_failed

pub folder_device_is_reported : FolderDeviceIsReported
folder_device_is_reported = record {
  folder = device replacing_file None (folder_file (codes "../local")) (record { main_file = refl; sums = tt }) folder_is_due refl refl;
  fork = device forking_file None fork_name (record { main_file = refl; sums = tt }) fork_is_due refl refl;
  deep = device one_file None (name_at (codes "c") (codes "v1.0.0")) (record { main_file = refl; sums = tt }) c_is_due refl refl;
  first = device two_file None a_name (record { main_file = refl; sums = tt }) a_is_due refl refl;
  late = device two_file None (name_at (codes "b") (codes "v1.0.0")) (record { main_file = refl; sums = tt }) b_is_due refl refl;
  answered = none_answered;
}

pub empty_main_is_reported : EmptyMainIsReported
unfolding digits
empty_main_is_reported = record {
  empty = bad_main empty_place refl (search) refl;
  late = bad_main (12, Unknown) refl (search) refl;
  unasked = no_main _ empty_place refl refl (λ unasked. search no_cons);
  unfailed = no_main _ empty_place refl refl (λ unasked. search no_cons);
}
