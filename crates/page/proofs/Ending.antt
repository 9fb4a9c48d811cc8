-- How a run ends, from what each module that is written out says.
use Rattle.std.proofs.Common.{◌≡◌, ◌≤◌, true, List, [], ◌∷◌, Option, Result, Contains, arith, inl, inr, length, subst, sym}
use Rattle.std.specs.List.{AllByRecursion, IsDistinct}
use Rattle.page.specs.Asked.{Name, Reply, names_in, same_name}
use Rattle.page.specs.Fields.{Dependency}
use Rattle.page.specs.Files.RowFiles.{most_opened}
use Rattle.page.specs.Main.{Main}
use Rattle.page.specs.ModuleVersion.{ModuleVersion}
use Rattle.page.specs.Reading.{IsFileReading, file_of, is_askable}
use Rattle.page.specs.Run.{IsNeeded, IsOpened, IsRead, IsSettled}
use Rattle.page.specs.Sayings.{Run, run_of}
use Rattle.page.specs.Types.{Class, Sums}
use Rattle.page.proofs.Forms.{answer_is}
use Rattle.page.proofs.Members.{each_member, few_members}

-- ---- answers

-- whatever its name is, the file can be read
abbrev pub IsReadable : Option Sums → Name × Reply → Type 0
IsReadable sums pair = (name : Name) → (said : Result Dependency Class) × IsFileReading sums name pair.1 said

pub all_read : (main : Main) (sums : Option Sums) (asked : List (Name × Reply)) → AllByRecursion (IsReadable sums) asked → IsRead (run_of main sums asked)
all_read main sums [] h name reply at = absurd (cc at)
all_read main sums (pair ∷ pairs) h name reply at = elim (answer_is pair pairs name reply at) [
  | inl own ↦ subst (λ (r : Reply). (said : Result Dependency Class) × IsFileReading sums name r said) own (h.0 name)
  | inr later ↦ all_read main sums pairs h.1 name reply later
]

module _ (main : Main) (sums : Option Sums) (asked : List (Name × Reply)) (opened : List ModuleVersion)
    (opened_in : (x : ModuleVersion) → IsOpened (run_of main sums asked) x → Contains opened x) where
  abbrev run : Run
  run = run_of main sums asked

  -- ---- what was asked

  -- if the module's file may be asked for, it was
  abbrev pub WasAsked : ModuleVersion → Type 0
  WasAsked x = is_askable (file_of main x) ≡ true → Contains (names_in asked) (file_of main x)

  asked_if_needed : AllByRecursion WasAsked opened → (name : Name) → IsNeeded run name → Contains (names_in asked) name
  asked_if_needed were name (x, opens, is, askable) =
      subst (Contains (names_in asked)) is
      (each_member WasAsked opened were x (opened_in x opens) (subst (λ (n : Name). is_askable n ≡ true) (sym is) askable))

  pub settled : AllByRecursion (IsReadable sums) asked → IsDistinct same_name (names_in asked) → AllByRecursion (IsNeeded run) (names_in asked)
      → AllByRecursion WasAsked opened → length opened ≤ most_opened → IsSettled run (names_in asked)
  settled readable once needed were few = record {
    read = all_read main sums asked readable;
    once = once;
    needed = λ name. (each_member (IsNeeded run) (names_in asked) needed name, asked_if_needed were name);
    few = λ xs are. (let all = few_members xs opened are.once (λ x there. opened_in x (are.each x there)) in omega (arith, all, few));
  }
