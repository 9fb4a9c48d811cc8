-- What a module says in a run, computed.
use Rattle.std.proofs.Common.{◌≡◌, ◌∙◌, ℕ, Bool, true, false, List, Option, Some, None, Result, Ok, Err, Contains, ap, ap₂, subst, sym}
use Rattle.std.specs.Prelude.{if◌then◌else◌}
use Rattle.std.specs.Option.{option_map}
use Rattle.page.specs.Asked.{Name, Reply, absent, answer_in, bytes, too_long}
use Rattle.page.specs.Directives.{Right}
use Rattle.page.specs.Fields.{Dependency}
use Rattle.page.specs.Files.{said_in, sum_fault}
use Rattle.page.specs.Main.{Main, replacement_in, without_excluded}
use Rattle.page.specs.ModuleVersion.{ModuleVersion}
use Rattle.page.specs.Reading.{IsContentReading, IsFileReading, IsReadUnless, file_of, is_askable, is_right_path}
use Rattle.page.specs.Sayings.{FileSays, Requires, Run, Says, answered, faulty, run_of, sound, unaskable, wrong_path}
use Rattle.page.specs.Types.{BadVersion, Class, Malformed, Misreading, Missing, NoModule, NotFetchable, NoSum, SumDiffers, Sums, TooLong, TooMany, Unknown, WrongArguments, WrongPath}

-- ---- replies

abbrev pub as_class : Result Dependency (ℕ × Misreading) → Result Dependency Class
as_class (Ok file) = Ok file
as_class (Err place) = Err (Malformed place.0 place.1)

abbrev unless : Option Class → Result Dependency Class → Result Dependency Class
unless (Some class) said = Err class
unless None said = said

abbrev pub reading_of : Option Sums → Name → Reply → Result Dependency Class
reading_of sums name absent = Err Missing
reading_of sums name too_long = Err TooLong
reading_of sums name (bytes content) = unless (sum_fault sums name content) (as_class (said_in content))

content_reads : (content : List ℕ) (said : Result Dependency Class) → IsContentReading content said → as_class (said_in content) ≡ said
content_reads content (Ok file) is = ap as_class is
content_reads content (Err (Malformed line TooMany)) is = absurd is
content_reads content (Err (Malformed line NoModule)) is = ap as_class is
content_reads content (Err (Malformed line WrongArguments)) is = ap as_class is
content_reads content (Err (Malformed line Unknown)) is = ap as_class is
content_reads content (Err (Malformed line BadVersion)) is = ap as_class is
content_reads content (Err NotFetchable) is = absurd is
content_reads content (Err Missing) is = absurd is
content_reads content (Err TooLong) is = absurd is
content_reads content (Err NoSum) is = absurd is
content_reads content (Err SumDiffers) is = absurd is
content_reads content (Err WrongPath) is = absurd is

unless_reads : (fault : Option Class) (content : List ℕ) (said : Result Dependency Class)
    → IsReadUnless fault content said → unless fault (as_class (said_in content)) ≡ said
unless_reads (Some class) content said is = sym is
unless_reads None content said is = content_reads content said is

pub reads : (sums : Option Sums) (name : Name) (reply : Reply) (said : Result Dependency Class)
    → IsFileReading sums name reply said → reading_of sums name reply ≡ said
reads sums name absent said is = sym is
reads sums name too_long said is = sym is
reads sums name (bytes content) said is = unless_reads (sum_fault sums name content) content said is

-- ---- modules

abbrev pub file_said : Option Sums → Name → Bool → Option Reply → Option (Result Dependency Class)
file_said sums name false answer = Some (Err NotFetchable)
file_said sums name true None = None
file_said sums name true (Some reply) = Some (reading_of sums name reply)

abbrev pub checked : ModuleVersion → Option Right → Result Dependency Class → Result Dependency Class
checked x right (Err class) = Err class
checked x right (Ok file) = if is_right_path x right file.declared then Ok file else Err WrongPath

same_file : (a b : Dependency) → ◌≡◌ {A = Option (Result Dependency Class)} (Some (Ok a)) (Some (Ok b)) → a ≡ b
same_file a b e = cc e

same_class : (a b : Class) → ◌≡◌ {A = Option (Result Dependency Class)} (Some (Err a)) (Some (Err b)) → a ≡ b
same_class a b e = cc e

no_file : (a : Dependency) (class : Class) → ◌≡◌ {A = Option (Result Dependency Class)} (Some (Ok a)) (Some (Err class)) → ⊥
no_file a class e = cc e

module _ (main : Main) (sums : Option Sums) (asked : List (Name × Reply)) where
  abbrev run : Run
  run = run_of main sums asked

  -- what the file of a module says, or its fault; nothing if the file was not asked for
  abbrev pub said_of : ModuleVersion → Option (Result Dependency Class)
  said_of x = option_map (checked x (replacement_in main x)) (file_said sums (file_of main x) (is_askable (file_of main x)) (answer_in asked (file_of main x)))

  file_says : (name : Name) (said : Result Dependency Class) → FileSays run name said
      → file_said sums name (is_askable name) (answer_in asked name) ≡ Some said
  file_says name said (unaskable e) = ap (λ (b : Bool). file_said sums name b (answer_in asked name)) e
  file_says name said (answered reply may at is) = ap₂ (file_said sums name) may at ∙ ap Some (reads sums name reply said is)

  pub says : (x : ModuleVersion) (said : Result Dependency Class) → Says run x said → said_of x ≡ Some said
  says x said (faulty {class = class} is) = ap (option_map (checked x (replacement_in main x))) (file_says (file_of main x) (Err class) is)
  says x said (wrong_path file is e) =
      ap (option_map (checked x (replacement_in main x))) (file_says (file_of main x) (Ok file) is)
      ∙ ap (λ (b : Bool). Some (if b then Ok file else Err WrongPath)) e
  says x said (sound {file = file} is e) =
      ap (option_map (checked x (replacement_in main x))) (file_says (file_of main x) (Ok file) is)
      ∙ ap (λ (b : Bool). Some (if b then Ok file else Err WrongPath)) e

  -- ---- a module whose file is known

  module _ (x : ModuleVersion) (file : Dependency) (is : said_of x ≡ Some (Ok file)) where
    pub file_is : (other : Dependency) → Says run x (Ok other) → file ≡ other
    file_is other said = same_file file other (sym is ∙ says x (Ok other) said)

    pub has_no_fault : (class : Class) → Says run x (Err class) → ⊥
    has_no_fault class said = no_file file class (sym is ∙ says x (Err class) said)

    pub required_in : (y : ModuleVersion) → Requires run x y → Contains (without_excluded main file.requirements) y
    required_in y (other, said, there) =
        subst (λ (f : Dependency). Contains (without_excluded main f.requirements) y) (sym (file_is other said)) there

  -- ---- a module with a known fault

  module _ (x : ModuleVersion) (class : Class) (is : said_of x ≡ Some (Err class)) where
    pub class_is : (other : Class) → Says run x (Err other) → class ≡ other
    class_is other said = same_class class other (sym is ∙ says x (Err other) said)

    pub requires_nothing : (y : ModuleVersion) → Requires run x y → ⊥
    requires_nothing y (file, said, there) = no_file file class (sym (says x (Ok file) said) ∙ is)
