-- What modules' files say: one thing, which stays when more is asked for.
use Rattle.std.proofs.Common.{◌≡◌, ◌↔◌, ◌∙◌, ◌++◌, ◌∷◌, [], cond, true, false, List, Option, Some, Result, Ok, Err, Contains, ap, if◌then◌else◌, refl, sym, inl, inr}
use Rattle.std.specs.Option.{option_or}
use Rattle.std.proofs.lemmas.Bool.{false≢true}
use Rattle.std.proofs.lemmas.Option.{same_Some}
use Rattle.gm_name.specs.ModuleVersion.{ModuleVersion}
use Rattle.gm_file.specs.Directives.{Right}
use Rattle.gm_file.specs.Fields.{Dependency}
use Rattle.gm_file.specs.Main.{Main, replacement_in, without_excluded}
use Rattle.gm_store_parts.specs.Asked.{Name, Reply, answer_in, same_name}
use Rattle.gm_store_parts.specs.States.{StoreState}
use Rattle.gm_store_sums.specs.Sums.{Sums}
use Rattle.gm_graph_files.specs.declared.class.Class.{Class}
use Rattle.gm_graph_files.specs.declared.class.Class.TheVariants.{WrongPath}
use Rattle.gm_graph_cache.specs.Asking.{AsksFor}
use Rattle.gm_graph_files.specs.Reading.{file_of, is_right_path}
use Rattle.gm_graph_cache.specs.Sayings.{FileSays, KeepsSayings, Requires, Run, Says, answered, faulty, run_of, sound, unaskable, wrong_path}
use Rattle.gm_graph_files.proofs.OneReading.{one_reading}

-- ---- one thing

pub one_file : {run : Run} {name : Name} {a b : Result Dependency Class} → FileSays run name a → FileSays run name b
    → a ≡ b
one_file (unaskable e) (unaskable f) = refl
one_file (unaskable e) (answered reply ask is reads) = absurd (false≢true (sym e ∙ ask))
one_file (answered reply ask is reads) (unaskable f) = absurd (false≢true (sym f ∙ ask))
one_file {run} {name} {a} {b} (answered reply ask is reads) (answered other may at says) =
    one_reading run.sums name reply a b reads (rw (same_Some other reply (sym at ∙ is)) at says)

pub same_file : (f g : Dependency) → ◌≡◌ {A = Result Dependency Class} (Ok f) (Ok g) → f ≡ g
same_file f g e = cc e

-- what a module's file says, if the file of its name says this
abbrev checked : ModuleVersion → Option Right → Result Dependency Class → Result Dependency Class
checked x right (Err class) = Err class
checked x right (Ok file) = if is_right_path x right file.declared then Ok file else Err WrongPath

file_seen : {run : Run} {x : ModuleVersion} {said : Result Dependency Class} → Says run x said
    → (read : Result Dependency Class) × FileSays run (file_of run.main x) read × (checked x (replacement_in run.main x) read ≡ said)
file_seen (faulty {class} is) = (Err class, is, refl)
file_seen (wrong_path file is wrong) = (Ok file, is, rw wrong refl)
file_seen (sound {file} is right) = (Ok file, is, rw right refl)

pub one_said : {run : Run} {x : ModuleVersion} {a b : Result Dependency Class} → Says run x a → Says run x b → a ≡ b
one_said {run} {x} one other =
    let (read, is, seen) = file_seen one in
    let (again, was, gives) = file_seen other in
    sym seen ∙ ap (checked x (replacement_in run.main x)) (one_file is was) ∙ gives

-- a module without a fault has one file
pub file_same : {run : Run} {x : ModuleVersion} {f g : Dependency} → Says run x (Ok f) → Says run x (Ok g) → f ≡ g
file_same {run} {x} {f} {g} is other = same_file f g (one_said is other)

-- or one fault
pub class_same : {run : Run} {x : ModuleVersion} {a b : Class} → Says run x (Err a) → Says run x (Err b) → a ≡ b
class_same {run} {x} {a} {b} is other =
    let same : ◌≡◌ {A = Result Dependency Class} (Err a) (Err b) = one_said is other in cc same

-- and no file if it has a fault
pub not_both : {run : Run} {x : ModuleVersion} {class : Class} {file : Dependency} → Says run x (Err class)
    → Says run x (Ok file) → ⊥
not_both is other = absurd (cc (one_said is other))

-- What a module requires that has this file.
pub required_of : (run : Run) (x : ModuleVersion) (file : Dependency) → Says run x (Ok file)
    → (y : ModuleVersion) → Requires run x y ↔ Contains (without_excluded run.main file.requirements) y
required_of run x file says y = (
  (λ r. rw⁻¹ (file_same r.1 says) r.2),
  (λ h. (file, says, h)),
)

-- A module says by another run what it says by the first, if its file does.
pub says_if : {one other : Run} {x : ModuleVersion} {said : Result Dependency Class} → replacement_in one.main x ≡ replacement_in other.main x
    → ((read : Result Dependency Class) → FileSays one (file_of one.main x) read → FileSays other (file_of other.main x) read)
    → Says one x said → Says other x said
says_if same reads (faulty is) = faulty (reads _ is)
says_if same reads (wrong_path file is wrong) = wrong_path file (reads _ is) (rw same at wrong)
says_if same reads (sound is right) = sound (reads _ is) (rw same at right)

-- ---- answers stay when more is asked for

pub answer_append : (pairs more : List (Name × Reply)) (name : Name)
    → answer_in (pairs ++ more) name ≡ option_or (answer_in pairs name) (answer_in more name)
answer_append [] more name = refl
answer_append (pair ∷ pairs) more name =
    elim (same_name name pair.0) as (λ b. cond b (Some pair.1) (answer_in (pairs ++ more) name)
    ≡ option_or (cond b (Some pair.1) (answer_in pairs name)) (answer_in more name)) [
      | true ↦ refl
      | false ↦ answer_append pairs more name
    ]

pub answer_stays : (pairs more : List (Name × Reply)) (name : Name) (reply : Reply) → answer_in pairs name ≡ Some reply
    → answer_in (pairs ++ more) name ≡ Some reply
answer_stays pairs more name reply e = answer_append pairs more name ∙ ap (λ (o : Option Reply). option_or o (answer_in more name)) e

module _ (main : Main) (sums : Option Sums) (pairs more : List (Name × Reply)) where
  file_still : {name : Name} {said : Result Dependency Class} → FileSays (run_of main sums pairs) name said
      → FileSays (run_of main sums (pairs ++ more)) name said
  file_still (unaskable e) = unaskable e
  file_still {name} (answered reply ask is reads) = answered reply ask (answer_stays pairs more name reply is) reads

  pub says_more : KeepsSayings (run_of main sums pairs) (run_of main sums (pairs ++ more))
  says_more x said says = says_if refl (λ read is. file_still is) says

-- So it does after the file of a module was asked for, or nothing.
pub says_asked : (main : Main) (sums : Option Sums) (old new : StoreState) (x : ModuleVersion) → AsksFor main old new x
    → KeepsSayings (run_of main sums old.asked) (run_of main sums new.asked)
says_asked main sums old new x (inl same) = λ y said says. rw same says
says_asked main sums old new x (inr asked) = rw asked.2.1 (says_more main sums old.asked ((file_of main x, asked.2.0) ∷ []))

-- ---- what is known stays

module _ (a b : Run) (main : b.main ≡ a.main) (keeps : KeepsSayings a b) where
  -- A module whose file was read requires what it did.
  pub requires_before : (x y : ModuleVersion) (said : Result Dependency Class) → Says a x said → Requires b x y
      → Requires a x y
  requires_before x y said says (file, reads, there) = (file, rw (one_said (keeps x said says) reads) at says, rw⁻¹ main there)
