-- Two runs, perhaps of two main files: what modules say in the one they say in the other, and what the one opens the
-- other opens. Runs of one main file that agree on what they open have the same edges, faults and needed files.
use Rattle.std.proofs.Common.{◌≡◌, ◌||◌, ◌∙◌, ◌∷◌, true, false, List, [], Option, None, Some, IsSome, Result, Ok, Err, Contains, ap, refl, inl, inr}
use Rattle.std.specs.Prelude.{if◌then◌else◌, is_some}
use Rattle.std.specs.Cmp.{IsEquivalence, decided}
use Rattle.std.specs.List.{list_any}
use Rattle.std.proofs.lemmas.Map.Views.{list_any-from_Contains}
use Rattle.std.proofs.lemmas.Bool.{false≢true}
use Rattle.gm_name.specs.ModuleVersion.{ModuleVersion}
use Rattle.gm_file.specs.Fields.{Dependency}
use Rattle.gm_file.specs.Main.{Main, is_pruned_by, replacement_in, without_excluded}
use Rattle.gm_store_parts.specs.Asked.{Name, Reply, answer_in, names_in, same_name}
use Rattle.gm_store_parts.proofs.NameOrder.{names_equal, same_from_equal}
use Rattle.gm_store_sums.specs.Sums.{Sums}
use Rattle.gm_graph_files.specs.declared.class.Class.{Class}
use Rattle.gm_graph.specs.declared.fault.Fault.{Fault}
use Rattle.gm_graph_files.specs.Reading.{IsFileReading, file_named, file_of}
use Rattle.gm_graph.specs.Run.{AreTooMany, IsDeep, IsEdge, IsFault, IsNeeded, IsOpened, IsSettled, IsTop, from_deep, from_main, from_top}
use Rattle.gm_graph_cache.specs.Sayings.{FileSays, KeepsSayings, Run, Says, answered, run_of, unaskable}
use Rattle.gm_graph_cache.proofs.Sayings.{says_if}
use Rattle.gm_graph_select.specs.declared.step.Step.{Step}
use Rattle.gm_graph_select.specs.declared.step.Step.TheVariants.{Main as FromMain, Of}
use Rattle.gm_graph_select.proofs.Same.{AreSame}

-- ---- what is said

-- What the answer to a name says by the first run, it says by the second, if both have an answer.
abbrev pub SayAlike : Run → Run → Type 0
SayAlike one other = (name : Name) (a b : Reply) → one.answers name ≡ Some a → other.answers name ≡ Some b
    → (said : Result Dependency Class) → IsFileReading one.sums name a said → IsFileReading other.sums name b said

-- Both main files replace each module alike.
abbrev pub ReplaceAlike : Main → Main → Type 0
ReplaceAlike first second = (x : ModuleVersion) → replacement_in first x ≡ replacement_in second x

-- The second run has an answer to each name that it needs.
abbrev pub HearsAll : Run → Type 0
HearsAll run = (name : Name) → IsNeeded run name → (reply : Reply) × (run.answers name ≡ Some reply)

-- Of each module that the second run opens, it says what the first says.
abbrev pub SaysToo : Run → Run → Type 0
SaysToo one other = (x : ModuleVersion) → IsOpened other x → (said : Result Dependency Class) → Says one x said → Says other x said

module _ (one other : Run) (same : ReplaceAlike one.main other.main) (alike : SayAlike one other) (heard : HearsAll other) where
  heard_too : (x : ModuleVersion) {said : Result Dependency Class} → IsOpened other x
      → FileSays one (file_of other.main x) said → FileSays other (file_of other.main x) said
  heard_too x opened (unaskable e) = unaskable e
  heard_too x {said} opened (answered reply ask at reads) =
      let (again, there) = heard (file_of other.main x) (x, opened, refl, ask) in
      answered again ask there (alike (file_of other.main x) reply again at there said reads)

  pub says_too : SaysToo one other
  says_too x opened said says = says_if (same x) (λ read is. heard_too x opened (rw (ap (file_named x) (same x)) at is)) says

-- ---- what the first opens, the second opens

-- A module that both runs open requires in the second what it requires in the first.
abbrev pub RequiresToo : Run → Run → Type 0
RequiresToo one other = (x y : ModuleVersion) (file : Dependency) → IsOpened one x → IsOpened other x → Says one x (Ok file)
    → Contains (without_excluded one.main file.requirements) y → Says other x (Ok file) × Contains (without_excluded other.main file.requirements) y

module _ (one other : Run) (unpruned : is_pruned_by one.main.go ≡ false → is_pruned_by other.main.go ≡ false)
    (tops : (x : ModuleVersion) → IsTop one x → IsOpened other x) (requires : RequiresToo one other) where
  deep_if : (x : ModuleVersion) → is_pruned_by other.main.go ≡ false → IsOpened other x → IsDeep other x
  deep_if x e (inl top) = from_main e top
  deep_if x e (inr deep) = deep

  deep_below : (x y : ModuleVersion) (file : Dependency) → IsOpened other x → Says other x (Ok file) → is_pruned_by file.go ≡ false
      → Contains (without_excluded other.main file.requirements) y → IsDeep other y
  deep_below x y file (inl top) says e there = from_top {x = x} file top says e there
  deep_below x y file (inr deep) says e there = from_deep {x = x} deep (file, says, there)

  deep_too : {x : ModuleVersion} → IsDeep one x → IsDeep other x
  deep_too (from_main {x} e top) = deep_if x (unpruned e) (tops x top)
  deep_too (from_top {x} {y} file top says e there) =
      let also = requires x y file (inl top) (tops x top) says there in deep_below x y file (tops x top) also.0 e also.1
  deep_too (from_deep {x} {y} deep (file, says, there)) =
      let far = deep_too deep in
      let also = requires x y file (inr deep) (inr far) says there in from_deep {x = x} far (file, also.0, also.1)

  pub opened_too : (x : ModuleVersion) → IsOpened one x → IsOpened other x
  opened_too x (inl top) = tops x top
  opened_too x (inr deep) = inr (deep_too deep)

  -- and so are the edges, if the second requires at the top what the first does
  pub edge_too : ((x : ModuleVersion) → IsTop one x → IsTop other x) → (s : Step) (y : ModuleVersion) → IsEdge one s y → IsEdge other s y
  edge_too also FromMain y top = also y top
  edge_too also (Of x) y (is, (file, says, there)) =
      let too = opened_too x is in
      let kept = requires x y file is too says there in (too, (file, kept.0, kept.1))

  pub many_too : AreTooMany one → AreTooMany other
  many_too (xs, long, are) = (xs, long, record { once = are.once; each = λ x there. opened_too x (are.each x there) })

-- ---- runs of one main file

-- Both runs have one main file, and of each module that the second opens, the second says what the first says.
pub record Agrees (one other : Run) : Type 0 where
  pub main_is : one.main ≡ other.main
  pub says : SaysToo one other

-- They agree, if the second has an answer to each name that it needs, and the answers say the same.
pub agree : (one other : Run) → one.main ≡ other.main → SayAlike one other → HearsAll other → Agrees one other
agree one other same alike heard = record {
  main_is = same;
  says = says_too one other (λ x. ap (λ (m : Main). replacement_in m x) same) alike heard;
}

-- So do runs of one main file, if the second keeps what the first says.
pub keeps_agree : (one other : Run) → one.main ≡ other.main → KeepsSayings one other → Agrees one other
keeps_agree one other same keeps = record { main_is = same; says = λ x opened said says. keeps x said says }

module _ (one other : Run) (agrees : Agrees one other) where
  unpruned_too : is_pruned_by one.main.go ≡ false → is_pruned_by other.main.go ≡ false
  unpruned_too e = rw⁻¹ agrees.main_is e

  top : (x : ModuleVersion) → IsTop one x → IsTop other x
  top x is = rw⁻¹ agrees.main_is is

  tops : (x : ModuleVersion) → IsTop one x → IsOpened other x
  tops x is = inl (top x is)

  requires_too : RequiresToo one other
  requires_too x y file is be says there =
      (agrees.says x be (Ok file) says, rw⁻¹ agrees.main_is there)

  pub deep : {x : ModuleVersion} → IsDeep one x → IsDeep other x
  deep is = deep_too one other unpruned_too tops requires_too is

  pub opened : (x : ModuleVersion) → IsOpened one x → IsOpened other x
  opened x is = opened_too one other unpruned_too tops requires_too x is

  pub edge : (s : Step) (y : ModuleVersion) → IsEdge one s y → IsEdge other s y
  edge s y is = edge_too one other unpruned_too tops requires_too top s y is

  pub fault : (f : Fault) → IsFault one f → IsFault other f
  fault f (is, says) = let too = opened f.vertex is in (too, agrees.says f.vertex too (Err f.class) says)

  pub needed : (name : Name) → IsNeeded one name → IsNeeded other name
  needed name (x, is, named, askable) = (x, opened x is, rw⁻¹ agrees.main_is named, askable)

  pub too_many : AreTooMany one → AreTooMany other
  too_many many = many_too one other unpruned_too tops requires_too many

pub same_edges : (one other : Run) → Agrees one other → Agrees other one → AreSame (IsEdge one) (IsEdge other)
same_edges one other into back s y = (edge one other into s y, edge other one back s y)

-- ---- what was asked for is answered

pub names_equivalence : IsEquivalence same_name
names_equivalence = decided same_name (λ a b. (names_equal a b, same_from_equal a b))

-- A name has an answer exactly if it is among the names.
pub answered_any : (pairs : List (Name × Reply)) (name : Name) → is_some (answer_in pairs name) ≡ list_any (same_name name) (names_in pairs)
answered_any [] name = refl
answered_any (pair ∷ pairs) name =
    elim (same_name name pair.0) as (λ b. is_some (if b then Some pair.1 else answer_in pairs name) ≡ (b || list_any (same_name name) (names_in pairs))) [
      | true ↦ refl
      | false ↦ answered_any pairs name
    ]

pub value_of : {A : Type 0} (o : Option A) → IsSome o → (value : A) × (o ≡ Some value)
value_of None none = absurd (false≢true none)
value_of (Some value) some = (value, refl)

pub asked_answered : (pairs : List (Name × Reply)) (name : Name) → Contains (names_in pairs) name → (reply : Reply) × (answer_in pairs name ≡ Some reply)
asked_answered pairs name there = value_of (answer_in pairs name)
    (answered_any pairs name ∙ list_any-from_Contains names_equivalence name (names_in pairs) there)

-- Each needed name has an answer.
pub settled_answers : (main : Main) (sums : Option Sums) (pairs : List (Name × Reply)) → IsSettled (run_of main sums pairs) (names_in pairs)
    → (name : Name) → IsNeeded (run_of main sums pairs) name → (reply : Reply) × (answer_in pairs name ≡ Some reply)
settled_answers main sums pairs settled name need = asked_answered pairs name ((settled.needed name).1 need)
