-- Lists of modules by their numbers, in a table that grows at its end.
use Rattle.std.proofs.Common.{◌≡◌, ◌∙◌, ◌-◌, ◌<◌, ℕ, List, [], ◌∷◌, ◌++◌, Some, length, take, drop, ap, append-nil, append_assoc, refl, sym, subst, inl, inr, arith}
use Rattle.std.specs.Prelude.{slice_get}
use Rattle.std.proofs.lemmas.List.{drop-map, get_or_append_left, length-append, map_push, take-map}
use Rattle.std.proofs.lemmas.List.Elements.{All-head, All-push, All-tail, All-weaker}
use Rattle.std.proofs.lemmas.Option.{get_or_from_slice_get, slice_get_within}
use Rattle.gm_name.specs.ModuleVersion.{ModuleVersion, module_at}
use Rattle.gm_name_table.specs.Listed.{Appends, AreModuleNumbers, BeginsWith, NumberedList, modules_of, modules_at, part}
use Rattle.gm_name_table.specs.Lists.{IsOneMoreAtMost}

-- A table that has one module more at most begins as it was.
pub begins_as : (old new : List ModuleVersion) (pair : ModuleVersion) → IsOneMoreAtMost old new pair → BeginsWith old new
begins_as old new pair (inl same) = ([], same ∙ sym (append-nil old))
begins_as old new pair (inr more) = (pair ∷ [], more)

-- The modules with the numbers of a table are what they were, if the table begins as it was.
pub same_modules : (old new : List ModuleVersion) (numbers : List ℕ) → BeginsWith old new → AreModuleNumbers old numbers
    → modules_at new numbers ≡ modules_at old numbers
same_modules old new numbers begins are =
    ap (λ modules. modules_at modules numbers) begins.1 ∙ each numbers are
  where
    each : (ns : List ℕ) → AreModuleNumbers old ns → modules_at (old ++ begins.0) ns ≡ modules_at old ns
    each [] below = refl
    each (n ∷ ns) below =
        ap (module_at (old ++ begins.0) n ∷◌)
        (each ns (All-tail (λ number. number < length old) n ns below))
        ∙ ap (◌∷ modules_at old ns)
        (get_or_append_left old begins.0 ([], []) n (All-head (λ number. number < length old) n ns below))

-- They are numbers of the table still.
pub still_numbers : (old new : List ModuleVersion) (numbers : List ℕ) → BeginsWith old new → AreModuleNumbers old numbers
    → AreModuleNumbers new numbers
still_numbers old new numbers begins are =
    subst (λ modules. AreModuleNumbers modules numbers) (sym begins.1)
    (All-weaker (λ number. number < length old) (λ number. number < length (old ++ begins.0))
    (λ number below. omega (arith, below, length-append old begins.0)) numbers are)

-- What a list began with, a list that begins with it begins with.
pub begins_after : {T : Type 0} (old mid new : List T) → BeginsWith old mid → BeginsWith mid new → BeginsWith old new
begins_after old mid new one two = (
  one.0 ++ two.0,
  two.1 ∙ ap (◌++ two.0) one.1 ∙ append_assoc old one.0 two.0,
)

-- What was put to the end of a list at two times was put there one after the other.
pub appends_after : (old mid new : NumberedList) (first more : List ModuleVersion) → Appends old mid first → Appends mid new more
    → Appends old new (first ++ more)
appends_after old mid new first more one two = record {
  numbered = begins_after old.modules mid.modules new.modules one.numbered two.numbered;
  kept = begins_after old.numbers mid.numbers new.numbers one.kept two.kept;
  listed = two.listed
      ∙ ap (◌++ more) one.listed
      ∙ append_assoc (modules_of old) first more;
}

-- The number of a module was put to the end of the numbers.
pub pushed : {was old : NumberedList} (new : List ModuleVersion) (pair : ModuleVersion) (numbers : List ℕ) (number : ℕ) → was ≡ old
    → IsOneMoreAtMost was.modules new pair → AreModuleNumbers was.modules was.numbers
    → slice_get new number ≡ Some pair → numbers ≡ was.numbers ++ number ∷ []
    → Appends old (record { modules = new; numbers = numbers }) (pair ∷ [])
pushed {was} new pair numbers number is_old only are there more =
    subst (λ list. Appends list (record { modules = new; numbers = numbers }) (pair ∷ [])) is_old
    (record {
      numbered = begins_as was.modules new pair only;
      kept = (number ∷ [], more);
      listed = ap (modules_at new) more
          ∙ map_push (module_at new) was.numbers number
          ∙ ap (λ last. modules_at new was.numbers ++ last ∷ [])
          (get_or_from_slice_get new number pair ([], []) there)
          ∙ ap (λ list. list ++ pair ∷ [])
          (same_modules was.modules new was.numbers (begins_as was.modules new pair only) are);
    })

-- The numbers are what they were.
pub not_pushed : {was old : NumberedList} (new : List ModuleVersion) (pair : ModuleVersion) (numbers : List ℕ) → was ≡ old
    → IsOneMoreAtMost was.modules new pair → AreModuleNumbers was.modules was.numbers → numbers ≡ was.numbers
    → Appends old (record { modules = new; numbers = numbers }) []
not_pushed {was} new pair numbers is_old only are same =
    subst (λ list. Appends list (record { modules = new; numbers = numbers }) []) is_old
    (record {
      numbered = begins_as was.modules new pair only;
      kept = ([], same ∙ sym (append-nil was.numbers));
      listed = ap (modules_at new) same
          ∙ same_modules was.modules new was.numbers (begins_as was.modules new pair only) are
          ∙ sym (append-nil (modules_of was));
    })

pub pushed_numbers : (modules : List ModuleVersion) (pair : ModuleVersion) (numbers : List ℕ) (number : ℕ)
    → slice_get modules number ≡ Some pair → AreModuleNumbers modules numbers → AreModuleNumbers modules (numbers ++ number ∷ [])
pushed_numbers modules pair numbers number there are =
    All-push (λ n. n < length modules) numbers number are (slice_get_within modules number pair there)

-- The part of the modules is that of their numbers.
pub part_as : (modules table : List ModuleVersion) (numbers all : List ℕ) (start end : ℕ) → modules ≡ table → numbers ≡ all
    → modules_at modules (take (end - start) (drop start numbers)) ≡ part start end (modules_at table all)
part_as modules table numbers all start end same_table same_numbers =
    ap (λ ms. modules_at ms (take (end - start) (drop start numbers))) same_table
    ∙ ap (λ ns. modules_at table (take (end - start) (drop start ns))) same_numbers
    ∙ sym (take-map (module_at table) (end - start) (drop start all))
    ∙ ap (take (end - start)) (sym (drop-map (module_at table) start all))
