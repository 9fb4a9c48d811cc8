-- The end of a list of modules, to which requirements are put.
use Rattle.std.proofs.Common.{◌≡◌, ◌∙◌, ◌≤◌, ℕ, Bool, true, false, List, [], ◌∷◌, ◌++◌, Some, append-nil, ap, arith, length, length-append, refl, subst, sym, take}
use Rattle.std.proofs.lemmas.List.{drop-append-le, length-map, take-append-le, take-map, take_all}
use Rattle.std.proofs.lemmas.Option.{same_Some}
use Rattle.std.specs.Prelude.{OnErr, OnOk, Result, Ok, Err}
use Rattle.gm_name.specs.ModuleVersion.{ModuleVersion, module_at}
use Rattle.gm_name_table.specs.Listed.{Appends, BeginsWith, NumberedList, modules_of}
use Rattle.gm_name_table.proofs.Listed.{appends_after}
use Rattle.gm_file.specs.Private.Requirements.{Requirements, added, items_in}
use Rattle.std.specs.declared.snapshot.Snapshot.{Snapshot}
use Rattle.gm_file.specs.declared.required.Destination.TheVariants as place

-- What is put to the end of a list that has grown comes after what was put there earlier.
ends_with : (before old new : NumberedList) (more : List ModuleVersion) → Appends before old (added before old)
    → Appends old new more → added before new ≡ added before old ++ more
ends_with before old new more grown appends =
    let kept = ap (λ (numbers : List ℕ). length numbers) grown.kept.1 in
    let within : length before.numbers ≤ length (modules_of old) =
    omega (arith, kept, length-append before.numbers grown.kept.0, length-map old.numbers (module_at old.modules)) in
    rw appends.listed (drop-append-le (length before.numbers) _ _ within)

-- So the list has grown still.
grown_more : {before old new : NumberedList} (more : List ModuleVersion) → Appends before old (added before old)
    → Appends old new more → Appends before new (added before new)
grown_more more grown appends = rw (ends_with _ _ _ _ grown appends) (appends_after _ _ _ _ _ grown appends)

-- It has if it ends with one module more, or is the same.
pub grown_if_known : (before old new : NumberedList) (pair : ModuleVersion) (is_known : Bool)
    → Appends before old (added before old) → (is_known ≡ true → Appends old new (pair ∷ [])) → (is_known ≡ false → new ≡ old)
    → Appends before new (added before new)
grown_if_known before old new pair true grown pushed unknown = grown_more _ grown (pushed refl)
grown_if_known before old new pair false grown pushed unknown = rw (unknown refl) grown

-- It has too if one module was put to the end, or memory ran out and nothing was.
pub grown_if_pushed : {T E : Type 0} (before old new : NumberedList) (pair : ModuleVersion) (result : Result T E)
    → Appends before old (added before old) → OnOk result (Appends old new (pair ∷ []))
    → OnErr result (Appends old new []) → Appends before new (added before new)
grown_if_pushed before old new pair (Ok value) grown ok err = grown_more _ grown ok
grown_if_pushed before old new pair (Err error) grown ok err = grown_more [] grown err

-- The beginning of a list, up to where it ended before, is what it was before.
begun_as : {T : Type 0} {before list : List T} {n : ℕ} → n ≡ length before → BeginsWith before list → take n list ≡ before
begun_as {T} {before} {n} is begins =
    rw begins.1 (take-append-le n _ _ (omega (arith, is)) ∙ take_all n before (omega (arith, is)))

-- A list that is cut to its old length has nothing more than it had before.
pub nothing_if_cut : (before list cut : NumberedList) (more : List ModuleVersion) → Appends before list more
    → cut.modules ≡ list.modules → cut.numbers ≡ take (length before.numbers) list.numbers → Appends before cut []
nothing_if_cut before list cut more grown modules numbers =
    let start = length before.numbers in
    let begins : BeginsWith (modules_of before) (modules_of list) = (more, grown.listed) in
    let same : modules_of cut ≡ modules_of before =
    rw modules (rw numbers (sym (take-map _ _ _)
    ∙ begun_as (sym (length-map before.numbers (module_at before.modules))) begins)) in
    record {
      numbered = rw modules grown.numbered;
      kept = ([], numbers ∙ begun_as refl grown.kept ∙ sym (append-nil before.numbers));
      listed = same ∙ sym (append-nil (modules_of before));
    }

-- What was put to the end of the list before is put to the end of it in any list that is this one.
pub given_back : {requirements : Requirements} (list given before : NumberedList) (was : Snapshot NumberedList)
    → items_in (place.End list was) ≡ requirements → Appends was.value list (added was.value list)
    → requirements.before ≡ Some before → given ≡ list → Appends before given requirements.items
given_back list given before was is grown has same =
    subst (λ (r : Requirements). r.before ≡ Some before → Appends before given r.items) is (λ there.
    subst (λ (b : NumberedList). Appends b given (added was.value list)) (same_Some _ _ there) (rw same grown)) has
