-- What changes of the places of files, and of what is kept, if a place is noted.
use Rattle.std.proofs.Common.{◌≡◌, ◌∙◌, ◌⊎◌, ◌<◌, ◌≤◌, ℕ, zero, suc, Bool, true, false, cond, List, [], ◌∷◌, ◌++◌, Option, Some, None, length, get_or, ap, arith, inl, inr, refl, sym}
use Rattle.std.specs.Map.{lookup, set_value}
use Rattle.std.specs.Option.{IsSome, option_and_then, option_map}
use Rattle.std.specs.Ordering.{is_eq}
use Rattle.std.specs.Prelude.{slice_get}
use Rattle.std.proofs.lemmas.Bool.{cases_Bool}
use Rattle.std.proofs.lemmas.Bool.Decides.{Decides-eqb, eqb_tells}
use Rattle.std.proofs.lemmas.Option.{same_Some}
use Rattle.gm_name.specs.ModuleVersion.{ModuleVersion, module_at}
use Rattle.gm_name_table.specs.OptionalPlaces.{no_place, place_in}
use Rattle.gm_name_table.specs.declared.place.OptionalPlace.{OptionalPlace}
use Rattle.gm_name_table.specs.Listed.{BeginsWith}
use Rattle.gm_name_table.proofs.Buckets.{before, last as last_one}
use Rattle.gm_store_parts.proofs.NameOrder.{name_itself, names_equal, same_name_from_cmp}
use Rattle.gm_store_parts.specs.Asked.{Name, name_of, same_name}
use Rattle.gm_store_parts.specs.contracts.files.FileNameOrd.TheImpl.{cmp-value}
use Rattle.gm_store_parts.specs.declared.files.FileName.{FileName}
use Rattle.gm_graph_cache.proofs.NumberedModules.{number_below, number_stays}
use Rattle.gm_graph_cache.specs.declared.cache.file_table.FileTable.{FileTable}
use Rattle.gm_graph_files.specs.declared.summary.Kept.{Kept}
use Rattle.gm_graph_cache.specs.FileTable.{place_of}
use Rattle.gm_graph_cache.specs.Private.FileTable.{Adds, IsNewFile, IsPlacedAt, KeepsFiles, KeepsNoted, KeepsOthers, NotesFiles, NotesFor, PutsFile, place_noted, replacing_place}
use Rattle.gm_file.specs.Main.{Main}
use Rattle.gm_graph_files.specs.Reading.{file_of}

-- ---- a place is noted for one number

module _ (old new : FileTable) (number place : ℕ) (notes : NotesFor old new number place) where
  -- What is noted for a number is this place, or what was noted.
  noted_cases : (k : ℕ) → ((number ≡ k) × (place_noted new k ≡ Some place)) ⊎ (place_noted new k ≡ place_noted old k)
  noted_cases k = rw (notes k) (elim (eqb_tells number k) [
    | inl here ↦ inl (here.1, rw here.0 refl)
    | inr other ↦ inr (rw other.0 refl)
  ])

  -- What is not noted was not.
  noted_before : (k : ℕ) → place_noted new k ≡ None → place_noted old k ≡ None
  noted_before k none = elim (noted_cases k) [
    | inl here ↦ absurd (cc (sym here.1 ∙ none))
    | inr same ↦ sym same ∙ none
  ]

-- ---- a file gets its place

some_put : {T : Type 0} (b : Bool) (r : Option T) (put : T) → IsSome r → IsSome (cond b (option_map (λ _. put) r) r)
some_put b None put some = absurd (cc some)
some_put true (Some place) put some = refl
some_put false (Some place) put some = refl

is_put : {T : Type 0} (r : Option T) {put held : T} → option_map (λ (_ : T). put) r ≡ Some held → put ≡ held
is_put None e = absurd (cc e)
is_put (Some place) e = same_Some _ _ e

module _ {main : Main} {modules : List ModuleVersion} {old : FileTable} (new : FileTable) {number : ℕ} {name : Name} {kept : Kept} {place : ℕ}
    (is : IsNewFile main modules old number name) (adds : Adds old new name number kept place) where
  -- It is this name, or nothing changes for the other one.
  put_cases : (other : Name)
      → ((other ≡ name) × (place_of new other ≡ Some place) × (replacing_place new other ≡ option_map (λ _. Some place) (replacing_place old other)))
      ⊎ ((place_of new other ≡ place_of old other) × (replacing_place new other ≡ replacing_place old other))
  put_cases other = elim (cases_Bool (same_name other name)) [
    | inl same ↦ inl (names_equal other name same, adds.named other ∙ rw same refl, adds.replacing other ∙ rw same refl)
    | inr apart ↦ inr (adds.named other ∙ rw apart refl, adds.replacing other ∙ rw apart refl)
  ]

  -- Each place that is noted is that of the file, and each place is noted.
  pub notes_put : NotesFiles main modules old → NotesFiles main modules new
  notes_put were = record {
    has_replacing = λ x some. rw (adds.replacing (file_of main x)) (some_put _ _ (Some place) (were.has_replacing x some));
    modules_noted = λ k there e. elim (noted_cases old new number place adds.noted k) [
      | inl here ↦ rw (sym here.0) (record {
        placed = rw (sym is.named) (adds.named name ∙ rw (name_itself name) (sym here.1 ∙ e));
        askable = rw (sym is.named) is.askable;
      })
      | inr same ↦ (let one = were.modules_noted k there (sym same ∙ e) in record {
        placed = elim (put_cases (file_of main (module_at modules k))) [
          | inl here ↦ absurd (cc (sym is.none ∙ ap (place_of old) (sym here.0) ∙ one.placed))
          | inr stays ↦ stays.0 ∙ one.placed
        ];
        askable = one.askable;
      })
    ];
    replacing_noted = λ other held e. elim (put_cases other) [
      | inl here ↦ here.1 ∙ is_put _ (sym here.2 ∙ e)
      | inr stays ↦ stays.0 ∙ were.replacing_noted other held (sym stays.1 ∙ e)
    ];
    others_noted = λ other unnoted none. elim (put_cases other) [
      | inl here ↦ (
          let noted : place_noted new number ≡ Some place = adds.noted number ∙ rw ((Decides-eqb number number).1 refl) refl in
          absurd (cc (sym noted ∙ unnoted number is.within (here.0 ∙ is.named))))
      | inr stays ↦ stays.0 ∙ were.others_noted other (λ k below named. noted_before old new number place adds.noted k (unnoted k below named)) (sym stays.1 ∙ none)
    ];
  }

-- ---- the files stay

pub same_files : {old new : FileTable} → KeepsOthers old new → KeepsFiles old new
same_files others name = rw others.files (rw others.names refl)

module _ {main : Main} {modules : List ModuleVersion} {old new : FileTable} (others : KeepsOthers old new) where
  notes_by : ((k at : ℕ) → place_noted new k ≡ Some at → IsPlacedAt main old (module_at modules k) at)
      → ((k : ℕ) → place_noted new k ≡ None → place_noted old k ≡ None) → NotesFiles main modules old → NotesFiles main modules new
  notes_by noted before were = record {
    has_replacing = λ x some. rw others.replacing (were.has_replacing x some);
    modules_noted = λ k at e. let one = noted k at e in record { placed = rw others.names one.placed; askable = one.askable };
    replacing_noted = λ name held e. rw others.names (were.replacing_noted name held (rw others.replacing at e));
    others_noted = λ name unnoted none.
        rw others.names (were.others_noted name (λ k below named. before k (unnoted k below named)) (rw others.replacing at none));
  }

  pub notes_kept : KeepsNoted old new → NotesFiles main modules old → NotesFiles main modules new
  notes_kept noted were = notes_by (λ k at e. were.modules_noted k at (sym (noted k) ∙ e)) (λ k none. sym (noted k) ∙ none) were

  -- The place of a module's file is noted for the module.
  pub notes_again : (number place : ℕ) → NotesFor old new number place → IsPlacedAt main old (module_at modules number) place
      → NotesFiles main modules old → NotesFiles main modules new
  notes_again number place notes is were = notes_by
      (λ k at e. elim (noted_cases old new number place notes k) [
        | inl here ↦ rw (sym here.0) (rw (same_Some place at (sym here.1 ∙ e)) at is)
        | inr same ↦ were.modules_noted k at (sym same ∙ e)
      ])
      (noted_before old new number place notes) were

-- ---- there are more modules

noted_below : (places : List OptionalPlace) (k at : ℕ) → place_in (get_or places k no_place) ≡ Some at → k < length places
noted_below [] k at e = absurd (cc e)
noted_below (place ∷ places) zero at e = omega arith
noted_below (place ∷ places) (suc k) at e = omega (arith, noted_below places k at e)

pub notes_if_more : (main : Main) (old new : List ModuleVersion) (files : FileTable) → BeginsWith old new → length files.places.items ≤ length old
    → NotesFiles main old files → NotesFiles main new files
notes_if_more main old new files begins within were = record {
  has_replacing = were.has_replacing;
  modules_noted = λ k at e.
      rw (number_stays old new k begins (omega (arith, noted_below files.places.items k at e, within))) (were.modules_noted k at e);
  replacing_noted = were.replacing_noted;
  others_noted = λ name unnoted none. were.others_noted name
      (λ k below named. unnoted k (number_below old new k begins below) (named ∙ ap (file_of main) (sym (number_stays old new k begins below)))) none;
}

-- ---- what is kept, if there is one file more

still_there : (files : List Kept) (kept : Kept) (place : Option ℕ) → ((number : ℕ) → place ≡ Some number → number < length files)
    → option_and_then (slice_get (files ++ kept ∷ [])) place ≡ option_and_then (slice_get files) place
still_there files kept None within = refl
still_there files kept (Some number) within = before files kept number (within number refl)

pub file_added : (old new : FileTable) {name : Name} {number : ℕ} {kept : Kept} {noted : ℕ} → Adds old new name number kept noted
    → PutsFile old new name kept
file_added old new {name} {number} {kept} {noted} adds = λ other.
    rw (adds.files, adds.named other) (by (same_name other name) (place_of old other) (old.within other))
  where
    by : (b : Bool) (place : Option ℕ) → ((number : ℕ) → place ≡ Some number → number < length old.files.items)
        → option_and_then (slice_get (old.files.items ++ kept ∷ [])) (cond b (Some noted) place)
        ≡ cond b (Some kept) (option_and_then (slice_get old.files.items) place)
    by true = λ place is. rw adds.last (last_one old.files.items kept)
    by false = still_there old.files.items kept

-- ---- the files of replacements

module _ {K : Type 0} (at found : K → Bool) (place : OptionalPlace) where
  -- A value was set, and is found if one was found.
  set_itself : ((k : K) → found k ≡ at k) → (entries : List (K × OptionalPlace))
      → lookup found (set_value at entries place) ≡ option_map (λ _. place) (lookup found entries)
  set_itself same [] = refl
  set_itself same (entry ∷ entries) = elim (cases_Bool (at entry.0)) [
    | inl is ↦ rw (is, same entry.0, is) refl
    | inr other ↦ rw (other, same entry.0, other) (set_itself same entries)
  ]

  -- Others are found as they were.
  set_others : ((k : K) → at k ≡ true → found k ≡ false) → (entries : List (K × OptionalPlace))
      → lookup found (set_value at entries place) ≡ lookup found entries
  set_others apart [] = refl
  set_others apart (entry ∷ entries) = elim (cases_Bool (at entry.0)) [
    | inl is ↦ rw (is, apart entry.0 is) refl
    | inr other ↦ rw other (ap (cond (found entry.0) (Some entry.1)) (set_others apart entries))
  ]

place_set : (held : Option OptionalPlace) (place : OptionalPlace) (at : ℕ) → place_in place ≡ Some at
    → option_map place_in (option_map (λ _. place) held) ≡ option_map (λ _. Some at) (option_map place_in held)
place_set None place at is = refl
place_set (Some was) place at is = ap Some is

-- the place that is noted for the file of a name
abbrev place_held : List (FileName × OptionalPlace) → Name → Option (Option ℕ)
place_held entries name = option_map place_in (lookup (λ file. same_name name (name_of file)) entries)

-- The place of the file of this name was set, if it had one.
pub replacing_set : (entries : List (FileName × OptionalPlace)) (name : FileName) (place : OptionalPlace) (at : ℕ) → place_in place ≡ Some at
    → (other : Name) → place_held (set_value (λ file. is_eq (cmp-value.it name file)) entries place) other
    ≡ cond (same_name other (name_of name)) (option_map (λ _. Some at) (place_held entries other)) (place_held entries other)
replacing_set entries name place at noted other = elim (cases_Bool (same_name other (name_of name))) [
  | inl same ↦ rw same
      (ap (option_map place_in) (set_itself (λ file. is_eq (cmp-value.it name file)) (λ file. same_name other (name_of file)) place
      (λ file. ap (λ (n : Name). same_name n (name_of file)) (names_equal other (name_of name) same) ∙ sym (same_name_from_cmp name file)) entries)
      ∙ place_set _ place at noted)
  | inr apart ↦ rw apart
      (ap (option_map place_in) (set_others (λ file. is_eq (cmp-value.it name file)) (λ file. same_name other (name_of file)) place
      (λ file here. ap (same_name other) (sym (names_equal (name_of name) (name_of file) (sym (same_name_from_cmp name file) ∙ here))) ∙ apart) entries))
]

-- It had none.
pub none_set : (entries : List (FileName × OptionalPlace)) (name : Name) (place : Option ℕ) (other : Name)
    → lookup (λ file. same_name name (name_of file)) entries ≡ None → place_held entries other
    ≡ cond (same_name other name) (option_map (λ _. place) (place_held entries other)) (place_held entries other)
none_set entries name place other none = elim (cases_Bool (same_name other name)) [
  | inl same ↦ rw same (rw (names_equal other name same) (rw none refl))
  | inr apart ↦ rw apart refl
]
