-- Files with the requirements of an earlier one.
use Rattle.std.proofs.Common.{◌≡◌, ◌∙◌, ◌<◌, ◌≤◌, ◌-◌, ◌⊎◌, ◌++◌, ◌∷◌, [], ℕ, zero, suc, Bool, true, List, None, Option, Some, ap, append-nil, arith, drop, false, inl, inr, length, refl, sym, take}
use Rattle.std.specs.Prelude.{is_some, nat_eq, not, slice_get}
use Rattle.std.specs.Cmp.Lexicographic.{pointwise, same_text}
use Rattle.std.specs.Option.{option_and_then}
use Rattle.std.proofs.lemmas.List.{drop_at, length-append, length-drop, length-map, length-take-le, take-append-drop, take-map, take_all, take_at}
use Rattle.std.proofs.lemmas.Option.{option_and_then_some, same_Some, slice_get-map, slice_get_within}
use Rattle.gm_name.specs.ModuleVersion.{ModuleVersion, module_at}
use Rattle.gm_name_table.specs.Listed.{Appends, BeginsWith, NumberedList, modules_at, modules_of, part}
use Rattle.gm_name_table.proofs.Listed.{appends_after, part_as}
use Rattle.gm_graph_files.specs.declared.summary.Kept.{Kept}
use Rattle.gm_graph_files.specs.declared.summary.Kept.TheVariants.{Valid, Faulty}
use Rattle.gm_graph_files.specs.declared.summary.KeptList.{KeptList}
use Rattle.gm_graph_files.specs.declared.summary.ListSpan.{ListSpan}
use Rattle.gm_graph_files.specs.declared.summary.Summary.{Summary}
use Rattle.gm_graph_files.specs.Summaries.{at_span, own_span, own_span_at, span_unless}
use Rattle.gm_graph_files.specs.KeptFiles.{AreKeptIn, Grows, IsKeptIn, IsWithinList, front_of, span_found}
use Rattle.gm_graph_files.specs.Private.Summaries.{IsSameList, list_place}
use Rattle.gm_graph_files.proofs.Ordered.{own_spans}
use Rattle.gm_graph_files.proofs.Spans.{span_still, within_still}

-- ---- own lists

pub none_if : (o : Option ℕ) → is_some o ≡ false → o ≡ None
none_if None e = refl
none_if (Some place) e = absurd (cc e)

pub same_numbers : (xs ys : List ℕ) → false ≡ not (pointwise nat_eq xs ys) → xs ≡ ys
same_numbers xs ys e = by (pointwise nat_eq xs ys) refl e
  where
    by : (b : Bool) → pointwise nat_eq xs ys ≡ b → false ≡ not b → xs ≡ ys
    by true is e = same_text xs ys (sym is)
    by false is e = absurd (cc e)

own_within : (files : List Kept) (place : ℕ) (span : ListSpan) → own_span_at files place ≡ Some span → place < length files
own_within files place span e = option_and_then_some own_span (slice_get files place) span e (λ one there _. slice_get_within files place one there)

-- An own list stays if files come after.
pub own_still : (files more : List Kept) (place : ℕ) (span : ListSpan) → own_span_at files place ≡ Some span
    → own_span_at (files ++ more) place ≡ Some span
own_still [] more place span e = absurd (cc e)
own_still (file ∷ files) more zero span e = e
own_still (file ∷ files) more (suc place) span e = own_still files more place span e

pub own_there : (files : List Kept) (place : ℕ) (span : ListSpan) → own_span_at files place ≡ Some span
    → slice_get (own_spans files) place ≡ Some (Some span)
own_there files place span e = slice_get-map own_span files place
    ∙ option_and_then_some own_span (slice_get files place) span e (λ one there own. rw (there, own) refl)

unless_some : (o : Option ℕ) (span found : ListSpan) → span_unless o span ≡ Some found → span ≡ found
unless_some None span found e = same_Some span found e
unless_some (Some place) span found e = absurd (cc e)

-- An own list is the one that is found.
pub found_own : (o : Option Kept) (span : ListSpan) → option_and_then own_span o ≡ Some span → span_found o ≡ span
found_own None span e = absurd (cc e)
found_own (Some (Valid summary)) span e = unless_some summary.list.same_as summary.list.span span e
found_own (Some (Faulty class)) span e = absurd (cc e)

-- ---- the lists of all files

pub push_cases : (files : List Kept) (last : Kept) (place : ℕ) (one : Kept) → slice_get (files ++ last ∷ []) place ≡ Some one
    → (slice_get files place ≡ Some one) ⊎ ((place ≡ length files) × (last ≡ one))
push_cases [] last zero one e = inr (refl, same_Some last one e)
push_cases [] last (suc place) one e = absurd (cc e)
push_cases (file ∷ files) last zero one e = inl e
push_cases (file ∷ files) last (suc place) one e = elim (push_cases files last place one e) [
  | inl there ↦ inl there
  | inr here ↦ inr (ap suc here.0, here.1)
]

module _ (modules : List ModuleVersion) where
  pub listed_grown : (more : List ModuleVersion) (files : List Kept) → BeginsWith modules more → AreKeptIn modules files
      → AreKeptIn more files
  listed_grown more files begins are = λ place one there. grown one (are place one there)
    where
      grown : (one : Kept) → IsKeptIn modules files one → IsKeptIn more files one
      grown (Valid summary) is = (within_still modules more summary.list.span begins is.0, is.1)
      grown (Faulty class) is = tt

  -- one file more
  pub listed_push : (files : List Kept) (last : Kept) → AreKeptIn modules files → IsKeptIn modules files last
      → AreKeptIn modules (files ++ last ∷ [])
  listed_push files last are is = λ place one e. elim (push_cases files last place one e) [
    | inl there ↦ still one (are place one there)
    | inr here ↦ still one (rw here.1 at is)
  ]
    where
      still : (one : Kept) → IsKeptIn modules files one → IsKeptIn modules (files ++ last ∷ []) one
      still (Valid summary) was = (was.0, λ place shared. own_still files (last ∷ []) place summary.list.span (was.1 place shared))
      still (Faulty class) was = tt

  -- The list of a valid file is the own one of the file that has it.
  pub list_owned : (files : List Kept) (place : ℕ) (summary : Summary) → AreKeptIn modules files
      → slice_get files place ≡ Some (Valid summary)
      → (list_place files place < length files) × (own_span_at files (list_place files place) ≡ Some summary.list.span)
  list_owned files place summary are there = by summary.list.same_as refl
    where
      by : (o : Option ℕ) → summary.list.same_as ≡ o
          → (list_place files place < length files) × (own_span_at files (list_place files place) ≡ Some summary.list.span)
      by None e =
          rw (there, e) (slice_get_within files place (Valid summary) there, rw (there, e) refl)
      by (Some earlier) e =
          let own = (are place (Valid summary) there).1 earlier e in rw (there, e) (own_within files earlier summary.list.span own, own)

-- ---- the list of modules, as it grows and is cut

-- Nothing was put to the end of a list that stayed.
pub appends_none : (list : NumberedList) → Appends list list []
appends_none list = record {
  numbered = ([], sym (append-nil list.modules));
  kept = ([], sym (append-nil list.numbers));
  listed = sym (append-nil (modules_of list));
}

-- If a list begins another, it is what stands there at the front.
front_is : {T : Type 0} (xs more : List T) (whole : List T) (count : ℕ) → whole ≡ xs ++ more → count ≡ length xs
    → take count whole ≡ xs
front_is xs more whole count is same = ap (take count) is ∙ take_at xs more count (sym same)

module _ (before old : NumberedList) (start : ℕ) (same : start ≡ length before.numbers) (grows : Grows before old) where
  -- What ends where another list was cut is its front, but for modules that have numbers.
  cut_after : Appends before (front_of start old) []
  cut_after = record {
    numbered = grows.1.numbered;
    kept = ([], front_is before.numbers grows.1.kept.0 old.numbers start grows.1.kept.1 same ∙ sym (append-nil before.numbers));
    listed = sym (take-map (module_at old.modules) start old.numbers)
        ∙ front_is (modules_of before) grows.0 (modules_of old) start grows.1.listed
        (same ∙ sym (length-map before.numbers (module_at before.modules)))
        ∙ sym (append-nil (modules_of before));
  }

  -- Files that are listed in it are listed in the front.
  pub listed_front : (files : List Kept) → AreKeptIn (modules_of before) files → AreKeptIn (modules_of (front_of start old)) files
  listed_front files are = listed_grown (modules_of before) (modules_of (front_of start old)) files ([], cut_after.listed) are

  -- What grows from the front grows from it.
  pub grown_after : (new : NumberedList) → Grows (front_of start old) new → Grows before new
  grown_after new more = (more.0, appends_after before (front_of start old) new [] more.0 cut_after more.1)

module _ (old : NumberedList) (start : ℕ) where
  -- A list is its front with others at its end.
  pub cut_appends : Appends (front_of start old) old (drop start (modules_of old))
  cut_appends = record {
    numbered = ([], sym (append-nil old.modules));
    kept = (drop start old.numbers, sym (take-append-drop start old.numbers));
    listed = sym (take-append-drop start (modules_of old))
        ∙ ap (λ (front : List ModuleVersion). front ++ drop start (modules_of old)) (take-map (module_at old.modules) start old.numbers);
  }

  pub end_part : part start (length old.numbers) (modules_of old) ≡ drop start (modules_of old)
  end_part = take_all (length old.numbers - start) (drop start (modules_of old))
      (omega (arith, length-drop start (modules_of old), length-map old.numbers (module_at old.modules)))

  -- The span of an equal list has what is cut off.
  pub cut_same : (span : ListSpan) → IsWithinList (modules_of (front_of start old)) span
      → part span.start span.end old.numbers ≡ part start (length old.numbers) old.numbers
      → at_span (modules_of (front_of start old)) span ≡ drop start (modules_of old)
  cut_same span within same =
      sym (span_still (modules_of (front_of start old)) (modules_of old) span (drop start (modules_of old), cut_appends.listed) within)
      ∙ sym (part_as old.modules old.modules old.numbers old.numbers span.start span.end refl refl)
      ∙ ap (modules_at old.modules) same
      ∙ part_as old.modules old.modules old.numbers old.numbers start (length old.numbers) refl refl
      ∙ end_part

  -- Files that are listed in the front are listed in each list that begins with it.
  pub listed_after : (files : List Kept) → AreKeptIn (modules_of (front_of start old)) files → {new : NumberedList} → Grows (front_of start old) new
      → AreKeptIn (modules_of new) files
  listed_after files are {new} grows = listed_grown (modules_of (front_of start old)) (modules_of new) files (grows.0, grows.1.listed) are

  pub cut_is : (new : NumberedList) → new.modules ≡ old.modules → new.numbers ≡ take start old.numbers → new ≡ front_of start old
  cut_is new modules numbers = λ i. record { modules = modules i; numbers = numbers i }

-- ---- a list that begins with the front of another

module _ (old mid : NumberedList) (start : ℕ) (more : List ModuleVersion) (below : start ≤ length old.numbers)
    (appends : Appends (front_of start old) mid more) where
  front_length : length (front_of start old).numbers ≡ start
  front_length = length-take-le start old.numbers below

  pub ends_after : start ≤ length mid.numbers
  ends_after = omega (arith, front_length, ap length appends.kept.1, length-append (front_of start old).numbers appends.kept.0)

  -- What comes after the front.
  pub rest_is : drop start (modules_of mid) ≡ more
  rest_is = ap (drop start) appends.listed
      ∙ drop_at (modules_of (front_of start old)) more start (length-map (front_of start old).numbers (module_at old.modules) ∙ front_length)

  -- If it is cut there, it is the front, and may have more modules with numbers.
  pub cut_again : Grows (front_of start old) (front_of start mid)
  cut_again = ([], cut_after (front_of start old) mid start (sym front_length) (more, appends))

-- A list that was cut ends there.
pub cut_length : (list : NumberedList) (start : ℕ) (new : NumberedList) → start ≤ length list.numbers → new.numbers ≡ take start list.numbers
    → length new.numbers ≡ start
cut_length list start new below numbers = ap length numbers ∙ length-take-le start list.numbers below

-- ---- the list of one more file

-- It is within the list of modules if it is its own.
pub own_within_list : (list : NumberedList) (start end : ℕ) → start ≤ length list.numbers → end ≡ length list.numbers
    → IsWithinList (modules_of list) (record { start = start; end = end })
own_within_list list start end below is = record {
  order = omega (arith, below, is);
  within = omega (arith, is, length-map list.numbers (module_at list.modules));
}

-- If it is shared, it is the own list of the file at its place.
pub list_shared : (list : NumberedList) (files : List Kept) (numbers : List ℕ) (same : KeptList) → IsSameList list files numbers same
    → (place : ℕ) → same.same_as ≡ Some place → own_span_at files place ≡ Some same.span
list_shared list files numbers same has place e = rw (← same_Some has.place place (sym has.shared ∙ e), has.there) refl
