-- Two operations with no common target leave the same directives in either order.
use Rattle.std.proofs.Common.{◌≡◌, ◌&&◌, not, Bool, true, false, List, ◌++◌, refl, sym, ap, ◌∙◌}
use mathlib.Core.Bool.{and_comm}
use Rattle.std.specs.Prelude.{filter}
use Rattle.std.specs.List.{list_any}
use Rattle.std.specs.List.Sorted.{IsPermutation}
use Rattle.std.proofs.lemmas.List.Elements.{filter_agree}
use Rattle.std.proofs.lemmas.List.Sorted.{IsPermutation-append_right, IsPermutation-filter_both, IsPermutation-sym, IsPermutation-trans}
use Rattle.gm_syntax_words.specs.Tokens.{Placed}
use Rattle.gm_syntax.specs.Document.{Line}
use Rattle.gm_file.specs.Directives.{Directive}
use Rattle.gm_file_edit.specs.About.{about}
use Rattle.gm_file_edit.specs.Edited.{lines_after}
use Rattle.gm_file_edit.specs.Edits.{Edit, Set, Add, Drop}
use Rattle.gm_file_edit_laws.specs.Laws.{AreApart, EitherOrderLeavesTheSame, IsEditOf, directives_of}
use Rattle.gm_file_edit.specs.Kinds.{directive_added, directive_set}
use Rattle.gm_file_edit.proofs.EditedSound.{edited-document}
use Rattle.gm_file_edit.proofs.Filters.{any-filled, filter-filter, is_filled, no-filter, others}
use Rattle.gm_file_edit_laws.proofs.EditedDirectives.{added-is-there, dropped-is-gone, others-stay, set-stands-alone}
use Rattle.gm_file_edit.proofs.Written.{written-sound}

-- ---- filters

-- what passes a test is not lost among the others of a test that excludes it
among-others : {X : Type 0} (test other : X → Bool) → ((x : X) → (test x && other x) ≡ false) → (xs : List X)
    → filter test (filter (others other) xs) ≡ filter test xs
among-others test other apart xs = filter-filter test (others other) xs
    ∙ filter_agree (λ x. others other x && test x) test (λ x. beside _ _ (apart x)) xs
  where
    beside : (a b : Bool) → (a && b) ≡ false → (not b && a) ≡ a
    beside true true e = absurd cc
    beside true false e = refl
    beside false true e = refl
    beside false false e = refl

-- two filters in either order
filters-swap : {X : Type 0} (p q : X → Bool) (xs : List X) → filter p (filter q xs) ≡ filter q (filter p xs)
filters-swap p q xs = filter-filter p q xs ∙ filter_agree (λ x. q x && p x) (λ x. p x && q x) (λ x. and_comm (q x) (p x)) xs ∙ sym (filter-filter q p xs)

-- ---- one operation on two files

-- files that say the same of what an operation targets do so after it
targeted-same : (edit : Edit) (xs ys : List (Line Placed)) → IsEditOf edit xs → IsEditOf edit ys
    → filter (about edit) (directives_of xs) ≡ filter (about edit) (directives_of ys)
    → filter (about edit) (directives_of (lines_after edit xs)) ≡ filter (about edit) (directives_of (lines_after edit ys))
targeted-same (Set s) xs ys one two same = set-stands-alone (Set s) xs (directive_set s) one refl ∙ sym (set-stands-alone (Set s) ys (directive_set s) two refl)
targeted-same (Add a) xs ys one two same =
    let test = about (Add a) in
    let there : list_any test (directives_of xs) ≡ list_any test (directives_of ys) =
    any-filled test (directives_of xs) ∙ ap is_filled same ∙ sym (any-filled test (directives_of ys)) in
    rw (there, same) at (added-is-there (Add a) xs (directive_added a) one refl) ∙ sym (added-is-there (Add a) ys (directive_added a) two refl)
targeted-same (Drop t) xs ys one two same =
    let test = about (Drop t) in
    no-filter test (directives_of (lines_after (Drop t) xs)) (dropped-is-gone (Drop t) xs refl)
    ∙ sym (no-filter test (directives_of (lines_after (Drop t) ys)) (dropped-is-gone (Drop t) ys refl))

-- an operation on what another left
edit-after : (edit other : Edit) (lines : List (Line Placed)) → IsEditOf edit lines → IsEditOf other lines → IsEditOf edit (lines_after other lines)
edit-after edit other lines is also =
    let after = edited-document _ _ (written-sound _ _ also.0.1) also.1 also.2 also.3 in
    (is.0, is.1, after.0, after.1)

-- ---- both orders

-- another operation leaves what an operation targets
kept-by : (edit other : Edit) (lines : List (Line Placed)) → IsEditOf other lines → AreApart edit other
    → filter (about edit) (directives_of (lines_after other lines)) ≡ filter (about edit) (directives_of lines)
kept-by edit other lines is apart =
    rw (← among-others _ _ apart (directives_of (lines_after other lines)), others-stay other lines is)
    (among-others _ _ apart (directives_of lines))

-- so what an operation targets is the same in both orders
first-same : (one other : Edit) (lines : List (Line Placed)) → IsEditOf one lines → IsEditOf other lines → AreApart one other
    → filter (about one) (directives_of (lines_after other (lines_after one lines)))
    ≡ filter (about one) (directives_of (lines_after one (lines_after other lines)))
first-same one other lines is also apart =
    kept-by _ _ _ (edit-after _ _ _ also is) apart
    ∙ targeted-same _ _ _ is (edit-after _ _ _ is also) (sym (kept-by _ _ _ also apart))

-- and what neither targets
abbrev neither : Edit → Edit → List Directive → List Directive
neither one other ds = filter (others (about other)) (filter (others (about one)) ds)

neither-after : (one other : Edit) (lines : List (Line Placed)) → IsEditOf one lines → IsEditOf other lines
    → neither one other (directives_of (lines_after other (lines_after one lines)))
    ≡ neither one other (directives_of lines)
neither-after one other lines is also = rw (
  filters-swap (others (about other)) (others (about one)) (directives_of (lines_after other (lines_after one lines))),
  others-stay other (lines_after one lines) (edit-after _ _ _ also is),
  filters-swap (others (about one)) (others (about other)) (directives_of (lines_after one lines)),
  others-stay one lines is,
)

-- the directives in three parts
abbrev parts_of : Edit → Edit → List Directive → List Directive
parts_of one other ds = filter (about one) ds ++ (filter (about other) ds ++ neither one other ds)

apart-swap : (one other : Edit) → AreApart one other → AreApart other one
apart-swap one other apart d = and_comm (about other d) (about one d) ∙ apart d

in-parts : (one other : Edit) (ds : List Directive) → AreApart one other → IsPermutation ds (parts_of one other ds)
in-parts one other ds apart =
    let p = about one in
    let q = about other in
    let rest = filter (others p) ds in
    let inner : IsPermutation rest (filter q ds ++ neither one other ds) =
    rw (among-others q p (apart-swap _ _ apart) ds) at (IsPermutation-filter_both q (others q) (λ d. refl) rest) in
    IsPermutation-trans _ _ _ (IsPermutation-filter_both p (others p) (λ d. refl) ds) (IsPermutation-append_right (filter p ds) _ _ inner)

pub either-order : EitherOrderLeavesTheSame
either-order one other lines is also apart =
    let xs = directives_of (lines_after other (lines_after one lines)) in
    let ys = directives_of (lines_after one (lines_after other lines)) in
    let here = first-same _ _ _ is also apart in
    let there : filter (about other) xs ≡ filter (about other) ys = sym (first-same _ _ _ also is (apart-swap _ _ apart)) in
    let rest : neither one other xs ≡ neither one other ys =
    neither-after _ _ _ is also ∙ filters-swap (others (about other)) (others (about one))
    (directives_of lines) ∙ sym (neither-after _ _ _ also is)
    ∙ sym (filters-swap (others (about other)) (others (about one)) ys) in
    let same : parts_of one other xs ≡ parts_of one other ys = rw (here, there, rest) in
    IsPermutation-trans _ _ _ (rw same at (in-parts _ _ xs apart)) (IsPermutation-sym _ _ (in-parts _ _ ys apart))
