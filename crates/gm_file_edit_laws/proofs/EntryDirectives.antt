-- What the lines of a file say after an entry is put in.
use Rattle.std.proofs.Common.{◌≡◌, ℕ, not, Bool, true, false, List, [], ◌∷◌, ◌++◌, Option, None, refl, sym, ap, ◌∙◌}
use Rattle.std.specs.Prelude.{filter}
use Rattle.std.specs.List.{cons_option, list_any}
use Rattle.std.proofs.lemmas.List.Elements.{filter-append, filter_map-append}
use Rattle.gm_syntax_words.specs.Tokens.{Placed}
use Rattle.gm_syntax.specs.Document.{Line}
use Rattle.gm_file.specs.Directives.{Directive, block_after_line, block_after_lines, item_at, with_blocks_from}
use Rattle.gm_file.proofs.Pairwise.{nil-parts}
use Rattle.gm_file.proofs.Snoc.{with_blocks-snoc}
use Rattle.gm_file_edit.specs.Holding.{is_there}
use Rattle.gm_file_edit.specs.NewWords.{entry_at}
use Rattle.gm_file_edit.proofs.Filters.{filter-none, filter-one, no-filter, others}
use Rattle.gm_file_edit.proofs.Insertions.{Fits, IsAddition, into-fits, IsPutInto, gap_lines, there-is}
use Rattle.gm_file_edit.proofs.Pairs.{IsSound, held_at, held_from, held_in, plain-held}
use Rattle.gm_file_edit_laws.specs.Laws.{directives_of}

-- ---- the directives of lines

-- the directives of a file
pub file-held : (lines : List (Line Placed)) → directives_of lines ≡ held_from None lines
file-held lines = plain-held None lines

pub there-said : (test : Directive → Bool) (lines : List (Line Placed)) → is_there test None lines ≡ list_any test (directives_of lines)
there-said test lines = there-is test None lines ∙ ap (list_any test) (sym (file-held lines))

held-append : (block : Option Placed) (front back : List (Line Placed))
    → held_from block (front ++ back) ≡ held_from block front ++ held_from (block_after_lines block front) back
held-append block front back = ap held_in (with_blocks-snoc block front back)
    ∙ filter_map-append held_at (with_blocks_from block front) (with_blocks_from (block_after_lines block front) back)

-- ---- with a new one

-- the list after is the list before with a new directive inserted
pub record IsPutIn (new : Directive) (before after : List Directive) : Type 0 where
  pub front : List Directive
  pub back : List Directive
  pub was : before ≡ front ++ back
  pub is : after ≡ front ++ new ∷ back

fits-held : (new : Directive) {block : Option Placed} {line : Line Placed} (back : List (Line Placed))
    → Fits block new line → held_from block (line ∷ back) ≡ new ∷ held_from block back
fits-held new {block} {line} back fits =
    ap (λ (o : Option Directive). cons_option o (held_from (block_after_line block line) back)) fits.holds
    ∙ ap (λ (b : Option Placed). new ∷ held_from b back) fits.level

gap-held : (gap : Bool) (block : Option Placed) (back : List (Line Placed)) → held_from block (gap_lines gap ++ back) ≡ held_from block back
unfolding item_at
gap-held true block back = refl
gap-held false block back = refl

pub into-said : {v : List ℕ} {arguments : List Placed} (new : Directive) {lines after : List (Line Placed)}
    → IsAddition v arguments new → IsSound lines → IsPutInto v arguments lines after
    → IsPutIn new (held_from None lines) (held_from None after)
into-said {v} {arguments} new so sound put =
    let block = block_after_lines None put.front in
    let entry = entry_at put.inside v arguments in
    record {
      front = held_from None put.front;
      back = held_from block put.back;
      was = rw put.was (held-append None put.front put.back);
      is =
          rw (put.is, held-append None put.front (gap_lines put.gap ++ entry ∷ put.back), gap-held put.gap block (entry ∷ put.back))
          (ap (λ (ds : List Directive). held_from None put.front ++ ds)
          (fits-held _ put.back (into-fits v _ _ so (put.fits sound.closed))));
    }

pub put-others : (test : Directive → Bool) {new : Directive} {before after : List Directive} → test new ≡ true
    → IsPutIn new before after → filter (others test) after ≡ filter (others test) before
put-others test {new} own put = rw (
  put.is,
  put.was,
  filter-append (others test) put.front (new ∷ put.back),
  filter-append (others test) put.front put.back,
  filter-none _ _ put.back (ap not own),
)

pub put-alone : (test : Directive → Bool) (new : Directive) {before after : List Directive} → test new ≡ true
    → list_any test before ≡ false → IsPutIn new before after → filter test after ≡ new ∷ []
put-alone test new {before} own none put =
    let nothing : filter test put.front ++ filter test put.back ≡ [] =
    rw (put.was, filter-append test put.front put.back) at (no-filter test before none) in
    let parts = nil-parts (filter test put.front) (filter test put.back) nothing in
    rw (put.is, filter-append test put.front (new ∷ put.back), parts.0, filter-one test new put.back own, parts.1)
