-- A document is a list of parts: single lines and blocks.
use Rattle.std.proofs.Common.{◌≡◌, ℕ, Bool, true, false, List, [], ◌∷◌, ◌++◌, Option, refl, sym, ap, ◌∙◌, append_assoc}
use Rattle.std.specs.List.{AllByRecursion, flat_map}
use Rattle.std.proofs.lemmas.Bool.{true≢false}
use Rattle.gm_syntax_words.specs.Words.{Word}
use Rattle.gm_syntax.specs.Document.{Line, Open, Close, inside_after_all, IsValidLine, IsDocument, start}
use Rattle.gm_syntax.specs.Documents.{Part, Single, Block, part_lines, IsLooseLine, IsPart, ConsistOfParts}
use Rattle.gm_syntax.proofs.Changes.{AreValidFrom, lines_stand, standing_lines, stand_together, inside_after_all-append, inside_after-level, open_outside}
use Rattle.gm_syntax.proofs.Stable.{line_fits}

-- ---- the lines of parts are a document

loose_valid : (inside : Bool) (lines : List (Line Word)) → AllByRecursion (IsLooseLine inside) lines
    → AreValidFrom inside lines × (inside_after_all inside lines ≡ inside)
loose_valid inside [] a = (tt, refl)
loose_valid inside (l ∷ ls) a =
    let same = inside_after-level inside l a.0.0 in
    let more = loose_valid inside ls a.1 in
    ((a.0.1, rw same more.0), rw same more.1)

abbrev AreClosed : List (Line Word) → Type 0
AreClosed lines = AreValidFrom false lines × (inside_after_all false lines ≡ false)

closed_together : (xs ys : List (Line Word)) → AreClosed xs → AreClosed ys → AreClosed (xs ++ ys)
closed_together xs ys a b = (
  stand_together false xs ys a.0 (rw a.1 b.0),
  inside_after_all-append false xs ys ∙ ap (λ c. inside_after_all c ys) a.1 ∙ b.1,
)

part_closed : (part : Part) → IsPart part → AreClosed (part_lines part)
part_closed (Single line) p = ((p.1, tt), inside_after-level false line p.0)
part_closed (Block verb suffix inner last) p =
    let loose = loose_valid true inner p.1 in
    let closing : AreValidFrom (inside_after_all true inner) (Close last ∷ []) = (rw loose.1 p.2, tt) in
    ((p.0, stand_together true inner _ loose.0 closing), inside_after_all-append true inner _)

parts_closed : (parts : List Part) → AllByRecursion IsPart parts → AreClosed (flat_map part_lines parts)
parts_closed [] a = (tt, refl)
parts_closed (p ∷ parts) a =
    closed_together _ _ (part_closed p a.0) (parts_closed parts a.1)

pub parts_document : (lines : List (Line Word)) → ConsistOfParts lines → IsDocument lines
parts_document lines h =
    let all = parts_closed h.parts h.are_parts in
    rw h.all_lines (standing_lines start _ all.0 all.1)

-- ---- a document has parts

-- the rest of a block, and the parts after it
record RestOfBlock (lines : List (Line Word)) : Type 0 where
  pub inner : List (Line Word)
  pub last : Option (List ℕ)
  pub others : List (Line Word)
  pub loose : AllByRecursion (IsLooseLine true) inner
  pub closing : IsValidLine true (Close last)
  pub split : lines ≡ inner ++ Close last ∷ others
  pub more : ConsistOfParts others

abbrev PartsFrom : Bool → List (Line Word) → Type 0
PartsFrom false lines = ConsistOfParts lines
PartsFrom true lines = RestOfBlock lines

single : (line : Line Word) (lines : List (Line Word)) → IsLooseLine false line → ConsistOfParts lines
    → ConsistOfParts (line ∷ lines)
single line lines loose h =
    record { parts = Single line ∷ h.parts; are_parts = (loose, h.are_parts); all_lines = rw h.all_lines refl }

block : (verb : Word) (suffix : Option (List ℕ)) (lines : List (Line Word)) → IsValidLine false (Open verb suffix)
    → RestOfBlock lines → ConsistOfParts (Open verb suffix ∷ lines)
block verb suffix lines valid r = record {
  parts = Block verb suffix r.inner r.last ∷ r.more.parts;
  are_parts = ((valid, r.loose, r.closing), r.more.are_parts);
  all_lines = rw (r.split, r.more.all_lines, append_assoc r.inner (Close r.last ∷ []) (flat_map part_lines r.more.parts)) refl;
}

in_block : (line : Line Word) (lines : List (Line Word)) → IsLooseLine true line → RestOfBlock lines
    → RestOfBlock (line ∷ lines)
in_block line lines loose r = record {
  inner = line ∷ r.inner;
  last = r.last;
  others = r.others;
  loose = (loose, r.loose);
  closing = r.closing;
  split = rw r.split refl;
  more = r.more;
}

loose_from : (inside : Bool) (line : Line Word) (lines : List (Line Word)) → IsLooseLine inside line
    → PartsFrom inside lines → PartsFrom inside (line ∷ lines)
loose_from false line lines loose h = single line lines loose h
loose_from true line lines loose h = in_block line lines loose h

parts_from : (inside : Bool) (lines : List (Line Word)) → AreValidFrom inside lines
    → inside_after_all inside lines ≡ false → PartsFrom inside lines
parts_from false [] v e = record { parts = []; are_parts = tt; all_lines = refl }
parts_from true [] v e = absurd (true≢false e)
parts_from false (Open verb suffix ∷ ls) v e = block verb suffix ls v.0 (parts_from true ls v.1 e)
parts_from true (Open verb suffix ∷ ls) v e = absurd (true≢false (open_outside true verb suffix v.0))
parts_from false (Close suffix ∷ ls) v e = absurd (true≢false (sym (line_fits false v.0.0 _ v.0.2)))
parts_from true (Close suffix ∷ ls) v e =
    record { inner = []; last = suffix; others = ls; loose = tt; closing = v.0; split = refl; more = parts_from false ls v.1 e }
parts_from inside (line ∷ ls) v e = loose_from inside line ls (refl, v.0) (parts_from inside ls v.1 e)

pub document_parts : (lines : List (Line Word)) → IsDocument lines → ConsistOfParts lines
document_parts lines d = let all = lines_stand start lines d in parts_from false lines all.0 all.1
