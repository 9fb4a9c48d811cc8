-- The text of a list determines its rows.
use Rattle.std.proofs.Common.{◌≡◌, ◌≢◌, ◌∙◌, ◌⊎◌, ℕ, Bool, true, false, List, [], ◌∷◌, ◌++◌, map, Option, Some, None, Contains, codes, ap, ap₂, append_assoc, append-nil, refl, sym, subst, inl, inr}
use Rattle.std.specs.List.{AllByRecursion, flat_map, list_all}
use Rattle.std.specs.Prelude.{nat_lt}
use Rattle.std.proofs.lemmas.Bool.{true≢false}
use Rattle.gm_name.specs.Path.{IsPath, is_byte_of_path}
use Rattle.gm_version.specs.Version.{IsVersion, is_byte_of_version}
use Rattle.gm_name.proofs.Bytes.{path-bytes, version-bytes}
use Rattle.gm_syntax_words.specs.Lines.{HasNoLineFeed, lines_of}
use Rattle.gm_syntax.proofs.Lines.{lines_nil}
use Rattle.gm_syntax.proofs.Stable.{ended_line, plain_append}
use Rattle.gm_file.specs.Directives.{Right, Folder, Module}
use Rattle.gm_file.specs.Values.{is_folder_path}
use Rattle.gm_graph_select.specs.declared.step.Step.TheVariants.{Main, Of}
use Rattle.gm_graph.specs.Entries.{Entry}
use Rattle.gm_graph_select.proofs.Ascending.{member_head, member_tail}
use Rattle.gm_graph_select.proofs.RankedLists.{from_mapped}
use Rattle.gomod_texts.specs.ListQuery.{list_text, replacement_suffix, replacement_text, row_text}
use Rattle.gomod_texts.specs.LineParts.{line}
use Rattle.gomod_texts.specs.PrintedLines.{AreAll, HasLines, IsProperRight, IsProperRow, LineIsOfOne, LineSaysOne, TextSaysAll}
use Rattle.gm_file_edit.proofs.NoLineFeeds.{has-no, path-plain, version-plain}
use Rattle.gm_file_edit.proofs.Folders.{begins-no-folder}

-- ---- texts without a byte

-- the byte is not in the text
abbrev pub Lacks : ℕ → List ℕ → Type 0
Lacks c text = AllByRecursion (λ b. b ≢ c) text

pub lacks : (c : ℕ) (test : ℕ → Bool) → test c ≡ false → (text : List ℕ) → list_all test text ≡ true → Lacks c text
lacks = has-no

pub both_lack : (c : ℕ) (a b : List ℕ) → Lacks c a → Lacks c b → Lacks c (a ++ b)
both_lack c [] b p q = q
both_lack c (x ∷ a) b p q = (p.0, both_lack c a b p.1 q)

-- a text of bytes above the line feed has none
pub plain : (text : List ℕ) → list_all (λ b. nat_lt 10 b) text ≡ true → Lacks 10 text
plain text all = lacks _ (λ b. nat_lt 10 b) refl _ all

pub path_lacks : (c : ℕ) → is_byte_of_path c ≡ false → (text : List ℕ) → IsPath text → Lacks c text
path_lacks c other text is = lacks c _ other _ (path-bytes _ is)

pub version_lacks : (c : ℕ) → is_byte_of_version c ≡ false → (text : List ℕ) → IsVersion text → Lacks c text
version_lacks c other text is = lacks c _ other _ (version-bytes _ is)

pub path_has_no_blank : (text : List ℕ) → IsPath text → Lacks 32 text
path_has_no_blank text is = path_lacks _ refl _ is

pub version_has_no_blank : (text : List ℕ) → IsVersion text → Lacks 32 text
version_has_no_blank text is = version_lacks _ refl _ is

-- ---- where a text is cut

pub heads : (a b : ℕ) (x y : List ℕ) → a ∷ x ≡ b ∷ y → a ≡ b
heads a b x y e = cc e

pub tails : (a b : ℕ) (x y : List ℕ) → a ∷ x ≡ b ∷ y → x ≡ y
tails a b x y e = cc e

-- it has the byte
pub has_it : (c : ℕ) (a x : List ℕ) → Lacks c (a ++ c ∷ x) → ⊥
has_it c [] x none = none.0 refl
has_it c (a ∷ more) x none = has_it c more x none.1

-- nothing, or what begins with the byte
abbrev pub IsEndAt : ℕ → List ℕ → Type 0
IsEndAt c text = (text ≡ []) ⊎ ((rest : List ℕ) × (text ≡ c ∷ rest))

not_in_end : (c b : ℕ) (bs s : List ℕ) → b ≢ c → IsEndAt c s → s ≡ b ∷ bs → ⊥
not_in_end c b bs s other (inl none) e = cc
not_in_end c b bs s other (inr (rest, is)) e = other (cc (is, e))

-- what precedes such an end, and the end
pub cut_end : (c : ℕ) (a b s t : List ℕ) → Lacks c a → Lacks c b → IsEndAt c s → IsEndAt c t → a ++ s ≡ b ++ t → (a ≡ b) × (s ≡ t)
cut_end c [] [] s t p q u v e = (refl, e)
cut_end c [] (b ∷ bs) s t p q u v e = absurd (not_in_end c b _ s q.0 u e)
cut_end c (a ∷ more) [] s t p q u v e = absurd (not_in_end c a _ t p.0 v (sym e))
cut_end c (a ∷ more) (b ∷ bs) s t p q u v e = let (same, ends) = cut_end c more bs s t p.1 q.1 u v (cc e) in ((cc (e, same)), ends)

-- what precedes the first such byte, and what follows it
pub cut_at : (c : ℕ) (a b x y : List ℕ) → Lacks c a → Lacks c b → a ++ c ∷ x ≡ b ++ c ∷ y → (a ≡ b) × (x ≡ y)
cut_at c a b x y p q e =
    let (same, ends) = cut_end c a b _ _ p q (inr (x, refl)) (inr (y, refl)) e in (same, (cc ends))

-- ---- lines of any kind

module _ {X : Type 0} (text : X → List ℕ) {IsProper : X → Type 0} where
  pub lines_are : ((x : X) → IsProper x → HasNoLineFeed (text x)) → HasLines X IsProper text (flat_map (λ x. line (text x)))
  lines_are plain [] proper = lines_nil
  lines_are plain (x ∷ xs) proper =
      let behind = flat_map (λ y. line (text y)) xs in
      ap lines_of (append_assoc _ _ behind)
      ∙ ended_line _ _ (plain x (proper x (member_head x _)))
      ∙ ap (λ ls. text x ∷ ls) (lines_are plain xs (λ y there. proper y (member_tail x y xs there)))

  same_are : LineSaysOne X IsProper text → (xs ys : List X) → AreAll X IsProper xs → AreAll X IsProper ys → map text xs ≡ map text ys → xs ≡ ys
  same_are says [] [] p q e = refl
  same_are says [] (y ∷ ys) p q e = absurd (cc e)
  same_are says (x ∷ xs) [] p q e = absurd (cc e)
  same_are says (x ∷ xs) (y ∷ ys) p q e =
      ap₂ (λ (z : X) (zs : List X). z ∷ zs) (says x y (p x (member_head x xs)) (q y (member_head y ys)) (cc e))
      (same_are says xs ys (λ z there. p z (member_tail x z xs there)) (λ z there. q z (member_tail y z ys there)) (cc e))

  module _ (whole : List X → List ℕ) (lines : HasLines X IsProper text whole) (says : LineSaysOne X IsProper text) where
    pub text_says : TextSaysAll X IsProper whole
    text_says xs ys p q e = same_are says xs ys p q (sym (lines xs p) ∙ ap lines_of e ∙ lines ys q)

    pub found_line : LineIsOfOne X IsProper text whole
    found_line xs y p q there =
        let (x, inside, same) = from_mapped _ xs _ (rw (lines xs p) at there) in
        subst (Contains xs) (says x y (p x inside) q same) inside

-- ---- rows

suffix_ends : (right : Option Right) → IsEndAt 32 (replacement_suffix right)
suffix_ends None = inl refl
suffix_ends (Some right) = inr (codes "=> " ++ replacement_text right, refl)

mark_has_no_feed : HasNoLineFeed (codes " => ")
mark_has_no_feed = plain (codes " => ") refl

name_has_no_feed : (path version : List ℕ) → IsPath path → IsVersion version → HasNoLineFeed ((path ++ codes " ") ++ version)
name_has_no_feed path version p v =
    plain_append _ _ (plain_append _ _ (path-plain _ p) (plain (codes " ") refl)) (version-plain _ v)

suffix_has_no_feed : (right : Option Right) → IsProperRight right → HasNoLineFeed (replacement_suffix right)
suffix_has_no_feed None proper = tt
suffix_has_no_feed (Some (Folder text)) proper = plain_append (codes " => ") _ mark_has_no_feed proper.1
suffix_has_no_feed (Some (Module path version)) proper =
    plain_append (codes " => ") ((path ++ codes " ") ++ version) mark_has_no_feed (name_has_no_feed _ _ proper.0 proper.1)

row_has_no_feed : (main : List ℕ) → IsPath main → (row : Entry) → IsProperRow row → HasNoLineFeed (row_text main row)
row_has_no_feed main is (Main, right) proper = rw proper (plain_append main _ (path-plain _ is) tt)
row_has_no_feed main is (Of x, right) proper =
    plain_append _ _ (name_has_no_feed _ _ proper.0 proper.1) (suffix_has_no_feed _ proper.2)

-- ---- right sides

folder_is_no_module : (text path version : List ℕ) → is_folder_path text ≡ true → IsPath path → text ≡ (path ++ codes " ") ++ version → ⊥
folder_is_no_module text path version folder is e =
    true≢false (sym folder ∙ rw e (rw append_assoc (begins-no-folder _ _ is)))

says_right : (one other : Right) → IsProperRight (Some one) → IsProperRight (Some other) → replacement_text one ≡ replacement_text other → one ≡ other
says_right (Folder text) (Folder second) p q e = ap Folder e
says_right (Folder text) (Module path version) p q e = absurd (folder_is_no_module _ _ _ p.0 q.0 e)
says_right (Module path version) (Folder text) p q e = absurd (folder_is_no_module _ _ version q.0 p.0 (sym e))
says_right (Module path version) (Module second at) p q e =
    let (same, rest) = cut_at 32 _ _ _ at (path_has_no_blank path p.0) (path_has_no_blank _ q.0) (simp append_assoc at e) in
    ap₂ Module same rest

says_suffix : (one other : Option Right) → IsProperRight one → IsProperRight other → replacement_suffix one ≡ replacement_suffix other → one ≡ other
says_suffix None None p q e = refl
says_suffix None (Some other) p q e = absurd (cc e)
says_suffix (Some one) None p q e = absurd (cc e)
says_suffix (Some one) (Some other) p q e = ap Some (says_right _ _ p q (cc e))

module _ (main : List ℕ) (is_path : IsPath main) where
  main_is_no_module : (p v s : List ℕ) (right : Option Right) → right ≡ None → main ++ replacement_suffix right ≡ ((p ++ codes " ") ++ v) ++ s → ⊥
  main_is_no_module p v s right none e =
      has_it 32 p (v ++ s) (subst (Lacks 32) (sym (append-nil _) ∙ simp append_assoc at (rw none at e)) (path_has_no_blank _ is_path))

  pub says_row : LineSaysOne Entry IsProperRow (row_text main)
  says_row (Main, r) (Main, s) p q e = rw (p, q)
  says_row (Main, r) (Of y, s) p q e = absurd (main_is_no_module _ _ _ r p e)
  says_row (Of x, r) (Main, s) p q e = absurd (main_is_no_module _ _ _ s q (sym e))
  says_row (Of x, r) (Of y, s) p q e =
      let (path, after) = cut_at _ _ _ _ _ (path_has_no_blank _ p.0)
      (path_has_no_blank _ q.0) (simp append_assoc at e) in
      let (version, right) = cut_end _ _ _ _ _ (version_has_no_blank _ p.1)
      (version_has_no_blank _ q.1) (suffix_ends r) (suffix_ends s) after in
      rw (path, version, says_suffix r s p.2 q.2 right)

pub list_has_lines : (main : List ℕ) → IsPath main → HasLines Entry IsProperRow (row_text main) (list_text main)
list_has_lines main is = lines_are (row_text main) (row_has_no_feed _ is)

pub text_says_rows : (main : List ℕ) → IsPath main → TextSaysAll Entry IsProperRow (list_text main)
text_says_rows main is = text_says (row_text main) (list_text _) (list_has_lines _ is) (says_row main is)

pub line_is_of_a_row : (main : List ℕ) → IsPath main → LineIsOfOne Entry IsProperRow (row_text main) (list_text main)
line_is_of_a_row main is = found_line (row_text main) (list_text _) (list_has_lines _ is) (says_row main is)
