-- The paths of module files: they stay below the folder, differ for different names, and have no upper-case
-- letter.
use Rattle.std.proofs.lemmas.Bool.{and_from, not-true}
use Rattle.std.specs.Prelude.{nat_lt}
use Rattle.std.proofs.Common.{◌≡◌, ◌<◌, ◌+◌, ◌==◌, ◌&&◌, ◌||◌, ℕ, Bool, true, false, not, List, [], ◌∷◌, ◌++◌, length, ap, ◌∙◌, sym, refl, arith, codes, append_assoc, append-nil, length-append}
use Rattle.std.proofs.lemmas.Bool.Decides.{nat_tests}
use Rattle.std.proofs.lemmas.Grind.{flat_map-append}
use Rattle.std.proofs.lemmas.List.{append_cancel_right}
use Rattle.std.proofs.lemmas.List.Folds.{list_all-append}
use Rattle.std.specs.Char.{is_ascii_uppercase}
use Rattle.std.specs.Cmp.{first_so, second_so}
use Rattle.std.specs.List.{join_with_byte, list_all, slice_index, slice_split}
use Rattle.gm_name.specs.Element.{has_outer_dot, is_dotted_name, is_element, is_path_byte}
use Rattle.gm_version.specs.Escape.{escaped_text, escaped_byte}
use Rattle.gm_name.specs.Path.{IsPath, is_byte_of_path}
use Rattle.gm_version.specs.Version.{IsVersion, is_byte_of_version}
use Rattle.gm_name.proofs.Bytes.{path-bytes, path_has_no_bang, version-bytes, version_has_no_bang}
use Rattle.gm_version.proofs.Escapes.{escaped-injective, escaped-small}
use Rattle.gm_name.proofs.Paths.{element-bytes}
use Rattle.gm_store_parts.specs.Asked.{Name, mod_file, folder_file, list_file}
use Rattle.gm_store_parts.proofs.Splits.{glue, glue_first, split-append, split_off, split_plain}
use Rattle.gm_store.specs.Relative.{IsModuleFile, LeadsBelow, is_plain_element, is_slash, relative_text}

-- ---- bytes of escaped texts

abbrev no_slash : ℕ → Bool
no_slash b = not (is_slash b)

abbrev no_at : ℕ → Bool
no_at b = not (b == 64)

abbrev small : ℕ → Bool
small b = not (is_ascii_uppercase b)

-- if a property holds for the escape of each byte, it holds for the bytes of the escaped text
escaped-all : (p q : ℕ → Bool) → ((b : ℕ) → p b ≡ true → list_all q (escaped_byte b) ≡ true) → (text : List ℕ)
    → list_all p text ≡ true → list_all q (escaped_text text) ≡ true
escaped-all p q each [] e = refl
escaped-all p q each (b ∷ text) e =
    list_all-append q (escaped_byte b) (escaped_text text)
    ∙ and_from _ _ (each b (first_so _ _ e))
    (escaped-all p q each text (second_so _ _ e))

byte_all : (q : ℕ → Bool) (b : ℕ) (upper : Bool) → is_ascii_uppercase b ≡ upper → q 33 ≡ true
    → (is_ascii_uppercase b ≡ true → q (b + 32) ≡ true) → (is_ascii_uppercase b ≡ false → q b ≡ true)
    → list_all q (escaped_byte b) ≡ true
byte_all q b true u bang small itself = rw u (and_from _ _ bang (and_from _ _ (small u) refl))
byte_all q b false u bang small itself = rw u (and_from _ _ (itself u) refl)

no_slash_byte : (b : ℕ) → is_path_byte b ≡ true → not (is_slash b) ≡ true
no_slash_byte b e = grind (arith, nat_tests)

no_slash_small : (b : ℕ) → is_ascii_uppercase b ≡ true → not (is_slash (b + 32)) ≡ true
no_slash_small b e = grind (arith, nat_tests)

no_slash_of_path : (b : ℕ) → is_path_byte b ≡ true → list_all no_slash (escaped_byte b) ≡ true
no_slash_of_path b e = byte_all no_slash b (is_ascii_uppercase b) refl refl (no_slash_small b) (λ _. no_slash_byte b e)

no_slash_version_byte : (b : ℕ) → is_byte_of_version b ≡ true → not (is_slash b) ≡ true
no_slash_version_byte b e = grind (arith, nat_tests)

no_slash_of_version : (b : ℕ) → is_byte_of_version b ≡ true → list_all no_slash (escaped_byte b) ≡ true
no_slash_of_version b e = byte_all no_slash b (is_ascii_uppercase b) refl refl (no_slash_small b) (λ _. no_slash_version_byte b e)

no_at_byte : (b : ℕ) → is_byte_of_path b ≡ true → not (b == 64) ≡ true
no_at_byte b e = grind (arith, nat_tests)

no_at_small : (b : ℕ) → is_ascii_uppercase b ≡ true → not (b + 32 == 64) ≡ true
no_at_small b e = grind (arith, nat_tests)

no_at_of_path : (b : ℕ) → is_byte_of_path b ≡ true → list_all no_at (escaped_byte b) ≡ true
no_at_of_path b e = byte_all no_at b (is_ascii_uppercase b) refl refl (no_at_small b) (λ _. no_at_byte b e)

-- ---- path elements

no_either : (a b : Bool) → not (a || b) ≡ true → not a ≡ true
no_either true b e = cc e
no_either false b e = refl

first_no_dot : (e : List ℕ) → is_element e ≡ true → (0 < length e) × (not (slice_index e 0 == 46) ≡ true)
unfolding is_element is_dotted_name has_outer_dot
first_no_dot e h =
    let dotted = first_so _ _ (first_so _ _ h) in
    let some : nat_lt 0 (length e) ≡ true = first_so _ _ (first_so _ _ dotted) in
    (grind (arith, nat_tests), no_either _ _ (second_so _ _ dotted))

plain_by_first : (piece : List ℕ) → 0 < length piece → not (slice_index piece 0 == 46) ≡ true → is_plain_element piece ≡ true
plain_by_first [] some first = absurd (omega arith)
plain_by_first (b ∷ rest) some first = rw (not-true (b == 46) first) (and_from _ _ (and_from _ _ (grind (arith, nat_tests)) refl) refl)

one_apart : (a : Bool) → not (a && false) ≡ true
one_apart true = refl
one_apart false = refl

two_apart : (a b : Bool) → not (a && (b && false)) ≡ true
two_apart true true = refl
two_apart true false = refl
two_apart false b = refl

long_plain : (piece : List ℕ) → 2 < length piece → is_plain_element piece ≡ true
long_plain [] e = absurd (omega arith)
long_plain (a ∷ []) e = absurd (omega arith)
long_plain (a ∷ b ∷ []) e = absurd (omega arith)
long_plain (a ∷ b ∷ c ∷ rest) e = and_from _ _ (and_from _ _ (grind (arith, nat_tests)) (one_apart (a == 46))) (two_apart (a == 46) (b == 46))

byte_first : (b : ℕ) (rest : List ℕ) (upper : Bool) → is_ascii_uppercase b ≡ upper → not (b == 46) ≡ true
    → (0 < length (escaped_text (b ∷ rest))) × (not (slice_index (escaped_text (b ∷ rest)) 0 == 46) ≡ true)
byte_first b rest true u first = rw u (omega arith, refl)
byte_first b rest false u first = rw u (omega arith, first)

escaped_first : (e : List ℕ) → 0 < length e → not (slice_index e 0 == 46) ≡ true
    → (0 < length (escaped_text e)) × (not (slice_index (escaped_text e) 0 == 46) ≡ true)
escaped_first [] some first = absurd (omega arith)
escaped_first (b ∷ rest) some first = byte_first b rest (is_ascii_uppercase b) refl first

plain_element : (e : List ℕ) → is_element e ≡ true → is_plain_element (escaped_text e) ≡ true
plain_element e h =
    let first = first_no_dot e h in
    let escapes = escaped_first e first.0 first.1 in
    plain_by_first (escaped_text e) escapes.0 escapes.1

element_split : (e : List ℕ) → is_element e ≡ true → slice_split is_slash (escaped_text e) ≡ escaped_text e ∷ []
element_split e h = split_plain is_slash (escaped_text e) (escaped-all is_path_byte no_slash no_slash_of_path e (element-bytes e h))

plain_joined : (es : List (List ℕ)) → 0 < length es → list_all is_element es ≡ true → LeadsBelow (escaped_text (join_with_byte 47 es))
plain_joined [] some each = absurd (omega arith)
plain_joined (e ∷ []) some each =
    let one = first_so _ _ each in
    rw (element_split e one) (and_from _ _ (plain_element e one) refl)
plain_joined (e ∷ f ∷ es) some each =
    let one = first_so _ _ each in
    let rest = plain_joined (f ∷ es) (omega arith) (second_so _ _ each) in
    rw (
      flat_map-append escaped_byte e (47 ∷ join_with_byte 47 (f ∷ es)),
      split-append is_slash (escaped_text e) (47 ∷ escaped_text (join_with_byte 47 (f ∷ es))),
      element_split e one,
      append-nil (escaped_text e),
    )
    (and_from _ _ (plain_element e one) rest)

plain_path : (path : List ℕ) → IsPath path → LeadsBelow (escaped_text path)
plain_path path is = rw is.joined (plain_joined is.elements is.some is.each)

all_glued : (q : List ℕ → Bool) (f : List ℕ) (fs gs : List (List ℕ)) → list_all q (f ∷ fs) ≡ true → list_all q gs ≡ true
    → list_all q (glue_first f fs ([] ∷ gs)) ≡ true
all_glued q f [] gs left right = rw (append-nil f) (and_from _ _ (first_so _ _ left) right)
all_glued q f (f2 ∷ fs) gs left right = and_from _ _ (first_so _ _ left)
    (all_glued q f2 fs gs (second_so _ _ left) right)

leads_on : (text rest : List ℕ) (parts : List (List ℕ)) → slice_split is_slash rest ≡ [] ∷ parts → LeadsBelow text
    → list_all is_plain_element parts ≡ true → LeadsBelow (text ++ rest)
leads_on text rest parts cut left right =
    let off = split_off is_slash text in
    let whole : list_all is_plain_element (off.first ∷ off.others) ≡ true = ap (list_all is_plain_element) (sym off.is) ∙ left in
    ap (list_all is_plain_element) (split-append is_slash text rest
    ∙ ap (λ fs. glue fs (slice_split is_slash rest)) off.is ∙ ap (glue_first off.first off.others) cut)
    ∙ all_glued is_plain_element off.first off.others parts whole right

pub list_below : (path : List ℕ) → IsPath path → LeadsBelow (escaped_text path ++ codes "/@v/list")
list_below path is = leads_on (escaped_text path) (codes "/@v/list") (codes "@v" ∷ codes "list" ∷ []) refl (plain_path path is) refl

no_slash_version : (version : List ℕ) → IsVersion version → list_all no_slash (escaped_text version ++ codes ".mod") ≡ true
no_slash_version version is =
    list_all-append no_slash (escaped_text version) (codes ".mod")
    ∙ and_from _ _ (escaped-all is_byte_of_version no_slash no_slash_of_version version (version-bytes version is)) refl

-- the path of a .mod file, associated to the right
regroup : (path version : List ℕ) → relative_text (mod_file path version) ≡ escaped_text path ++ (codes "/@v/" ++ (escaped_text version ++ codes ".mod"))
regroup path version = append_assoc (escaped_text path ++ codes "/@v/") (escaped_text version) (codes ".mod")
    ∙ append_assoc (escaped_text path) (codes "/@v/") (escaped_text version ++ codes ".mod")

pub mod_below : (path version : List ℕ) → IsPath path → IsVersion version → LeadsBelow (relative_text (mod_file path version))
mod_below path version is_path is_version =
    let last = escaped_text version ++ codes ".mod" in
    let cut : slice_split is_slash last ≡ last ∷ [] = split_plain is_slash last (no_slash_version version is_version) in
    rw (regroup path version) (leads_on (escaped_text path) (codes "/@v/" ++ last) (codes "@v" ∷ last ∷ [])
    (ap (λ parts. [] ∷ codes "@v" ∷ parts) cut) (plain_path path is_path)
    (and_from _ _ (long_plain last (simp length-append (omega arith))) refl))

-- ---- different names have different paths

-- a byte that a text doesn't contain determines where the text ends
never : (y : ℕ) → 64 ≡ y → not (y == 64) ≡ true → ⊥
never y same apart = let hit : not (64 == 64) ≡ true = ap (λ y. not (y == 64)) same ∙ apart in cc hit

cut_once : (xs ys a b : List ℕ) → list_all no_at xs ≡ true → list_all no_at ys ≡ true
    → xs ++ 64 ∷ a ≡ ys ++ 64 ∷ b → (xs ≡ ys) × (a ≡ b)
cut_once [] [] a b p q e = (refl, cc e)
cut_once [] (y ∷ ys) a b p q e = absurd (never y (cc e) (first_so _ _ q))
cut_once (x ∷ xs) [] a b p q e = absurd (never x (cc e) (first_so _ _ p))
cut_once (x ∷ xs) (y ∷ ys) a b p q e =
    let same : x ≡ y = cc e in
    let rest = cut_once xs ys a b (second_so _ _ p)
    (second_so _ _ q) (cc e) in
    (cc (same, rest.0), rest.1)

no_at_path : (path : List ℕ) → IsPath path → list_all no_at (escaped_text path ++ codes "/") ≡ true
no_at_path path is = list_all-append no_at (escaped_text path) (codes "/")
    ∙ and_from _ _ (escaped-all is_byte_of_path no_at no_at_of_path path (path-bytes path is)) refl

-- the whole text determines the module path and the part after it
same_path : (p q a b : List ℕ) → IsPath p → IsPath q → escaped_text p ++ (codes "/@v/" ++ a) ≡ escaped_text q ++ (codes "/@v/" ++ b) → (p ≡ q) × (a ≡ b)
same_path p q a b is_p is_q e =
    let at : (escaped_text p ++ codes "/") ++ (64 ∷ (codes "v/" ++ a)) ≡ (escaped_text q ++ codes "/")
    ++ (64 ∷ (codes "v/" ++ b)) = append_assoc (escaped_text p) (codes "/") (64 ∷ (codes "v/" ++ a)) ∙ e
    ∙ sym (append_assoc (escaped_text q) (codes "/") (64 ∷ (codes "v/" ++ b))) in
    let cut = cut_once (escaped_text p ++ codes "/") (escaped_text q ++ codes "/") (codes "v/" ++ a) (codes "v/" ++ b)
    (no_at_path p is_p) (no_at_path q is_q) at in (
      escaped-injective p q (path_has_no_bang p is_p) (path_has_no_bang q is_q)
          (append_cancel_right (escaped_text p) (escaped_text q) (codes "/") cut.0),
      cc cut.1,
    )

version_file-injective : (v w : List ℕ) → IsVersion v → IsVersion w → escaped_text v ++ codes ".mod" ≡ escaped_text w ++ codes ".mod" → v ≡ w
version_file-injective v w is_v is_w e = escaped-injective v w (version_has_no_bang v is_v) (version_has_no_bang w is_w)
    (append_cancel_right (escaped_text v) (escaped_text w) (codes ".mod") e)

letters : ◌≡◌ {A = ℕ} 118 108 → ⊥
letters e = omega arith

-- a version begins with a `v`, and `list` doesn't
no_version : (v : List ℕ) → IsVersion v → escaped_text v ++ codes ".mod" ≡ codes "list" → ⊥
no_version v is e = let first : 118 ≡ 108 = ap (λ t. slice_index t 0) (ap (λ t. escaped_text t ++ codes ".mod") (sym is.3) ∙ e) in letters first

list_text : (path : List ℕ) → relative_text (list_file path) ≡ escaped_text path ++ (codes "/@v/" ++ codes "list")
list_text path = refl

pub texts_differ : (m n : Name) → IsModuleFile m → IsModuleFile n → relative_text m ≡ relative_text n → m ≡ n
texts_differ (mod_file p v) (mod_file q w) a b e =
    let paths = same_path p q (escaped_text v ++ codes ".mod") (escaped_text w ++ codes ".mod") a.0 b.0 (sym (regroup p v) ∙ e ∙ regroup q w) in
    ap (λ p. mod_file p v) paths.0 ∙ ap (mod_file q) (version_file-injective v w a.1 b.1 paths.1)
texts_differ (mod_file p v) (list_file q) a b e = absurd
    (no_version v a.1 (same_path p q (escaped_text v ++ codes ".mod") (codes "list") a.0 b
    (sym (regroup p v) ∙ e ∙ list_text q)).1)
texts_differ (list_file p) (mod_file q w) a b e = absurd
    (no_version w b.1 (sym (same_path p q (codes "list") (escaped_text w ++ codes ".mod") a b.0
    (sym (list_text p) ∙ e ∙ regroup q w)).1))
texts_differ (list_file p) (list_file q) a b e = ap list_file (same_path p q (codes "list") (codes "list") a b e).0
texts_differ (mod_file p v) (folder_file u) a b e = absurd b
texts_differ (list_file p) (folder_file u) a b e = absurd b
texts_differ (folder_file t) n a b e = absurd a

small-append : (xs ys : List ℕ) → list_all small xs ≡ true
    → list_all small ys ≡ true
    → list_all small (xs ++ ys) ≡ true
small-append xs ys e f = list_all-append small xs ys ∙ and_from _ _ e f

pub texts_small : (name : Name) → IsModuleFile name → list_all small (relative_text name) ≡ true
texts_small (mod_file p v) is = rw (regroup p v) (small-append (escaped_text p) _ (escaped-small p)
    (small-append (codes "/@v/") (escaped_text v ++ codes ".mod") refl
    (small-append (escaped_text v) (codes ".mod") (escaped-small v) refl)))
texts_small (list_file p) is = small-append (escaped_text p) (codes "/@v/list") (escaped-small p) refl
texts_small (folder_file t) is = absurd is
