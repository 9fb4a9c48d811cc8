-- The order of file names is `Equal` if and only if the names are the same, so a map has one file for each name.
use Rattle.std.proofs.Common.{◌≡◌, ℕ, Bool, true, false, cond, ◌&&◌, List, [], ◌∷◌, Option, Some, ap, ◌∙◌, sym, refl, subst, arith}
use Rattle.std.proofs.lemmas.Bool.{and_from, and_parts}
use Rattle.std.specs.Ordering.{is_eq, match_ordering, nat_cmp, ordering_then}
use Rattle.std.specs.declared.cmp.Ordering.{Ordering}
use Rattle.std.specs.declared.cmp.Ordering.TheVariants.{Less, Equal, Greater}
use Rattle.std.specs.Cmp.Lexicographic.{slice_cmp}
use Rattle.std.specs.Str.{bytes_eq}
use Rattle.gm_version.specs.Version.{version_cmp}
use Rattle.gm_version.specs.VersionOrder.{version_ties}
use Rattle.gm_name.proofs.Texts.{bytes_eq-same, bytes_eq-self}
use Rattle.std.specs.String.{string_bytes}
use Rattle.std.specs.Map.{lookup}
use Rattle.std.proofs.lemmas.Map.Text.{is_eq-slice_cmp}
use Rattle.gm_store_parts.specs.declared.files.FileName.{FileName}
use Rattle.gm_store_parts.specs.declared.files.FileName.TheVariants.{Mod, Folder, List as Listing}
use Rattle.gm_store_parts.specs.contracts.files.FileNameOrd.TheImpl.{cmp-value}
use Rattle.std.proofs.Common.{◌≤◌, ◌<◌, length}
use Rattle.gm_store_parts.specs.Asked.{Name, mod_file, folder_file, list_file, name_of, same_name, reply_for, bytes, too_long}
use Rattle.gm_store_parts.specs.Memory.{held_at}
use Rattle.gm_store_parts.specs.declared.files.memory.MemoryFiles.{MemoryFiles}
use Rattle.std.specs.Option.{option_map}
use Rattle.std.specs.BTreeMap.{get_by, insert_entry}
use Rattle.std.proofs.Common.{Vec, Global}

is_eq-then : (a b : Ordering) → is_eq (ordering_then a b) ≡ is_eq a && is_eq b
is_eq-then Less b = refl
is_eq-then Equal b = refl
is_eq-then Greater b = refl

-- versions that compare equal are the same text
version_eq : (v w : List ℕ) → is_eq (version_cmp v w) ≡ bytes_eq v w
version_eq v w = sym (version_ties v w)

pub same_name_from_cmp : (a b : FileName) → is_eq (cmp-value.it a b) ≡ same_name (name_of a) (name_of b)
same_name_from_cmp (Mod p v) (Mod q w) = is_eq-then (slice_cmp nat_cmp p q) (version_cmp v w)
    ∙ ap (λ b. b && is_eq (version_cmp v w)) (is_eq-slice_cmp p q) ∙ ap (λ b. bytes_eq p q && b) (version_eq v w)
same_name_from_cmp (Mod p v) (Folder u) = refl
same_name_from_cmp (Mod p v) (Listing q) = refl
same_name_from_cmp (Folder t) (Mod q w) = refl
same_name_from_cmp (Folder t) (Folder u) = is_eq-slice_cmp (string_bytes t) (string_bytes u)
same_name_from_cmp (Folder t) (Listing q) = refl
same_name_from_cmp (Listing p) (Mod q w) = refl
same_name_from_cmp (Listing p) (Folder u) = refl
same_name_from_cmp (Listing p) (Listing q) = is_eq-slice_cmp p q

pub lookup-agree : {K X : Type 0} (f g : K → Bool) → ((k : K) → f k ≡ g k) → (es : List (K × X)) → lookup f es ≡ lookup g es
lookup-agree f g h [] = refl
lookup-agree f g h (e ∷ es) = ap (λ b. cond b (Some e.1) (lookup f es)) (h e.0) ∙ ap (λ r. cond (g e.0) (Some e.1) r) (lookup-agree f g h es)

pub held_from_get : (store : MemoryFiles) (name : FileName) (r : Option (Vec ℕ Global))
    → r ≡ get_by (cmp-value.it name) store.held → held_at store (name_of name) ≡ option_map (λ content. content.items) r
held_from_get store name r h = ap (option_map (λ content. content.items)) (sym (h ∙ lookup-agree _ _ (same_name_from_cmp name) store.held.entries))

pub reply_for_short : (limit : ℕ) (xs : List ℕ) → length xs ≤ limit → reply_for limit (Some xs) ≡ bytes xs
reply_for_short limit xs h = grind arith

pub reply_for_long : (limit : ℕ) (xs : List ℕ) → limit < length xs → reply_for limit (Some xs) ≡ too_long
reply_for_long limit xs h = grind arith

-- ---- equal names, and the contents of a map after an insertion

equal_step : {T : Type 0} (a b : Bool) (x y r : T) → a ≡ b → cond a y r ≡ cond b y (cond a x r)
equal_step true true x y r e = refl
equal_step true false x y r e = cc e
equal_step false true x y r e = cc e
equal_step false false x y r e = refl

greater_step : {T : Type 0} (a b : Bool) (x y r : T) → (b ≡ true → a ≡ true → ⊥) → cond a x (cond b y r) ≡ cond b y (cond a x r)
greater_step true true x y r never = absurd (never refl refl)
greater_step true false x y r never = refl
greater_step false true x y r never = refl
greater_step false false x y r never = refl

pub names_equal : (m n : Name) → same_name m n ≡ true → m ≡ n
names_equal (mod_file p v) (mod_file q w) e = let both = and_parts (bytes_eq p q) (bytes_eq v w) e in
    ap (λ p. mod_file p v) (bytes_eq-same p q both.0) ∙ ap (mod_file q) (bytes_eq-same v w both.1)
names_equal (folder_file t) (folder_file u) e = ap folder_file (bytes_eq-same t u e)
names_equal (list_file p) (list_file q) e = ap list_file (bytes_eq-same p q e)
names_equal (mod_file p v) (folder_file u) e = cc e
names_equal (mod_file p v) (list_file q) e = cc e
names_equal (folder_file t) (mod_file q w) e = cc e
names_equal (folder_file t) (list_file q) e = cc e
names_equal (list_file p) (mod_file q w) e = cc e
names_equal (list_file p) (folder_file u) e = cc e

pub name_itself : (n : Name) → same_name n n ≡ true
name_itself (mod_file p v) = and_from (bytes_eq p p) (bytes_eq v v) (bytes_eq-self p) (bytes_eq-self v)
name_itself (folder_file t) = bytes_eq-self t
name_itself (list_file p) = bytes_eq-self p

pub same_from_equal : (m n : Name) → m ≡ n → same_name m n ≡ true
same_from_equal m n e = subst (λ n. same_name m n ≡ true) e (name_itself m)

insert_step : {K X : Type 0} (p : K → Bool) (k : K) (v : X) (e : K × X) (es inserted : List (K × X)) (o : Ordering)
    → (is_eq o ≡ true → p e.0 ≡ p k) → (p k ≡ true → p e.0 ≡ true → is_eq o ≡ true)
    → lookup p inserted ≡ cond (p k) (Some v) (lookup p es)
    → lookup p (match_ordering o ((k, v) ∷ e ∷ es) ((e.0, v) ∷ es) (e ∷ inserted)) ≡ cond (p k) (Some v) (lookup p (e ∷ es))
insert_step p k v e es inserted Less same apart rest = refl
insert_step p k v e es inserted Equal same apart rest = equal_step (p e.0) (p k) (Some e.1) (Some v) (lookup p es) (same refl)
insert_step p k v e es inserted Greater same apart rest =
    ap (cond (p e.0) (Some e.1)) rest ∙ greater_step (p e.0) (p k) (Some e.1) (Some v) (lookup p es)
    (λ b a. let never : false ≡ true = apart b a in cc never)

-- a lookup after an insertion, if the test agrees on equal keys and passes no two different keys
pub lookup_inserted : {K X : Type 0} (cmp : K → K → Ordering) (p : K → Bool) (k : K) (v : X)
    → ((e : K) → is_eq (cmp k e) ≡ true → p e ≡ p k) → ((e : K) → p k ≡ true → p e ≡ true → is_eq (cmp k e) ≡ true)
    → (es : List (K × X)) → lookup p (insert_entry cmp es k v) ≡ cond (p k) (Some v) (lookup p es)
lookup_inserted cmp p k v same apart [] = refl
lookup_inserted cmp p k v same apart (e ∷ es) = insert_step p k v e es (insert_entry cmp es k v) (cmp k e.0) (same e.0)
    (apart e.0) (lookup_inserted cmp p k v same apart es)

-- the file under a name after an insertion
pub held_inserted : {X : Type 0} (es : List (FileName × X)) (k : FileName) (v : X) (other : Name)
    → lookup (λ file. same_name other (name_of file)) (insert_entry cmp-value.it es k v)
    ≡ cond (same_name other (name_of k)) (Some v) (lookup (λ file. same_name other (name_of file)) es)
held_inserted es k v other = lookup_inserted cmp-value.it (λ file. same_name other (name_of file)) k v
    (λ e eq. ap (same_name other) (sym (names_equal (name_of k) (name_of e) (sym (same_name_from_cmp k e) ∙ eq))))
    (λ e one two. same_name_from_cmp k e ∙ same_from_equal (name_of k) (name_of e)
    (sym (names_equal other (name_of k) one) ∙ names_equal other (name_of e) two))
    es

-- a lookup by the order of names is a lookup by equality of names
pub found_by : {X : Type 0} (name : FileName) (es : List (FileName × X))
    → lookup (λ file. is_eq (cmp-value.it name file)) es ≡ lookup (λ file. same_name (name_of name) (name_of file)) es
found_by name es = lookup-agree _ _ (same_name_from_cmp name) es
