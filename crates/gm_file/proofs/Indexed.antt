-- The index of right sides after one more line.
use Rattle.std.proofs.Common.{◌≡◌, ℕ, ◌&&◌, ◌||◌, not, Bool, true, false, cond, List, [], ◌∷◌, ◌++◌, Option, Some, None, Result, Ok, Err, refl, sym, ap, subst, ◌∙◌, inl, inr}
use Rattle.std.specs.Prelude.{if◌then◌else◌, IfErr, OnOk}
use Rattle.std.specs.Option.{option_map, option_or}
use Rattle.std.proofs.lemmas.Bool.{and_parts as and_both, cases_Bool}
use Rattle.std.proofs.lemmas.List.Folds.{find-append, list_any-append}
use Rattle.std.proofs.lemmas.List.{map-append}
use Rattle.std.specs.BTreeMap as map
use Rattle.std.specs.Cmp.Lexicographic.{same_text, slice_cmp}
use Rattle.std.specs.List.{list_any}
use Rattle.std.specs.Ordering.{is_eq, nat_cmp}
use Rattle.std.specs.Str.{bytes_eq}
use Rattle.std.specs.declared.cmp.Ordering.{Ordering}
use Rattle.std.proofs.lemmas.Map.Text.{is_eq-slice_cmp}
use Rattle.gm_name.specs.ModuleVersion.{ModuleVersion, pair_cmp, pair_ties}
use Rattle.gm_file.specs.declared.fault.LineFault.{LineFault}
use Rattle.gm_file.specs.declared.fault.LineFault.TheVariants as fault
use Rattle.gm_file.specs.declared.replace.Replace.{Replace}
use Rattle.gm_file.specs.declared.replace.Right as declared
use Rattle.gm_file.specs.Directives.{pair, Left, Right, Folder, Module, Replacing, replacing, left_with, left_without}
use Rattle.gm_file.specs.Faults.{is_conflict, is_same_left, is_same_right, is_same_version}
use Rattle.gm_file.specs.Fields.{right_for}
use Rattle.gm_file.specs.Indexes.{IndexLines, differs, right_at}
use Rattle.gm_file.specs.Private.Indexes.{IsInserted, IsNoted, ReportsConflict}
use Rattle.gm_file.specs.Views.{replace_view, replace_views, right_view}
use Rattle.gm_name.proofs.Logic.{and-false, and-true, or-false}
use Rattle.gm_name.proofs.Texts.{bytes_eq-self}

pub same-version : (a b : Option (List ℕ)) → is_same_version a b ≡ true → a ≡ b
same-version None None e = refl
same-version None (Some w) e = absurd cc
same-version (Some v) None e = absurd cc
same-version (Some v) (Some w) e = ap Some (same_text _ _ (sym e))

pub version-self : (a : Option (List ℕ)) → is_same_version a a ≡ true
version-self None = refl
version-self (Some v) = bytes_eq-self v

abbrev left_by : List ℕ → Option (List ℕ) → Left
left_by path version = record { path = path; version = version }

pub same-left : (a b : Left) → is_same_left a b ≡ true → a ≡ b
same-left a b e =
    let p = and_both _ _ e in
    ap (λ (x : List ℕ). left_by x a.version) (same_text _ _ (sym p.0))
    ∙ ap (λ (x : Option (List ℕ)). left_by b.path x) (same-version _ _ p.1)

pub left-self : (a : Left) → is_same_left a a ≡ true
left-self a = rw (bytes_eq-self _, version-self _) refl

pub same-right : (a b : Right) → is_same_right a b ≡ true → a ≡ b
same-right (Folder a) (Folder b) e = ap Folder (same_text _ _ (sym e))
same-right (Folder a) (Module q w) e = absurd cc
same-right (Module p v) (Folder b) e = absurd cc
same-right (Module p v) (Module q w) e =
    let s = and_both _ _ e in
    ap (λ (x : List ℕ). Module x v) (same_text _ _ (sym s.0)) ∙ ap (λ (x : List ℕ). Module q x) (same_text _ _ (sym s.1))

-- the right side that one more line gives to a left side that has none yet
abbrev given : Left → Replacing → Option Right
given left x = if is_same_left left x.0 then Some x.1 else None

map-or : {X Y : Type 0} (f : X → Y) (a b : Option X) → option_map f (option_or a b) ≡ option_or (option_map f a) (option_map f b)
map-or f None b = refl
map-or f (Some x) b = refl

given-by : (b : Bool) (x : Replacing) → option_map (λ (r : Replacing). r.1) (cond b (Some x) None) ≡ (if b then Some x.1 else None)
given-by true x = refl
given-by false x = refl

pub right-for-snoc : (rs : List Replacing) (x : Replacing) (left : Left) → right_for (rs ++ x ∷ []) left ≡ option_or (right_for rs left) (given left x)
right-for-snoc rs x left =
    ap (option_map (λ (r : Replacing). r.1)) (find-append (λ (r : Replacing). is_same_left left r.0) rs (x ∷ [])) ∙ map-or _ _ _
    ∙ ap (option_or (right_for rs left)) (given-by _ x)

option_or-None : {X : Type 0} (o : Option X) → option_or o None ≡ o
option_or-None None = refl
option_or-None (Some x) = refl

-- a left side that is not the line's keeps its right side
pub others-stay : (rs : List Replacing) (x : Replacing) (left : Left) → is_same_left left x.0 ≡ false → right_for (rs ++ x ∷ []) left ≡ right_for rs left
others-stay rs x left other = right-for-snoc rs x left ∙ rw other (option_or-None _)

-- a left side that had a right side keeps it
first-stays : (rs : List Replacing) (x : Replacing) (left : Left) {right : Right} → right_for rs left ≡ Some right → right_for (rs ++ x ∷ []) left ≡ Some right
first-stays rs x left e = right-for-snoc rs x left ∙ rw e

new-given : (rs : List Replacing) (x : Replacing) → right_for rs x.0 ≡ None → right_for (rs ++ x ∷ []) x.0 ≡ Some x.1
new-given rs x e = right-for-snoc rs x x.0 ∙ rw e (rw (left-self x.0))

module _ {K : Type 0} (cmp : K → K → Ordering) (left : K → Left) (ties : (a b : K) → is_eq (cmp a b) ≡ is_same_left (left a) (left b))
    (old new : map.BTreeMap K declared.Right) (rs : List Replacing) (key : K) (right : Right)
    (were : (q : K) → right_at cmp old q ≡ right_for rs (left q)) where
  abbrev line : Replacing
  line = (left key, right)

  kept : (other : Right) → right_at cmp old key ≡ Some other → map.IsUnchanged old new → (q : K) → right_at cmp new q ≡ right_for (rs ++ line ∷ []) (left q)
  kept other held same q =
      let before : right_at cmp new q ≡ right_for rs (left q) =
      rw same (were q) in
      elim (cases_Bool _) [
        | inl is ↦
            let e : left q ≡ left key = same-left _ _ is in
            let f : right_for rs (left q) ≡ Some other = ap (right_for rs) e ∙ sym (were key) ∙ held in
            before ∙ f ∙ sym (first-stays rs line (left q) f)
        | inr other ↦ before ∙ sym (others-stay rs line (left q) other)
      ]

  put : (held : declared.Right) → right_view held ≡ right → right_at cmp old key ≡ None
      → map.Updates cmp old new key (Some held) → (q : K) → right_at cmp new q ≡ right_for (rs ++ line ∷ []) (left q)
  put held seen none updates q =
      let at_new : right_at cmp new q ≡ option_map right_view
      _ = ap (option_map right_view) (updates.0 q) in
      elim (cases_Bool _) [
        | inl is ↦
            let e : left key ≡ left q = same-left _ _ is in
            let f : right_for rs (left key) ≡ None = sym (were key) ∙ none in
            at_new ∙ rw (ties key _ ∙ is) (ap Some seen ∙ sym (new-given rs line f) ∙ ap (right_for (rs ++ line ∷ [])) e)
        | inr other ↦
            let apart : is_same_left (left q) (left key) ≡ false = flipped (left key) (left q) other in
            at_new ∙ rw (ties key _ ∙ other) (were q ∙ sym (others-stay rs line (left q) apart))
      ]
    where
      flipped : (a b : Left) → is_same_left a b ≡ false → is_same_left b a ≡ false
      flipped a b e = elim (cases_Bool _) [
        | inl is ↦ let f : b ≡ a = same-left _ _ is in absurd (let g : is_same_left a b ≡ true = rw f (left-self a) in
            cc (e, g))
        | inr none ↦ none
      ]

  -- the index after one more line
  pub noted : IsNoted cmp old new key right (Ok tt) → (q : K) → right_at cmp new q ≡ right_for (rs ++ line ∷ []) (left q)
  noted (inl n) q = kept _ n.1 n.3 _
  noted (inr (none, n)) q = put _ n.1 none n.2 _

  -- the line's right side does not differ from an earlier one
  pub noted-agrees : IsNoted cmp old new key right (Ok tt) → differs right (right_for rs (left key)) ≡ false
  noted-agrees (inl n) = ap (differs right) (sym (were key) ∙ n.1) ∙ ap not n.2
  noted-agrees (inr (none, n)) = ap (differs right) (sym (were key) ∙ none)

  -- whether the line conflicts with an earlier one
  pub noted-conflict : ((x : Replacing) → list_any (is_conflict x) rs ≡ differs x.1 (right_for rs x.0))
      → (r : Result (Unit {0}) LineFault) → IsNoted cmp old new key right r → ReportsConflict line rs r
  noted-conflict agree (Ok u) n = agree _ ∙ noted-agrees n
  noted-conflict agree (Err fault.NoMemory) n = tt
  noted-conflict agree (Err (fault.Kind kind)) n = (n.0, agree _ ∙ ap (differs right) (sym (were key)) ∙ n.1)

-- a key that had no right side
pub inserted-noted : {K : Type 0} (cmp : K → K → Ordering) (old new : map.BTreeMap K declared.Right) (key : K) (right : Right) (r : Result (Unit {0}) LineFault)
    → right_at cmp old key ≡ None → OnOk r (IsInserted cmp old new key right) → IfErr r (λ f. f ≡ fault.NoMemory) → IsNoted cmp old new key right r
inserted-noted cmp old new key right (Ok u) none put memory = inr (none, put)
inserted-noted cmp old new key right (Err fault.NoMemory) none put memory = tt
inserted-noted cmp old new key right (Err (fault.Kind kind)) none put memory = absurd cc

or-twice : (a : Bool) → (a || (a || false)) ≡ a
or-twice true = refl
or-twice false = refl

agree-by : (mine : Right) {right : Right} (o : Option Right) (same : Bool) → (same ≡ true → (r : Right) → o ≡ Some r → right ≡ r)
    → (differs mine o || ((same && not (is_same_right mine right)) || false)) ≡ differs mine (option_or o (if same then Some right else None))
agree-by mine None true only = or-false _
agree-by mine None false only = refl
agree-by mine {right} (Some r) true only =
    let e : right ≡ r = only refl r refl in
    rw e (or-twice _)
agree-by mine (Some r) false only = or-false _

not-differs : (right : Right) (o : Option Right) → differs right o ≡ false → (r : Right) → o ≡ Some r → right ≡ r
not-differs right None e r is = absurd cc
not-differs right (Some s) e r is =
    let f : s ≡ r = cc in
    elim (cases_Bool _) [
      | inl same ↦ same-right _ _ same ∙ f
      | inr other ↦ absurd (cc (e, ap not other))
    ]

-- after a line that conflicts with no earlier one, a line still conflicts exactly if its right side differs from the
-- first one of its left side
pub agree-snoc : (rs : List Replacing) (x : Replacing)
    → ((y : Replacing) → list_any (is_conflict y) rs ≡ differs y.1 (right_for rs y.0))
    → differs x.1 (right_for rs x.0) ≡ false
    → (y : Replacing) → list_any (is_conflict y) (rs ++ x ∷ []) ≡ differs y.1 (right_for (rs ++ x ∷ []) y.0)
agree-snoc rs x agree none y =
    list_any-append (is_conflict y) rs (x ∷ []) ∙ rw (agree y) (agree-by y.1 (right_for rs y.0) (is_same_left y.0 x.0)
    (λ same r is. not-differs x.1 (right_for rs x.0) none r (ap (right_for rs) (sym (same-left _ _ same)) ∙ is))
    ∙ ap (differs y.1) (sym (right-for-snoc rs x y.0)))

pair-left-ties : (a b : ModuleVersion) → is_eq (pair_cmp a b) ≡ is_same_left (left_with a.0 a.1) (left_with b.0 b.1)
pair-left-ties a b = sym (pair_ties a b)

path-left-ties : (a b : List ℕ) → is_eq (slice_cmp nat_cmp a b) ≡ is_same_left (left_without a) (left_without b)
path-left-ties a b = is_eq-slice_cmp a b ∙ sym (and-true _)

seen-snoc : (old : List Replace) (replace : Replace) → replace_views (old ++ replace ∷ []) ≡ replace_views old ++ replace_view replace ∷ []
seen-snoc old replace = map-append _ _ _

version-lines : (rs : List Replacing) (ov nv : map.BTreeMap ModuleVersion declared.Right)
    (op : map.BTreeMap (List ℕ) declared.Right) (key : ModuleVersion) (right : Right)
    → IndexLines rs ov op → IsNoted pair_cmp ov nv key right (Ok tt) → IndexLines (rs ++ (left_with key.0 key.1, right) ∷ []) nv op
version-lines rs ov nv op key right index told = record {
  versions = noted _ (λ q. left_with q.0 q.1) pair-left-ties ov nv rs key _ index.versions told;
  paths = λ p. index.paths p ∙ sym (others-stay rs (left_with key.0 key.1, right) (left_without p) (and-false (bytes_eq p key.0)));
  agree = agree-snoc _ _ index.agree (noted-agrees _ (λ q. left_with q.0 q.1) pair-left-ties ov nv rs key _ index.versions told);
}

path-lines : (rs : List Replacing) (ov : map.BTreeMap ModuleVersion declared.Right)
    (op np : map.BTreeMap (List ℕ) declared.Right) (key : List ℕ) (right : Right)
    → IndexLines rs ov op → IsNoted (slice_cmp nat_cmp) op np key right (Ok tt) → IndexLines (rs ++ (left_without key, right) ∷ []) ov np
path-lines rs ov op np key right index told = record {
  versions = λ q. index.versions q ∙ sym (others-stay rs (left_without key, right) (left_with q.0 q.1) (and-false (bytes_eq q.0 key)));
  paths = noted _ left_without path-left-ties op np rs _ _ index.paths told;
  agree = agree-snoc _ _ index.agree (noted-agrees _ left_without path-left-ties op np rs _ _ index.paths told);
}

-- the line that replaces one version
version-line : (replace : Replace) (version : List ℕ) (key : ModuleVersion) → replace.version ≡ Some version → key ≡ pair replace.left version
    → replacing (left_with key.0 key.1) (right_view replace.right) ≡ replace_view replace
version-line replace version key is-version is-key =
    let right = right_view replace.right in
    rw is-key (rw (← is-version))

-- the line that replaces a whole path
path-line : (replace : Replace) (key : List ℕ) → replace.version ≡ None → key ≡ replace.left
    → replacing (left_without key) (right_view replace.right) ≡ replace_view replace
path-line replace key is-version is-key =
    let right = right_view replace.right in
    rw is-key (rw (← is-version))

-- one more line, which replaces one version
pub version-indexed : (old : List Replace) (replace : Replace) (version : List ℕ)
    (ov nv : map.BTreeMap ModuleVersion declared.Right) (op : map.BTreeMap (List ℕ) declared.Right)
    (key : ModuleVersion) (r : Result (Unit {0}) LineFault)
    → replace.version ≡ Some version → key ≡ pair replace.left version → IndexLines (replace_views old) ov op
    → IsNoted pair_cmp ov nv key (right_view replace.right) r → OnOk r (IndexLines (replace_views old ++ replace_view replace ∷ []) nv op)
version-indexed old replace version ov nv op key (Err f) is-version is-key index told = tt
version-indexed old replace version ov nv op key (Ok u) is-version is-key index told =
    subst (λ (x : Replacing). IndexLines (replace_views old ++ x ∷ []) nv op) (version-line _ _ _ is-version is-key)
    (version-lines _ _ _ _ _ _ index told)

pub version-conflict : (old : List Replace) (replace : Replace) (version : List ℕ)
    (ov nv : map.BTreeMap ModuleVersion declared.Right) (op : map.BTreeMap (List ℕ) declared.Right)
    (key : ModuleVersion) (r : Result (Unit {0}) LineFault)
    → replace.version ≡ Some version → key ≡ pair replace.left version → IndexLines (replace_views old) ov op
    → IsNoted pair_cmp ov nv key (right_view replace.right) r → ReportsConflict (replace_view replace) (replace_views old) r
version-conflict old replace version ov nv op key r is-version is-key index told =
    subst (λ (x : Replacing). ReportsConflict x (replace_views old) r) (version-line _ _ _ is-version is-key)
    (noted-conflict pair_cmp (λ q. left_with q.0 q.1) pair-left-ties ov nv (replace_views old) key (right_view replace.right) index.versions index.agree r told)

-- one more line, which replaces a whole path
pub path-indexed : (old : List Replace) (replace : Replace) (ov : map.BTreeMap ModuleVersion declared.Right)
    (op np : map.BTreeMap (List ℕ) declared.Right) (key : List ℕ) (r : Result (Unit {0}) LineFault)
    → replace.version ≡ None → key ≡ replace.left → IndexLines (replace_views old) ov op
    → IsNoted (slice_cmp nat_cmp) op np key (right_view replace.right) r → OnOk r (IndexLines (replace_views old ++ replace_view replace ∷ []) ov np)
path-indexed old replace ov op np key (Err f) is-version is-key index told = tt
path-indexed old replace ov op np key (Ok u) is-version is-key index told =
    subst (λ (x : Replacing). IndexLines (replace_views old ++ x ∷ []) ov np) (path-line _ _ is-version is-key)
    (path-lines _ _ _ _ _ _ index told)

pub path-conflict : (old : List Replace) (replace : Replace) (ov : map.BTreeMap ModuleVersion declared.Right)
    (op np : map.BTreeMap (List ℕ) declared.Right) (key : List ℕ) (r : Result (Unit {0}) LineFault)
    → replace.version ≡ None → key ≡ replace.left → IndexLines (replace_views old) ov op
    → IsNoted (slice_cmp nat_cmp) op np key (right_view replace.right) r → ReportsConflict (replace_view replace) (replace_views old) r
path-conflict old replace ov op np key r is-version is-key index told =
    subst (λ (x : Replacing). ReportsConflict x (replace_views old) r) (path-line _ _ is-version is-key)
    (noted-conflict (slice_cmp nat_cmp) left_without path-left-ties op np (replace_views old) key (right_view replace.right) index.paths index.agree r told)

-- the lines with one more
pub seen-more : (old same new : List Replace) (replace : Replace) → same ≡ old → new ≡ same ++ replace ∷ []
    → replace_views new ≡ replace_views old ++ replace_view replace ∷ []
seen-more old same new replace kept more = ap replace_views (more ∙ ap (λ (rs : List Replace). rs ++ replace ∷ []) kept) ∙ seen-snoc _ _
