-- The fault that is reported: the first one of the first line with a fault.
use Rattle.std.proofs.Common.{◌≡◌, ℕ, ◌+◌, ◌<◌, ◌≤◌, List, [], ◌∷◌, ◌++◌, length, map, Some, None, sym, ap, ◌∙◌, inl, inr, arith, append_assoc, append-nil, length-append}
use Rattle.std.proofs.lemmas.Grind.{flat_map-append}
use Rattle.std.specs.Prelude.{◌⊎◌, ⊤}
use Rattle.std.specs.List.{flat_map}
use Rattle.gm_syntax_words.specs.Words.{Word}
use Rattle.gm_syntax.specs.Document.{Line}
use Rattle.gm_file.specs.declared.fault.DirectiveKind.{DirectiveKind}
use Rattle.gm_file.specs.Directives.{Mode, LineInBlock, block_after_lines, directives, item_at, with_blocks, with_blocks_from}
use Rattle.gm_file.specs.Faults.{Fault, fault_of, faults, faults_after, first_of, item_kinds, rank, with_before_from}
use Rattle.gm_file.proofs.First.{IsBefore, IsOne, NoneBefore, first-is}
use Rattle.gm_file.proofs.Snoc.{faults-snoc, length-with_blocks, with_blocks-snoc}

-- k is one of the kinds; and none of the kinds precedes k
abbrev pub IsOneKind : DirectiveKind → List DirectiveKind → Type 0
IsOneKind k [] = ⊥
IsOneKind k (j ∷ js) = (k ≡ j) ⊎ IsOneKind k js

abbrev pub NoneFirst : DirectiveKind → List DirectiveKind → Type 0
NoneFirst k [] = ⊤
NoneFirst k (j ∷ js) = (rank k ≤ rank j) × NoneFirst k js

one-map : (n : ℕ) (k : DirectiveKind) (ks : List DirectiveKind) → IsOneKind k ks → IsOne (n, k) (map (λ kind. (n, kind)) ks)
one-map n k [] one = elim one [ ]
one-map n k (j ∷ js) (inl e) = inl (rw e)
one-map n k (j ∷ js) (inr one) = inr (one-map n k js one)

own-after : (n : ℕ) (k j : DirectiveKind) → rank k ≤ rank j → ¬ (IsBefore (n, j) (n, k))
own-after n k j le (inl lt) = absurd (omega (arith, lt))
own-after n k j le (inr lt) = let less = lt.1 in absurd (omega (arith, le, less))

none-map : (n : ℕ) (k : DirectiveKind) (ks : List DirectiveKind) → NoneFirst k ks → NoneBefore (n, k) (map (λ kind. (n, kind)) ks)
none-map n k [] none = tt
none-map n k (j ∷ js) none = (own-after _ _ _ none.0, none-map n k js none.1)

later-after : (m n : ℕ) (k j : DirectiveKind) → m < n → ¬ (IsBefore (n, j) (m, k))
later-after m n k j below (inl lt) = absurd (omega (arith, lt, below))
later-after m n k j below (inr lt) = let same = lt.0 in absurd (omega (arith, same, below))

none-later : (m n : ℕ) (k : DirectiveKind) (ks : List DirectiveKind) → m < n → NoneBefore (m, k) (map (λ kind. (n, kind)) ks)
none-later m n k [] below = tt
none-later m n k (j ∷ js) below = (later-after _ _ _ _ below, none-later m n k js below)

none-append : (a : Fault) (xs ys : List Fault) → NoneBefore a xs → NoneBefore a ys → NoneBefore a (xs ++ ys)
none-append a [] ys x y = y
none-append a (b ∷ bs) ys x y = (x.0, none-append a bs ys x.1 y)

one-append : (a : Fault) (xs ys : List Fault) → IsOne a xs → IsOne a (xs ++ ys)
one-append a [] ys one = elim one [ ]
one-append a (b ∷ bs) ys (inl e) = inl e
one-append a (b ∷ bs) ys (inr one) = inr (one-append a bs ys one)

before-append : {X : Type 0} (before xs ys : List X) → with_before_from before (xs ++ ys) ≡ with_before_from before xs ++ with_before_from (before ++ xs) ys
before-append {X} before [] ys = ap (λ (b : List X). with_before_from b ys) (sym (append-nil before))
before-append {X} before (x ∷ xs) ys =
    rw (before-append (before ++ x ∷ []) xs ys
    ∙ ap (λ (b : List X). with_before_from (before ++ x ∷ []) xs ++ with_before_from b ys) (append_assoc before _ _))

-- the faults of later lines have higher line numbers
none-rest : (mode : Mode) (m : ℕ) (k : DirectiveKind) (before rest : List (LineInBlock Word)) → m ≤ length before
    → NoneBefore (m, k) (flat_map (faults_after mode) (with_before_from before rest))
none-rest mode m k before [] le = tt
none-rest mode m k before (seat ∷ rest) le =
    let next : m ≤ length (before ++ seat ∷ []) = omega (arith, le, length-append before (seat ∷ [])) in
    none-append _ _ _ (none-later m (length before + 1) k _ (omega (arith, le)))
    (none-rest mode m k (before ++ seat ∷ []) rest next)

-- the kinds of faults of a line, after the lines before it
abbrev pub kinds_at : Mode → List (Line Word) → Line Word → List DirectiveKind
kinds_at mode before line = item_kinds mode (directives mode before) (item_at (block_after_lines None before, line))

split-faults : (mode : Mode) (lines later : List (Line Word))
    → faults mode (lines ++ later) ≡ faults mode lines ++ flat_map (faults_after mode)
    (with_before_from (with_blocks lines) (with_blocks_from (block_after_lines None lines) later))
unfolding faults
split-faults mode lines later =
    rw (with_blocks-snoc None lines later) (ap (flat_map (faults_after mode)) (before-append [] (with_blocks lines) (with_blocks_from (block_after_lines None lines) later))
    ∙ flat_map-append (faults_after mode) (with_before_from [] (with_blocks lines))
    (with_before_from (with_blocks lines) (with_blocks_from (block_after_lines None lines) later)))

-- if the lines before a line have no fault, the first fault of this line is reported
pub reported-at : (mode : Mode) (before : List (Line Word)) (line : Line Word) (later : List (Line Word)) (k : DirectiveKind)
    → faults mode before ≡ [] → IsOneKind k (kinds_at mode before line) → NoneFirst k (kinds_at mode before line)
    → fault_of mode ((before ++ line ∷ []) ++ later) ≡ Some (length before + 1, k)
unfolding fault_of
reported-at mode before line later k none one first =
    let n = length before + 1 in
    let here = map (λ kind. (n, kind)) (kinds_at mode before line) in
    let with_line : faults mode (before ++ line ∷ []) ≡ here = faults-snoc _ _ _ ∙ rw none in
    let rest = flat_map (faults_after mode) (with_before_from (with_blocks (before ++ line ∷ []))
    (with_blocks_from (block_after_lines None (before ++ line ∷ [])) later)) in
    let whole : faults mode ((before ++ line ∷ []) ++ later) ≡ here ++ rest =
    split-faults _ _ _ ∙ ap (λ (fs : List Fault). fs ++ rest) with_line in
    let size : length (with_blocks (before ++ line ∷ [])) ≡ n = length-with_blocks None _ ∙ length-append before _ in
    let is : first_of (here ++ rest) ≡ Some (n, k) = first-is _ (n, k) (one-append _ _ _ (one-map _ _ _ one))
    (none-append _ _ _ (none-map _ _ _ first) (none-rest _ _ _ _ _ (omega (arith, size)))) in
    rw whole (rw is)
