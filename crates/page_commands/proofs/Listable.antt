-- Which versions may be listed, by tests that decide it.
use Rattle.std.proofs.Common.{◌≡◌, ◌∙◌, ◌++◌, ◌+◌, ◌-◌, ◌%◌, ◌/◌, ◌^◌, ◌<◌, ◌≤◌, ◌&&◌, ◌||◌, ◌==◌, ℕ, Bool, true, false, List, [], ◌∷◌, Option, Some, None, Result, Ok, Err, ap, ap₂, arith, codes, drop, take, inl, inr, length, length-append, nat_eq, not, refl, subst, sym}
use Rattle.std.specs.Prelude.{if◌then◌else◌, nat_lt, slice_index}
use Rattle.std.specs.Char.{is_ascii_alphanumeric, is_ascii_digit}
use Rattle.std.specs.Cmp.Lexicographic.{pointwise}
use Rattle.std.specs.Fmt.{decimal}
use Rattle.std.specs.List.{list_all}
use Rattle.std.specs.Str.{bytes_eq}
use Rattle.std.proofs.Math.Seq.{drop-append_seam, take-append_seam}
use Rattle.std.proofs.lemmas.Bool.{and_parts, eqb-true, false≢true, le-ltb, lt-ltb, ltb-false, ltb-true, not-true, or_cases}
use Rattle.std.proofs.lemmas.Fmt.{decimal_by_steps}
use Rattle.std.proofs.lemmas.List.{append-nil, append_assoc, nil_from_length, take-append-drop}
use Rattle.std.proofs.lemmas.Option.{same_Some}
use Rattle.page_commands.specs.Fit.{Fits, FitsMajor}
use Rattle.page_commands.specs.Listed.{IsListable, IsPseudoVersion}
use Rattle.page_commands.specs.Names.{does_fit, fits_major, has_plain_build, is_version}
use Rattle.page_commands.specs.Path.{EndsInNumber, EndsInSlashVersion, IsUnderGopkg, is_digit_or_dot}
use Rattle.page_commands.specs.Pseudo.{IsFront, IsStamp}
use Rattle.page_commands.specs.Types.{Error, Parts, parts_text, version_parts}
use Rattle.page_commands.specs.Types.Major.{Dot, NoSuffix, Slash}
use Rattle.page_commands.specs.Version.{HasPlainBuild, IsVersion, build_of, major_of, parts_in, version_text}
use Rattle.page_commands.specs.Worlds.Versions.{m}
use Rattle.page_commands.proofs.Members.{appended, text_same}

-- ---- versions

-- It is a version, and the text of its parts.
abbrev pub is_spelled : List ℕ → Bool
is_spelled text = is_version text && pointwise nat_eq text (version_text (parts_in text))

plain_of : (p : Parts) → has_plain_build (Ok p) ≡ true → HasPlainBuild p
plain_of p h = elim (or_cases (length p.4 == 0) (bytes_eq p.4 (codes "incompatible")) h) [
  | inl none ↦ inl (nil_from_length p.4 (eqb-true (length p.4) 0 none))
  | inr is ↦ inr (text_same p.4 (codes "incompatible") is)
]

parts_so : (text : List ℕ) (r : Result Parts Error) → version_parts (drop 1 text) ≡ r → has_plain_build r ≡ true
    → (version_parts (drop 1 text) ≡ Ok (parts_in text)) × HasPlainBuild (parts_in text)
parts_so text (Err error) e h = absurd (false≢true h)
parts_so text (Ok p) e h =
    let same : p ≡ parts_in text = rw e refl in (e ∙ ap (λ (q : Parts). Ok q) same, subst HasPlainBuild same (plain_of p h))

pub version_so : (text : List ℕ) → is_spelled text ≡ true → IsVersion text
unfolding is_version
version_so text h =
    let p = and_parts (is_version text) (pointwise nat_eq text (version_text (parts_in text))) h in
    let q = and_parts (slice_index text 0 == 118) (has_plain_build (version_parts (drop 1 text))) p.0 in
    let spelled : text ≡ version_text (parts_in text) = text_same text (version_text (parts_in text)) p.1 in
    let (read, plain) = parts_so text (version_parts (drop 1 text)) refl q.1 in
    let valid : version_parts (parts_text (parts_in text)) ≡ Ok (parts_in text) = subst (λ (t : List ℕ). version_parts (drop 1 t) ≡ Ok (parts_in text)) spelled read in
    (parts_in text, valid, plain, spelled)

pub version_back : (text : List ℕ) → IsVersion text → is_version text ≡ true
unfolding is_version
version_back text (p, valid, plain, spelled) = subst (λ (t : List ℕ). is_version t ≡ true) (sym spelled) (rw valid (is_plain plain))
  where
    is_plain : HasPlainBuild p → has_plain_build (Ok p) ≡ true
    is_plain (inl none) = rw none refl
    is_plain (inr is) = rw is refl

-- ---- the path example.com/m

-- the last byte of a text
abbrev last_of : List ℕ → Option ℕ
last_of [] = None
last_of (x ∷ []) = Some x
last_of (x ∷ y ∷ rest) = last_of (y ∷ rest)

last_append : (front : List ℕ) (x : ℕ) (rest : List ℕ) → last_of (front ++ x ∷ rest) ≡ last_of (x ∷ rest)
last_append [] x rest = refl
last_append (y ∷ []) x rest = refl
last_append (y ∷ z ∷ front) x rest = last_append (z ∷ front) x rest

last_passes : (p : ℕ → Bool) (x : ℕ) (rest : List ℕ) → list_all p (x ∷ rest) ≡ true → (z : ℕ) × (last_of (x ∷ rest) ≡ Some z) × (p z ≡ true)
last_passes p x [] h = (x, refl, (and_parts (p x) true h).0)
last_passes p x (y ∷ rest) h = last_passes p y rest (and_parts (p x) (list_all p (y ∷ rest)) h).1

-- a text of digits ends in one
abbrev EndsInDigit : ℕ → List ℕ → Type 0
EndsInDigit n digits = (x : ℕ) × (rest : List ℕ) × (digits ≡ x ∷ rest) × (k : ℕ) × (k < 10) × (last_of digits ≡ Some (48 + k))

digit_at_end : (n : ℕ) → n < 2 ^ 64 → EndsInDigit n (decimal n)
digit_at_end = decimal_by_steps EndsInDigit one more
  where
    one : (n : ℕ) → n < 10 → EndsInDigit n ((48 + n) ∷ [])
    one n low = (48 + n, [], refl, n, low, refl)

    more : (n : ℕ) (ds : List ℕ) → 10 ≤ n → EndsInDigit (n / 10) ds → EndsInDigit n (ds ++ ((48 + n % 10) ∷ []))
    more n ds high (x, rest, is, k, low, at) = (x, rest ++ ((48 + n % 10) ∷ []), ap (λ (t : List ℕ). t ++ ((48 + n % 10) ∷ [])) is, n % 10, omega arith, last_append ds (48 + n % 10) [])

pub not_gopkg : IsUnderGopkg m → ⊥
not_gopkg (rest, is) = let wrong : 101 ≡ 103 = ap (λ (t : List ℕ). slice_index t 0) is in omega (arith, wrong)

-- a text whose last byte is no digit
module _ (text : List ℕ) (byte : ℕ) (ends : last_of text ≡ Some byte) where
  pub ends_otherwise : is_digit_or_dot byte ≡ false → EndsInSlashVersion text → ⊥
  ends_otherwise other (front, [], is, some, all) = omega (arith, some)
  ends_otherwise other (front, x ∷ rest, is, some, all) =
      let (z, at, passes) = last_passes is_digit_or_dot x rest all in
      let last : Some byte ≡ Some z = sym ends ∙ (ap last_of is ∙ (last_append (front ++ codes "/v") x rest ∙ at)) in
      false≢true (sym other ∙ subst (λ (b : ℕ). is_digit_or_dot b ≡ true) (sym (same_Some _ _ last)) passes)

  pub ends_in_none : (mark : List ℕ) → 58 ≤ byte → (n : ℕ) → n < 2 ^ 64 → EndsInNumber text mark n → ⊥
  ends_in_none mark high n small (front, is) =
      let (x, rest, shape, k, low, at) = digit_at_end n small in
      let at_end : text ≡ front ++ mark ++ decimal n = search (appended, is) in
      let whole : text ≡ (front ++ mark) ++ (x ∷ rest) = at_end ∙ ap (λ (t : List ℕ). (front ++ mark) ++ t) shape in
      let last : Some byte ≡ Some (48 + k) =
      sym ends ∙ (ap last_of whole ∙ (last_append (front ++ mark) x rest ∙ (ap last_of (sym shape) ∙ at))) in
      let same : byte ≡ 48 + k = same_Some _ _ last in
      omega (arith, same, low, high)

pub not_slash : EndsInSlashVersion m → ⊥
not_slash = ends_otherwise m 109 refl refl

no_number : (n : ℕ) → n < 2 ^ 64 → EndsInNumber m (codes "/v") n → ⊥
no_number = ends_in_none m 109 refl (codes "/v") (omega arith)

fits_so : (version : List ℕ) → fits_major version NoSuffix ≡ true → FitsMajor NoSuffix version
fits_so version h = by_test (nat_lt (major_of version) 2) refl h
  where
    by_test : (b : Bool) → nat_lt (major_of version) 2 ≡ b
        → (if b then length (build_of version) == 0 else bytes_eq (build_of version) (codes "incompatible")) ≡ true → FitsMajor NoSuffix version
    by_test true low is = inl (ltb-true (major_of version) 2 low, nil_from_length (build_of version) (eqb-true (length (build_of version)) 0 is))
    by_test false high is = inr (ltb-false (major_of version) 2 high, text_same (build_of version) (codes "incompatible") is)

fits_back : (version : List ℕ) → FitsMajor NoSuffix version → fits_major version NoSuffix ≡ true
fits_back version (inl (low, none)) = rw (lt-ltb (major_of version) 2 low, none) refl
fits_back version (inr (high, is)) = rw (le-ltb (major_of version) 2 high, is) refl

pub fit_so : (version : List ℕ) → does_fit m version ≡ true → Fits m version
unfolding does_fit
fit_so version h = (NoSuffix, (not_gopkg, not_slash), fits_so version h)

pub fit_back : (version : List ℕ) → Fits m version → does_fit m version ≡ true
unfolding does_fit
fit_back version (Dot n, has, fits) = absurd (not_gopkg has.0)
fit_back version (Slash n, has, fits) = absurd (no_number n has.2 has.3)
fit_back version (NoSuffix, has, fits) = fits_back version fits

-- ---- pseudo-versions

-- the rest of a stamp after its time
abbrev is_revision : List ℕ → Bool
is_revision [] = false
is_revision (b ∷ rest) = b == 45 && (nat_lt 0 (length rest) && list_all is_ascii_alphanumeric rest)

abbrev is_time : List ℕ → Bool
is_time text = length text == 14 && list_all is_ascii_digit text

abbrev is_stamp : List ℕ → Bool
is_stamp text = is_time (take 14 text) && is_revision (drop 14 text)

abbrev is_front_one : ℕ → ℕ → List ℕ → Bool
is_front_one minor patch front = minor == 0 && (patch == 0 && length front == 0)

abbrev is_front_two : List ℕ → Bool
is_front_two front = nat_lt 3 (length front) && pointwise nat_eq (drop (length front - 3) front) (codes ".0.")

abbrev is_front_three : ℕ → List ℕ → Bool
is_front_three patch front = nat_lt 0 patch && pointwise nat_eq front (codes "0.")

abbrev is_front : ℕ → ℕ → List ℕ → Bool
is_front minor patch front = is_front_one minor patch front || (is_front_two front || is_front_three patch front)

-- some two parts of a text pass, with what is before the first
abbrev some_split : (List ℕ → List ℕ → Bool) → List ℕ → List ℕ → Bool
some_split p before [] = p before []
some_split p before (x ∷ xs) = p before (x ∷ xs) || some_split p (before ++ x ∷ []) xs

abbrev both_parts : Parts → List ℕ → List ℕ → Bool
both_parts p front rest = is_front p.1 p.2 front && is_stamp rest

abbrev pub is_pseudo : List ℕ → Bool
is_pseudo version = some_split (both_parts (parts_in version)) [] (parts_in version).3

true_after : (b : Bool) → (b || true) ≡ true
true_after true = refl
true_after false = refl

split_so : (p : List ℕ → List ℕ → Bool) (before front rest : List ℕ) → p (before ++ front) rest ≡ true → some_split p before (front ++ rest) ≡ true
split_so p before [] [] h = subst (λ (t : List ℕ). p t [] ≡ true) (append-nil before) h
split_so p before [] (x ∷ rest) h =
    let is : p before (x ∷ rest) ≡ true = subst (λ (t : List ℕ). p t (x ∷ rest) ≡ true) (append-nil before) h in rw is refl
split_so p before (y ∷ front) rest h =
    let later = split_so p (before ++ y ∷ []) front rest (subst (λ (t : List ℕ). p t rest ≡ true) (sym (append_assoc before (y ∷ []) front)) h) in
    rw later (true_after (p before (y ∷ (front ++ rest))))

split_from : (p : List ℕ → List ℕ → Bool) (before xs : List ℕ) → some_split p before xs ≡ true
    → (front rest : List ℕ) × (xs ≡ front ++ rest) × (p (before ++ front) rest ≡ true)
split_from p before [] h = ([], [], refl, subst (λ (t : List ℕ). p t [] ≡ true) (sym (append-nil before)) h)
split_from p before (x ∷ xs) h = elim (or_cases (p before (x ∷ xs)) (some_split p (before ++ x ∷ []) xs) h) [
  | inl is ↦ ([], x ∷ xs, refl, subst (λ (t : List ℕ). p t (x ∷ xs) ≡ true) (sym (append-nil before)) is)
  | inr later ↦ (let (front, rest, e, is) = split_from p (before ++ x ∷ []) xs later in
      (x ∷ front, rest, ap (λ (t : List ℕ). x ∷ t) e, subst (λ (t : List ℕ). p t rest ≡ true) (append_assoc before (x ∷ []) front) is))
]

-- ---- a stamp, with its parts

stamp_so : (pre front time revision : List ℕ) → IsStamp pre front time revision → is_stamp (time ++ 45 ∷ revision) ≡ true
stamp_so pre front time revision is = ap₂ (λ (x y : Bool). x && y)
    (subst (λ (t : List ℕ). is_time t ≡ true) (sym taken) (rw (fourteen, digits) refl))
    (subst (λ (t : List ℕ). is_revision t ≡ true) (sym dropped) (rw (lt-ltb 0 (length revision) is.some, letters) refl))
  where
    fourteen : length time ≡ 14
    fourteen = search is.fourteen

    digits : list_all is_ascii_digit time ≡ true
    digits = search is.digits

    letters : list_all is_ascii_alphanumeric revision ≡ true
    letters = search is.letters_or_digits

    taken : take 14 (time ++ 45 ∷ revision) ≡ time
    taken = subst (λ (n : ℕ). take n (time ++ 45 ∷ revision) ≡ time) fourteen (take-append_seam time (45 ∷ revision))

    dropped : drop 14 (time ++ 45 ∷ revision) ≡ 45 ∷ revision
    dropped = subst (λ (n : ℕ). drop n (time ++ 45 ∷ revision) ≡ 45 ∷ revision) fourteen (drop-append_seam time (45 ∷ revision))

pub joined_so : (front time revision : List ℕ) → ((front ++ time) ++ codes "-") ++ revision ≡ front ++ (time ++ 45 ∷ revision)
joined_so front time revision = append_assoc (front ++ time) (codes "-") revision ∙ append_assoc front time (45 ∷ revision)

revision_from : (text : List ℕ) → is_revision text ≡ true
    → (revision : List ℕ) × (text ≡ 45 ∷ revision) × (0 < length revision) × (list_all is_ascii_alphanumeric revision ≡ true)
revision_from [] h = absurd (false≢true h)
revision_from (b ∷ rest) h =
    let p = and_parts (b == 45) (nat_lt 0 (length rest) && list_all is_ascii_alphanumeric rest) h in
    let q = and_parts (nat_lt 0 (length rest)) (list_all is_ascii_alphanumeric rest) p.1 in
    (rest, ap (λ (c : ℕ). c ∷ rest) (eqb-true b 45 p.0), ltb-true 0 (length rest) q.0, q.1)

stamp_from : (pre front rest : List ℕ) → pre ≡ front ++ rest → is_stamp rest ≡ true → (time revision : List ℕ) × IsStamp pre front time revision
stamp_from pre front rest e h =
    let p = and_parts (is_time (take 14 rest)) (is_revision (drop 14 rest)) h in
    let q = and_parts (length (take 14 rest) == 14) (list_all is_ascii_digit (take 14 rest)) p.0 in
    let (revision, after, some, letters) = revision_from (drop 14 rest) p.1 in
    let whole : rest ≡ take 14 rest ++ 45 ∷ revision = sym (take-append-drop 14 rest) ∙ ap (λ (t : List ℕ). take 14 rest ++ t) after in (
      take 14 rest,
      revision,
      record {
        joined = search (e ∙ ap (λ (t : List ℕ). front ++ t) whole, joined_so front (take 14 rest) revision);
        fourteen = search (eqb-true (length (take 14 rest)) 14 q.0);
        digits = search q.1;
        some = some;
        letters_or_digits = search letters;
      },
    )

-- ---- a front

front_so : (form minor patch : ℕ) (front : List ℕ) → IsFront form minor patch front → is_front minor patch front ≡ true
front_so form minor patch front (inl (one, low, none, empty)) = rw (low, none, empty) refl
front_so form minor patch front (inr (inl (two, before, some, is))) = subst (λ (t : List ℕ). is_front minor patch t ≡ true) (sym is) tested
  where
    size : length (before ++ codes ".0.") ≡ length before + 3
    size = length-append before (codes ".0.")

    longer : nat_lt 3 (length (before ++ codes ".0.")) ≡ true
    longer = lt-ltb 3 (length (before ++ codes ".0.")) (omega (arith, size, some))

    place : length (before ++ codes ".0.") - 3 ≡ length before
    place = omega (arith, size)

    rest : drop (length (before ++ codes ".0.") - 3) (before ++ codes ".0.") ≡ codes ".0."
    rest = ap (λ (n : ℕ). drop n (before ++ codes ".0.")) place ∙ drop-append_seam before (codes ".0.")

    second : is_front_two (before ++ codes ".0.") ≡ true
    second = ap₂ (λ (x y : Bool). x && y) longer (ap (λ (t : List ℕ). pointwise nat_eq t (codes ".0.")) rest)

    tested : is_front minor patch (before ++ codes ".0.") ≡ true
    tested = rw second (true_after (is_front_one minor patch (before ++ codes ".0.")))
front_so form minor patch front (inr (inr (three, some, is))) =
    let third : is_front_three patch front ≡ true = rw (lt-ltb 0 patch some, is) refl in
    rw (third, true_after (is_front_two front)) (true_after (is_front_one minor patch front))

front_from : (minor patch : ℕ) (front : List ℕ) → is_front minor patch front ≡ true → (form : ℕ) × IsFront form minor patch front
front_from minor patch front h = elim (or_cases (is_front_one minor patch front) (is_front_two front || is_front_three patch front) h) [
  | inl one ↦ (let p = and_parts (minor == 0) (patch == 0 && length front == 0) one in
      let q = and_parts (patch == 0) (length front == 0) p.1 in
      (1, inl (refl, eqb-true minor 0 p.0, eqb-true patch 0 q.0, nil_from_length front (eqb-true (length front) 0 q.1))))
  | inr later ↦ elim (or_cases (is_front_two front) (is_front_three patch front) later) [
    | inl two ↦ (let p = and_parts (nat_lt 3 (length front)) (pointwise nat_eq (drop (length front - 3) front) (codes ".0.")) two in
        let end = text_same (drop (length front - 3) front) (codes ".0.") p.1 in
        let whole : take (length front - 3) front ++ codes ".0." ≡ front = ap (λ (t : List ℕ). take (length front - 3) front ++ t) (sym end)
        ∙ take-append-drop (length front - 3) front in
        let size = length-append (take (length front - 3) front) (codes ".0.") in
        let same : length (take (length front - 3) front ++ codes ".0.") ≡ length front = ap (λ (t : List ℕ). length t) whole in
        let long = ltb-true 3 (length front) p.0 in
        (2, inr (inl (refl, take (length front - 3) front, omega (arith, size, same, long), sym whole))))
    | inr three ↦ (let p = and_parts (nat_lt 0 patch) (pointwise nat_eq front (codes "0.")) three in
        (3, inr (inr (refl, ltb-true 0 patch p.0, text_same front (codes "0.") p.1))))
  ]
]

pub pseudo_so : (version : List ℕ) → IsPseudoVersion version → is_pseudo version ≡ true
pseudo_so version (form, time, revision, (front, is_in_front, stamp)) =
    let joined : (parts_in version).3 ≡ front ++ (time ++ 45 ∷ revision) = search (stamp.joined, joined_so front time revision) in
    let both : both_parts (parts_in version) front (time ++ 45 ∷ revision) ≡ true = ap₂ (λ (x y : Bool). x && y)
    (front_so form (parts_in version).1 (parts_in version).2 front is_in_front) (stamp_so (parts_in version).3 front time revision stamp) in
    subst (λ (t : List ℕ). some_split (both_parts (parts_in version)) [] t ≡ true) (sym joined)
    (split_so (both_parts (parts_in version)) [] front (time ++ 45 ∷ revision) both)

pub pseudo_from : (version : List ℕ) → is_pseudo version ≡ true → IsPseudoVersion version
pseudo_from version h =
    let (front, rest, e, both) = split_from (both_parts (parts_in version)) [] (parts_in version).3 h in
    let p = and_parts (is_front (parts_in version).1 (parts_in version).2 front) (is_stamp rest) both in
    let (form, is_in_front) = front_from (parts_in version).1 (parts_in version).2 front p.0 in
    let (time, revision, stamp) = stamp_from (parts_in version).3 front rest e p.1 in
    (form, time, revision, (front, is_in_front, stamp))

-- ---- what may be listed

abbrev pub is_listable : List ℕ → Bool
is_listable version = is_version version && (does_fit m version && not (is_pseudo version))

pub listable_so : (version : List ℕ) → is_listable version ≡ true → is_spelled version ≡ true → IsListable m version
listable_so version h spelled =
    let p = and_parts (is_version version) (does_fit m version && not (is_pseudo version)) h in
    let q = and_parts (does_fit m version) (not (is_pseudo version)) p.1 in record {
      canonical = version_so version spelled;
      fit = fit_so version q.0;
      no_pseudo = λ is. false≢true (sym (not-true (is_pseudo version) q.1) ∙ pseudo_so version is);
    }

pub listable_back : (version : List ℕ) → IsListable m version → is_listable version ≡ true
listable_back version is = rw (version_back version is.canonical, fit_back version is.fit) (by_test (is_pseudo version) refl)
  where
    by_test : (b : Bool) → is_pseudo version ≡ b → not b ≡ true
    by_test true e = absurd (is.no_pseudo (pseudo_from version e))
    by_test false e = refl
