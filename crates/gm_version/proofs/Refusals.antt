-- When SemVer's parser refuses a text that is not a version, the error is never the one for memory.
use Rattle.std.proofs.Common.{◌≡◌, ◌==◌, ℕ, ◌^◌, Bool, true, false, List, [], ◌∷◌, cond, Result, Ok, Err, refl, sym, ap, ◌∙◌}
use Rattle.std.proofs.lemmas.Bool.{false≢true}
use Rattle.std.specs.Prelude.{⊤, ◌*◌, ◌+◌, ◌-◌, length, nat_le, nat_lt}
use Rattle.std.specs.Char.{is_ascii_digit}
use Rattle.semver.specs.Parse.{IsRefused, Parts, digits_end, digits_from, dot_of, end_error, identifier_len, identifier_of, is_bad_zero, is_leading_zero, is_letter, is_memory, memory_error, numeric, part_end, scan, starts_zero, tail_build, tail_end, tail_pre, version_parts, ◌>>=◌}
use Rattle.semver.specs.declared.Version.{Version}
use Rattle.semver.specs.declared.error.Error.{Error}
use Rattle.semver.specs.declared.error.Position.{Position}
use Rattle.gm_version.specs.Version.{IsSemVer}
use Rattle.gm_version.proofs.Versions.{version-read}

-- a result that is not the error for memory
abbrev pub IsOfText : {A : Type 0} → Result A Error → Type 0
IsOfText (Ok x) = ⊤
IsOfText (Err e) = is_memory e.kind ≡ false

-- one of two results
either : {A : Type 0} (b : Bool) (r s : Result A Error) → IsOfText r → IsOfText s → IsOfText (cond b r s)
either true r s p q = p
either false r s p q = q

-- one parser after another
after : {A B : Type 0} (r : Result A Error) (f : A → Result B Error) → IsOfText r → ((x : A) → IsOfText (f x)) → IsOfText (r >>= f)
after (Ok x) f p q = q x
after (Err e) f p q = p

end_error-text : (pos : Position) (xs : List ℕ) → IsOfText (end_error pos xs)
end_error-text pos [] = refl
end_error-text pos (b ∷ rest) = refl

digits_end-text : (pos : Position) (value len : ℕ) (rest : List ℕ) → IsOfText (digits_end pos value len rest)
digits_end-text pos value len rest = either (nat_lt 0 len) _ _ tt (end_error-text pos rest)

digits_from-text : (pos : Position) (value len : ℕ) (xs : List ℕ) → IsOfText (digits_from pos value len xs)
unfolding digits_from
digits_from-text pos value len [] = digits_end-text pos value len []
digits_from-text pos value len (b ∷ rest) =
    either (is_ascii_digit b) _ _
    (either (is_leading_zero value len) _ _ refl
    (either (nat_le (2 ^ 64) (value * 10 + (b - 48))) _ _ refl (digits_from-text pos (value * 10 + (b - 48)) (len + 1) rest)))
    (digits_end-text pos value len (b ∷ rest))

dot_of-text : (pos : Position) (xs : List ℕ) → IsOfText (dot_of pos xs)
dot_of-text pos [] = refl
dot_of-text pos (b ∷ rest) = either (b == 46) _ _ tt refl

part_end-text : (pos : Position) (acc seg : ℕ) (nondigit lead : Bool) → IsOfText (part_end pos acc seg nondigit lead)
part_end-text pos acc seg nondigit lead =
    either (seg == 0) _ _ (either (acc == 0) _ _ tt refl) (either (is_bad_zero pos seg nondigit lead) _ _ refl tt)

scan-text : (pos : Position) (acc seg : ℕ) (nondigit lead : Bool) (xs : List ℕ) → IsOfText (scan pos acc seg nondigit lead xs)
unfolding scan
scan-text pos acc seg nondigit lead [] = part_end-text pos acc seg nondigit lead
scan-text pos acc seg nondigit lead (b ∷ rest) =
    either (is_letter b) _ _ (scan-text pos acc (seg + 1) true lead rest)
    (either (is_ascii_digit b) _ _ (scan-text pos acc (seg + 1) nondigit (starts_zero lead seg b) rest)
    (either (b == 46) _ _
    (either (seg == 0) _ _ refl
    (either (is_bad_zero pos seg nondigit lead) _ _ refl (scan-text pos (acc + seg + 1) 0 false false rest)))
    (part_end-text pos acc seg nondigit lead)))

identifier_of-text : (pos : Position) (xs : List ℕ) → IsOfText (identifier_of pos xs)
identifier_of-text pos xs = after (identifier_len pos xs) _ (scan-text pos 0 0 false false xs) (λ n. either (n == 0) _ _ refl tt)

tail_end-text : (pos : Position) (a b c : ℕ) (pre build xs : List ℕ) → IsOfText (tail_end pos a b c pre build xs)
tail_end-text pos a b c pre build [] = tt
tail_end-text pos a b c pre build (x ∷ rest) = refl

tail_build-text : (pos : Position) (a b c : ℕ) (pre xs : List ℕ) → IsOfText (tail_build pos a b c pre xs)
tail_build-text pos a b c pre [] = tt
tail_build-text pos a b c pre (x ∷ rest) =
    either (x == 43) _ _ (after (identifier_of _ rest) _ (identifier_of-text _ rest) (λ y. tail_end-text _ a b c pre y.0 y.1))
    (tail_end-text pos a b c pre [] (x ∷ rest))

tail_pre-text : (a b c : ℕ) (xs : List ℕ) → IsOfText (tail_pre a b c xs)
tail_pre-text a b c [] = tt
tail_pre-text a b c (x ∷ rest) =
    either (x == 45) _ _ (after (identifier_of _ rest) _ (identifier_of-text _ rest) (λ y. tail_build-text _ a b c y.0 y.1))
    (tail_build-text _ a b c [] (x ∷ rest))

version_parts-text : (text : List ℕ) → IsOfText (version_parts text)
version_parts-text text =
    either (length text == 0) _ _ refl
    (after (numeric _ text) _ (digits_from-text _ 0 0 text) (λ x.
    after (dot_of _ x.1) _ (dot_of-text _ x.1) (λ t.
    after (numeric _ t) _ (digits_from-text _ 0 0 t) (λ y.
    after (dot_of _ y.1) _ (dot_of-text _ y.1) (λ u.
    after (numeric _ u) _ (digits_from-text _ 0 0 u) (λ z. tail_pre-text x.0 y.0 z.0 z.1))))))

refused-by : (text rest : List ℕ) (r : Result Parts Error) (e : Error) → text ≡ 118 ∷ rest → version_parts rest ≡ r → IsOfText r
    → IsRefused {T = Version} r (Err e) → e ≡ memory_error → IsSemVer text
refused-by text rest (Ok parts) e v read of_text refused memory =
    let found = version-read text rest parts v read in
    (parts, found.0, found.1)
refused-by text rest (Err f) e v read of_text refused memory =
    let same : f ≡ e = cc (sym refused) in
    absurd (false≢true (sym of_text ∙ ap (λ (one : Error). is_memory one.kind) (same ∙ memory)))

-- if the parser reports that memory ran out, the text is a version
pub memory-version : (text rest : List ℕ) (e : Error) → text ≡ 118 ∷ rest
    → IsRefused {T = Version} (version_parts rest) (Err e) → e ≡ memory_error → IsSemVer text
memory-version text rest e v refused memory = refused-by text rest (version_parts rest) e v refl (version_parts-text rest) refused memory
