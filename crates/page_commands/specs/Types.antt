-- Stand-ins for what the definitions take from the code, a file for each type, and from the packages semver, sha2, hex
-- and base64, below.
use Rattle.std.specs.Prelude.{◌≡◌, ◌-◌, ◌==◌, ◌&&◌, ◌||◌, ◌++◌, ◌+◌, ◌*◌, ◌/◌, ◌%◌, ℕ, if◌then◌else◌, Bool, not, List, [], ◌∷◌, Option, Some, None, Result, Ok, Err, codes, length, nat_lt, slice_index}
use Rattle.std.specs.Char.{is_ascii_alphanumeric, is_ascii_digit}
use Rattle.std.specs.Cmp.Lexicographic.{slice_cmp}
use Rattle.std.specs.Fmt.{decimal}
use Rattle.std.specs.List.{after_first, before_first, flat_map, list_all, list_any, slice_split}
use Rattle.std.specs.Ordering.{nat_cmp, on, then_cmp}
use Rattle.std.specs.Str.{bytes_eq}
use Rattle.std.specs.Str.Parse.{digits_value}
use Rattle.std.specs.declared.cmp.Ordering.{Ordering}
pub mod Class
pub mod DirectiveKind
pub mod Edge
pub mod Kind
pub mod Major
pub mod Misreading
pub mod OperationKind
pub mod Punct
pub mod Span
pub mod Step
pub mod Sum
pub mod SyntaxFault
pub mod SyntaxKind
pub mod Verb

-- ---- semver

-- the three numbers of a version, its pre-release and its build
abbrev pub Parts : Type 0
Parts = ℕ × ℕ × ℕ × List ℕ × List ℕ

pub data Error : Type 0 where
  no_version : Error

-- the pieces between dots
abbrev pub identifiers : List ℕ → List (List ℕ)
identifiers text = slice_split (λ b. b == 46) text

-- more than one digit, the first of them a zero
abbrev pub has_leading_zero : List ℕ → Bool
has_leading_zero text = nat_lt 1 (length text) && (slice_index text 0 == 48) && list_all is_ascii_digit text

-- a number of 64 bits
abbrev pub number : List ℕ → Option ℕ
number text =
    if nat_lt 0 (length text) && nat_lt (length text) 20 && list_all is_ascii_digit text && not (has_leading_zero text)
    then Some (digits_value 10 text) else None

-- letters, digits and dashes, at least one
abbrev pub is_identifier : List ℕ → Bool
is_identifier text = nat_lt 0 (length text) && list_all (λ b. is_ascii_alphanumeric b || b == 45) text

abbrev pub is_pre_release : List ℕ → Bool
is_pre_release text = list_all (λ part. is_identifier part && not (has_leading_zero part)) (identifiers text)

-- what stands after the first such byte, if there is one
abbrev pub after_byte : ℕ → List ℕ → Option (List ℕ)
after_byte b text = if list_any (λ c. c == b) text then Some (after_first (λ c. c == b) text) else None

-- the part after a mark: none, or one that passes the test
abbrev pub marked_part : (List ℕ → Bool) → Option (List ℕ) → Option (List ℕ)
marked_part test None = Some []
marked_part test (Some text) = if test text then Some text else None

abbrev pub parts_from : List (Option ℕ) → Option (List ℕ) → Option (List ℕ) → Result Parts Error
parts_from (Some a ∷ Some b ∷ Some c ∷ []) (Some pre) (Some build) = Ok (a, b, c, pre, build)
parts_from _ _ _ = Err no_version

abbrev pub numbers_of : List (List ℕ) → List (Option ℕ)
numbers_of [] = []
numbers_of (text ∷ texts) = number text ∷ numbers_of texts

-- the parts of a text before its build, and this
abbrev pub parts_of : List ℕ → Option (List ℕ) → Result Parts Error
parts_of text build =
    parts_from (numbers_of (identifiers (before_first (λ b. b == 45) text)))
    (marked_part is_pre_release (after_byte 45 text))
    (marked_part (λ text. list_all is_identifier (identifiers text)) build)

abbrev pub version_parts : List ℕ → Result Parts Error
version_parts text = parts_of (before_first (λ b. b == 43) text) (after_byte 43 text)

abbrev pub marked : ℕ → List ℕ → List ℕ
marked mark [] = []
marked mark (b ∷ rest) = mark ∷ b ∷ rest

abbrev pub parts_text : Parts → List ℕ
parts_text p = decimal p.0 ++ codes "." ++ decimal p.1 ++ codes "." ++ decimal p.2 ++ marked 45 p.3 ++ marked 43 p.4

-- Parts are valid if they are those of their text.
abbrev pub IsValid : Parts → Type 0
IsValid p = version_parts (parts_text p) ≡ Ok p

-- The order of pre-releases: none after all others; a number before a text, and by its value.
abbrev pub identifier_cmp : List ℕ → List ℕ → Ordering
identifier_cmp = then_cmp (on (λ text. if list_all is_ascii_digit text then 0 else 1) nat_cmp)
    (then_cmp (on (λ text. if list_all is_ascii_digit text then length text else 0) nat_cmp) (slice_cmp nat_cmp))

abbrev pub pre_cmp : List ℕ → List ℕ → Ordering
pre_cmp = then_cmp (on (λ text. if length text == 0 then 1 else 0) nat_cmp) (on identifiers (slice_cmp identifier_cmp))

-- ---- hashes

-- The SHA-256 of the texts of the worlds, as 32 bytes in hexadecimal digits: to compute one is too much for a proof.
abbrev pub known_digests : List (List ℕ × List ℕ)
known_digests =
    ([], codes "e3b0c44298fc1c149afbf4c8996fb92427ae41e4649b934ca495991b7852b855")
    ∷ (
      codes "e3b0c44298fc1c149afbf4c8996fb92427ae41e4649b934ca495991b7852b855  go.mod\n",
      codes "1bb980618c60992d255641f2cb684438b402141d0395015330b5a083292bc9d6",
    )
    ∷ (codes "module example.com/a\n", codes "5d2d718e0e89053ab3cd5822a7601e5b93e063d0a625a9be47bfa13b4a556393")
    ∷ (
      codes "5d2d718e0e89053ab3cd5822a7601e5b93e063d0a625a9be47bfa13b4a556393  go.mod\n",
      codes "35e3acc7f2938b38f7e649573f7c188773b4ef9d5a02d62b4685fe6ba600c9ef",
    )
    ∷ (codes "module example.com/b\n", codes "2424c6df370c49296dc0c545956dc19ba833dbecd7fe58f7648ef5485daab46b")
    ∷ (
      codes "2424c6df370c49296dc0c545956dc19ba833dbecd7fe58f7648ef5485daab46b  go.mod\n",
      codes "f31748c7c2e94002ba92c4fdd7f1766862342aae33fb205414353a7f783dfcf5",
    )
    ∷ (codes "module example.com/a\r\n", codes "f588ccf255628a657ac87767e9be859343f283f0989d2309c7f7018d79c7baf7")
    ∷ (
      codes "f588ccf255628a657ac87767e9be859343f283f0989d2309c7f7018d79c7baf7  go.mod\n",
      codes "49c998acf7d1e172688f9bbaa392fb74f2e5385f0c417fcd1fd7c29cd9a0a20d",
    )
    ∷ []

abbrev pub hex_value : ℕ → ℕ
hex_value b = if is_ascii_digit b then b - 48 else b - 87

abbrev pub bytes_of_hex : List ℕ → List ℕ
bytes_of_hex (a ∷ b ∷ rest) = (hex_value a * 16 + hex_value b) ∷ bytes_of_hex rest
bytes_of_hex _ = []

abbrev pub digest_among : List (List ℕ × List ℕ) → List ℕ → List ℕ
digest_among [] text = []
digest_among (one ∷ others) text = if bytes_eq text one.0 then bytes_of_hex one.1 else digest_among others text

abbrev pub sha256 : List ℕ → List ℕ
sha256 = digest_among known_digests

abbrev pub hex_digit : ℕ → ℕ
hex_digit n = if nat_lt n 10 then n + 48 else n + 87

abbrev pub encode_lower : List ℕ → List ℕ
encode_lower = flat_map (λ b. hex_digit (b / 16) ∷ hex_digit (b % 16) ∷ [])

-- base64 with its standard alphabet and padding
pub data Alphabet : Type 0 where
  by_standard : Alphabet

abbrev pub standard : Alphabet
standard = by_standard

abbrev pub symbol : ℕ → ℕ
symbol n = slice_index (codes "ABCDEFGHIJKLMNOPQRSTUVWXYZabcdefghijklmnopqrstuvwxyz0123456789+/") n

abbrev pub encode_of : Alphabet → List ℕ → List ℕ
encode_of alphabet [] = []
encode_of alphabet (a ∷ []) = symbol (a / 4) ∷ symbol (a % 4 * 16) ∷ codes "=="
encode_of alphabet (a ∷ b ∷ []) = symbol (a / 4) ∷ symbol (a % 4 * 16 + b / 16) ∷ symbol (b % 16 * 4) ∷ codes "="
encode_of alphabet (a ∷ b ∷ c ∷ rest) = symbol (a / 4) ∷ symbol (a % 4 * 16 + b / 16)
    ∷ symbol (b % 16 * 4 + c / 64) ∷ symbol (c % 64) ∷ encode_of alphabet rest
