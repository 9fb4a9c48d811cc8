-- Fingerprints of texts: hashes that take eight bytes at a time.
use Rattle.std.specs.Prelude.{ℕ, List, [], ◌∷◌, ◌*◌, ◌%◌, ◌/◌, ◌^◌, bit_xor, slice_index}
use Rattle.std.specs.Int.{from_le_bytes, w64}

-- a number's two halves, joined by exclusive or
abbrev pub joined_halves : ℕ → ℕ
joined_halves number = bit_xor number (number / 2 ^ 32)

-- a number with one more word in it: exclusive or with the word, and multiplication by an odd number
abbrev pub number_with_word : ℕ → ℕ → ℕ
number_with_word number word = joined_halves (bit_xor number word * 11400714819323198485 % 2 ^ 64)

-- the number of the first eight bytes, the first one lowest
abbrev pub first_eight : List ℕ → ℕ
first_eight xs = from_le_bytes w64 (slice_index xs 0 ∷ slice_index xs 1 ∷ slice_index xs 2 ∷ slice_index xs 3
    ∷ slice_index xs 4 ∷ slice_index xs 5 ∷ slice_index xs 6 ∷ slice_index xs 7 ∷ [])

-- each byte as a word
abbrev pub by_bytes : ℕ → List ℕ → ℕ
by_bytes number [] = number
by_bytes number (byte ∷ rest) = by_bytes (number_with_word number byte) rest

-- each eight bytes as a word, and then each byte that is left
abbrev pub fingerprint : ℕ → List ℕ → ℕ
fingerprint number (a ∷ b ∷ c ∷ d ∷ e ∷ f ∷ g ∷ h ∷ rest) =
    fingerprint (number_with_word number (first_eight (a ∷ b ∷ c ∷ d ∷ e ∷ f ∷ g ∷ h ∷ []))) rest
fingerprint number rest = by_bytes number rest

-- the tag of a fingerprint: its high half
abbrev pub tag_of : ℕ → ℕ
tag_of number = number / 4294967296
