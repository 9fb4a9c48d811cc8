-- The bytes of versions are ASCII.
use Rattle.std.proofs.Common.{◌≡◌, zero, suc, ◌<◌, ℕ, true, List, [], ◌∷◌, arith}
use Rattle.std.proofs.lemmas.Bool.Decides.{nat_tests}
use Rattle.std.specs.Cmp.{first_so, second_so}
use Rattle.std.specs.List.{list_all, slice_index}
use Rattle.std.specs.Str.{IsAscii}
use Rattle.gm_version.specs.Version.{IsVersion, is_byte_of_version}
use Rattle.gm_name.proofs.Bytes.{version-bytes}

small_byte : (b : ℕ) → is_byte_of_version b ≡ true → b < 128
small_byte b e = grind (arith, nat_tests)

small_at : (xs : List ℕ) → list_all is_byte_of_version xs ≡ true → (i : ℕ) → slice_index xs i < 128
small_at [] e i = omega arith
small_at (x ∷ xs) e zero = small_byte x (first_so (is_byte_of_version x) (list_all is_byte_of_version xs) e)
small_at (x ∷ xs) e (suc i) = small_at xs (second_so (is_byte_of_version x) (list_all is_byte_of_version xs) e) i

pub IsAscii-version : (v : List ℕ) → IsVersion v → IsAscii v
IsAscii-version v version = small_at v (version-bytes v version)
