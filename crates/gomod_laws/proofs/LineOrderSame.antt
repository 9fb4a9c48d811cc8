-- Main files that say the same name the same files, and leave the same requirements.
use Rattle.std.proofs.Common.{◌≡◌, ◌↔◌, not, List, filter, Contains, ap, refl, sym}
use mathlib.Core.Path.{fun_ext}
use Rattle.gm_name.specs.ModuleVersion.{ModuleVersion}
use Rattle.gm_name.proofs.NameTests.{same-bool}
use Rattle.gm_file.specs.Main.{Main, is_excluded, is_pruned_by, replacement_in, without_excluded}
use Rattle.gm_graph_files.specs.Reading.{file_named, file_of}
use Rattle.gomod_laws.proofs.AdditionsKept.{excluded_more}

-- Two main files say the same, wherever and however often.
pub record SayTheSame (one other : Main) : Type 0 where
  -- they declare the same module
  pub path : one.path ≡ other.path
  -- both have a go version of at least 1.17, or neither has
  pub pruned : is_pruned_by one.go ≡ is_pruned_by other.go
  -- less what they exclude, they require the same modules at the same versions
  pub required : (x : ModuleVersion)
      → Contains (without_excluded one one.requirements) x ↔ Contains (without_excluded other other.requirements) x
  -- they exclude the same modules at the same versions
  pub excluded : (x : ModuleVersion) → Contains one.excludes x ↔ Contains other.excludes x
  -- they replace each module at each version by the same: `./x` and `./x/` are not the same
  pub replaced : (x : ModuleVersion) → replacement_in one x ≡ replacement_in other x

pub says_itself : (main : Main) → SayTheSame main main
says_itself main = record {
  path = refl;
  pruned = refl;
  required = λ x. (λ is. is, λ is. is);
  excluded = λ x. (λ is. is, λ is. is);
  replaced = λ x. refl;
}

pub says_back : {one other : Main} → SayTheSame one other → SayTheSame other one
says_back same = record {
  path = sym same.path;
  pruned = sym same.pruned;
  required = λ x. ((same.required x).1, (same.required x).0);
  excluded = λ x. ((same.excluded x).1, (same.excluded x).0);
  replaced = λ x. sym (same.replaced x);
}

-- ---- files and requirements

-- main files that name the same modules as excluded exclude the same
pub excluded_same : (m n : Main) → ((x : ModuleVersion) → Contains m.excludes x ↔ Contains n.excludes x)
    → (x : ModuleVersion) → is_excluded m x ≡ is_excluded n x
excluded_same m n same x = same-bool _ _ (excluded_more n m (λ y. (same y).0) x) (excluded_more m n (λ y. (same y).1) x)

module _ (m n : Main) (same : SayTheSame m n) where
  pub without_same : (xs : List ModuleVersion) → without_excluded m xs ≡ without_excluded n xs
  without_same xs =
      let tests =
      fun_ext (λ x. ap not (excluded_same m n same.excluded x)) in
      ap (λ test. filter test xs) tests

  pub files_same : (x : ModuleVersion) → file_of m x ≡ file_of n x
  files_same x = ap (file_named x) (same.replaced x)
