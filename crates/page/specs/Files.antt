-- The files of the worlds and what they say, a stand-in for the definitions of gm_file.
use Rattle.std.specs.Prelude.{◌≡◌, ◌++◌, ℕ, if◌then◌else◌, List, [], ◌∷◌, Option, Some, None, Result, Ok, Err, codes}
use Rattle.std.specs.Str.{bytes_eq}
use Rattle.page.specs.Asked.{Name, mod_file}
use Rattle.page.specs.Directives.{Folder, Lax, Mode, Module, Strict}
use Rattle.page.specs.Fields.{Dependency}
use Rattle.page.specs.Files.RowFiles.{every_of, main_of_rows, one_of, said_of_rows}
use Rattle.page.specs.Main.{Main}
use Rattle.page.specs.ModuleVersion.{ModuleVersion}
use Rattle.page.specs.Types.{Class, Misreading, Sums, hash_fault}
pub mod RowFiles
pub mod TableFiles

-- ---- modules

abbrev pub top_one : ModuleVersion
top_one = (codes "top.org", codes "v1.0.0")

abbrev pub mid_nine : ModuleVersion
mid_nine = (codes "mid.org", codes "v1.9.0")

abbrev pub mid_ten : ModuleVersion
mid_ten = (codes "mid.org", codes "v1.10.0")

abbrev pub low_nine : ModuleVersion
low_nine = (codes "low.org", codes "v1.9.0")

abbrev pub low_ten : ModuleVersion
low_ten = (codes "low.org", codes "v1.10.0")

abbrev pub end_one : ModuleVersion
end_one = (codes "end.org", codes "v1.0.0")

-- a module with the main module's own path
abbrev pub own_one : ModuleVersion
own_one = (codes "m", codes "v1.0.0")

-- a path that no proxy has
abbrev pub local_one : ModuleVersion
local_one = (codes "local", codes "v1.0.0")

-- ---- main files

-- It is pruned, excludes a version of low.org, which it requires, and replaces one of mid.org by a folder, and the
-- others by fork.org.
abbrev pub main_text : List ℕ
main_text = codes "module m\ngo 1.17\nrequire top.org v1.0.0\nrequire mid.org v1.9.0\nrequire low.org v1.10.0\n"
    ++ codes "exclude low.org v1.10.0\nreplace mid.org v1.10.0 => ./mid\nreplace mid.org => fork.org v1.9.0\n"

abbrev pub main_file : Main
main_file = record {
  path = codes "m";
  go = (1, 17);
  requirements = top_one ∷ mid_nine ∷ low_ten ∷ [];
  excludes = low_ten ∷ [];
  replaces = (one_of (codes "mid.org") (codes "v1.10.0"), Folder (codes "./mid"))
      ∷ (every_of (codes "mid.org"), Module (codes "fork.org") (codes "v1.9.0")) ∷ [];
}

-- It is not pruned.
abbrev pub old_text : List ℕ
old_text = codes "module m\ngo 1.16\nrequire mid.org v1.9.0\n"

abbrev pub old_file : Main
old_file = record {
  path = codes "m";
  go = (1, 16);
  requirements = mid_nine ∷ [];
  excludes = [];
  replaces = [];
}

-- It requires a module that can't be fetched.
abbrev pub local_text : List ℕ
local_text = codes "module m\ngo 1.16\nrequire mid.org v1.9.0\nrequire local v1.0.0\n"

abbrev pub local_file : Main
local_file = record old_file { requirements = mid_nine ∷ local_one ∷ [] }

-- what the bytes of a main file say, or the line of a fault and its kind
abbrev pub main_in : List ℕ → Result Main (ℕ × Misreading)
main_in content =
    if bytes_eq content main_text then Ok main_file
    else (if bytes_eq content old_text then Ok old_file
    else (if bytes_eq content local_text then Ok local_file
    else main_of_rows content))

-- ---- files of other modules

-- a file with these contents
abbrev pub saying : Option (List ℕ) → ℕ × ℕ → List ModuleVersion → Dependency
saying declared go requirements = record { declared = declared; go = go; requirements = requirements }

-- It is not pruned, and requires the later mid.org and the excluded low.org.
abbrev pub top_text : List ℕ
top_text = codes "module top.org\ngo 1.16\nrequire mid.org v1.10.0\nrequire low.org v1.10.0\n"

abbrev pub top_file : Dependency
top_file = saying (Some (codes "top.org")) (1, 16) (mid_ten ∷ low_ten ∷ [])

-- It is pruned, and requires low.org and a module with the main module's path.
abbrev pub mid_text : List ℕ
mid_text = codes "module mid.org\ngo 1.17\nrequire low.org v1.9.0\nrequire m v1.0.0\n"

abbrev pub mid_file : Dependency
mid_file = saying (Some (codes "mid.org")) (1, 17) (low_nine ∷ own_one ∷ [])

-- It is pruned, and requires low.org alone.
abbrev pub short_text : List ℕ
short_text = codes "module mid.org\ngo 1.17\nrequire low.org v1.9.0\n"

abbrev pub short_file : Dependency
short_file = saying (Some (codes "mid.org")) (1, 17) (low_nine ∷ [])

-- The folder's file declares no path, and requires end.org.
abbrev pub folder_text : List ℕ
folder_text = codes "go 1.17\nrequire end.org v1.0.0\n"

abbrev pub folder_says : Dependency
folder_says = saying None (1, 17) (end_one ∷ [])

abbrev pub low_text : List ℕ
low_text = codes "module low.org\ngo 1.17\n"

abbrev pub low_file : Dependency
low_file = saying (Some (codes "low.org")) (1, 17) []

abbrev pub end_text : List ℕ
end_text = codes "module end.org\n"

abbrev pub end_file : Dependency
end_file = saying (Some (codes "end.org")) (1, 16) []

-- what the bytes of another module's file say, or the line of a fault and its kind
abbrev pub said_in : List ℕ → Result Dependency (ℕ × Misreading)
said_in content =
    if bytes_eq content top_text then Ok top_file
    else (if bytes_eq content mid_text then Ok mid_file
    else (if bytes_eq content short_text then Ok short_file
    else (if bytes_eq content folder_text then Ok folder_says
    else (if bytes_eq content low_text then Ok low_file
    else (if bytes_eq content end_text then Ok end_file
    else said_of_rows content)))))

-- ---- what bytes say

abbrev pub IsMainFile : List ℕ → Main → Type 0
IsMainFile content main = main_in content ≡ Ok main

abbrev pub IsDependencyIn : List ℕ → Dependency → Type 0
IsDependencyIn content file = said_in content ≡ Ok file

abbrev pub IsMisread : Mode → List ℕ → ℕ → Misreading → Type 0
IsMisread Strict content line kind = main_in content ≡ Err (line, kind)
IsMisread Lax content line kind = said_in content ≡ Err (line, kind)

-- A module's file has the hash that the go.sum lists, if there is one.
abbrev pub sum_fault : Option Sums → Name → List ℕ → Option Class
sum_fault (Some table) (mod_file path version) content = hash_fault table path version content
sum_fault _ _ content = None
