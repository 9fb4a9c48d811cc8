-- What single definitions say of paths, versions, names and hashes.
use Rattle.std.specs.Prelude.{◌≡◌, ℕ, List, [], ◌∷◌, map, filter, codes, not}
use Rattle.std.specs.declared.cmp.Ordering.{Ordering}
use Rattle.std.specs.declared.cmp.Ordering.TheVariants.{Less, Equal, Greater}
use Rattle.page_commands.specs.Asked.{folder_file, list_file, mod_file}
use Rattle.page_commands.specs.Escape.{escaped_text}
use Rattle.page_commands.specs.Hash.{file_hash}
use Rattle.page_commands.specs.Latest.{is_release}
use Rattle.page_commands.specs.Names.{does_fit, is_path, is_version}
use Rattle.page_commands.specs.Path.{IsPath, is_fetchable}
use Rattle.page_commands.specs.Relative.{relative_text}
use Rattle.page_commands.specs.Version.{parts_in, precedence, version_cmp}

-- ---- paths

abbrev pub module_paths : List (List ℕ)
module_paths =
    codes "m" ∷ codes "example.com/m" ∷ codes "example.com/A-b.c_d~e" ∷ codes "a~b/c" ∷ codes "1/2"
    -- a suffix is a number from 2 on; one element alone has none
    ∷ codes "a.b/v2" ∷ codes "a.b/v10" ∷ codes "a.b/v9223372036854775808"
    ∷ codes "a.b/v18446744073709551615" ∷ codes "v2" ∷ codes "v1"
    ∷ codes "a.b/v2/c" ∷ codes "a.b/vx" ∷ codes "a.b/v" ∷ codes "a.b/v2x" ∷ codes "a.b/xv1"
    -- below gopkg.in a path ends in `.v0`, `.vN` or `.vN-unstable`
    ∷ codes "gopkg.in/a.v0" ∷ codes "gopkg.in/a/b.v12" ∷ codes "gopkg.in/a.v1-unstable" ∷ codes "gopkg.in"
    ∷ codes "gopkg.inx/a"
    -- names like those of devices
    ∷ codes "com" ∷ codes "abc1" ∷ codes "12" ∷ codes "com0" ∷ codes "com10" ∷ codes "a.con" ∷ codes "console"
    ∷ codes "a~" ∷ codes "a.b~1" ∷ codes "a~b1" ∷ []

abbrev pub other_texts : List (List ℕ)
other_texts =
    -- empty elements, outer dots, other bytes
    [] ∷ codes "/a" ∷ codes "a/" ∷ codes "a//b" ∷ codes ".a" ∷ codes "a./b" ∷ codes "a/.." ∷ codes "." ∷ codes "a+b"
    ∷ codes "a b" ∷ codes "a@b" ∷ codes "a!b" ∷ codes "a\\b" ∷ codes "é"
    -- suffixes that name no major version
    ∷ codes "a.b/v1" ∷ codes "a.b/v0" ∷ codes "a.b/v02" ∷ codes "a.b/v2.1" ∷ codes "a/v1.2.3"
    ∷ codes "a/v18446744073709551616" ∷ codes "gopkg.in/a" ∷ codes "gopkg.in/a.v" ∷ codes "gopkg.in/a.v01"
    ∷ codes "gopkg.in/a.v0-unstable" ∷ codes "gopkg.in/a/v2" ∷ codes "gopkg.in/a.v1-stable"
    -- the names of devices, before the first dot, in any case; short names
    ∷ codes "con" ∷ codes "a/Aux.txt" ∷ codes "prn" ∷ codes "NUL.x.y" ∷ codes "com1" ∷ codes "com9.x"
    ∷ codes "lpt1" ∷ codes "LPT9" ∷ codes "a~1"
    ∷ codes "~1" ∷ codes "b/a~12.c" ∷ []

abbrev pub fetchable_paths : List (List ℕ)
fetchable_paths = codes "a.b" ∷ codes "a.b/C_d" ∷ codes "a-1.b" ∷ codes "1.2/x" ∷ codes "a.b-/x" ∷ []

abbrev pub local_paths : List (List ℕ)
local_paths = codes "ab" ∷ codes "a/b.c" ∷ codes "A.b" ∷ codes "a_b.c" ∷ codes "-a.b" ∷ codes "a~.b" ∷ []

-- ---- versions

abbrev pub canonical_versions : List (List ℕ)
canonical_versions =
    codes "v0.0.0" ∷ codes "v1.2.3" ∷ codes "v10.0.0" ∷ codes "v1.2.3-rc.1" ∷ codes "v1.2.3--" ∷ codes "v1.0.0-0a.0"
    ∷ codes "v2.0.0+incompatible" ∷ codes "v1.0.0-a+incompatible" ∷ []

abbrev pub other_versions : List (List ℕ)
other_versions =
    [] ∷ codes "v" ∷ codes "1.2.3" ∷ codes "V1.2.3" ∷ codes "v1" ∷ codes "v1.2" ∷ codes "v1.2.3.4" ∷ codes "v01.2.3"
    ∷ codes "v1.2.3-01" ∷ codes "v1.2.3-" ∷ codes "v1.2.3-a..b" ∷ codes "v1.2.3+meta" ∷ codes "v1.2.3+incompatible.1"
    ∷ codes "v1.2.3+" ∷ codes "v1.2.3-a_b" ∷ codes "vv1.2.3" ∷ codes " v1.2.3" ∷ []

-- a path and a version
abbrev pub fitting : List (List ℕ × List ℕ)
fitting =
    (codes "a.b", codes "v0.1.0") ∷ (codes "a.b", codes "v1.9.9-rc.1") ∷ (codes "a.b", codes "v2.0.0+incompatible")
    ∷ (codes "a.b/v2", codes "v2.1.0") ∷ (codes "v2", codes "v1.0.0") ∷ (codes "gopkg.in/a.v0", codes "v0.1.0")
    ∷ (codes "gopkg.in/a.v1", codes "v1.0.0") ∷ (codes "gopkg.in/a.v2", codes "v2.0.0")
    -- pseudo-versions of before a module was one
    ∷ (codes "gopkg.in/a.v1", codes "v0.0.0-20200101000000-abcdefabcdef")
    ∷ (codes "gopkg.in/a.v3-unstable", codes "v3.0.0") ∷ []

abbrev pub not_fitting : List (List ℕ × List ℕ)
not_fitting =
    (codes "a.b", codes "v2.0.0") ∷ (codes "a.b", codes "v2.0.0+meta") ∷ (codes "a.b", codes "v1.0.0+incompatible")
    ∷ (codes "a.b", codes "v0.1.0+incompatible") ∷ (codes "a.b/v2", codes "v1.0.0") ∷ (codes "a.b/v2", codes "v3.0.0")
    ∷ (codes "a.b/v2", codes "v2.0.0+incompatible") ∷ (codes "a.b/v2", codes "v0.0.0-20200101000000-abcdefabcdef")
    ∷ (codes "gopkg.in/a.v1", codes "v0.0.0") ∷ (codes "gopkg.in/a.v1", codes "v0.1.0-2")
    ∷ (codes "gopkg.in/a.v2", codes "v1.0.0") ∷ (codes "gopkg.in/a.v2", codes "v0.0.0-20200101000000-abcdefabcdef")
    ∷ (codes "gopkg.in/a.v2", codes "v2.0.0+incompatible") ∷ (codes "gopkg.in/a", codes "v1.0.0") ∷ []

-- The versions of SemVer's example of precedence, ascending, with one more number and one more major number.
abbrev pub ascending_versions : List (List ℕ)
ascending_versions =
    codes "v0.9.10" ∷ codes "v1.0.0-alpha" ∷ codes "v1.0.0-alpha.1" ∷ codes "v1.0.0-alpha.beta" ∷ codes "v1.0.0-beta"
    ∷ codes "v1.0.0-beta.2" ∷ codes "v1.0.0-beta.11" ∷ codes "v1.0.0-rc.1" ∷ codes "v1.0.0" ∷ codes "v1.0.9"
    ∷ codes "v1.0.10" ∷ codes "v1.1.0" ∷ codes "v2.0.0" ∷ codes "v10.0.0" ∷ []

-- how each is to the next one
abbrev pub neighbours : List (List ℕ) → List Ordering
neighbours [] = []
neighbours (x ∷ []) = []
neighbours (x ∷ y ∷ rest) = version_cmp x y ∷ neighbours (y ∷ rest)

abbrev pub all_less : List (List ℕ) → List Ordering
all_less [] = []
all_less (x ∷ []) = []
all_less (x ∷ y ∷ rest) = Less ∷ all_less (y ∷ rest)

-- ---- records

pub record PathsAreTold : Type 0 where
  -- a path with each kind of suffix, by the reference's words
  pub plain : IsPath (codes "example.com/m")
  pub slash : IsPath (codes "a.b/v2")
  pub zero : IsPath (codes "gopkg.in/a.v0")
  pub unstable : IsPath (codes "gopkg.in/a.v1-unstable")
  -- texts for which the test is otherwise
  pub refused : filter (λ text. not (is_path text)) module_paths ≡ []
  pub passed : filter is_path other_texts ≡ []
  pub unfetchable : filter (λ path. not (is_fetchable path)) fetchable_paths ≡ []
  pub fetchable : filter is_fetchable local_paths ≡ []

pub record VersionsAreTold : Type 0 where
  pub refused : filter (λ text. not (is_version text)) canonical_versions ≡ []
  pub passed : filter is_version other_versions ≡ []
  pub misfit : filter (λ pair. not (does_fit pair.0 pair.1)) fitting ≡ []
  pub fit : filter (λ pair. does_fit pair.0 pair.1) not_fitting ≡ []
  pub releases : filter is_release canonical_versions
      ≡ codes "v0.0.0" ∷ codes "v1.2.3" ∷ codes "v10.0.0" ∷ codes "v2.0.0+incompatible" ∷ []
  pub order : neighbours ascending_versions ≡ all_less ascending_versions
  -- Build metadata doesn't count for precedence; of two versions that tie the texts decide.
  pub tie : precedence (parts_in (codes "v2.0.0+incompatible")) (parts_in (codes "v2.0.0")) ≡ Equal
  pub build : version_cmp (codes "v2.0.0+incompatible") (codes "v2.0.0") ≡ Greater

pub record NamesAreTold : Type 0 where
  -- Upper-case letters are escaped, and nothing else.
  pub escaped : escaped_text (codes "Az.Z/a-B!_~1") ≡ codes "!az.!z/a-!b!_~1"
  pub files : map relative_text (mod_file (codes "a.b/C") (codes "v1.0.0-RC") ∷ list_file (codes "a.b/C")
      ∷ folder_file (codes "../A") ∷ folder_file (codes "..") ∷ folder_file (codes "./a/") ∷ folder_file (codes "/")
      ∷ folder_file [] ∷ mod_file (codes "a.b") (codes "v2.0.0+incompatible") ∷ [])
      ≡ codes "a.b/!c/@v/v1.0.0-!r!c.mod" ∷ codes "a.b/!c/@v/list" ∷ codes "../A/go.mod" ∷ codes "../go.mod"
      ∷ codes "./a/go.mod" ∷ codes "/go.mod" ∷ codes "/go.mod" ∷ codes "a.b/@v/v2.0.0+incompatible.mod" ∷ []

-- Hashes of a file and of one with a carriage return, as go 1.19.8 writes them into a go.sum, and that of an empty one.
abbrev pub HashesAreTold : Type 0
HashesAreTold = map file_hash (codes "module example.com/a\n" ∷ codes "module example.com/a\r\n" ∷ [] ∷ [])
    ≡ codes "h1:NeOsx/KTizj35klXP3wYh3O0751aAtYrRoX+a6YAye8=" ∷ codes "h1:ScmYrPfR4XJoj5u6o5L7dPLlOF8MQX/NH9fCnNmgog0="
    ∷ codes "h1:G7mAYYxgmS0lVkHyy2hEOLQCFB0DlQFTMLWggykrydY=" ∷ []
