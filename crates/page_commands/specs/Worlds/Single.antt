-- What single definitions say of arguments that tell them from others like them, though no run has some of these, and
-- others change no outcome.
use Rattle.std.specs.Prelude.{◌≡◌, ℕ, true, false, List, [], ◌∷◌, Some, None, codes}
use Rattle.page_commands.specs.Asked.{Name, Reply, absent, answer_in, bytes, list_file, mod_file}
use Rattle.page_commands.specs.Chains.{IsChain}
use Rattle.page_commands.specs.DepLines.{IsDependencyIn}
use Rattle.page_commands.specs.Directives.{DeclaresGo, DeclaresModule, Strict}
use Rattle.page_commands.specs.Document.{Blank, Close, Entry, Line, Open, start}
use Rattle.page_commands.specs.Edited.{after_first_of, after_last_of}
use Rattle.page_commands.specs.Element.{eq_ignoring_case, is_numbered_device}
use Rattle.page_commands.specs.Fates.{remaining}
use Rattle.page_commands.specs.Faults.{is_module, missing_module, with_before}
use Rattle.page_commands.specs.Fit.{FitsMajor}
use Rattle.page_commands.specs.GoVersions.{is_go_suffix, lax_go}
use Rattle.page_commands.specs.Graph.{Edges}
use Rattle.page_commands.specs.Main.{IsMainOf}
use Rattle.page_commands.specs.Names.{fits_major, number_in}
use Rattle.page_commands.specs.NewWords.{made_word, single}
use Rattle.page_commands.specs.Operations.{split_at_byte}
use Rattle.page_commands.specs.Outcome.{Outcome}
use Rattle.page_commands.specs.Path.{EndsInSlashVersion, HasMajor, IsPath, IsUnderGopkg}
use Rattle.page_commands.specs.Pseudo.{IsFront}
use Rattle.page_commands.specs.Reading.{AreRetractedBy}
use Rattle.page_commands.specs.Sums.{HasValidLines, check_in}
use Rattle.page_commands.specs.Tokens.{Placed}
use Rattle.page_commands.specs.Types.Major.{Dot, Slash}
use Rattle.page_commands.specs.Types.Step.{Main, Of}
use Rattle.page_commands.specs.Types.Sum.{Good}
use Rattle.page_commands.specs.Version.{IsVersion}
use Rattle.page_commands.specs.Versions.{VersionsEnds, VersionsNeed}
use Rattle.page_commands.specs.Worlds.{prints}
use Rattle.page_commands.specs.Worlds.Chains.{a}
use Rattle.page_commands.specs.Worlds.Parts.{of_a}
use Rattle.page_commands.specs.Worlds.Sums.{hash_a, hash_b}
use Rattle.page_commands.specs.Worlds.Versions.{HasNone, Holds, all_of, listing, m}

-- ---- paths, their major versions and pseudo-versions

pub record PathsAreExact : Type 0 where
  -- one element, no text, an empty element, and a path below gopkg.in without a suffix
  pub one : IsPath (codes "m")
  pub none : IsPath [] → ⊥
  pub slash : IsPath (codes "/a") → ⊥
  pub unnamed : IsPath (codes "gopkg.in/a") → ⊥
  pub host : IsUnderGopkg (codes "gopkg.in") → ⊥
  -- only digits and dots after `/v` are a suffix; below gopkg.in it has a number; 2^64 - 1 is the greatest number
  pub mixed : EndsInSlashVersion (codes "a/v1x") → ⊥
  pub unstable : HasMajor (codes "gopkg.in/a-unstable") (Dot 1) → ⊥
  pub greatest : HasMajor (codes "a.b/v18446744073709551615") (Slash 18446744073709551615)
  pub greatest_dot : HasMajor (codes "gopkg.in/a.v18446744073709551615") (Dot 18446744073709551615)
  pub release : FitsMajor (Dot 1) (codes "v0.0.0") → ⊥
  -- the text before the time: each form of a pseudo-version has its own, and that of the second isn't `.0.` alone
  pub second : IsFront 2 0 0 [] → ⊥
  pub first : IsFront 1 0 0 (codes "a.0.") → ⊥
  pub first_so : IsFront 1 0 1 (codes "0.") → ⊥
  pub bare : IsFront 2 0 0 (codes ".0.") → ⊥
  -- a version has no build but `+incompatible`
  pub built : IsVersion (codes "v1.0.0+meta") → ⊥

-- ---- other definitions

-- a blank line and a block with `module m` and a blank line
abbrev pub module_block : List (Line Placed)
module_block =
    Blank ∷ Open (made_word (codes "module")) None ∷ Entry (made_word (codes "m") ∷ []) None ∷ Blank ∷ Close None ∷ []

abbrev pub no_edge : Edges
no_edge s y = ⊥

pub record PartsAreExact : Type 0 where
  -- the case of both texts is ignored, and a colon is no digit
  pub case : eq_ignoring_case (codes "a") (codes "A") ≡ true
  pub colon : is_numbered_device (codes "com:") ≡ false
  -- a suffix has letters; a dependency's go version needs no `v`; a number is decimal
  pub letters : is_go_suffix (codes "1") ≡ false
  pub go : lax_go (codes "1.17") ≡ Some (1, 17)
  pub ten : number_in (codes "10") ≡ Some 10
  -- versions of before a module was one fit no suffix after a slash
  pub early : fits_major (codes "v0.0.0-1") (Slash 1) ≡ false
  pub unsplit : split_at_byte 64 (codes "a") ≡ None
  -- the elements before each, in their order; the first line has no block before it
  pub before : with_before (codes "abc") ≡ ([], 97) ∷ (codes "a", 98) ∷ (codes "ab", 99) ∷ []
  pub unopened : start.opened ≡ 0
  pub below : missing_module Strict (DeclaresGo (codes "1.17") ∷ DeclaresModule (codes "m") ∷ []) ≡ None
  -- a blank line goes only after a block that goes; no new lines change nothing, and an entry goes only after its like
  pub kept : remaining (Some Blank ∷ []) ≡ Blank ∷ []
  pub unchanged : after_first_of is_module [] None module_block ≡ module_block
  pub unlike : after_last_of is_module (codes "go") [] None (Blank ∷ []) ≡ Blank ∷ []
  -- lines of other paths in a go.sum don't count, and two fields are no line
  pub good : check_in ((codes "a.c", codes "v1.0.0", hash_b) ∷ of_a hash_a ∷ []) (codes "a.b") (codes "v1.0.0") hash_a
      ≡ Good
  pub two_fields : HasValidLines (codes "x y") → ⊥
  -- a missing file retracts no list of intervals, not even an empty one; an empty file declares no module and no go
  pub missing : AreRetractedBy absent [] → ⊥
  pub empty : IsMainOf [] (single (codes "module") (made_word (codes "m") ∷ []) ∷ []) → ⊥
  pub other_go : IsDependencyIn [] (record { declared = None; go = (1, 17); requirements = [] }) → ⊥
  -- without edges no chain goes on
  pub chain : IsChain no_edge (Of a) (Main ∷ Of a ∷ []) → ⊥

-- ---- `versions`

abbrev pub second_path : List ℕ
second_path = codes "a.b/v2"

-- the go.mod of its one version is missing, which is a fault only if it is needed
abbrev pub second_answers : List (Name × Reply)
second_answers = (list_file second_path, bytes (codes "v2.0.0")) ∷ (mod_file second_path (codes "v2.0.0"), absent) ∷ []

abbrev pub one_listed : List (Name × Reply)
one_listed = listing (codes "v1.0.0") ∷ []

pub record NeedsAreExact : Type 0 where
  -- versions fit the path, and with `--retracted` no go.mod is needed
  pub all : VersionsEnds second_path true (answer_in second_answers) [] (prints (codes "a.b/v2 v2.0.0\n"))
  -- no list of a path that no proxy has
  pub local : VersionsNeed (codes "m") false (answer_in []) (list_file (codes "m")) → ⊥
  -- the device can't fail on a file that was answered, whether a fault is reported or versions are printed
  pub faulty : HasNone ((mod_file m (codes "v1.0.0"), absent) ∷ one_listed) (mod_file m (codes "v1.0.0"))
  pub printed : HasNone (listing [] ∷ []) (list_file m)
  -- no run ends before the go.mod of the latest version is answered
  pub unanswered : (outcome : Outcome) → VersionsEnds m false (answer_in one_listed) [] outcome → ⊥
  -- a number of a pre-release begins with no zero
  pub zero : Holds (all_of (codes "v1.0.0-01") [])
