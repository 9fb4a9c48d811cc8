-- What single definitions say: of major versions and pseudo-versions, bytes, kinds, places, a dependency's file, and
-- lines of a go.sum.
use Rattle.std.specs.Prelude.{◌≡◌, ◌+◌, ◌++◌, ℕ, zero, suc, List, [], ◌∷◌, filter, map, not, Option, Some, None, Result, Ok, Err, codes}
use Rattle.page_commands.specs.Asked.{folder_file, mod_file}
use Rattle.page_commands.specs.Bare.{can_be_bare, opens_comment}
use Rattle.page_commands.specs.Bytes.{is_bad, is_blank, is_bracket_or_comma, is_quote, is_word_byte}
use Rattle.page_commands.specs.Document.{Line}
use Rattle.page_commands.specs.Faults.{first_of, rank}
use Rattle.page_commands.specs.Fields.{Dependency, dependency_of}
use Rattle.page_commands.specs.Files.{lines_in}
use Rattle.page_commands.specs.Reading.{sum_fault}
use Rattle.page_commands.specs.Fit.{FitsMajor}
use Rattle.page_commands.specs.Misreading.{misreading_word}
use Rattle.page_commands.specs.Number.{starts_as_no_number}
use Rattle.page_commands.specs.Path.{EndsInDotNumber, EndsInNumber, EndsInSlashVersion, HasMajor}
use Rattle.page_commands.specs.Pseudo.{IsPseudo}
use Rattle.page_commands.specs.Reports.{syntax_place}
use Rattle.page_commands.specs.Sums.{Sums, check_in}
use Rattle.page_commands.specs.Types.Class.{Class, NoSum, SumDiffers}
use Rattle.page_commands.specs.Types.DirectiveKind.{BadGo, BadPath, BadVersion, ConflictingReplace, Misfit, NoModule, Repeated, UnknownVerb, WrongArguments}
use Rattle.page_commands.specs.Types.Kind.{Bare, Mark, Text}
use Rattle.page_commands.specs.Types.Major.{Dot, NoSuffix, Slash}
use Rattle.page_commands.specs.Types.Misreading as misreading
use Rattle.page_commands.specs.Types.Punct.{LeftParen, RightParen}
use Rattle.page_commands.specs.Types.Sum.{Differs, Good, Unlisted}
use Rattle.page_commands.specs.Types.SyntaxFault as syntax
use Rattle.page_commands.specs.Types.SyntaxFault.{SyntaxFault}
use Rattle.page_commands.specs.Version.{parts_in}
use Rattle.page_commands.specs.Words.{Word, mark_text, is_bare}
use Rattle.page_commands.specs.Worlds.Sums.{hash_a, hash_b}

abbrev pub stamped : List ℕ
stamped = codes "20200101000000"

-- The major version of a path, and whether a version fits it. A major number is below 2^64.
pub record MajorsAreTold : Type 0 where
  pub slash : HasMajor (codes "a.b/v3") (Slash 3)
  pub dot : HasMajor (codes "gopkg.in/a.v0") (Dot 0)
  pub unstable : HasMajor (codes "gopkg.in/a.v3-unstable") (Dot 3)
  pub none : HasMajor (codes "a.b/vx") NoSuffix
  pub ends : EndsInSlashVersion (codes "a/v1")
  pub ends_so : EndsInSlashVersion (codes "a/v1.2")
  pub fit_slash : FitsMajor (Slash 2) (codes "v2.1.0")
  pub fit_dot : FitsMajor (Dot 2) (codes "v2.0.0")
  pub early : FitsMajor (Dot 1) (codes "v0.0.0-20200101000000-a")
  -- each path below gopkg.in has the one suffix, and no other path has; elsewhere it is 2 at least
  pub outside : HasMajor (codes "a/b.v1") (Dot 1) → ⊥
  pub below : HasMajor (codes "gopkg.in/a") NoSuffix → ⊥
  pub below_slash : HasMajor (codes "gopkg.in/a/v2") (Slash 2) → ⊥
  pub first : HasMajor (codes "a/v1") (Slash 1) → ⊥
  pub named : HasMajor (codes "a/v1") NoSuffix → ⊥
  pub large : HasMajor (codes "a/v18446744073709551616") (Slash 18446744073709551616) → ⊥
  pub large_dot : HasMajor (codes "gopkg.in/a.v18446744073709551616") (Dot 18446744073709551616) → ⊥
  pub zero : EndsInDotNumber (codes "gopkg.in/a.v0-unstable") 0 → ⊥
  pub bare : EndsInSlashVersion (codes "a/v") → ⊥
  pub unmarked : EndsInSlashVersion (codes "a/2") → ⊥
  pub marked : EndsInNumber (codes "a/x2") (codes "/v") 2 → ⊥
  -- another major number, a build, and a version of before a module was one
  pub other : FitsMajor (Slash 2) (codes "v1.0.0") → ⊥
  pub early_slash : FitsMajor (Slash 1) (codes "v0.0.0-1") → ⊥
  pub build : FitsMajor (Slash 2) (codes "v2.0.0+incompatible") → ⊥
  pub build_dot : FitsMajor (Dot 2) (codes "v2.0.0+incompatible") → ⊥
  pub later : FitsMajor (Dot 2) (codes "v0.0.0-1") → ⊥
  pub minor : FitsMajor (Dot 1) (codes "v0.1.0") → ⊥
  -- the parts of what is no version
  pub unread : parts_in (codes "x") ≡ (0, 0, 0, [], [])
  -- the three forms of pseudo-versions
  pub alone : IsPseudo (codes "v1.0.0-20200101000000-a") 1 stamped (codes "a")
  pub before : IsPseudo (codes "v1.0.0-a.0.20200101000000-a") 2 stamped (codes "a")
  pub after : IsPseudo (codes "v1.0.1-0.20200101000000-a") 3 stamped (codes "a")

-- so many numbers from one on
abbrev pub counted : ℕ → ℕ → List ℕ
counted from zero = []
counted from (suc more) = from ∷ counted (from + 1) more

abbrev pub ascii : List ℕ
ascii = counted 0 128

abbrev pub said_by : Result (List (Line Word)) SyntaxFault → Option Dependency
said_by (Ok lines) = Some (dependency_of lines)
said_by (Err fault) = None

-- a line of a go.sum
abbrev pub of_a : List ℕ → List ℕ × List ℕ × List ℕ
of_a hash = (codes "a.b", codes "v1.0.0", hash)

-- go.sums without a line, with one of another path, of another version, with the hash, another one, and both
abbrev pub tables : List Sums
tables =
    [] ∷ ((codes "a.c", codes "v1.0.0", hash_a) ∷ []) ∷ ((codes "a.b", codes "v1.0.1", hash_a) ∷ [])
    ∷ (of_a hash_a ∷ []) ∷ (of_a hash_b ∷ []) ∷ (of_a hash_a ∷ of_a hash_b ∷ []) ∷ (of_a hash_b ∷ of_a hash_a ∷ []) ∷ []

-- the fault of a version's file, by a go.sum with one line
abbrev pub fault_in : List ℕ → List ℕ → Option Class
fault_in version content = sum_fault (Some (of_a hash_a ∷ [])) (mod_file (codes "a.b") version) content

pub record PartsAreTold : Type 0 where
  -- ASCII: blanks, brackets and commas, quotes, what stands nowhere, and what no bare word has
  pub blank : filter is_blank ascii ≡ 9 ∷ 13 ∷ 32 ∷ []
  pub bracket : filter is_bracket_or_comma ascii ≡ 40 ∷ 41 ∷ 44 ∷ 91 ∷ 93 ∷ []
  pub quote : filter is_quote ascii ≡ 34 ∷ 96 ∷ []
  pub bad : filter is_bad ascii ≡ counted 0 9 ++ 10 ∷ 11 ∷ 12 ∷ counted 14 18 ++ 123 ∷ 125 ∷ 127 ∷ []
  pub ends : filter (λ b. not (is_word_byte b)) ascii
      ≡ counted 0 33 ++ 34 ∷ 40 ∷ 41 ∷ 44 ∷ 91 ∷ 93 ∷ 96 ∷ 123 ∷ 125 ∷ 127 ∷ []
  -- what may be a bare word
  pub bare : filter can_be_bare ([] ∷ codes "a//b" ∷ codes "a/*b" ∷ codes "/" ∷ codes "a/" ∷ codes "=>a" ∷ codes "=a"
      ∷ codes ">a" ∷ codes "a=>b" ∷ codes "a>b" ∷ [])
      ≡ codes "/" ∷ codes "a/" ∷ codes "=a" ∷ codes ">a" ∷ codes "a=>b" ∷ codes "a>b" ∷ []
  pub comments : filter opens_comment ([] ∷ codes "/" ∷ codes "//" ∷ codes "/*" ∷ codes "/a" ∷ codes "a//" ∷ [])
      ≡ codes "//" ∷ codes "/*" ∷ []
  pub bare_kind : filter is_bare (Bare ∷ Text ∷ Mark ∷ []) ≡ Bare ∷ []
  -- a number has no sign, and no zero in front
  pub numbers : filter starts_as_no_number ([] ∷ codes "+1" ∷ codes "01" ∷ codes "0" ∷ codes "1" ∷ codes "1+" ∷ [])
      ≡ [] ∷ codes "+1" ∷ codes "01" ∷ []
  pub marks : map mark_text (LeftParen ∷ RightParen ∷ []) ≡ codes "(" ∷ codes ")" ∷ []
  -- a file that is too long has its fault in line 0
  pub place : syntax_place syntax.TooMany ≡ Some (0, misreading.TooMany)
  pub word : misreading_word misreading.TooMany ≡ codes "TooMany"
  -- the order of kinds, and of faults
  pub ranks : map rank (UnknownVerb ∷ WrongArguments ∷ BadPath ∷ BadVersion ∷ Misfit ∷ Repeated ∷ NoModule
      ∷ ConflictingReplace ∷ BadGo ∷ []) ≡ counted 0 9
  pub first : first_of ((2, BadPath) ∷ (1, BadGo) ∷ (1, Misfit) ∷ []) ≡ Some (1, Misfit)
  -- what a dependency's file says
  pub said : said_by (lines_in (codes "module a.b\ngo v1.21.x\nrequire c.d v1.0.0\n")) ≡ Some (record {
    declared = Some (codes "a.b");
    go = (1, 21);
    requirements = (codes "c.d", codes "v1.0.0") ∷ [];
  })
  pub nothing : said_by (lines_in []) ≡ Some (record { declared = None; go = (1, 16); requirements = [] })
  -- what a go.sum says of a hash, and of a file
  pub sums : map (λ table. check_in table (codes "a.b") (codes "v1.0.0") hash_a) tables
      ≡ Unlisted ∷ Unlisted ∷ Unlisted ∷ Good ∷ Differs ∷ Differs ∷ Differs ∷ []
  pub good : fault_in (codes "v1.0.0") (codes "module example.com/a\n") ≡ None
  pub other : fault_in (codes "v1.0.0") [] ≡ Some SumDiffers
  pub unlisted : fault_in (codes "v1.0.1") [] ≡ Some NoSum
  pub folder : sum_fault (Some []) (folder_file (codes "a.b")) [] ≡ None
