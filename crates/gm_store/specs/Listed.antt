-- The versions that the list file of a module names: Go Modules Reference, GOPROXY protocol,
-- `$base/$module/@v/list`, which gives the known versions "one per line" and "should not include pseudo-versions".
use Rattle.std.specs.Prelude.{◌↔◌, ℕ, List, map, Contains}
use Rattle.std.specs.List.Sorted.{IsStrictlySortedBy}
use Rattle.gm_name.specs.Fit.{Fits}
use Rattle.gm_name.specs.Pseudo.{IsPseudo}
use Rattle.gm_version.specs.Version.{IsVersion, version_cmp}
use Rattle.gm_name.specs.Lines.{first_word, lines}

-- a pseudo-version, of any of the three forms
abbrev pub IsPseudoVersion : List ℕ → Type 0
IsPseudoVersion version = (form : ℕ) × (time revision : List ℕ) × IsPseudo version form time revision

-- a canonical version that fits the path and isn't a pseudo-version
pub record IsListable (path version : List ℕ) : Type 0 where
  pub canonical : IsVersion version
  pub fit : Fits path version
  pub no_pseudo : ¬ (IsPseudoVersion version)

-- the first word of some line is this version, and it may be listed
pub record IsListed (path text version : List ℕ) : Type 0 where
  pub named : Contains (map first_word (lines text)) version
  pub listable : IsListable path version

-- the listed versions and no others, without duplicates, in ascending order
pub record AreListed (path text : List ℕ) (versions : List (List ℕ)) : Type 0 where
  pub ascending : IsStrictlySortedBy version_cmp versions
  pub members : (version : List ℕ) → Contains versions version ↔ IsListed path text version
