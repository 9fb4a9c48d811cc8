-- A copy from crates/gm_store/specs/Listed.antt, which tools/check/headline.py writes.
use Rattle.std.specs.Prelude.{◌↔◌, ℕ, List, map, Contains}
use Rattle.std.specs.List.Sorted.{IsStrictlySortedBy}
use Rattle.page_commands.specs.Fit.{Fits}
use Rattle.page_commands.specs.Pseudo.{IsPseudo}
use Rattle.page_commands.specs.Version.{IsVersion, version_cmp}
use Rattle.page_commands.specs.GmNameLines.{first_word, lines}

-- a pseudo-version, of any of the three forms
abbrev pub IsPseudoVersion : List ℕ → Type 0
IsPseudoVersion version = (form : ℕ) × (time revision : List ℕ) × IsPseudo version form time revision

-- a canonical version that fits the path and isn't a pseudo-version
pub record IsListable (path version : List ℕ) : Type 0 where
  pub canonical : IsVersion version
  pub fit : Fits path version
  pub no_pseudo : ¬ (IsPseudoVersion version)

-- the first word of some line is this version, and it may be listed
pub record IsListed (path text version : List ℕ) : Type 0 where
  pub named : Contains (map first_word (lines text)) version
  pub listable : IsListable path version

-- the listed versions and no others, without duplicates, in ascending order
pub record AreListed (path text : List ℕ) (versions : List (List ℕ)) : Type 0 where
  pub ascending : IsStrictlySortedBy version_cmp versions
  pub members : (version : List ℕ) → Contains versions version ↔ IsListed path text version
