use Rattle.std.proofs.Common.{◌≡◌, map, take, drop, option_map}
use Rattle.std.specs.List.Sorted.{IsStrictlySortedBy}
use Rattle.gm_version.specs.Version.{version_cmp}
use Rattle.gm_file.specs.Views.{interval_views}
use Rattle.gm_file.specs.Shown.{shown_of}
use Rattle.gm_file.specs.Private.Swept.{ends_view}
use Rattle.gm_file.proofs.Sweeping.{ReadyFor}
use Rattle.gm_file.proofs.shown.shown_versions.Given as goal

-- the versions so far are filtered, and the sweep is valid for the others
abbrev pub invariant-loop-version : goal.invariant-loop-version
invariant-loop-version l = record {
  sifted : map (λ version. version.now) l.shown.items ≡ shown_of (interval_views l.intervals) (take l.version-index l.versions);
  ready : ReadyFor (map ends_view l.ends.items) (drop l.version-index l.versions) l.sweep.next (option_map (λ reach. reach.now) l.sweep.reach);
  ascending : IsStrictlySortedBy version_cmp (drop l.version-index l.versions);
}
