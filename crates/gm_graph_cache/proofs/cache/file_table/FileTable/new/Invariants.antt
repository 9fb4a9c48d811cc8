use Rattle.std.proofs.Common.{◌≡◌, take}
use Rattle.std.specs.BTreeMap.{values}
use Rattle.std.specs.List.{All}
use Rattle.gm_graph_cache.proofs.Replacements.{HasLine}
use Rattle.gm_name_table.specs.OptionalPlaces.{no_place}
use Rattle.gm_graph_cache.proofs.cache.file_table.FileTable.new.Given as goal

abbrev pub invariant-loop-replace : goal.invariant-loop-replace
invariant-loop-replace l = record {
  nowhere : All (λ place. place ≡ no_place) (values l.replacing);
  named : All (HasLine l.replacing.entries) (take l.replace-index l.replace-items);
}
