use Rattle.std.proofs.Common.{◌-◌, ◌≡◌, length}
use Rattle.gm_store_parts.specs.Asked.{name_of}
use Rattle.gm_store.specs.Counted.{counts_in, inner_folders}
use Rattle.gm_store.proofs.Walks.{HasPassed}
use Rattle.gm_store.proofs.fallback.walk.walk.Given as goal

-- the request fell back from the folders so far
abbrev pub invariant-turns : goal.invariant-turns
invariant-turns g l = (inner_folders l.folders ≡ inner_folders l.initial.folders)
    × HasPassed (λ k seen. g.F.FolderList.may_find (inner_folders l.initial.folders) k (name_of l.name) seen) l.marks
    l.at (counts_in l.initial.folders) (counts_in l.folders)

abbrev pub decreases-turns : goal.decreases-turns
decreases-turns g l = length l.marks - l.at
