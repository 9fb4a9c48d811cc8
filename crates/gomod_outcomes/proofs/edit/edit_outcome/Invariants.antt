use Rattle.std.proofs.Common.{◌≡◌, ◌+◌, drop, map, string_bytes}
use Rattle.std.specs.List.{filter_map}
use Rattle.gm_file_edit.specs.Edits.{edit_in}
use Rattle.gomod_outcomes.specs.Edit.{lines_after_all, refusals_from}
use Rattle.gomod_outcomes.proofs.edit.edit_outcome.Given as goal

-- the remaining operations have the refusals of all of them, and give the lines that all of them give
abbrev pub invariant-loop-n : goal.invariant-loop-n
invariant-loop-n l =
    let all = map string_bytes l.operations in
    let rest = map string_bytes (drop l.n l.operations) in
    record {
      refusals : refusals_from 1 all ≡ refusals_from (l.n + 1) rest;
      lines : lines_after_all (filter_map edit_in all) l.initial.editor
          ≡ lines_after_all (filter_map edit_in rest) l.editor;
    }
