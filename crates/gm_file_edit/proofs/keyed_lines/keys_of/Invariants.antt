use Rattle.std.specs.Option.{option_map}
use Rattle.gm_syntax.specs.LineViews.{line_views}
use Rattle.gm_file_edit.proofs.KeyedChanges.{AreKeyedTo}
use Rattle.gm_file_edit.proofs.keyed_lines.keys_of.Given as goal

abbrev pub invariant-loop-line : goal.invariant-loop-line
invariant-loop-line l = AreKeyedTo (line_views l.lines) l.line-index (option_map (λ t. t.now) l.block) l.keys.items
