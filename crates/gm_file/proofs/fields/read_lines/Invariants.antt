use Rattle.std.proofs.Common.{◌≡◌, None, take}
use Rattle.std.specs.Option.{option_map}
use Rattle.gm_syntax.specs.LineViews.{line_views, plain_lines}
use Rattle.gm_file.specs.Private.Holding.{AreReadTo}
use Rattle.gm_file.specs.Private.Reading.{KeepsNames}
use Rattle.gm_file.specs.Directives.{Strict}
use Rattle.gm_file.proofs.fields.read_lines.Given as goal

abbrev pub invariant-loop-n : goal.invariant-loop-n
invariant-loop-n l = record {
  kept : KeepsNames l.initial.names l.names;
  own : l.fields.requirements.before ≡ None;
  read : AreReadTo Strict (take l.n (plain_lines (line_views l.lines)))
      (option_map (λ t. t.now.word) l.block) l.fields;
}
