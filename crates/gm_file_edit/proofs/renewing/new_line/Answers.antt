use Rattle.std.proofs.Common.{◌∙◌, None, ap, take}
use Rattle.gm_file.specs.Directives.{block_after_lines}
use Rattle.gm_file_edit.specs.declared.keys.Key.{Key}
use Rattle.gm_file_edit.proofs.renewing.new_line.Goals as goal

pub returns : goal.returns
returns c =
    rw (c.in_ok-line.ensures ∙ c.line.ensures.line)
    at (c.in_ok-rewrite.ensures (block_after_lines None (take c.args.at c.args.lines.now)) (ap (λ (k : Key). k.inside) c.key.ensures))
