use Rattle.std.proofs.Common.{◌∙◌}
use Rattle.gm_graph_cache.proofs.cache.file_table.FileTable.note.Goals as goal

pub returns-clause-notes : goal.returns-clause-notes
returns-clause-notes c = λ number. rw (c.reach.ensures.noted number) at (c.set.ensures.notes number)

pub returns-clause-others : goal.returns-clause-others
returns-clause-others c =
    let reached = c.reach.ensures.others in
    let others = c.set.ensures.others in
    record {
      files = others.files ∙ reached.files;
      names = others.names ∙ reached.names;
      replacing = others.replacing ∙ reached.replacing;
    }

pub returns-clause-within : goal.returns-clause-within
returns-clause-within c = λ count above below. rw c.set.ensures.count (c.reach.ensures.within count above below)
