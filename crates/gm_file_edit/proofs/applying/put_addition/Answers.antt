use Rattle.std.proofs.Common.{◌∙◌, refl}
use Rattle.gm_file.specs.Views.{interval_view}
use Rattle.gm_file_edit.specs.Edits.{Add, Exclude, Retract}
use Rattle.gm_file_edit.proofs.NewKeys.{key-about, key-of-addition}
use Rattle.gm_file_edit.proofs.applying.put_addition.Goals as goal

pub add_pair-requires-clause-about : goal.add_pair-requires-clause-about
add_pair-requires-clause-about c =
    key-about (Add (Exclude (c.in-Exclude.path, c.in-Exclude.version))) _ (c.key_with-key.ensures ∙ key-of-addition c.addition_target.ensures c.in-Exclude.is) refl
    (rw c.in-Exclude.is at c.requires.written)

pub add-requires-clause-about : goal.add-requires-clause-about
add-requires-clause-about c =
    rw c.in_ok-words-in-Retract.ensures
    (key-about (Add (Retract (interval_view c.in-Retract.ends))) _ (c.key_with-key.ensures ∙ key-of-addition c.addition_target.ensures c.in-Retract.is) refl
    (rw c.in-Retract.is at c.requires.written))
