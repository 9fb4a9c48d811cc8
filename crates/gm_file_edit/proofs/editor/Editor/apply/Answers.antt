use Rattle.std.proofs.Common.{◌≡◌, List, None, true, sym, subst, ◌∙◌}
use Rattle.gm_syntax_words.specs.Tokens.{Placed}
use Rattle.gm_syntax.specs.Document.{IsDocument, Line}
use Rattle.gm_syntax.specs.LineViews.{plain_lines}
use Rattle.gm_file.specs.Directives.{Strict}
use Rattle.gm_file.specs.Faults.{fault_of}
use Rattle.gm_file_edit.specs.Kinds.{is_fit}
use Rattle.gm_file_edit.specs.Sound.{edit_of}
use Rattle.gm_file_edit.proofs.EditedSound.{edited-document}
use Rattle.gm_file_edit.proofs.editor.Editor.apply.Goals as goal

pub invariant_of-self-2 : goal.invariant_of-self-2
invariant_of-self-2 c =
    let fit : is_fit (edit_of c.op.inside.change) ≡ true = sym c.is_fit.ensures ∙ c.if-not-is_fit.false in
    subst (λ (ls : List (Line Placed)). IsDocument (plain_lines ls) × (fault_of Strict (plain_lines ls) ≡ None)) (sym c.in_ok-edit_lines.ensures.ok)
    (edited-document (edit_of c.op.inside.change) _ c.op.invariant fit c.self.invariant.0 c.self.invariant.1)
