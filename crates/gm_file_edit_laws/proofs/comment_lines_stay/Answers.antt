use Rattle.gm_file_edit_laws.proofs.Comments.{pass-comments}
use Rattle.gm_file_edit_laws.proofs.comment_lines_stay.Goals as goal

pub returns : goal.returns
returns c = λ edit lines. pass-comments edit lines
