use Rattle.gm_syntax.proofs.Parts.{document_parts, parts_document}
use Rattle.gm_syntax.proofs.laws.documents_consist_of_parts.Goals as goal

pub returns : goal.returns
returns c = λ lines. (document_parts lines, parts_document lines)
