use Rattle.gm_store_parts.proofs.Shown.{look_shown}
use Rattle.gm_store_parts.proofs.lookup_result.opened_result.Goals as goal

pub returns-in-Ok-clause-shown : goal.returns-in-Ok-clause-shown
returns-in-Ok-clause-shown g c =
    rw c.in-Ok.is (look_shown (g.F.ByteReader.remaining c.in-Ok.file) (g.F.ByteReader.may_fail c.in-Ok.file)
    c.read_by_pieces.result c.read_result.result c.read_by_pieces.ensures.bytes c.read_by_pieces.ensures.fault
    c.read_result.ensures.read)
