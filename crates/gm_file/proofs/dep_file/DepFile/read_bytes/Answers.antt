use Rattle.gm_file.proofs.DepReading.{dep-whole}
use Rattle.gm_file.proofs.dep_file.DepFile.read_bytes.Goals as goal

pub returns-in-Ok-clause-ok : goal.returns-in-Ok-clause-ok
returns-in-Ok-clause-ok c =
    dep-whole c.args.bytes.now c.read_all-read.new.said c.of_fields-file.result.dependency c.in-Ok.ensures.ok
    c.of_fields-file.ensures.dependency
