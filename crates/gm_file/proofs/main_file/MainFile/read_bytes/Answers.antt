use Rattle.std.proofs.lemmas.Result.{err_from_is_err_and}
use Rattle.gm_file.specs.Directives.{Strict}
use Rattle.gm_file.proofs.DepReading.{misread-file, misread-text}
use Rattle.gm_file.proofs.main_file.MainFile.read_bytes.Goals as goal

pub returns-in_err-doc-clause-fault : goal.returns-in_err-doc-clause-fault
returns-in_err-doc-clause-fault c =
    let p = err_from_is_err_and c.from_residual.result c.from_residual.ensures.1 in
    rw (p.1, p.2) (misread-text Strict c.args.bytes.now c.in_err-doc.field-0.0 c.in_err-doc.ensures.fault)

pub returns-in_err-read-clause-fault : goal.returns-in_err-read-clause-fault
returns-in_err-read-clause-fault c =
    let p = err_from_is_err_and c.from_residual-in_err-read.result c.from_residual-in_err-read.ensures.1 in
    rw (p.1, p.2) (misread-file Strict c.args.bytes.now c.in_ok-doc.doc c.in_err-read.field-0.0 c.in_ok-doc.ensures.read c.in_err-read.ensures.fault)
