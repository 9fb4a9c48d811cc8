use Rattle.std.proofs.Common.{ℕ, List, [], ◌∷◌, ◌++◌, ap, subst, sym, ◌∙◌}
use Rattle.gm_syntax.specs.Parsed.{IsFaultOrNoMemory}
use Rattle.gm_file.specs.declared.misreading.BytesFault.{BytesFault}
use Rattle.gm_file.specs.BytesFaults.{fault_by_file}
use Rattle.gm_file.specs.Directives.{Lax}
use Rattle.gm_file.specs.Misreading.{IsBytesFault}
use Rattle.gm_file.specs.Private.Reading.{file_fault_at}
use Rattle.gm_file.proofs.DepReading.{misread-line, misread-text}
use Rattle.gm_file.proofs.dep_lines.fault_of_all.Goals as goal

pub returns-in-Ok : goal.returns-in-Ok
returns-in-Ok c = λ lines here so told.
    let fault = fault_by_file (file_fault_at c.lines_read-number.result c.args.fault) in
    let misread = misread-line c.skip_rest.new.self lines here c.lines_read-number.result c.args.fault
    (c.lines_read-number.ensures (lines ++ here ∷ []) so) told
    (c.in-Ok.ensures.rest (lines ++ here ∷ []) so) in
    subst (λ (f : BytesFault). IsBytesFault Lax c.args.reader.now.source f) (sym (c.from.ensures ∙ ap fault_by_file c.at_line.ensures))
    (subst (λ (source : List ℕ). IsBytesFault Lax source fault) c.in-Ok.ensures.source misread)

pub returns-in-Err : goal.returns-in-Err
returns-in-Err c = λ lines here so told.
    let parsed = subst (λ (source : List ℕ). IsFaultOrNoMemory source c.in-Err.syntax) c.in-Err.ensures.source
    (c.in-Err.ensures.rest (lines ++ here ∷ []) so).2 in
    subst (λ (f : BytesFault). IsBytesFault Lax c.args.reader.now.source f) (sym c.from-in-Err.ensures)
    (misread-text Lax c.args.reader.now.source c.in-Err.syntax parsed)
