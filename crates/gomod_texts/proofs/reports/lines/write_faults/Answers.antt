use Rattle.std.proofs.Common.{◌∙◌, ◌++◌, [], Err, Ok, append-nil, drop, refl, suc, sym, take, take_all}
use Rattle.gomod_texts.proofs.Waiting.{around, gives_more, no_more, one_more, took_given, took_part}
use Rattle.gomod_texts.specs.Reports.{faults_text, fault_line}
use Rattle.gomod_texts.proofs.reports.lines.write_faults.Goals as goal

pub returns-in_err-give_fault : goal.returns-in_err-give_fault
returns-in_err-give_fault g c =
    let faults = c.args.faults.now in
    let at = c.faults.fault-index in
    let fault = c.in_err-give_fault.field-0.0 in
    let split = sym (append-nil (faults_text faults))
    ∙ around (λ f. fault_line f.vertex f.class) faults at c.fault-item.result [] c.faults-test.true in
    took_part _ _ [] c.give_fault.new.buffer (faults_text faults) fault c.from_residual.result refl c.from_residual.ensures.0
    (no_more _ _ _ [] c.faults.buffer c.give_fault.new.buffer (faults_text (take at faults)) _ (faults_text (drop (suc at) faults) ++ [])
    (faults_text faults) fault (Err fault) refl split c.faults.invariant
    (rw (c.path.ensures.path, c.version.ensures, c.fault-item.is) at c.in_err-give_fault.ensures))

pub faults-preserved : goal.faults-preserved
faults-preserved g c =
    let at = c.faults.fault-index in
    gives_more _ _ _ [] c.faults.buffer c.give_fault.new.buffer _ _ _ (Ok tt)
    (one_more (λ f. fault_line f.vertex f.class) c.args.faults.now at c.fault-item.result c.faults-test.true) c.faults.invariant
    (rw (c.path.ensures.path, c.version.ensures, c.fault-item.is) at c.in_ok-give_fault.ensures)

pub returns : goal.returns
returns g c =
    took_given _ _ _ [] c.faults.buffer _ tt c.end.result refl
    (rw (take_all c.faults.fault-index c.args.faults.now c.faults-test.false) at c.faults.invariant) c.end.ensures.ended
