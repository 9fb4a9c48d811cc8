use Rattle.std.proofs.Common.{◌∙◌, ◌++◌, [], Err, Ok, append-nil, drop, refl, suc, sym, take, take_all}
use Rattle.gomod_texts.proofs.Waiting.{around, gives_more, no_more, one_more, took_given, took_part}
use Rattle.gomod_texts.specs.ChainQuery.{chain_text, step_line}
use Rattle.gomod_texts.proofs.steps.write_steps.Goals as goal

pub returns-in_err-give_step : goal.returns-in_err-give_step
returns-in_err-give_step g c =
    let main = c.args.main.now in
    let steps = c.args.steps.now in
    let at = c.steps.step-index in
    let fault = c.in_err-give_step.field-0.0 in
    let split = sym (append-nil (chain_text main steps)) ∙ around (step_line main) steps at c.step-item.result [] c.steps-test.true in
    took_part _ _ [] c.give_step.new.buffer (chain_text main steps) fault c.from_residual.result refl c.from_residual.ensures.0
    (no_more _ _ _ [] c.steps.buffer c.give_step.new.buffer (chain_text main (take at steps)) _ (chain_text main (drop (suc at) steps) ++ [])
    (chain_text main steps) fault (Err fault) refl split c.steps.invariant (rw c.step-item.is at c.in_err-give_step.ensures))

pub steps-preserved : goal.steps-preserved
steps-preserved g c =
    gives_more _ _ _ [] c.steps.buffer c.give_step.new.buffer _ _ _ (Ok tt)
    (one_more (step_line c.args.main.now) c.args.steps.now c.steps.step-index c.step-item.result c.steps-test.true) c.steps.invariant
    (rw c.step-item.is at c.in_ok-give_step.ensures)

pub returns : goal.returns
returns g c =
    took_given _ _ _ [] c.steps.buffer _ tt c.end.result refl
    (rw (take_all c.steps.step-index c.args.steps.now c.steps-test.false) at c.steps.invariant) c.end.ensures.ended
