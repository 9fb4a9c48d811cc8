use Rattle.std.proofs.Common.{ℕ, List, subst, ◌∙◌, arith}
use Rattle.gm_file.specs.Directives.{Lax}
use Rattle.gm_file.specs.Misreading.{IsBytesFault}
use Rattle.gm_file.proofs.Keeping.{keeps_both}
use Rattle.gm_file.proofs.SimpleLines.{sofar-more}
use Rattle.gm_file.proofs.dep_lines.read_simple_lines.Goals as goal

pub loop-line-preserved : goal.loop-line-preserved
loop-line-preserved c =
    let so = c.loop-line.invariant.read in
    let left = c.next_simple.new.self in
    let simple = c.in-Some.ensures.read so.0 so.1 in
    record {
      kept = keeps_both c.loop-line.invariant.kept c.read_simple.ensures.kept;
      source = c.in-Some.ensures.source ∙ c.loop-line.invariant.source;
      no_longer = omega (arith, c.in-Some.ensures.shorter, c.loop-line.invariant.no_longer);
      block = c.in_default-read_simple.ensures.block so.0 left simple;
      before = c.read_simple.ensures.before ∙ c.loop-line.invariant.before;
      found = c.in_default-read_simple.ensures.found;
      read = sofar-more left so.0 c.read_simple.new.self (c.in_default-read_simple.ensures.read so.0 left so.2 simple);
    }

pub returns-in-Err-clause-kept : goal.returns-in-Err-clause-kept
returns-in-Err-clause-kept c = keeps_both c.loop-line.invariant.kept c.read_simple.ensures.kept

pub returns-in-Err-clause-fault : goal.returns-in-Err-clause-fault
returns-in-Err-clause-fault c =
    let so = c.loop-line.invariant.read in
    let said = c.in-Err.ensures.read so.0 c.next_simple.new.self so.2 (c.in-Some.ensures.read so.0 so.1) in
    subst (λ (s : List ℕ). IsBytesFault Lax s c.fault_of_all.result)
    (c.in-Some.ensures.source ∙ c.loop-line.invariant.source) (c.fault_of_all.ensures so.0 said.0 said.1 said.2)
