use Rattle.std.proofs.Common.{◌∙◌, [], Some, ap, cond, get_or, take}
use Rattle.std.specs.Ordering.{is_eq}
use Rattle.std.specs.BTreeMap as tree
use Rattle.std.proofs.lemmas.List.{get_or_default, get_or_read, take_all, take_more}
use Rattle.gm_name.specs.ModuleVersion.{ModuleVersion, module_at, pair_cmp}
use Rattle.gm_graph_files.specs.declared.class.Class.TheVariants.{Missing}
use Rattle.gm_graph.specs.declared.findings.NumberedFault.{NumberedFault}
use Rattle.gm_graph.specs.Private.Findings.{numbered}
use Rattle.gm_graph.proofs.Mapped.{each_more, only_more}
use Rattle.gm_graph.proofs.gathering.faults_by_vertex.Goals as goal

pub loop-one-preserved : goal.loop-one-preserved
loop-one-preserved c =
    let modules = c.args.modules.now in
    let faults = c.args.faults.now in
    let k = c.loop-one.one-index in
    let within = c.loop-one-test.true in
    let one = get_or faults k (numbered 0 Missing) in
    let old = c.loop-one.map in
    let v = c.in_ok-copy.field-0 in
    let at = c.in_ok-copy.ensures
    ∙ get_or_read modules _ c.index-modules-one.result (c.requires k _ within) c.index-modules-one.is ([], [])
    ∙ ap (λ (f : NumberedFault). module_at modules f.number) (get_or_default faults k _ (numbered 0 Missing) within) in
    let puts = λ (q : ModuleVersion). c.in_ok-insert.ensures.updates.0 q
    ∙ ap (λ (f : NumberedFault). cond (is_eq (pair_cmp v q)) (Some f.class) (tree.get pair_cmp old q))
    (get_or_default faults k _ (numbered 0 Missing) within) in
    let more = take_more faults k (numbered 0 Missing) within in
    record {
      only = only_more modules old c.insert.new.self v one at puts (take k faults) _ more c.loop-one.invariant.only;
      each = each_more modules old c.insert.new.self v one at puts (take k faults) _ more c.loop-one.invariant.each;
    }

pub returns-clause-only : goal.returns-clause-only
returns-clause-only c = rw (take_all c.loop-one.one-index c.args.faults.now c.loop-one-test.false) at c.loop-one.invariant.only

pub returns-clause-each : goal.returns-clause-each
returns-clause-each c = rw (take_all c.loop-one.one-index c.args.faults.now c.loop-one-test.false) at c.loop-one.invariant.each
