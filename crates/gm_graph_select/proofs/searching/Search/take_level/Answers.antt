use Rattle.std.proofs.Common.{◌∙◌, ap, arith, length}
use Rattle.std.specs.Ordering.{nat_cmp}
use Rattle.gm_graph_select.specs.declared.searching.Visit.{Visit}
use Rattle.gm_graph_select.proofs.Sorts.{numbers_ascend}
use Rattle.gm_graph_select.proofs.searching.Search.take_level.Goals as goal

pub returns-clause-none : goal.returns-clause-none
returns-clause-none c = ap (λ v. v.items) c.replace.ensures.after ∙ c.new.ensures.items

pub returns-clause-members : goal.returns-clause-members
returns-clause-members c = rw⁻¹ (ap (λ v. v.items) c.replace.ensures.value) c.sorted.ensures.members

pub returns-clause-fewer : goal.returns-clause-fewer
returns-clause-fewer c = omega (arith, c.sorted.ensures.fewer, ap (λ v. length v.items) c.replace.ensures.value)

pub returns-clause-ascending : goal.returns-clause-ascending
returns-clause-ascending c = numbers_ascend (λ (v : Visit). v.number) (λ (v w : Visit). nat_cmp v.before w.before)
    c.sorted.result.items c.sorted.ensures.ascending
