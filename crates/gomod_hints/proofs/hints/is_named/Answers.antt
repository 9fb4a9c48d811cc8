use Rattle.std.proofs.Common.{◌≡◌, ◌⊎◌, arith, inl, inr, length, rules, sym, true}
use Rattle.std.proofs.lemmas.Iterator.Consumers.{YieldsList-turn}
use Rattle.std.proofs.lemmas.Iterator.Splits.{YieldsList-from_str_split}
use Rattle.gomod_hints.specs.Hints.{name_before}
use Rattle.gomod_hints.proofs.hints.is_named.Goals.{then-takes_operations-via-then-takes_operations, then-takes_operations-via-else-takes_operations+then-eq}
use Rattle.gomod_hints.proofs.hints.is_named.Goals as goal

pub returns-then-is : goal.returns-then-is
returns-then-is c = λ _.
    let name = c.in-Some.name in
    let start = c.into_iter-name-iterator.ensures.into_iter_gives in
    let names = YieldsList-from_str_split {s = c.into_iter-name-iterator.result} 32 c.args.names.now (omega arith)
    (rw start c.split-name-items.ensures.text) (rw start c.split-name-items.ensures.has_more) (rw start c.split-name-items.ensures.pattern) in
    let turn = YieldsList-turn names c.loop-name.yielded _ c.loop-name.yielded_by _ _ name c.in-Some.is c.next.ensures.steps in
    let counts : (c.args.takes_operations ≡ true) ⊎ (name_before name.now ≡ name.now) = elim c.then-takes_operations.branch [
      | then-takes_operations-via-then-takes_operations w ↦ inl (search rules)
      | then-takes_operations-via-else-takes_operations+then-eq w ↦ inr (search rules)
    ] in
    (name.now, (length c.loop-name.yielded, turn.0, sym turn.1), counts, rw c.name_before-plain.ensures at c.in_ok-is.ensures c.if-is.true)
