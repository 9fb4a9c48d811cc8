use Rattle.std.proofs.Common.{rules, ◌≡◌, ◌==◌, ◌+◌, false, not, ℕ, List, sym, ◌∙◌, arith, take}
use Rattle.std.proofs.lemmas.List.{length-drop, take_rest}
use Rattle.std.specs.Ordering.{ordering_index}
use Rattle.std.specs.declared.cmp.Ordering.{Ordering}
use Rattle.std.specs.declared.cmp.Ordering.TheVariants.{Equal}
use Rattle.semver.specs.Order.{pre_part_cmp, part_length}
use Rattle.semver.proofs.Parts.{equal_from_index, other_from_index, parts-both_end, parts-differ, parts-left_end, parts-right_end, parts-step}
use Rattle.semver.specs.OrderLaws.{pre_parts-self, same_text}
use Rattle.gm_version.proofs.pre_release.compare_by_identifiers.Goals as goal

-- the first identifiers of two texts tie
tied : (xs ys : List ℕ) (m n : ℕ) (r : Ordering) → m ≡ part_length xs → n ≡ part_length ys → r ≡ pre_part_cmp (take m xs) (take n ys)
    → false ≡ not (ordering_index r == 1) → pre_part_cmp (take (part_length xs) xs) (take (part_length ys) ys) ≡ Equal
tied xs ys m n r ours theirs is even = rw (← ours, ← theirs) (sym is ∙ equal_from_index r even)

pub returns-then-eq : goal.returns-then-eq
returns-then-eq c =
    let e = same_text c.args.one.now c.args.other.now (search rules) in
    sym (rw (← e) (pre_parts-self c.args.one.now))

pub returns-then-ne : goal.returns-then-ne
returns-then-ne c =
    let is = rw (c.identifier_len-our_len.ensures.value, c.identifier_len-their_len.ensures.value) at c.compare_identifiers-ordering.ensures in
    is ∙ sym (c.identifiers.invariant.same ∙ parts-differ pre_part_cmp c.identifiers.ours.now c.identifiers.theirs.now
    (other_from_index _ (rw is at c.if-ne.ensures)))

pub returns-then-their_len-theirs : goal.returns-then-their_len-theirs
returns-then-their_len-theirs c =
    let our_len = c.identifier_len-our_len.ensures.value in
    let their_len = c.identifier_len-their_len.ensures.value in
    sym (c.identifiers.invariant.same ∙ parts-both_end pre_part_cmp c.identifiers.ours.now c.identifiers.theirs.now
    (sym our_len ∙ c.if-our_len-ours.true) (sym their_len ∙ c.if-their_len-theirs.true)
    (tied _ _ _ _ _ our_len their_len c.compare_identifiers-ordering.ensures c.if-ne.ensures))

pub returns-else-their_len-theirs : goal.returns-else-their_len-theirs
returns-else-their_len-theirs c =
    let our_len = c.identifier_len-our_len.ensures.value in
    let their_len = c.identifier_len-their_len.ensures.value in
    sym (c.identifiers.invariant.same ∙ parts-left_end pre_part_cmp c.identifiers.ours.now c.identifiers.theirs.now
    (sym our_len ∙ c.if-our_len-ours.true) (omega arith)
    (tied _ _ _ _ _ our_len their_len c.compare_identifiers-ordering.ensures c.if-ne.ensures))

pub returns-then-their_len-theirs-2 : goal.returns-then-their_len-theirs-2
returns-then-their_len-theirs-2 c =
    let our_len = c.identifier_len-our_len.ensures.value in
    let their_len = c.identifier_len-their_len.ensures.value in
    sym (c.identifiers.invariant.same ∙ parts-right_end pre_part_cmp c.identifiers.ours.now c.identifiers.theirs.now
    (omega arith) (sym their_len ∙ c.if-their_len-theirs-2.true)
    (tied _ _ _ _ _ our_len their_len c.compare_identifiers-ordering.ensures c.if-ne.ensures))

pub identifiers-preserved : goal.identifiers-preserved
identifiers-preserved c =
    let our_len = c.identifier_len-our_len.ensures.value in
    let their_len = c.identifier_len-their_len.ensures.value in
    let step = parts-step pre_part_cmp c.identifiers.ours.now c.identifiers.theirs.now (omega arith) (omega arith)
    (tied _ _ _ _ _ our_len their_len c.compare_identifiers-ordering.ensures c.if-ne.ensures) in
    let ours = take_rest c.identifiers.ours.now (c.identifier_len-our_len.result + 1) in
    let theirs = take_rest c.identifiers.theirs.now (c.identifier_len-their_len.result + 1) in
    rw (ours, theirs) (record {
      same = c.identifiers.invariant.same ∙ rw (← our_len, ← their_len) at step;
      ours = omega (arith, length-drop {A = ℕ});
      theirs = omega (arith, length-drop {A = ℕ});
    })
