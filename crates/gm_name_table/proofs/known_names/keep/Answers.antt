use Rattle.std.proofs.Common.{◌≡◌, ◌≤◌, ◌+◌, ℕ, Option, None, Some, arith, refl}
use Rattle.gm_name_table.specs.KeptNames.{count_of}
use Rattle.gm_name_table.specs.Private.KeptNames.{name_under}
use Rattle.gm_name_table.proofs.known_names.keep.Goals as goal

-- a name that is kept makes one more at most
one_more : {T : Type 0} (held : Option T) (old new : ℕ) → (held ≡ None → new ≡ old + 1) → ((other : T) → held ≡ Some other → new ≡ old)
    → (old ≤ new) × (new ≤ old + 1)
one_more None old new more same = let is = more refl in (omega arith, omega arith)
one_more (Some other) old new more same = let is = same other refl in (omega arith, omega arith)

pub returns-in_ok-keep-clause-within : goal.returns-in_ok-keep-clause-within
returns-in_ok-keep-clause-within g c = λ _.
    let count = one_more (name_under c.args.names.now c.tag_of.result) (count_of c.args.names.now) (count_of c.keep.new.self)
    c.in_ok-keep.ensures.more c.in_ok-keep.ensures.replaced in
    omega (arith, count.1)

pub returns-in_ok-keep-clause-kept : goal.returns-in_ok-keep-clause-kept
returns-in_ok-keep-clause-kept g c =
    (one_more (name_under c.args.names.now c.tag_of.result) (count_of c.args.names.now) (count_of c.keep.new.self)
    c.in_ok-keep.ensures.more c.in_ok-keep.ensures.replaced).0
