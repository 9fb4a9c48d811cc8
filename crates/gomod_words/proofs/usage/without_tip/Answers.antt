use Rattle.std.proofs.Common.{arith}
use Rattle.std.proofs.lemmas.Str.Pattern.{split_text_parts}
use Rattle.gomod_words.specs.Usage.{tip_mark}
use Rattle.gomod_words.proofs.UsageLines.{front_lacks}
use Rattle.gomod_words.proofs.usage.without_tip.Goals as goal

pub returns-then-is_within : goal.returns-then-is_within
returns-then-is_within c = λ has. c.is_within.ensures c.if-is_within.true

pub returns-in-Some : goal.returns-in-Some
returns-in-Some c =
    let cases = rw c.in-Some.is at c.split_once.ensures.cases in
    λ has. absurd (front_lacks tip_mark c.args.message.now _ _ (omega arith) cases has)

pub returns-in-None : goal.returns-in-None
returns-in-None c =
    let cases = split_text_parts tip_mark c.args.message.now c.split_once.result c.split_once.ensures.cases in
    let none = rw c.in-None.is at cases in
    λ has. absurd (none has.0 has.1 has.2)
