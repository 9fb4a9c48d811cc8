use Rattle.std.proofs.Common.{◌≡◌, ◌∷◌, ◌++◌, Global, List, [], String, rules, subst, sym}
use Rattle.gomod_words.proofs.GivenWords.{AreBefore, all_before, none_before, one_more, shows_first}
use Rattle.gomod_words.proofs.given.given_words.Goals as goal

pub loop-number-init : goal.loop-number-init
loop-number-init g c =
    let given = g.S.Words.given c.args.rt.now in
    subst (λ (words : List (String Global)). AreBefore given 0 words) (sym c.new-words.ensures.items) (none_before given)

pub returns-in_err-word-clause-fault : goal.returns-in_err-word-clause-fault
returns-in_err-word-clause-fault g c =
    let first = shows_first (g.S.Words.given c.args.rt.now) c.loop-number.number c.loop-number.words.items
    c.in_err-word.field-0.0 c.loop-number.invariant c.in_err-word.ensures.fault in
    search (rules, first)

pub returns-in_default-clause-words : goal.returns-in_default-clause-words
returns-in_default-clause-words g c = all_before _ c.loop-number.number _ c.in_ok-word.field-0 c.loop-number.invariant (search rules) c.in_ok-word.ensures.word

pub loop-number-preserved : goal.loop-number-preserved
loop-number-preserved g c =
    let items : c.push.new.self.items ≡ c.loop-number.words.items ++ c.in-Some.word ∷ [] = search rules in
    one_more _ c.loop-number.number _ _ c.in_ok-word.field-0 c.in-Some.word c.loop-number.invariant c.in-Some.is c.in_ok-word.ensures.word items
