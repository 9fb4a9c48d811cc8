use Rattle.gm_file.proofs.Arrows.{after-arrow, before-arrow, no-arrow_before}
use Rattle.gm_file.proofs.sides.split_at_arrow.Goals as goal

pub returns-in_default-empty-clause-none : goal.returns-in_default-empty-clause-none
returns-in_default-empty-clause-none c =
    no-arrow_before c.args.words.now c.split_at.result.1.now c.words_before_arrow.result c.words_before_arrow.ensures
    c.split_at.ensures.back c.in_default-empty.len_below

pub returns-in_default-len1-up-clause-before : goal.returns-in_default-len1-up-clause-before
returns-in_default-len1-up-clause-before c =
    before-arrow c.args.words.now c.split_at.result.0.now c.words_before_arrow.result c.words_before_arrow.ensures c.split_at.ensures.front

pub returns-in_default-len1-up-clause-after : goal.returns-in_default-len1-up-clause-after
returns-in_default-len1-up-clause-after c =
    after-arrow c.args.words.now c.split_at.result.1.now c.words_before_arrow.result c.words_before_arrow.ensures c.split_at.ensures.back
