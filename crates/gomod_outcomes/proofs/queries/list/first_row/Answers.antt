use Rattle.std.proofs.Common.{ap, refl}
use Rattle.std.specs.Option.{option_copied}
use Rattle.gomod_texts.specs.ListQuery.{no_path, path_unlisted}
use Rattle.gomod_texts.proofs.PartOfRows.{rest_shown}
use Rattle.gomod_outcomes.proofs.queries.list.first_row.Goals as goal

pub returns-in-Ok-clause-printed : goal.returns-in-Ok-clause-printed
returns-in-Ok-clause-printed c = λ limit.
    rw c.in-Some.is (rest_shown c.args.main.now c.build_list.result.now c.in-Ok.rest c.args.loaded.now.rows c.in-Some.path.now c.count_of.result limit
    c.build_list.ensures c.count_of.ensures (rw c.requires.main at c.in-Ok.ensures.rest))

pub returns-in-Err-clause-told : goal.returns-in-Err-clause-told
returns-in-Err-clause-told c = λ limit.
    rw c.in-Some.is (path_unlisted c.in-Some.path.now refl (rw c.requires.main at c.in-Err.ensures.not_listed, refl))

pub returns-in_default-clause-printed : goal.returns-in_default-clause-printed
returns-in_default-clause-printed c = λ limit. no_path (ap option_copied c.in_default.is) refl
