-- A copy from crates/gomod_outcomes/specs/Needs.antt, which tools/check/headline.py writes.
use Rattle.std.specs.Prelude.{Option}
use Rattle.page_commands.specs.Asked.{Name, Reply}

-- what a store answered
abbrev pub AnswersByName : Type 0
AnswersByName = Name → Option Reply
