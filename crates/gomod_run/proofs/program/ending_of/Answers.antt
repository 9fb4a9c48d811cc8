use Rattle.std.proofs.Common.{inr, refl, rules}
use Rattle.std.proofs.lemmas.Str.{IsUtf8-nil}
use Rattle.gomod_texts.specs.Outcome.{out_of_memory}
use Rattle.gomod_run.proofs.Endings.{program_ends, unreadable_ends}
use Rattle.gomod_run.proofs.program.ending_of.Goals as goal

pub returns-in-Ok-texts_of : goal.returns-in-Ok-texts_of
returns-in-Ok-texts_of g c =
    program_ends _ _ _ _ _ c.in-Ok.words.items _ c.in-Ok.ensures.words c.in-Ok-texts_of.ensures c.ending_of_words.ensures
    (search rules) (search rules)

pub returns-in-Err : goal.returns-in-Err
returns-in-Err g c = unreadable_ends _ _ _ c.in-Err.fault c.in-Err.ensures.fault c.ending_of_fault.ensures

pub returns : goal.returns
returns g c = record {
  outcome = out_of_memory;
  as_stated = inr refl;
  utf8 = IsUtf8-nil;
  written = c.write_report.ensures (g.O.Sink.state c.args.out.now);
}
