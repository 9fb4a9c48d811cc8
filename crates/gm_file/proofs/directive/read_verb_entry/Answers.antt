use Rattle.std.proofs.Common.{ap, ◌∙◌}
use Rattle.std.proofs.lemmas.Result.{err_from_is_err_and}
use Rattle.gm_syntax_words.specs.Tokens.{words_of}
use Rattle.gm_file.specs.Directives.{verb_in}
use Rattle.gm_file.specs.VerbViews.{mode_view}
use Rattle.gm_file.proofs.Entries.{saying-fault}
use Rattle.gm_file.proofs.directive.read_verb_entry.Goals as goal

pub returns-in_err-read_entry-clause-read : goal.returns-in_err-read_entry-clause-read
returns-in_err-read_entry-clause-read c =
    let p = err_from_is_err_and c.from_residual.result c.from_residual.ensures.1 in
    rw (p.1, p.2) (saying-fault (mode_view c.args.mode) c.args.verb.now.word.spelling (words_of c.args.words.now) c.in_err-read_entry.field-0.0 _
    (c.verb_in.ensures ∙ ap (verb_in (mode_view c.args.mode)) c.spelling.ensures) c.in_err-read_entry.ensures.read)
