use Rattle.std.proofs.Common.{ap, ◌∙◌}
use Rattle.gm_syntax_words.specs.Tokens.{words_of}
use Rattle.gm_file.specs.Directives.{main_verb}
use Rattle.gm_file_edit.proofs.WordKeys.{entry-key}
use Rattle.gm_file_edit.proofs.keys.entry_key.Goals as goal

pub returns : goal.returns
returns c =
    let verb = c.main_verb-verb.ensures ∙ ap main_verb c.spelling.ensures in
    rw (c.in_ok-first.ensures, c.in_ok-second.ensures, verb)
    (entry-key (main_verb c.args.verb.now.word.spelling) (words_of c.args.arguments.now) c.args.inside c.requires (rw verb at c.words_about.ensures))
