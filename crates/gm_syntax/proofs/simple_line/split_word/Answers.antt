use Rattle.std.proofs.Common.{ℕ, take, ap, sym, ◌∙◌}
use Rattle.gm_syntax_words.specs.declared.scan.Piece.TheVariants as piece
use Rattle.gm_syntax_words.specs.declared.word.Kind.TheVariants.{Bare}
use Rattle.gm_syntax_words.specs.Bare.{bare_len}
use Rattle.gm_syntax.proofs.SimpleLines.{plain_begins_word, plain_word_bare, plain_word_end}
use Rattle.gm_syntax.proofs.simple_line.split_word.Goals as goal

pub split_at-requires : goal.split_at-requires
split_at-requires c =
    let begins = rw c.as_bytes-bytes.ensures.value at c.begins_plain.ensures.0 c.if-not-begins_plain.false in
    rw (c.bare_len.ensures ∙ ap bare_len c.as_bytes-bytes.ensures.value)
    (plain_word_end _ c.utf8.text begins)

pub returns-clause-word : goal.returns-clause-word
returns-clause-word c = λ after_bare.
    let begins = rw c.as_bytes-bytes.ensures.value at c.begins_plain.ensures.0 c.if-not-begins_plain.false in
    plain_begins_word _ _ begins ∙ ap (piece.Word Bare)
    (sym (c.split_at.ensures.front_len ∙ c.bare_len.ensures ∙ ap bare_len c.as_bytes-bytes.ensures.value))

pub returns-clause-bare : goal.returns-clause-bare
returns-clause-bare c =
    let begins = rw c.as_bytes-bytes.ensures.value at c.begins_plain.ensures.0 c.if-not-begins_plain.false in
    let len = c.bare_len.ensures ∙ ap bare_len c.as_bytes-bytes.ensures.value in
    rw (c.split_at.ensures.front ∙ ap (λ (n : ℕ). take n c.args.text.now) len) (plain_word_bare _ begins)
