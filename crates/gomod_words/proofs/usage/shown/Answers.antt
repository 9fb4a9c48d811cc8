use Rattle.std.proofs.Common.{◌++◌, ◌∙◌, ℕ, List, [], ap, encode_utf8_all, get_or, sym, take}
use Rattle.std.proofs.lemmas.List.{flat_map_more, take_more}
use Rattle.std.specs.Char.Escape.{escape_ascii}
use Rattle.gomod_words.specs.Usage.{shown_bytes}
use Rattle.gomod_words.proofs.usage.shown.Goals as goal

pub loop-byte-preserved : goal.loop-byte-preserved
loop-byte-preserved c =
    let bytes = c.args.bytes.now in
    let i = c.loop-byte.byte-index in
    let b = get_or bytes i 0 in
    c.in_ok-push_shown.ensures ∙ ap (λ (bs : List ℕ). bs ++ encode_utf8_all (escape_ascii b)) c.loop-byte.invariant
    ∙ flat_map_more (λ b. encode_utf8_all (escape_ascii b)) [] (take i bytes) b
    ∙ ap shown_bytes (sym (take_more bytes i 0 c.loop-byte-test.true))
