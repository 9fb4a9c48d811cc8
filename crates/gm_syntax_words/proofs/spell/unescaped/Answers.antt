use Rattle.std.proofs.Common.{◌≡◌, [], ◌++◌, rules, ap, sym, ◌∙◌}
use Rattle.std.specs.String.{string_bytes}
use Rattle.std.proofs.lemmas.Bool.{eqb-true}
use Rattle.std.proofs.lemmas.List.{append-nil, nil_from_length}
use Rattle.gm_syntax_words.specs.Words.{escaped_value}
use Rattle.gm_syntax_words.proofs.Spelled.{escaped_none}
use Rattle.gm_syntax_words.proofs.spell.unescaped.Goals as goal

pub loop-rest-init : goal.loop-rest-init
loop-rest-init c = record {
  utf8 = search rules;
  so_far = (c.requires.0, c.requires.1, c.requires.1 ∙ ap (λ l. escaped_value (l ++ c.requires.0)) (sym c.new-out.ensures.bytes));
}

pub push_unescaped-requires-clause-is_escaped : goal.push_unescaped-requires-clause-is_escaped
push_unescaped-requires-clause-is_escaped c = (c.loop-rest.invariant.so_far.0, c.loop-rest.invariant.so_far.1)

pub loop-rest-preserved : goal.loop-rest-preserved
loop-rest-preserved c =
    let s = c.loop-rest.invariant.so_far in
    let p = c.in_ok-rest.ensures.pushed s.0 s.1 in
    record {
      utf8 = search rules;
      so_far = (p.0, p.1, s.2 ∙ ap escaped_value (sym p.2));
    }

pub returns : goal.returns
returns c =
    let s = c.loop-rest.invariant.so_far in
    let empty : c.loop-rest.rest.now ≡ [] = nil_from_length c.loop-rest.rest.now (eqb-true _ 0 (sym c.is_empty.ensures ∙ c.loop-rest-test.false)) in
    let none : s.0 ≡ [] = escaped_none s.0 (sym s.1 ∙ empty) in
    s.2 ∙ ap (λ l. escaped_value (string_bytes c.loop-rest.out ++ l)) none ∙ ap escaped_value (append-nil (string_bytes c.loop-rest.out))
