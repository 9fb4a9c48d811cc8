use Rattle.std.proofs.Common.{◌≡◌, ℕ, List, Option, ap, codes, sym, subst, ◌∙◌}
use Rattle.std.proofs.lemmas.Bool.{not-false}
use Rattle.std.specs.Prelude.{IfOk}
use Rattle.std.specs.Option.{option_map}
use Rattle.std.specs.Str.{bytes_eq}
use Rattle.gm_syntax_words.specs.Tokens.{words_of}
use Rattle.gm_name.proofs.NameTests.{not_true}
use Rattle.gm_file.specs.Directives.{VersionInterval}
use Rattle.gm_file.specs.Views.{interval_view}
use Rattle.gm_file.proofs.Retracted.{other-retracts, retract-retracts}
use Rattle.gm_file.proofs.retractions.retraction_at.Goals as goal

pub returns-then-ne-clause-read : goal.returns-then-ne-clause-read
returns-then-ne-clause-read c =
    other-retracts _ c.in-Some.verb.now.word.spelling (words_of c.in-Some.words.now) c.in-Some.ensures
    (ap (λ (t : List ℕ). bytes_eq t (codes "retract")) (sym c.spelling.ensures) ∙ not_true _ (sym c.ne.ensures ∙ c.if-ne.true))

pub returns-clause-read : goal.returns-clause-read
returns-clause-read c =
    subst (λ (o : Option VersionInterval). IfOk c.interval_in.result (λ interval. option_map interval_view interval ≡ o))
    (retract-retracts _ c.in-Some.verb.now.word.spelling (words_of c.in-Some.words.now) c.in-Some.ensures
    (ap (λ (t : List ℕ). bytes_eq t (codes "retract")) (sym c.spelling.ensures) ∙ not-false _ (sym c.ne.ensures ∙ c.if-ne.false))) c.interval_in.ensures.read
