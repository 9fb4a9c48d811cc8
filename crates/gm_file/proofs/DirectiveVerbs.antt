-- The verb of a directive is that of the entry that says it.
use Rattle.std.proofs.Common.{◌≡◌, true, List, Option, Some, None, refl, sym, ap, ◌∙◌}
use Rattle.std.specs.Option.{option_map}
use Rattle.gm_syntax_words.specs.Words.{Word}
use Rattle.gm_file.specs.declared.verb.Verb.{Verb}
use Rattle.gm_file.specs.declared.verb.Verb.TheVariants.{Module as ForModule, Go as ForGo, Require as ForRequire, Exclude as ForExclude, Replace as ForReplace, Retract as ForRetract, Nothing as ForNothing, Unknown}
use Rattle.gm_file.specs.Directives.{Directive, directive_of, verb_eq, verb_of_directive}

pub same-verb : (one other : Verb) → verb_eq one other ≡ true → one ≡ other
same-verb ForModule ForModule e = refl
same-verb ForGo ForGo e = refl
same-verb ForRequire ForRequire e = refl
same-verb ForExclude ForExclude e = refl
same-verb ForReplace ForReplace e = refl
same-verb ForRetract ForRetract e = refl
same-verb ForNothing ForNothing e = refl
same-verb Unknown Unknown e = refl
same-verb one other e = absurd cc

pub verb-itself : (verb : Verb) → verb_eq verb verb ≡ true
verb-itself ForModule = refl
verb-itself ForGo = refl
verb-itself ForRequire = refl
verb-itself ForExclude = refl
verb-itself ForReplace = refl
verb-itself ForRetract = refl
verb-itself ForNothing = refl
verb-itself Unknown = refl

mapped : {X : Type 0} (make : X → Directive) (verb : Verb) (o : Option X) (d : Directive)
    → ((x : X) → verb_of_directive (make x) ≡ verb) → option_map make o ≡ Some d → verb_of_directive d ≡ verb
mapped make verb None d says e = absurd cc
mapped make verb (Some x) d says e = let is : make x ≡ d = cc in sym (ap verb_of_directive is) ∙ says x

pub directive-verb : (verb : Verb) (words : List Word) (d : Directive) → directive_of verb words ≡ Some d → verb_of_directive d ≡ verb
unfolding directive_of
directive-verb ForModule words d e = mapped _ _ _ _ (λ x. refl) e
directive-verb ForGo words d e = mapped _ _ _ _ (λ x. refl) e
directive-verb ForRequire words d e = mapped _ _ _ _ (λ x. refl) e
directive-verb ForExclude words d e = mapped _ _ _ _ (λ x. refl) e
directive-verb ForReplace words d e = mapped _ _ _ _ (λ x. refl) e
directive-verb ForRetract words d e = mapped _ _ _ _ (λ x. refl) e
directive-verb ForNothing words d e = let is = same-some e in sym (ap verb_of_directive is)
  where
    same-some : {x y : Directive} → Some x ≡ Some y → x ≡ y
    same-some e = cc
directive-verb Unknown words d e = absurd cc
