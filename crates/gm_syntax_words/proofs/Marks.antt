-- Punctuation is valid on a line.
use Rattle.std.proofs.Common.{[], ◌∷◌, refl, arith, inl, inr}
use Rattle.gm_syntax_words.specs.declared.word.Kind.TheVariants.{Mark}
use Rattle.gm_syntax_words.specs.declared.word.Punct.{Punct}
use Rattle.gm_syntax_words.specs.declared.word.Punct.TheVariants.{LeftParen, RightParen, LeftBracket, RightBracket, Comma, Arrow}
use Rattle.gm_syntax_words.specs.Bytes.{is_bracket_or_comma}
use Rattle.gm_syntax_words.specs.Words.{mark_text}
use Rattle.gm_syntax_words.specs.Spelling.{IsWord}

pub mark_stands : (punct : Punct) → IsWord (record { kind = Mark; spelling = mark_text punct })
unfolding is_bracket_or_comma
mark_stands LeftParen = ((40 ∷ [], (inl (40, refl, refl), refl)), (omega arith, tt))
mark_stands RightParen = ((41 ∷ [], (inl (41, refl, refl), refl)), (omega arith, tt))
mark_stands LeftBracket = ((91 ∷ [], (inl (91, refl, refl), refl)), (omega arith, tt))
mark_stands RightBracket = ((93 ∷ [], (inl (93, refl, refl), refl)), (omega arith, tt))
mark_stands Comma = ((44 ∷ [], (inl (44, refl, refl), refl)), (omega arith, tt))
mark_stands Arrow = ((61 ∷ 62 ∷ [], (inr refl, refl)), (omega arith, (omega arith, tt)))
