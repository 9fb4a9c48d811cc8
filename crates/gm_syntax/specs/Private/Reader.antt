-- What the reader of a line answers, and that no other reading is right.
use Rattle.std.specs.Prelude.{ℕ, suc, ◌≡◌, ◌==◌, if◌then◌else◌, Bool, [], ◌∷◌, Result, Ok, Err, List, MatchResult, ⊤}
use Rattle.std.specs.Result.{result_map_both}
use Rattle.gm_syntax_words.specs.declared.fault.LineSyntaxFault.{LineSyntaxFault}
use Rattle.gm_syntax_words.specs.declared.fault.LineSyntaxFault.TheVariants as faults
use Rattle.gm_syntax_words.specs.declared.fault.SyntaxKind.{SyntaxKind}
use Rattle.gm_syntax_words.specs.declared.reader.LineParts.{LineParts}
use Rattle.gm_syntax_words.specs.Tokens.{comment_of, words_of}
use Rattle.gm_syntax_words.specs.Words.{Word}
use Rattle.gm_syntax.specs.Document.{Line, class_of, IsLineAt, HasLineFault}
use Rattle.gm_syntax.specs.LineViews.{line_of, plain}
use Rattle.gm_syntax.specs.declared.line.Line as lines

-- the result is the class of these words and this comment
abbrev pub IsClassed : Bool → LineParts → Result lines.Line SyntaxKind → Type 0
IsClassed inside parts answer = class_of inside (words_of parts.words.items) (comment_of parts.comment)
    ≡ result_map_both (λ line. plain (line_of line)) (λ kind. kind) answer

-- the text is this line and no other, or has this fault and no other
pub record IsOnlyLine (inside : Bool) (text : List ℕ) (answer : Result (Line Word) SyntaxKind) : Type 0 where
  pub holds : MatchResult answer (IsLineAt inside text) (HasLineFault inside text)
  pub only_line : (line : Line Word) → IsLineAt inside text line → answer ≡ Ok line
  pub only_fault : (kind : SyntaxKind) → HasLineFault inside text kind → answer ≡ Err kind

-- the result is the only line that the text is, or its only fault; nothing is said if memory runs out
abbrev pub IsLineReadAs : Bool → List ℕ → Result lines.Line LineSyntaxFault → Type 0
IsLineReadAs inside text (Ok line) = IsOnlyLine inside text (Ok (plain (line_of line)))
IsLineReadAs inside text (Err faults.Memory) = ⊤
IsLineReadAs inside text (Err (faults.Syntax kind)) = IsOnlyLine inside text (Err kind)

-- the length of the first line, without its line feed
unfoldable pub line_len : List ℕ → ℕ
line_len [] = 0
line_len (b ∷ bytes) = if b == 10 then 0 else suc (line_len bytes)
