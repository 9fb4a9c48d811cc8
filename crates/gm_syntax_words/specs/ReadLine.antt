-- What the reader of the words of a line answers, and that no other reading is right.
use Rattle.std.specs.Prelude.{ℕ, ◌≡◌, Result, Ok, Err, List, None, ⊤}
use Rattle.gm_syntax_words.specs.declared.fault.LineSyntaxFault.{LineSyntaxFault}
use Rattle.gm_syntax_words.specs.declared.fault.LineSyntaxFault.TheVariants as faults
use Rattle.gm_syntax_words.specs.declared.fault.SyntaxFault.{SyntaxFault}
use Rattle.gm_syntax_words.specs.declared.fault.SyntaxFault.TheVariants as syntax
use Rattle.gm_syntax_words.specs.declared.reader.LineParts.{LineParts}
use Rattle.gm_syntax_words.specs.Tokens.{comment_of, words_of}
use Rattle.gm_syntax_words.specs.Words.{Word}
use Rattle.gm_syntax_words.specs.Spelling.{Ending, Fault, Reads, ending_of}

-- the fault of the line with this number
abbrev pub fault_at : ℕ → LineSyntaxFault → SyntaxFault
fault_at number faults.Memory = syntax.NoMemory
fault_at number (faults.Syntax kind) = syntax.Syntax number kind

-- the line has this reading and no other
pub record IsOnlyReading (line : List ℕ) (words : List Word) (ending : Ending) : Type 0 where
  pub reads : Reads None line words ending
  pub only : (others : List Word) (other : Ending) → Reads None line others other → (others ≡ words) × (other ≡ ending)

-- the result is the only spelling of the line or its only fault; nothing is said if memory runs out
abbrev pub IsReadAs : Result LineParts LineSyntaxFault → List ℕ → Type 0
IsReadAs (Ok parts) line = IsOnlyReading line (words_of parts.words.items) (ending_of (comment_of parts.comment))
IsReadAs (Err faults.Memory) line = ⊤
IsReadAs (Err (faults.Syntax kind)) line = (words : List Word) × IsOnlyReading line words (Fault kind)
