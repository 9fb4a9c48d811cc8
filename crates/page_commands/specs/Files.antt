-- What bytes say: a reader that computes stands in for docs/proof/BYTES.md, sections 2 and 3, where the spelling of a
-- line
-- is a relation. The lines of a text, what their words make of them, and all above are copies.
use Rattle.std.specs.Prelude.{◌≡◌, ◌==◌, ◌&&◌, ◌||◌, ◌++◌, ◌-◌, ℕ, if◌then◌else◌, Bool, true, false, not, List, [], ◌∷◌, Option, Some, None, Result, Ok, Err, codes, length, nat_lt, take}
use Rattle.std.specs.List.{suffix_len}
use Rattle.std.specs.Str.{is_utf8}
use Rattle.page_commands.specs.Document.{Line, Place, after, class_of, start}
use Rattle.page_commands.specs.GmSyntaxWordsLines.{lines_of}
use Rattle.page_commands.specs.LineViews.{plain_lines}
use Rattle.page_commands.specs.Tokens.{Placed}
use Rattle.page_commands.specs.Types.Kind.{Kind, Bare, Mark, Text}
use Rattle.page_commands.specs.Types.SyntaxFault.{NotUtf8, Syntax, SyntaxFault}
use Rattle.page_commands.specs.Types.SyntaxKind.{BadByte, BadEscape, BlockComment, OpenBlock, OpenString, SyntaxKind}
use Rattle.page_commands.specs.Words.{Word}

-- ---- words

-- what is read: what is between words (directly after a bare word or not), the second byte of an arrow, a bare word, a
-- string in quotes, what follows its backslash, a string in grave accents; with the spelling so far
pub data State : Type 0 where
  Between : Bool → State
  SecondByte : State
  InBare : List ℕ → State
  InQuotes : List ℕ → State
  Escaped : List ℕ → State
  InGraves : List ℕ → State

-- the words of a line and its comment, or its fault
abbrev pub LineWords : Type 0
LineWords = Result (List Word × Option (List ℕ)) SyntaxKind

abbrev pub with_word : Kind → List ℕ → LineWords → LineWords
with_word kind text (Ok said) = Ok (record { kind = kind; spelling = text } ∷ said.0, said.1)
with_word kind text (Err fault) = Err fault

abbrev pub is_space : ℕ → Bool
is_space b = b == 32 || b == 9 || b == 13

abbrev pub is_one_mark : ℕ → Bool
is_one_mark b = b == 40 || b == 41 || b == 91 || b == 93 || b == 44

-- no byte of a word, outside strings
abbrev pub is_never_bare : ℕ → Bool
is_never_bare b = is_space b || is_one_mark b || b == 34 || b == 96 || b == 123 || b == 125 || nat_lt b 32 || b == 127

abbrev pub starts_with_byte : ℕ → List ℕ → Bool
starts_with_byte b [] = false
starts_with_byte b (c ∷ rest) = c == b

abbrev pub without_spaces_after : List ℕ → List ℕ
without_spaces_after text = take (length text - suffix_len is_space text) text

-- what comes between words, from this byte on
abbrev pub between_words : Bool → ℕ → List ℕ → (State → LineWords) → LineWords
between_words touching b rest go =
    if b == 47 && starts_with_byte 47 rest then Ok ([], Some (without_spaces_after (b ∷ rest)))
    else (if b == 47 && starts_with_byte 42 rest then Err BlockComment
    else (if is_space b then go (Between false)
    else (if b == 61 && starts_with_byte 62 rest then with_word Mark (codes "=>") (go SecondByte)
    else (if is_one_mark b then with_word Mark (b ∷ []) (go (Between false))
    else (if touching || is_never_bare b && not (b == 34 || b == 96) then Err BadByte
    else (if b == 34 then go (InQuotes (b ∷ []))
    else (if b == 96 then go (InGraves (b ∷ [])) else go (InBare (b ∷ [])))))))))

abbrev pub words_from : State → List ℕ → LineWords
words_from (Between touching) [] = Ok ([], None)
words_from (Between touching) (b ∷ rest) = between_words touching b rest (λ state. words_from state rest)
words_from SecondByte [] = Ok ([], None)
words_from SecondByte (b ∷ rest) = words_from (Between false) rest
words_from (InBare word) [] = Ok (record { kind = Bare; spelling = word } ∷ [], None)
words_from (InBare word) (b ∷ rest) =
    if is_never_bare b || b == 47 && (starts_with_byte 47 rest || starts_with_byte 42 rest)
    then with_word Bare word (between_words true b rest (λ state. words_from state rest))
    else words_from (InBare (word ++ b ∷ [])) rest
words_from (InQuotes word) [] = Err OpenString
words_from (InQuotes word) (b ∷ rest) =
    if b == 34 then with_word Text (word ++ b ∷ []) (words_from (Between false) rest)
    else words_from (if b == 92 then Escaped (word ++ b ∷ []) else InQuotes (word ++ b ∷ [])) rest
words_from (Escaped word) [] = Err OpenString
words_from (Escaped word) (b ∷ rest) =
    if b == 34 || b == 92 then words_from (InQuotes (word ++ b ∷ [])) rest else Err BadEscape
words_from (InGraves word) [] = Err OpenString
words_from (InGraves word) (b ∷ rest) =
    if b == 96 then with_word Text (word ++ b ∷ []) (words_from (Between false) rest)
    else words_from (InGraves (word ++ b ∷ [])) rest

-- ---- lines

abbrev pub line_of : Bool → LineWords → Result (Line Word) SyntaxKind
line_of inside (Ok said) = class_of inside said.0 said.1
line_of inside (Err fault) = Err fault

abbrev pub after_line : Place → Result (Line Word) SyntaxKind → Place
after_line at (Ok line) = after at line
after_line at (Err fault) = at

-- the line before the others, or the first fault
abbrev pub with_line : ℕ → Result (Line Word) SyntaxKind → Result (List (Line Word)) SyntaxFault
    → Result (List (Line Word)) SyntaxFault
with_line number (Err kind) others = Err (Syntax number kind)
with_line number (Ok line) (Err fault) = Err fault
with_line number (Ok line) (Ok lines) = Ok (line ∷ lines)

abbrev pub lines_from : Place → List (List ℕ) → Result (List (Line Word)) SyntaxFault
lines_from at [] = if at.inside then Err (Syntax at.opened OpenBlock) else Ok []
lines_from at (text ∷ texts) = let line = line_of at.inside (words_from (Between false) text) in
    with_line at.number line (lines_from (after_line at line) texts)

-- the lines of bytes. None of the worlds has too many.
abbrev pub lines_in : List ℕ → Result (List (Line Word)) SyntaxFault
lines_in content = if is_utf8 content then lines_from start (lines_of content) else Err NotUtf8

abbrev pub IsParsedAs : List ℕ → Result (List (Line Placed)) SyntaxFault → Type 0
IsParsedAs content (Ok doc) = lines_in content ≡ Ok (plain_lines doc)
IsParsedAs content (Err fault) = lines_in content ≡ Err fault
