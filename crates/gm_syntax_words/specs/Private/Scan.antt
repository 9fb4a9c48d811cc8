-- What the scanner computes, one piece after the other.
use Rattle.std.specs.Prelude.{ℕ, Bool, ◌==◌, ◌||◌, ◌&&◌, suc, List, [], ◌∷◌, if◌then◌else◌, ◌+◌, Result, Ok, Err}
use Rattle.std.specs.Result.{result_map_both}
use Rattle.gm_syntax_words.specs.Bytes.{is_blank, is_bracket_or_comma, is_quote, is_bad}
use Rattle.gm_syntax_words.specs.declared.fault.SyntaxKind.{SyntaxKind}
use Rattle.gm_syntax_words.specs.declared.fault.SyntaxKind.TheVariants.{BadByte, OpenString, BadEscape, BlockComment}
use Rattle.gm_syntax_words.specs.declared.word.Kind.TheVariants.{Bare, Text, Mark}
use Rattle.gm_syntax_words.specs.declared.scan.Piece.{Piece}
use Rattle.gm_syntax_words.specs.declared.scan.Piece.TheVariants as piece
use Rattle.gm_syntax_words.specs.Bare.{begins, bare_len}

abbrev pub longer : ℕ → Result ℕ SyntaxKind → Result ℕ SyntaxKind
longer n result = result_map_both (λ len. n + len) (λ kind. kind) result

-- the length of the rest of a string after its opening quote
unfoldable pub quoted_len : List ℕ → Result ℕ SyntaxKind
quoted_len [] = Err OpenString
quoted_len (b ∷ []) = if b == 34 then Ok 1 else Err OpenString
quoted_len (b ∷ c ∷ bytes) =
    if b == 34 then Ok 1
    else (if b == 92 then (if (c == 34) || (c == 92) then longer 2 (quoted_len bytes) else Err BadEscape)
    else longer 1 (quoted_len (c ∷ bytes)))

-- the length of the rest of a raw string after its opening grave accent
unfoldable pub raw_len : List ℕ → Result ℕ SyntaxKind
raw_len [] = Err OpenString
raw_len (b ∷ bytes) = if b == 96 then Ok 1 else longer 1 (raw_len bytes)

abbrev pub text_piece : Result ℕ SyntaxKind → Piece
text_piece (Ok len) = piece.Word Text (len + 1)
text_piece (Err kind) = piece.Fault kind

-- the piece that the text begins with; after_bare says whether the text directly follows a bare word
unfoldable pub piece_of : Bool → List ℕ → Piece
piece_of after_bare [] = piece.End
piece_of after_bare (b ∷ bytes) =
    if is_blank b then piece.Blank
    else (if is_bracket_or_comma b then piece.Word Mark 1
    else (if is_quote b
    then (if after_bare then piece.Fault BadByte
    else (if b == 34 then text_piece (quoted_len bytes) else text_piece (raw_len bytes)))
    else (if is_bad b then piece.Fault BadByte
    else (if (b == 47) && begins 47 bytes then piece.Comment
    else (if (b == 47) && begins 42 bytes then piece.Fault BlockComment
    else (if (b == 61) && begins 62 bytes then piece.Word Mark 2
    else piece.Word Bare (bare_len (b ∷ bytes))))))))

abbrev pub put_front : ℕ → List ℕ → List ℕ
put_front b [] = if is_blank b then [] else b ∷ []
put_front b (c ∷ bytes) = b ∷ c ∷ bytes

-- the text without the blanks at its end
unfoldable pub trim_end : List ℕ → List ℕ
trim_end [] = []
trim_end (b ∷ bytes) = put_front b (trim_end bytes)

-- the number of bytes before the first quote or backslash
unfoldable pub plain_len : List ℕ → ℕ
plain_len [] = 0
plain_len (b ∷ bytes) = if (b == 34) || (b == 92) then 0 else suc (plain_len bytes)
