-- New entries and their words.
use Rattle.std.specs.Prelude.{ℕ, if◌then◌else◌, Bool, List, [], ◌∷◌, ◌++◌, Option, Some, None}
use Rattle.std.specs.Str.{bytes_eq}
use Rattle.gm_name.specs.ModuleVersion.{ModuleVersion}
use Rattle.gm_syntax_words.specs.declared.word.Kind.TheVariants.{Mark}
use Rattle.gm_syntax_words.specs.declared.word.Punct.{Punct}
use Rattle.gm_syntax_words.specs.declared.word.Punct.TheVariants.{LeftBracket, RightBracket, Comma, Arrow}
use Rattle.gm_syntax_words.specs.Words.{Word, mark_text}
use Rattle.gm_syntax_words.specs.Bare.{new_word}
use Rattle.gm_syntax_words.specs.Tokens.{Placed}
use Rattle.gm_syntax.specs.Document.{Line, Entry}
use Rattle.gm_file.specs.Directives.{VersionInterval, Right, Folder, Module, Replacing}

-- a word with no source position
abbrev pub unplaced_word : Word → Placed
unplaced_word word = record { word = word; line = 0; span = None }

-- the word with this value: bare if possible, and quoted otherwise
abbrev pub made_word : List ℕ → Placed
made_word value = unplaced_word (new_word value)

-- a punctuation mark
abbrev pub made_mark : Punct → Placed
made_mark punct = unplaced_word (record { kind = Mark; spelling = mark_text punct })

-- a path and a version
abbrev pub pair_words : ModuleVersion → List Placed
pair_words p = made_word p.0 ∷ made_word p.1 ∷ []

-- the words of a left side
abbrev pub left_words : List ℕ → Option (List ℕ) → List Placed
left_words path None = made_word path ∷ []
left_words path (Some version) = made_word path ∷ made_word version ∷ []

-- the words of a right side
abbrev pub right_words : Right → List Placed
right_words (Folder text) = made_word text ∷ []
right_words (Module path version) = made_word path ∷ made_word version ∷ []

-- the two sides of a replace, with the arrow between them
abbrev pub replace_words : Replacing → List Placed
replace_words r = left_words r.0.path r.0.version ++ made_mark Arrow ∷ right_words r.1

-- one version if both ends are equal, and both in brackets otherwise
abbrev pub interval_words : VersionInterval → List Placed
interval_words ends =
    if bytes_eq ends.0 ends.1 then made_word ends.0 ∷ []
    else made_mark LeftBracket ∷ made_word ends.0 ∷ made_mark Comma ∷ made_word ends.1 ∷ made_mark RightBracket ∷ []

-- ---- new entries

-- an entry outside blocks; its verb has no source position
abbrev pub single : List ℕ → List Placed → Line Placed
single verb arguments = Entry (made_word verb ∷ arguments) None

-- an entry, in a block of its verb if the flag says so; the verb is then left out
abbrev pub entry_at : Bool → List ℕ → List Placed → Line Placed
entry_at inside verb arguments = if inside then Entry arguments None else single verb arguments
