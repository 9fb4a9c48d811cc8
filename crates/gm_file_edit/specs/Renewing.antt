-- Entries that an operation rewrites.
use Rattle.std.specs.Prelude.{ℕ, ◌-◌, List, [], ◌∷◌, ◌++◌, length, take, if◌then◌else◌, Option, is_some}
use Rattle.gm_syntax_words.specs.Tokens.{Placed}
use Rattle.gm_syntax.specs.Document.{Line, Entry}
use Rattle.gm_file_edit.specs.Edits.{Edit, Set, ModuleIs, GoIs, RequireAt, ReplaceWith}
use Rattle.gm_file_edit.specs.NewWords.{made_word, replace_words}

-- an entry with its last word replaced
abbrev pub with_last : List ℕ → Option Placed → Line Placed → Line Placed
with_last value block (Entry words suffix) = Entry (take (length words - 1) words ++ made_word value ∷ []) suffix
with_last value block line = line

-- an entry with its arguments replaced; its verb, if it is outside blocks, and its comment stay
abbrev pub with_arguments : List Placed → Option Placed → Line Placed → Line Placed
with_arguments new block (Entry words suffix) = Entry (take (if is_some block then 0 else 1) words ++ new) suffix
with_arguments new block line = line

-- the first targeted entry as the operation rewrites it
abbrev pub made_new : Edit → Option Placed → Line Placed → Line Placed
made_new (Set (ModuleIs path)) block line = with_last path block line
made_new (Set (GoIs text)) block line = with_last text block line
made_new (Set (RequireAt p)) block line = with_last p.1 block line
made_new (Set (ReplaceWith r)) block line = with_arguments (replace_words r) block line
made_new _ block line = line
