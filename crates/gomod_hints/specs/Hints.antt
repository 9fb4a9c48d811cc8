-- What is said of a word that a command does not take: the tables of hints, which are constants.
use Rattle.std.specs.Prelude.{◌≡◌, ◌⊎◌, ◌==◌, ◌++◌, ◌&&◌, ◌∷◌, ◌<◌, ◌≤◌, nat_lt, if◌then◌else◌, Bool, IfOk, IfSome, List, Option, Result, codes, length, map, true, false}
use Rattle.std.specs.Borrow.{Bor}
use Rattle.std.specs.Char.{to_ascii_lowercase}
use Rattle.std.specs.List.{Contains, before_first, slice_split}
use Rattle.std.specs.Str.{chars}
use Rattle.std.specs.Str.Iter.{HasSubslice}
use Rattle.strsim.specs.Edits.{osa_table}
use Rattle.clap.specs.Lexer.{without_minus}
use Rattle.clap.specs.Walk.{Text}
use Rattle.gomod_hints.specs.declared.hints.TheConstants.{HINTS, OTHER_HINTS}

-- a table: for each row the names that it is for, with a space (32) between two, and what it says
abbrev pub Rows : Type 0
Rows = List (Text × Text)

-- the names in a text
abbrev pub split_names : Text → List Text
split_names names = slice_split (λ b. b == 32) names

-- the first table of hints
unfoldable pub hints : Rows
hints = map (λ row. (row.0.now, row.1.now)) HINTS

-- the other table
unfoldable pub other_hints : Rows
other_hints = map (λ row. (row.0.now, row.1.now)) OTHER_HINTS

-- the word begins with a dash (45) and is more than that
abbrev pub begins_with_dash : Text → Bool
begins_with_dash (first ∷ second ∷ rest) = first == 45
begins_with_dash _ = false

-- what stands before the first `=` (61)
abbrev pub name_before : Text → Text
name_before word = before_first (λ b. b == 61) word

-- a word with one dash in the place of two, unless it is no more than that
abbrev pub without_second_dash : Text → Text
without_second_dash word =
    if begins_with_dash word && begins_with_dash (without_minus word) then without_minus word else word

-- the name that the table has a word by: what stands before its first `=`, with one dash for two, and in lowercase if
-- it has two letters or more
abbrev pub key_of : Text → Text
key_of word =
    let name = without_second_dash (name_before word) in
    if nat_lt (length (without_minus name)) 2 then name else map to_ascii_lowercase name

-- the names have four letters or more, and differ by one letter at most, or by two neighbours that are swapped
abbrev pub IsNear : Text → Text → Type 0
IsNear key name = (4 ≤ length (without_minus key)) × (4 ≤ length (without_minus name))
    × ((osa_table (chars key) (chars name)).last_row (length (chars name)) < 2)

-- the name is the key, or is near to it if that is asked for
abbrev pub IsAlike : Bool → Text → Text → Type 0
IsAlike false key name = key ≡ name
IsAlike true key name = IsNear key name

-- One of these names is like the key, aside from an operation's `=`. Without operations it has no `=`.
abbrev pub HasName : List Text → Bool → Bool → Text → Type 0
HasName names operations is_near key = (name : Text) × Contains names name
    × ((operations ≡ true) ⊎ (name_before name ≡ name)) × IsAlike is_near key (name_before name)

-- a row says this that has a name like the key
abbrev pub HasSaidIn : Rows → Bool → Bool → Text → Text → Type 0
HasSaidIn rows operations is_near key hint =
    (names : Text) × Contains rows (names, hint) × HasName (split_names names) operations is_near key

-- one of the tables says this
abbrev pub HasSaid : Bool → Bool → Text → Text → Type 0
HasSaid operations is_near key hint =
    HasSaidIn hints operations is_near key hint ⊎ HasSaidIn other_hints operations is_near key hint

-- the name by which the table has the words that have a text in them: the text between two `*`
abbrev pub IsForm : Text → Text → Type 0
IsForm word form = (part : Text) × HasSubslice word part × (form ≡ codes "*" ++ part ++ codes "*")

-- the tables say this of a word: by its key, by its form, or by a name that is near to the key
abbrev pub IsHintFor : Bool → Text → Text → Type 0
IsHintFor operations word hint = HasSaid operations false (key_of word) hint
    ⊎ ((form : Text) × IsForm word form × HasSaid operations false form hint)
    ⊎ HasSaid operations true (key_of word) hint

-- the words of a command line
abbrev pub texts_of : List (Bor Text) → List Text
texts_of words = map (λ word. word.now) words

-- the tables say this of one of these words, among which there may be operations
abbrev pub IsHintOf : Bool → List Text → Text → Type 0
IsHintOf operations words hint = (word : Text) × Contains words word × IsHintFor operations word hint

-- what is said, if anything is, is this
abbrev pub Advises : {E : Type 0} → (Text → Type 0) → Result (Option (Bor Text)) E → Type 0
Advises is said = IfOk said (λ hint. IfSome hint (λ text. is text.now))
