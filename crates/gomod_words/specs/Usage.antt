-- What the words of a command line mean, and the faults of words that have no meaning.
use Rattle.std.specs.Prelude.{◌≡◌, ◌≢◌, ◌⊎◌, ◌&&◌, ◌||◌, ◌∷◌, ◌++◌, not, ℕ, Bool, IfSome, List, [], Option, Some, None, true, false, codes, encode_utf8_all, flat_map, is_some, map, option_map, unwrap_or, if◌then◌else◌, String}
use Rattle.std.specs.Char.Escape.{escape_ascii}
use Rattle.std.specs.List.{Contains, list_all}
use Rattle.std.specs.Option.{IsSomeAnd, option_and_then, option_map_or}
use Rattle.std.specs.Str.{bytes_eq}
use Rattle.std.specs.Str.Iter.{HasSubslice}
use Rattle.std.specs.Global.{Global, Vec}
use Rattle.std.specs.String.{string_bytes}
use Rattle.clap.specs.Walk.{Row, Text, all_of, first_of}
use Rattle.clap.specs.Simple.{subcommand_of}
use Rattle.clap.specs.Faults.{fault_of}
use Rattle.clap.specs.Kinds.{IsAmong}
use Rattle.clap.specs.Takes.{takes}
use Rattle.clap.specs.declared.error.kind.ErrorKind.{ErrorKind}
use Rattle.clap.specs.declared.error.kind.ErrorKind.TheVariants.{DisplayHelp, DisplayVersion}
use Rattle.gm_name.specs.Path.{IsPath}
use Rattle.gm_store_parts.specs.Proxies.{folders_in, folders_of, is_folder, marks_in, marks_of}
use Rattle.gm_store_parts.specs.declared.fallback.proxy_list.ProxyList.{ProxyList}
use Rattle.gomod_words.specs.Dashed.{dashed_in}
use Rattle.gomod_hints.specs.Hints.{IsHintOf}
use Rattle.gomod_words.specs.Limits.{limit_of}
use Rattle.gomod_words.specs.Table.{command_named, gomod_app, argument_name, usage_for}
use Rattle.gomod_words.specs.declared.table.CommandName.{CommandName}
use Rattle.gomod_words.specs.declared.table.CommandName.TheVariants as n
use Rattle.gomod_words.specs.declared.table.Argument.{Argument}
use Rattle.gomod_words.specs.declared.table.Argument.TheVariants.{FmtFile, EditFile, Operations, Path, Proxy, Mod, Sum, After, Limit, Retracted}
use Rattle.gomod_words.specs.declared.usage.Command.{Command}
use Rattle.gomod_words.specs.declared.usage.Command.TheVariants.{Versions, Fmt, Edit, Graph, List as Rows, Chain}
use Rattle.gomod_words.specs.declared.usage.Places.{Places}
use Rattle.gomod_words.specs.declared.usage.UsageFault.{UsageFault}
use Rattle.gomod_words.specs.declared.usage.UsageFault.TheVariants.{NoMemory, Help, Version, Line, BadPath, BadProxy}

-- the first value of an argument, or `None` if it is not given
abbrev pub given : Argument → List Row → Option Text
given argument rows = first_of (argument_name argument) rows

-- Whether the first value of an argument is this text. That of a flag which is given is `true`.
abbrev pub has_value : Argument → Text → List Row → Bool
has_value argument text rows = option_map_or (λ value. bytes_eq value text) (given argument rows) false

-- the text is a valid list of proxy folders
abbrev pub is_proxy : Text → Bool
is_proxy value = list_all is_folder (folders_of value)

-- the folders and marks that the value of `--proxy` names, or `None` if it is not given
abbrev pub IsProxy : Option Text → Option ProxyList → Type 0
IsProxy value proxy = (option_map_or is_proxy value true ≡ true)
    × (option_map folders_in proxy ≡ option_map folders_of value)
    × (option_map marks_in proxy ≡ option_map marks_of value)

-- whether standard input is both the main file and the go.sum
abbrev pub is_input_twice : List Row → Bool
is_input_twice rows = has_value Mod (codes "-") rows && has_value Sum (codes "-") rows

-- The places of a command over a module graph: proxy folders, which must be given; the main file, `go.mod` without
-- `--mod`; and the go.sum, if `--sum` is given. Standard input is at most one of the two files.
abbrev pub ArePlaces : List Row → Places → Type 0
ArePlaces rows places = (is_some places.proxy ≡ true)
    × (string_bytes places.main ≡ unwrap_or (given Mod rows) (codes "go.mod"))
    × (option_map string_bytes places.sums ≡ given Sum rows)
    × (is_input_twice rows ≡ false)

-- the value of `--limit` is a valid number of rows, or is not given
abbrev pub has_limit : Option Text → Bool
has_limit value = option_map_or (λ text. is_some (limit_of text)) value true

-- the texts of a list of strings, in order
abbrev pub texts_in : Vec (String Global) → List Text
texts_in texts = map string_bytes texts.items

-- The command that a command's name and its entries stand for. All versions are asked for if `--retracted` is given or
-- if there is no proxy. In a definition a `ModPath` is its text.
abbrev pub IsCommand : CommandName → List Row → Command → Type 0
IsCommand n.Fmt rows command = Fmt ≡ command
IsCommand n.Edit rows command = (operations : Vec (String Global)) × (Edit operations ≡ command)
    × (all_of (argument_name Operations) rows ≡ Some (texts_in operations))
IsCommand n.Graph rows command = Graph ≡ command
IsCommand n.List rows command = (has_limit (given Limit rows) ≡ true)
    × (Rows (given After rows) (option_and_then limit_of (given Limit rows)) ≡ command)
IsCommand n.Chain rows command = option_map (λ path. Chain path) (given Path rows) ≡ Some command
IsCommand n.Versions rows command = option_map
    (λ path. Versions path (has_value Retracted (codes "true") rows || not (is_some (given Proxy rows))))
    (given Path rows) ≡ Some command

-- The text in a position that requires a path: PATH of `versions` and of `chain`, and the value of `--after`
-- of `list`, whose `--limit` is checked first.
abbrev pub path_text : CommandName → List Row → Option Text
path_text n.Versions rows = given Path rows
path_text n.Chain rows = given Path rows
path_text n.List rows = if has_limit (given Limit rows) then given After rows else None
path_text name rows = None

-- the value of `--proxy` of a command that has this option
abbrev pub proxy_text : CommandName → List Row → Option Text
proxy_text n.Fmt rows = None
proxy_text n.Edit rows = None
proxy_text name rows = given Proxy rows

-- the main file is this one, and there is no go.sum
abbrev pub IsOneFile : Option Text → Places → Type 0
IsOneFile file places = (file ≡ Some (string_bytes places.main)) × (places.sums ≡ None)

-- the files of a command
abbrev pub HasFiles : CommandName → List Row → Places → Type 0
HasFiles n.Fmt rows places = IsOneFile (given FmtFile rows) places
HasFiles n.Edit rows places = IsOneFile (given EditFile rows) places
HasFiles n.Versions rows places = IsOneFile (Some (codes "go.mod")) places
HasFiles name rows places = ArePlaces rows places

-- the command and the places that a command's name and its entries stand for
abbrev pub Means : CommandName → List Row → Command → Places → Type 0
Means name rows command places = IsCommand name rows command × IfSome (path_text name rows) IsPath
    × IsProxy (proxy_text name rows) places.proxy × HasFiles name rows places

-- the command that the parser's entries are for, and these
abbrev pub entered : Option (Text × List Row) → Option (CommandName × List Row)
entered found = option_and_then (λ entry. option_map (λ name. (name, entry.1)) (command_named entry.0)) found

-- what the entries stand for, if there is a command
abbrev pub IsMeant : Option (CommandName × List Row) → Command → Places → Type 0
IsMeant entry command places = IsSomeAnd entry (λ e. Means e.0 e.1 command places)

-- the parser finds nothing wrong with the words
abbrev pub AreAccepted : List Text → Type 0
AreAccepted words = fault_of gomod_app words ≡ []

-- the parser finds something wrong with the words, other than that help or the version is asked for
abbrev pub AreRefused : List Text → Type 0
AreRefused words =
    ¬ (takes gomod_app words ≡ true)
    × (kind : ErrorKind) × (kind ≢ DisplayHelp) × (kind ≢ DisplayVersion)
    × IsAmong kind (fault_of gomod_app words)

-- what `gomod --version` prints
abbrev pub version_line : List ℕ
version_line = codes "gomod 1.2.0 (Rattle, logic dac8208d650f15bf)\n"

-- The words ask for this command with these places: they have no operation with a dash in front, the parser accepts
-- them, and its entries for them have this meaning.
pub record AskFor (words : List Text) (command : Command) (places : Places) : Type 0 where
  pub undashed : dashed_in words ≡ None
  pub taken : AreAccepted words
  pub meant : IsMeant (entered (subcommand_of gomod_app words)) command places

-- the text is this value, and is no path
abbrev pub IsBadPath : Option Text → Text → Type 0
IsBadPath value text = (value ≡ Some text) × ¬ (IsPath text)

-- the text is this value, and is no valid list of folders
abbrev pub IsBadProxy : Option Text → Text → Type 0
IsBadProxy value text = (value ≡ Some text) × (is_proxy text ≡ false)

-- the text in a position that requires a path is not a path
abbrev pub HasBadPath : Option (CommandName × List Row) → Text → Type 0
HasBadPath entry text = IsSomeAnd entry (λ e. IsBadPath (path_text e.0 e.1) text)

-- everything that is checked before it is valid, but the value of `--proxy` is not a valid list of folders
abbrev pub HasBadProxy : Option (CommandName × List Row) → Text → Type 0
HasBadProxy entry text =
    IsSomeAnd entry (λ e. IfSome (path_text e.0 e.1) IsPath × ((command : Command) × IsCommand e.0 e.1 command)
    × IsBadProxy (proxy_text e.0 e.1) text)

-- the entries stand for a command and its places, or have an invalid path or value of `--proxy`
abbrev pub AreRecognized : Option (CommandName × List Row) → Type 0
AreRecognized entry = ((command : Command) × (places : Places) × IsMeant entry command places)
    ⊎ ((text : Text) × HasBadPath entry text) ⊎ ((text : Text) × HasBadProxy entry text)

-- What a fault says about words that the parser reads: help is asked for; or the version is, which is this one; or the
-- parser refuses them for another reason; or it accepts them, but its entries stand for no command, or the path or the
-- value of `--proxy` is invalid.
abbrev pub IsReadFault : List Text → UsageFault → Type 0
IsReadFault words NoMemory = Unit {0}
IsReadFault words (Help text) = IsAmong DisplayHelp (fault_of gomod_app words) × ¬ (takes gomod_app words ≡ true)
IsReadFault words (Version text) =
    IsAmong DisplayVersion (fault_of gomod_app words) × ¬ (takes gomod_app words ≡ true)
    × (string_bytes text ≡ version_line)
IsReadFault words (Line text) =
    AreRefused words ⊎ (AreAccepted words × ¬ (AreRecognized (entered (subcommand_of gomod_app words))))
IsReadFault words (BadPath text) =
    AreAccepted words × HasBadPath (entered (subcommand_of gomod_app words)) (string_bytes text)
IsReadFault words (BadProxy text) =
    AreAccepted words × HasBadProxy (entered (subcommand_of gomod_app words)) (string_bytes text)

-- the command is `edit`
abbrev pub is_edit : CommandName → Bool
is_edit n.Edit = true
is_edit command = false

-- the command that the words of a command line name; the first word is the program's name
unfoldable pub command_in : List Text → Option CommandName
command_in (program ∷ name ∷ words) = command_named name
command_in _ = None

-- operations may stand in these words: after `edit`, and in the place of a command
abbrev pub takes_operations : List Text → Bool
takes_operations words = option_map_or (λ command. is_edit command) (command_in words) true

-- the usage line of the command with this name, or that of the program if there is no such command
abbrev pub usage_line : Text → List ℕ
usage_line name = option_map_or usage_for (command_named name) (codes "gomod <COMMAND>")

-- The usage line of the words of a command line: that of the command that they name, first or after `help`. The first
-- word is the program's name.
abbrev pub usage_of : List Text → List ℕ
usage_of (program ∷ first ∷ second ∷ words) =
    if bytes_eq first (codes "help") then usage_line second else usage_line first
usage_of (program ∷ first ∷ []) = usage_line first
usage_of _ = codes "gomod <COMMAND>"

-- how a usage error reads: what is wrong, the usage line, and how to get help
abbrev pub usage_text : List ℕ → List ℕ → List ℕ
usage_text message usage =
    message ++ codes "\n\nUsage: " ++ usage ++ codes "\n\nFor more information, try '--help'.\n"

-- what stands between a message and its tips
abbrev pub tip_mark : List ℕ
tip_mark = codes "\n\n  tip: "

-- the text is this message, and what the table of hints says of a word among these, if anything
abbrev pub HasHintOf : List Text → List ℕ → List ℕ → Type 0
HasHintOf words message text = (hint : Option Text) × IfSome hint (IsHintOf (takes_operations words) words)
    × (text ≡ option_map_or (λ h. message ++ (tip_mark ++ h)) hint message)

-- the text is this message, at most one hint, which a table has for a word among these, and their usage line
abbrev pub IsUsageText : List Text → List ℕ → List ℕ → Type 0
IsUsageText words message text =
    (shown : List ℕ) × HasHintOf words message shown × (text ≡ usage_text shown (usage_of words))

-- the fault is the usage error of these words with this message, or memory ran out
abbrev pub IsLineOn : List Text → List ℕ → UsageFault → Type 0
IsLineOn words message NoMemory = Unit {0}
IsLineOn words message (Line line) = IsUsageText words message (string_bytes line)
IsLineOn words message _ = ⊥

-- what is wrong with an operation that was written with a dash in front
abbrev pub dashed_message : List ℕ → List ℕ
dashed_message operation = codes "error: operations have no dash: " ++ operation

-- one of these words has the text in it
abbrev pub IsInAWord : List ℕ → List Text → Type 0
IsInAWord text words = (word : Text) × Contains words word × HasSubslice word text

-- the message has no tip in it, unless a word has what a tip begins with
abbrev pub HasNoTip : List Text → List ℕ → Type 0
HasNoTip words message = HasSubslice message tip_mark → IsInAWord tip_mark words

-- a usage error of these words shows what is wrong, at most one hint, and their usage line
abbrev pub ShowsLine : List Text → UsageFault → Type 0
ShowsLine words (Line text) =
    (message : List ℕ) × HasNoTip words message × IsUsageText words message (string_bytes text)
ShowsLine words _ = Unit {0}

-- A usage error of these words shows that. Without a word after the program's name it is the help.
abbrev pub ShowsUsage : List Text → UsageFault → Type 0
ShowsUsage (program ∷ first ∷ words) fault = ShowsLine (program ∷ first ∷ words) fault
ShowsUsage _ fault = Unit {0}

-- what a fault says about words with this operation with a dash in front, or with none
abbrev pub IsFaultBy : Option Text → List Text → UsageFault → Type 0
IsFaultBy (Some operation) words fault = IsLineOn words (dashed_message operation) fault
IsFaultBy None words fault = IsReadFault words fault × ShowsUsage words fault

-- what a fault says about the words: an operation of `edit` has a dash in front; or none has, and the parser reads them
abbrev pub IsFaultOf : List Text → UsageFault → Type 0
IsFaultOf words fault = IsFaultBy (dashed_in words) words fault

-- the fault is the version, or memory ran out
abbrev pub IsVersionLine : UsageFault → Type 0
IsVersionLine NoMemory = Unit {0}
IsVersionLine (Version text) = string_bytes text ≡ version_line
IsVersionLine _ = ⊥

-- a word as it is shown if it is not UTF-8: each byte that prints as itself, and any other by its code, as `\xe9`
abbrev pub shown_bytes : List ℕ → List ℕ
shown_bytes word = flat_map (λ b. encode_utf8_all (escape_ascii b)) word

-- the usage error of a word that is not UTF-8
abbrev pub unreadable_text : List ℕ → List ℕ
unreadable_text word =
    usage_text (codes "error: the word '" ++ shown_bytes word ++ codes "' is not UTF-8") (codes "gomod <COMMAND>")

-- the fault is `Line` or `NoMemory`
abbrev pub is_line_or_memory : UsageFault → Bool
is_line_or_memory (Line text) = true
is_line_or_memory NoMemory = true
is_line_or_memory fault = false
