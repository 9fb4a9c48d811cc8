-- Which fault each part of a command line has while it is read.
use Rattle.std.specs.Prelude.{◌≡◌, ◌≢◌, ◌⊎◌, ℕ, List, Option, Some, None, true}
use Rattle.std.specs.Option.{option_map_or}
use Rattle.std.specs.String.{string_bytes}
use Rattle.clap.specs.Walk.{Row, Text}
use Rattle.clap.specs.Words.{found_of, rows_of}
use Rattle.clap.specs.declared.error.Error.{Error}
use Rattle.clap.specs.declared.parser.matches.ArgMatches.{ArgMatches}
use Rattle.clap.specs.Values.{kind_of}
use Rattle.clap.specs.declared.error.kind.ErrorKind.TheVariants.{DisplayHelp, DisplayVersion, OutOfMemory}
use Rattle.gomod_words.specs.declared.table.Argument.TheVariants.{Proxy}
use Rattle.gomod_words.specs.declared.table.CommandName.{CommandName}
use Rattle.gomod_words.specs.declared.usage.Command.{Command}
use Rattle.gomod_words.specs.declared.usage.Places.{Places}
use Rattle.gomod_words.specs.declared.usage.UsageFault.{UsageFault}
use Rattle.gomod_words.specs.declared.usage.UsageFault.TheVariants.{NoMemory, Help, Version, Line, BadPath, BadProxy}
use Rattle.gomod_words.specs.Usage.{AreRecognized, HasBadPath, HasBadProxy, Means, given, is_input_twice, is_proxy, version_line}

-- the entries of a command
abbrev pub entries : ArgMatches → List Row
entries found = rows_of (found_of found)

-- what the entries of the command with this name stand for
abbrev pub IsReadOf : CommandName → ArgMatches → (Command × Places) → Type 0
IsReadOf name found read = Means name (entries found) read.0 read.1

-- the fault has this kind of message, path or value of `--proxy`, or memory ran out
abbrev pub IsFaultWith : Type 0 → (Text → Type 0) → (Text → Type 0) → UsageFault → Type 0
IsFaultWith line path proxy NoMemory = Unit {0}
IsFaultWith line path proxy (Line text) = line
IsFaultWith line path proxy (BadPath text) = path (string_bytes text)
IsFaultWith line path proxy (BadProxy text) = proxy (string_bytes text)
IsFaultWith line path proxy _ = ⊥

-- what a fault says about the entries
abbrev pub IsEntriesFault : Option (CommandName × List Row) → UsageFault → Type 0
IsEntriesFault entry = IsFaultWith (¬ (AreRecognized entry)) (HasBadPath entry) (HasBadProxy entry)

-- what a fault says about the entries of the command with this name
abbrev pub IsFaultIn : CommandName → ArgMatches → UsageFault → Type 0
IsFaultIn name found = IsEntriesFault (Some (name, entries found))

-- the fault that a parser's error stands for
abbrev pub IsParserFault : Error → UsageFault → Type 0
IsParserFault error NoMemory = Unit {0}
IsParserFault error (Help text) = kind_of error ≡ DisplayHelp
IsParserFault error (Version text) = (kind_of error ≡ DisplayVersion) × (string_bytes text ≡ version_line)
IsParserFault error (Line text) =
    (kind_of error ≢ DisplayHelp) × (kind_of error ≢ DisplayVersion) × (kind_of error ≢ OutOfMemory)
IsParserFault error _ = ⊥

-- no text
abbrev pub none : Text → Type 0
none text = ⊥

-- `--proxy` is missing although it must be given; or it is valid, and standard input is both other files
abbrev pub LacksPlaces : List Row → Type 0
LacksPlaces rows = (given Proxy rows ≡ None)
    ⊎ ((option_map_or is_proxy (given Proxy rows) true ≡ true) × (is_input_twice rows ≡ true))

-- the fault is this usage error, or memory ran out
abbrev pub IsLineOf : List ℕ → UsageFault → Type 0
IsLineOf text NoMemory = Unit {0}
IsLineOf text (Line line) = string_bytes line ≡ text
IsLineOf text _ = ⊥
