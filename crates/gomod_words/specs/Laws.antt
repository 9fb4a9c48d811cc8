-- Laws of the words of a command line, which follow from the table of commands alone.
use Rattle.std.specs.Prelude.{◌≡◌, ◌∷◌, List, [], codes, true}
use Rattle.clap.specs.Walk.{Text}
use Rattle.gomod_words.specs.Usage.{AskFor, IsFaultOf, IsVersionLine, is_line_or_memory}
use Rattle.gomod_words.specs.declared.usage.Command.{Command}
use Rattle.gomod_words.specs.declared.usage.Places.{Places}
use Rattle.gomod_words.specs.declared.usage.UsageFault.{UsageFault}
use Rattle.gomod_words.specs.declared.usage.UsageFault.TheVariants.{NoMemory}

-- the words ask for no command, and have such faults alone
abbrev pub HaveOnly : (UsageFault → Type 0) → List Text → Type 0
HaveOnly is words = ((command : Command) (places : Places) → ¬ (AskFor words command places))
    × ((fault : UsageFault) → IsFaultOf words fault → is fault)

-- the words ask for the version and for nothing else
abbrev pub AskForVersion : List Text → Type 0
AskForVersion = HaveOnly IsVersionLine

-- the words are a usage error
abbrev pub AreUsageError : List Text → Type 0
AreUsageError = HaveOnly (λ fault. is_line_or_memory fault ≡ true)

-- `gomod --version` and `gomod -V`, whatever the program's name
abbrev pub VersionIsAsked : Type 0
VersionIsAsked = (program : Text)
    → AskForVersion (program ∷ codes "--version" ∷ []) × AskForVersion (program ∷ codes "-V" ∷ [])

-- `gomod` alone
abbrev pub NothingIsAsked : Type 0
NothingIsAsked = (program : Text) → AreUsageError (program ∷ [])

-- words that ask for a command have no fault, though memory may run out
abbrev pub CommandsHaveNoFault : Type 0
CommandsHaveNoFault = (words : List Text) (command : Command) (places : Places) (fault : UsageFault)
    → AskFor words command places → IsFaultOf words fault → fault ≡ NoMemory
