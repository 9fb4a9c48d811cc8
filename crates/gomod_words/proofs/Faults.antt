-- What is known about the words at each fault.
use Rattle.std.proofs.Common.{◌≡◌, ◌≢◌, ◌∙◌, List, None, Result, Ok, Err, IfErr, IfOk, ap, true, sym, subst, inl, inr, refl}
use Rattle.clap.specs.Walk.{Text}
use Rattle.clap.specs.Simple.{App, HasMatchesOf, is_simple, subcommand_of, subcommand_rows_of}
use Rattle.clap.specs.Faults.{fault_of, is_simple_and_free}
use Rattle.clap.specs.Kinds.{HasKind, IsAmong}
use Rattle.clap.specs.Takes.{takes}
use Rattle.clap.specs.Values.{kind_of}
use Rattle.clap.specs.declared.error.Error.{Error}
use Rattle.clap.specs.declared.parser.matches.ArgMatches.{ArgMatches}
use Rattle.clap.specs.declared.error.kind.ErrorKind.{ErrorKind}
use Rattle.clap.specs.declared.error.kind.ErrorKind.TheVariants.{DisplayHelp, DisplayVersion, OutOfMemory}
use Rattle.gomod_words.specs.Dashed.{dashed_in}
use Rattle.gomod_words.specs.Table.{gomod_app}
use Rattle.gomod_words.specs.Usage.{AreAccepted, AskFor, IsFaultBy, IsFaultOf, IsMeant, IsReadFault, ShowsLine, ShowsUsage, entered}
use Rattle.gomod_words.specs.Private.Usage.{IsEntriesFault, IsParserFault}
use Rattle.gomod_words.specs.declared.usage.Command.{Command}
use Rattle.gomod_words.specs.declared.usage.Places.{Places}
use Rattle.gomod_words.specs.declared.usage.UsageFault.{UsageFault}
use Rattle.gomod_words.specs.declared.usage.UsageFault.TheVariants.{NoMemory, Help, Version, Line, BadPath, BadProxy}
use Rattle.gomod_words.proofs.UsageLines.{shows_usage}

-- if no operation has a dash, a fault of the words as the parser reads them is their fault
pub read_fault : (words : List Text) (fault : UsageFault) → dashed_in words ≡ None → IsReadFault words fault → ShowsUsage words fault → IsFaultOf words fault
read_fault words fault undashed known shows = subst (λ o. IsFaultBy o words fault) (sym undashed) (known, shows)

-- a fault of the entries is a fault of the words
entries_fault : (words : List Text) (fault : UsageFault) → AreAccepted words → IsEntriesFault (entered (subcommand_of gomod_app words)) fault
    → IsReadFault words fault
entries_fault words NoMemory taken known = tt
entries_fault words (Help text) taken known = absurd known
entries_fault words (Version text) taken known = absurd known
entries_fault words (Line text) taken known = inr (taken, known)
entries_fault words (BadPath text) taken known = (taken, known)
entries_fault words (BadProxy text) taken known = (taken, known)

pub entries_faults : {T : Type 0} (words : List Text) (result : Result T UsageFault) → dashed_in words ≡ None → AreAccepted words
    → IfErr result (IsEntriesFault (entered (subcommand_of gomod_app words))) → IfErr result (ShowsLine words) → IfErr result (IsFaultOf words)
entries_faults words (Ok value) undashed taken known shows = tt
entries_faults words (Err fault) undashed taken known shows =
    read_fault words _ undashed (entries_fault words _ taken known) (shows_usage _ _ shows)

-- the words ask for what the entries mean
pub entries_read : (words : List Text) (result : Result (Command × Places) UsageFault) → dashed_in words ≡ None → AreAccepted words
    → IfOk result (λ read. IsMeant (entered (subcommand_of gomod_app words)) read.0 read.1) → IfOk result (λ read. AskFor words read.0 read.1)
entries_read words (Ok read) undashed taken known = record { undashed = undashed; taken = taken; meant = known }
entries_read words (Err fault) undashed taken known = tt

-- an error whose kind is not that memory ran out has a kind that applies to the words
kind_among : (words : List Text) (error : Error) → HasKind (fault_of gomod_app words) error → kind_of error ≢ OutOfMemory
    → IsAmong (kind_of error) (fault_of gomod_app words)
kind_among words error (inl memory) enough = absurd (enough memory)
kind_among words error (inr among) enough = among

-- help is shown only if it was asked for, and so is the version
asked_among : (words : List Text) (error : Error) (kind : ErrorKind) → HasKind (fault_of gomod_app words) error → kind_of error ≡ kind → kind ≢ OutOfMemory
    → IsAmong kind (fault_of gomod_app words)
asked_among words error kind kinds asked other =
    subst (λ k. IsAmong k (fault_of gomod_app words)) asked (kind_among words error kinds (λ memory. other (sym asked ∙ memory)))

-- a fault of the parser is a fault of the words
pub parser_fault : (words : List Text) (error : Error) (fault : UsageFault) → HasKind (fault_of gomod_app words) error
    → (takes gomod_app words ≡ true → kind_of error ≡ OutOfMemory) → IsParserFault error fault → IsReadFault words fault
parser_fault words error NoMemory kinds passes known = tt
parser_fault words error (Help text) kinds passes known =
    (asked_among words error DisplayHelp kinds known (λ e. cc e), λ taken. let memory = passes taken in cc)
parser_fault words error (Version text) kinds passes known =
    (asked_among words error DisplayVersion kinds known.0 (λ e. cc e), (λ taken. let memory = passes taken in let version = known.0 in cc), known.1)
parser_fault words error (Line text) kinds passes known =
    inl ((λ taken. known.2 (passes taken)), kind_of error, known.0, known.1, kind_among words error kinds known.2)
parser_fault words error (BadPath text) kinds passes known = absurd known
parser_fault words error (BadProxy text) kinds passes known = absurd known

is_simple_and_free-gomod_app : is_simple_and_free gomod_app ≡ true
is_simple_and_free-gomod_app = refl

-- a clause of the parser on a simple program, of this one
pub of_gomod : (app : App) (P : App → Type 0) → app ≡ gomod_app → (is_simple_and_free app ≡ true → P app) → P gomod_app
of_gomod app P same known = subst P same (known (ap is_simple_and_free same ∙ is_simple_and_free-gomod_app))

is_simple-gomod_app : is_simple gomod_app ≡ true
is_simple-gomod_app = refl

-- a parse gives the entries of the words
pub entries_known : (app : App) (words : List Text) (matches : ArgMatches) → app ≡ gomod_app → HasMatchesOf app words matches
    → subcommand_rows_of matches ≡ subcommand_of gomod_app words
entries_known app words matches same known = (subst (λ a. HasMatchesOf a words matches) same known is_simple-gomod_app).1
