-- Sinks before and after small runs, and files before and after they were read, on which the definitions of what is
-- written and read are tried. Whatever is refused here breaks at least one part of its definition.
use Rattle.std.specs.Prelude.{◌≡◌, ◌⊎◌, ◌∷◌, ◌<◌, ◌-◌, ◌^◌, ℕ, Bool, List, [], Some, None, Ok, Err, codes, false, length, true}
use Rattle.std.specs.Global.{Vec}
use Rattle.std.specs.declared.io.ErrorKind.{ErrorKind}
use Rattle.std.specs.declared.io.ErrorKind.TheVariants.{NotFound, OutOfMemory}
use Rattle.gm_store_parts.specs.Asked.{list_file, mod_file}
use Rattle.gm_store_parts.specs.Faults.{HasCountedFailure}
use Rattle.gm_store_parts.specs.Openings.{IsReadFrom, Opening, opened, refused as unopened}
use Rattle.gm_store_parts.specs.Taken.{SinkState}
use Rattle.gm_store_parts.specs.declared.reading.ReadFault.TheVariants.{Device, NoMemory}
use Rattle.gomod_run.specs.Program.{FileGives, IsInput, IsProgramOutcome, IsUnread, any_input, anything, file_in_memory, usage_error}
use Rattle.gomod_texts.specs.Taking.{TookAll, TookPrefix}
use Rattle.gomod_texts.specs.Outcome.{Outcome, failure_outcome, out_of_memory, text_outcome, refusal_outcome}
use Rattle.gomod_words.specs.Usage.{unreadable_text, version_line}
use Rattle.gomod_run.specs.Written.{EndsAsStated, IsWritten, WroteBoth, WrotePrefix}

-- ---- the texts and the sinks

-- what a run prints, and what another prints
abbrev pub text : List ℕ
text = codes "m\n"

abbrev pub other : List ℕ
other = codes "n\n"

-- what a run reports
abbrev pub bad_line : List ℕ
bad_line = codes "go.mod:1: BadLine\n"

-- a sink that took these bytes, has room for so many more, and failed so often
abbrev pub sink : List ℕ → ℕ → ℕ → SinkState
sink taken room faults = record { taken = Some taken; room = Some room; faults = faults }

-- one that tells what it took, and not how much room it has
abbrev pub boundless : List ℕ → ℕ → SinkState
boundless taken faults = record { taken = Some taken; room = None; faults = faults }

-- one that tells neither, as a terminal
abbrev pub terminal : ℕ → SinkState
terminal faults = record { taken = None; room = None; faults = faults }

-- a sink with room for 20 bytes; after it took the text, another, or the report
abbrev pub empty : SinkState
empty = sink [] 20 0

abbrev pub with_text : SinkState
with_text = sink text 18 0

abbrev pub with_other : SinkState
with_other = sink other 18 0

abbrev pub with_bad_line : SinkState
with_bad_line = sink bad_line 2 0

-- a sink with room for one byte, and after it failed to take the text
abbrev pub small : SinkState
small = sink [] 1 0

abbrev pub small_after : SinkState
small_after = sink (codes "m") 0 1

-- the same of the report
abbrev pub small_reported : SinkState
small_reported = sink (codes "g") 0 1

-- ---- a sink

-- A failure is counted if the count rises, or stands at its maximum.
pub record FailureIsCounted : Type 0 where
  pub counted : HasCountedFailure 0 1
  pub greatest : HasCountedFailure (2 ^ 64 - 1) (2 ^ 64 - 1)
  pub uncounted : ¬ (HasCountedFailure 0 0)
  pub fallen : ¬ (HasCountedFailure 1 0)

-- A text is taken whole if the sink has it after what it had, with as much less room, and its count of failures
-- doesn't fall.
pub record TextIsTaken : Type 0 where
  pub took : TookAll empty with_text text
  pub after : TookAll (sink (codes "a") 20 1) (sink (codes "am\n") 18 1) text
  pub by_terminal : TookAll (terminal 0) (terminal 0) text
  -- the bytes: none, those of another text, less than was there, or not told any more
  pub nothing : ¬ (TookAll empty (sink [] 18 0) text)
  pub another : ¬ (TookAll empty with_other text)
  pub lost : ¬ (TookAll (sink (codes "a") 20 0) with_text text)
  pub untold : ¬ (TookAll empty (record { taken = None; room = Some 18; faults = 0 }) text)
  -- the room: as before, too small, or told only afterwards
  pub same_room : ¬ (TookAll empty (sink text 20 0) text)
  pub too_small : ¬ (TookAll small (sink text 0 0) text)
  pub told_later : ¬ (TookAll (terminal 0) (record { taken = None; room = Some 18; faults = 0 }) text)
  -- the count
  pub fallen : ¬ (TookAll (sink [] 20 1) with_text text)

-- A prefix is taken if the sink fails, and if it tells its room, exactly what fits.
pub record PrefixIsTaken : Type 0 where
  pub took : TookPrefix small small_after text
  pub by_boundless : TookPrefix (boundless [] 0) (boundless (codes "m") 1) text
  pub by_terminal : TookPrefix (terminal 0) (terminal 1) text
  -- the bytes: those of another text, or less than fits
  pub another : ¬ (TookPrefix (boundless [] 0) (boundless (codes "n") 1) text)
  pub fewer : ¬ (TookPrefix small (sink [] 0 1) text)
  -- the room: all of it fits
  pub fits : ¬ (TookPrefix (sink [] 2 0) (sink text 0 1) text)
  -- the count
  pub uncounted : ¬ (TookPrefix small (sink (codes "m") 0 0) text)

-- ---- the output and the report

-- Both texts are written if each sink took its own.
pub record BothAreWritten : Type 0 where
  pub wrote : WroteBoth text bad_line empty with_text empty with_bad_line
  pub other_text : ¬ (WroteBoth text bad_line empty with_other empty with_bad_line)
  pub no_text : ¬ (WroteBoth text bad_line empty empty empty with_bad_line)
  pub no_line : ¬ (WroteBoth text bad_line empty with_text empty empty)
  pub swapped : ¬ (WroteBoth [] bad_line empty with_bad_line empty empty)

-- A prefix is written if the output failed, and nothing was reported; or if the output took the text, and the report
-- failed.
pub record PrefixIsWritten : Type 0 where
  pub output_failed : WrotePrefix text bad_line small small_after empty empty
  pub report_failed : WrotePrefix text bad_line empty with_text small small_reported
  pub goes_on : ¬ (WrotePrefix text bad_line small small_after empty with_bad_line)
  pub lost_text : ¬ (WrotePrefix text bad_line empty empty small small_reported)
  pub other_text : ¬ (WrotePrefix text bad_line empty with_other small small_reported)
  pub none_failed : ¬ (WrotePrefix text bad_line empty with_text empty with_bad_line)

-- An outcome is written with its status, or cut with status 3.
pub record OutcomeIsWritten : Type 0 where
  pub prints : IsWritten (text_outcome text) empty with_text empty empty 0
  pub reports : IsWritten (refusal_outcome bad_line) empty empty empty with_bad_line 1
  pub output_failed : IsWritten (text_outcome text) small small_after empty empty 3
  pub report_failed : IsWritten (refusal_outcome bad_line) empty empty small small_reported 3
  -- the status: another one, that of the outcome after a sink failed, or 3 though none did
  pub other_status : ¬ (IsWritten (text_outcome text) empty with_text empty empty 1)
  pub done_after_failure : ¬ (IsWritten (text_outcome text) small small_after empty empty 0)
  pub refused_after_failure : ¬ (IsWritten (refusal_outcome bad_line) empty empty small small_reported 1)
  pub device_unfailed : ¬ (IsWritten (text_outcome text) empty with_text empty empty 3)
  -- whatever the status: nothing is printed, or another text; the report goes to the output, or to both; or there is
  -- one beside a text
  pub nothing : (status : ℕ) → ¬ (IsWritten (text_outcome text) empty empty empty empty status)
  pub other_text : (status : ℕ) → ¬ (IsWritten (text_outcome text) empty with_other empty empty status)
  pub not_reported : (status : ℕ) → ¬ (IsWritten (refusal_outcome bad_line) empty empty empty empty status)
  pub to_output : (status : ℕ) → ¬ (IsWritten (refusal_outcome bad_line) empty with_bad_line empty empty status)
  pub to_both : (status : ℕ) → ¬ (IsWritten (refusal_outcome bad_line) empty with_bad_line empty with_bad_line status)
  pub beside_text : (status : ℕ) → ¬ (IsWritten (text_outcome text) empty with_text empty with_bad_line status)

-- the runs whose one outcome is that the text is printed
abbrev pub PrintsText : Outcome → Type 0
PrintsText outcome = outcome ≡ text_outcome text

-- the report that memory ran out, on a sink
abbrev pub with_no_memory : SinkState
with_no_memory = sink (codes "gomod: no memory\n") 3 0

-- A run ends with an outcome that is stated, or without memory.
pub record EndIsStated : Type 0 where
  pub prints : EndsAsStated PrintsText empty with_text empty empty 0
  pub no_memory : EndsAsStated PrintsText empty empty empty with_no_memory 3
  -- whatever the status: another text, a report, or nothing
  pub other_text : (status : ℕ) → ¬ (EndsAsStated PrintsText empty with_other empty empty status)
  pub reports : (status : ℕ) → ¬ (EndsAsStated PrintsText empty empty empty with_bad_line status)
  pub nothing : (status : ℕ) → ¬ (EndsAsStated PrintsText empty empty empty empty status)
  pub done_without_memory : ¬ (EndsAsStated PrintsText empty empty empty with_no_memory 0)

-- ---- reading

-- A file that was opened gives its bytes, up to 16,777,217, unless a read of it may fail or memory runs out. One that
-- was not gives none, and memory ran out if and only if the system says so.
pub record FileIsRead : Type 0 where
  pub given : (bytes : Vec ℕ) → bytes.items ≡ text → IsReadFrom (opened (Some text) false) (Ok bytes)
  pub another : (bytes : Vec ℕ) → bytes.items ≡ other → ¬ (IsReadFrom (opened (Some text) false) (Ok bytes))
  pub cut : (bytes : Vec ℕ) → bytes.items ≡ codes "m" → ¬ (IsReadFrom (opened (Some text) false) (Ok bytes))
  pub too_many : (all : List ℕ) (bytes : Vec ℕ) → 16777217 < length all → bytes.items ≡ all
      → ¬ (IsReadFrom (opened (Some all) false) (Ok bytes))
  pub fails : IsReadFrom (opened (Some text) true) (Err Device)
  pub unfailing : ¬ (IsReadFrom (opened (Some text) false) (Err Device))
  pub out_of_memory : IsReadFrom (opened (Some text) false) (Err NoMemory)
  pub not_found : IsReadFrom (unopened NotFound) (Err Device)
  pub no_memory : IsReadFrom (unopened OutOfMemory) (Err NoMemory)
  pub not_opened : (kind : ErrorKind) (bytes : Vec ℕ) → ¬ (IsReadFrom (unopened kind) (Ok bytes))
  pub not_memory : ¬ (IsReadFrom (unopened NotFound) (Err NoMemory))
  pub not_device : ¬ (IsReadFrom (unopened OutOfMemory) (Err Device))

-- ---- standard input

-- What comes of taking it if it is the text. The flag says whether a read of it may fail.
abbrev pub IsInputText : Bool → Opening → Type 0
IsInputText may_fail opening = opening ≡ opened (Some text) may_fail

-- the module whose list it is
abbrev pub path : List ℕ
path = codes "m"

-- what a FILE gives if `-` is this input
abbrev pub WithInput : Bool → List ℕ → Opening → Type 0
WithInput may_fail = FileGives anything (IsInputText may_fail)

-- It can't be read if that is reported under the name `-`, and a read of it may fail.
pub record InputIsUnread : Type 0 where
  pub device : IsUnread (WithInput true) (Some (codes "-")) (failure_outcome (codes "gomod: cannot read -\n"))
  pub no_memory : ¬ (IsUnread (WithInput true) (Some (codes "-")) out_of_memory)
  pub unfailing : ¬ (IsUnread (WithInput false) (Some (codes "-")) (failure_outcome (codes "gomod: cannot read -\n")))
  pub other_name : ¬ (IsUnread (WithInput true) (Some (codes "-")) (failure_outcome (codes "gomod: cannot read m\n")))
  pub other_status : ¬ (IsUnread (WithInput true) (Some (codes "-")) (refusal_outcome (codes "gomod: cannot read -\n")))
  pub prints : ¬ (IsUnread (WithInput true) (Some (codes "-")) (text_outcome text))

-- A store has it if it answers with its bytes for the list of the module, and for nothing else. A store without it
-- answers nothing.
pub record InputIsHeld : Type 0 where
  pub given : (list : Vec ℕ) → list.items ≡ text → IsInput (WithInput false) (Some (codes "-")) (Some list)
  pub another : (list : Vec ℕ) → list.items ≡ other → ¬ (IsInput (WithInput false) (Some (codes "-")) (Some list))
  pub cut : (list : Vec ℕ) → list.items ≡ codes "m" → ¬ (IsInput (WithInput false) (Some (codes "-")) (Some list))
  pub nothing : ¬ (IsInput (WithInput false) (Some (codes "-")) None)
  pub unnamed : (list : Vec ℕ) → ¬ (IsInput (WithInput false) None (Some list))
  pub held : (list : Vec ℕ) → file_in_memory (Some path) (Some list) (list_file path) ≡ Some list.items
  pub other_list : (list : Vec ℕ) → file_in_memory (Some path) (Some list) (list_file (codes "n")) ≡ None
  pub other_file : (list : Vec ℕ) → file_in_memory (Some path) (Some list) (mod_file path (codes "v1.0.0")) ≡ None
  pub empty : (list : Vec ℕ) → file_in_memory None (Some list) (list_file path) ≡ None

-- ---- the words

-- the one word `--version`, and two words that are not UTF-8, since no character has the byte 255 or 254
abbrev pub version_flag : List ℕ
version_flag = codes "--version"

abbrev pub unreadable : List ℕ
unreadable = 255 ∷ []

abbrev pub also_unreadable : List ℕ
also_unreadable = 254 ∷ []

-- what the program does with words that are known, of which none are its own name
abbrev pub EndsBy : List (List ℕ) → Outcome → Type 0
EndsBy words outcome = IsProgramOutcome anything any_input (Some words) outcome

-- A word that was given counts, and so does the first that is not UTF-8. Without a word nothing is printed.
pub record WordsAreGiven : Type 0 where
  pub version : (outcome : Outcome) → EndsBy (version_flag ∷ []) outcome
      → (outcome ≡ text_outcome version_line) ⊎ (outcome ≡ out_of_memory)
  pub dropped : (outcome : Outcome) → outcome.status ≡ 2 → ¬ (EndsBy (version_flag ∷ []) outcome)
  pub made_up : (line : List ℕ) → ¬ (line ≡ []) → ¬ (EndsBy [] (text_outcome line))
  pub shown : EndsBy (unreadable ∷ version_flag ∷ []) (usage_error (unreadable_text unreadable))
  pub passed_over : ¬ (EndsBy (unreadable ∷ version_flag ∷ []) (text_outcome version_line))
  pub not_last : ¬ (EndsBy (unreadable ∷ also_unreadable ∷ []) (usage_error (unreadable_text also_unreadable)))
