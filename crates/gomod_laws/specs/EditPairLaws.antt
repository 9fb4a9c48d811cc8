-- Two operations of `edit`: one that the other undoes, and two in either order (go help mod edit).
use Rattle.std.specs.Prelude.{◌≡◌, ◌≤◌, ◌++◌, ◌∷◌, ℕ, List, [], Option, None, Some, String, false, length, true}
use Rattle.std.specs.Global.{Global, Vec}
use Rattle.std.specs.List.{list_any}
use Rattle.gm_syntax_words.specs.Tokens.{Placed}
use Rattle.gm_syntax.specs.Document.{Line}
use Rattle.gm_file_edit.specs.About.{about}
use Rattle.gm_file_edit.specs.Edits.{Edit as Operation, edit_in}
use Rattle.gm_file_edit.specs.Kinds.{is_fit}
use Rattle.gm_file_edit_laws.specs.Laws.{AreApart, directives_of}
use Rattle.gm_file_edit_laws.specs.UndoingEdits.{undone_by}
use Rattle.gm_store_parts.specs.Asked.{Name, Reply}
use Rattle.gm_file.specs.Main.{IsMainOf}
use Rattle.gomod_texts.specs.Outcome.{Outcome, text_outcome}
use Rattle.gomod_texts.specs.Queries.{longest}
use Rattle.gomod_texts.specs.QueryLaws.{AnswerAlike}
use Rattle.gomod_words.specs.Usage.{texts_in}
use Rattle.gomod_words.specs.declared.usage.Command.{Command}
use Rattle.gomod_words.specs.declared.usage.Command.TheVariants.{Fmt, Edit}
use Rattle.gomod_outcomes.specs.Runs.{is_query}
use Rattle.gomod_laws.specs.Runs.{HasOutcome, IsEdited}

-- ---- an operation undone

-- The operations are two: one, and the drop of the directive that it puts in.
pub record ArePutAndDrop (operations : Vec (String Global)) (put : Operation) : Type 0 where
  pub first : List ℕ
  pub second : List ℕ
  pub undo : Operation
  pub given : texts_in operations ≡ first ∷ second ∷ []
  pub puts : edit_in first ≡ Some put
  pub drops : edit_in second ≡ Some undo
  pub undoes : undone_by put ≡ Some undo

-- a valid main file has no directive that the operation targets
pub record TargetsNone (operation : Operation) (file : List ℕ) : Type 0 where
  pub lines : List (Line Placed)
  pub is_main : IsMainOf file lines
  pub none : list_any (about operation) (directives_of lines) ≡ false

-- both print, and the same
abbrev pub PrintTheSame : Outcome → Outcome → Type 0
PrintTheSame one other = (one ≡ other) × (text : List ℕ) × (one ≡ text_outcome text)

-- With two such operations, of which the first targets nothing in the file, `edit` prints what `fmt` prints, if the
-- versions that the first puts in fit their paths.
abbrev pub UndoneIsFormatted : Type 0
UndoneIsFormatted = (operations : Vec (String Global)) (put : Operation) (file : List ℕ) (edited formatted : Outcome)
    → ArePutAndDrop operations put → is_fit put ≡ true → TargetsNone put file
    → HasOutcome (Edit operations) file None [] edited → HasOutcome Fmt file None [] formatted
    → PrintTheSame edited formatted

-- ---- two operations in either order

-- The operations are the same but for the last two, whose order differs.
pub record SwapLastTwo (operations swapped : Vec (String Global)) (one other : Operation) : Type 0 where
  pub earlier : List (List ℕ)
  pub first : List ℕ
  pub second : List ℕ
  pub given : texts_in operations ≡ earlier ++ first ∷ second ∷ []
  pub in_other_order : texts_in swapped ≡ earlier ++ second ∷ first ∷ []
  pub first_is : edit_in first ≡ Some one
  pub second_is : edit_in second ≡ Some other

-- If no directive is one that both of the last two operations target, and `edit` prints in both orders, `list`,
-- `graph` and `chain` come to the same over both texts, if these have at most 16,777,216 bytes.
abbrev pub EitherOrderChangesNoBuild : Type 0
EitherOrderChangesNoBuild = (command : Command) (operations swapped : Vec (String Global)) (one other : Operation)
    (file text also : List ℕ) (sums : Option (List ℕ)) (asked answered : List (Name × Reply)) (before after : Outcome)
    → is_query command ≡ true → SwapLastTwo operations swapped one other → AreApart one other
    → IsEdited operations file text → IsEdited swapped file also → length text ≤ longest → length also ≤ longest
    → AnswerAlike asked answered
    → HasOutcome command text sums asked before → HasOutcome command also sums answered after
    → before ≡ after
