-- The steps of reading a dependency's file from its bytes.
use Rattle.std.proofs.Common.{◌≡◌, ℕ, ◌+◌, List, [], ◌∷◌, ◌++◌, length, Option, Some, None, Ok, Err, inl, inr, refl, sym, ap, ◌∙◌, arith, Bor}
use Rattle.std.proofs.lemmas.List.{length-append, length-map, map-append, map_push}
use Rattle.std.specs.Prelude.{unwrap_or}
use Rattle.std.specs.Option.{option_copied, option_map}
use Rattle.gm_syntax_words.specs.Words.{Word}
use Rattle.gm_syntax_words.specs.Tokens.{Placed}
use Rattle.gm_syntax_words.specs.declared.fault.SyntaxFault.{SyntaxFault}
use Rattle.gm_syntax_words.specs.declared.fault.SyntaxFault.TheVariants as syntax
use Rattle.gm_syntax.specs.Document.{Line}
use Rattle.gm_syntax.specs.LineViews.{plain, plain_lines}
use Rattle.gm_syntax.specs.Parsed.{IsFaultOrNoMemory, IsParsedAs}
use Rattle.gm_syntax.specs.LineReading.{IsRestRead, Unread}
use Rattle.gm_file.specs.declared.dep_lines.DepLines.{DepLines}
use Rattle.gm_file.specs.declared.fault.FileFault.{FileFault}
use Rattle.gm_file.specs.declared.fault.FileFault.TheVariants as file
use Rattle.gm_file.specs.declared.fault.LineFault.{LineFault}
use Rattle.gm_file.specs.declared.fault.LineFault.TheVariants as line
use Rattle.gm_file.specs.declared.fields.Fields.{Fields}
use Rattle.gm_file.specs.DepLines.{IsDependencyIn}
use Rattle.gm_file.specs.Private.DepLines.{AreAllRead, AreDepLines, HasNextFault}
use Rattle.gm_file.specs.BytesFaults.{fault_by_file, fault_by_syntax}
use Rattle.gm_file.specs.Directives.{Item, Lax, Mode, block_after_line, item_at}
use Rattle.gm_file.specs.Faults.{fault_of}
use Rattle.gm_file.specs.Fields.{Dependency}
use Rattle.gm_file.specs.Private.Holding.{HaveIndexes, AreReadTo, Holds, IsLineAdded}
use Rattle.gm_file.specs.Misreading.{IsBytesFault}
use Rattle.gm_file.specs.Views.{ReportsFault}
use Rattle.gm_file.specs.Private.Reading.{file_fault_at}
use Rattle.gm_file.proofs.Lines.{fault-reported, read-more, read-none}
use Rattle.gm_file.proofs.Whole.{dependency, dependency-is, lax-sound}

-- the word of a block's verb
abbrev pub word_of : Option Placed → Option Word
word_of block = option_map (λ t. t.word) block

pub word-behind : (block : Option (Bor Placed)) → option_map (λ t. t.now.word) block ≡ word_of (option_copied block)
word-behind None = refl
word-behind (Some t) = refl

-- before the first line
pub dep-none : (fields : Fields) → Holds Lax [] fields → HaveIndexes fields → AreDepLines [] (record { block = None; fields = fields })
dep-none fields holds found = read-none _ _ holds found

-- one more line without a fault
pub dep-more : (lines : List (Line Word)) (here : Line Word) (block : Option Word) (old new : DepLines)
    → AreDepLines lines old → block ≡ word_of old.block → HaveIndexes new.fields
    → IsLineAdded Lax old.fields new.fields (item_at (block, here)) (Ok tt)
    → word_of new.block ≡ block_after_line (word_of old.block) here
    → AreDepLines (lines ++ here ∷ []) new
dep-more lines here block old new so is found added after =
    let read : AreReadTo Lax lines block old.fields = rw is so in
    let now : word_of new.block ≡ block_after_line block here = after ∙ rw (← is) in
    rw now (read-more _ _ _ _ _ _ read found added)

-- the next line has a fault
pub dep-fault : (lines : List (Line Word)) (here : Line Word) (block : Option Word) (old : DepLines) (new : Fields)
    (fault : LineFault) → AreDepLines lines old → block ≡ word_of old.block
    → IsLineAdded Lax old.fields new (item_at (block, here)) (Err fault) → HasNextFault lines here fault
dep-fault lines here block old new fault so is told = λ later.
    let read : AreReadTo Lax lines block old.fields = rw is so in
    fault-reported _ _ _ _ _ _ _ _ new _ read refl refl told

-- a fault of the text comes first
pub misread-syntax : (mode : Mode) (bytes : List ℕ) (fault : SyntaxFault) → IsParsedAs bytes (Err fault) → IsBytesFault mode bytes (fault_by_syntax fault)
misread-syntax mode bytes syntax.NoMemory is = tt
misread-syntax mode bytes syntax.TooMany is = (refl, is)
misread-syntax mode bytes syntax.NotUtf8 is = (refl, is)
misread-syntax mode bytes (syntax.Syntax number kind) is = is

-- that fault, or that memory ran out
pub misread-text : (mode : Mode) (bytes : List ℕ) (fault : SyntaxFault) → IsFaultOrNoMemory bytes fault → IsBytesFault mode bytes (fault_by_syntax fault)
misread-text mode bytes fault (inl is) = misread-syntax _ _ _ is
misread-text mode bytes fault (inr none) = rw none tt

-- a fault of the directives of bytes that are a document
pub misread-file : (mode : Mode) (bytes : List ℕ) (lines : List (Line Placed)) (fault : FileFault)
    → IsParsedAs bytes (Ok lines) → ReportsFault mode (plain_lines lines) fault
    → IsBytesFault mode bytes (fault_by_file fault)
misread-file mode bytes lines file.NoMemory is tells = tt
misread-file mode bytes lines (file.Directive number kind) is tells = (lines, is, tells)

-- where the rest of the text has no fault, that of the line is the fault of the bytes
pub misread-line : (left : Unread) (lines : List (Line Placed)) (here : Line Placed) (number : ℕ) (fault : LineFault)
    → number ≡ length (lines ++ here ∷ []) → HasNextFault (plain_lines lines) (plain here) fault → IsRestRead left (lines ++ here ∷ []) (Ok tt)
    → IsBytesFault Lax left.source (fault_by_file (file_fault_at number fault))
misread-line left lines here number line.NoMemory is told rest = tt
misread-line left lines here number (line.Kind kind) is told rest =
    let same : length (plain_lines lines) + 1 ≡ number = omega (arith, is, length-append lines (here ∷ []), length-map lines plain) in (
      (lines ++ here ∷ []) ++ rest.0,
      rest.2,
      ap (fault_of Lax) (map-append _ _ _ ∙ ap (λ (ls : List (Line Word)). ls ++ plain_lines rest.0) (map_push _ _ _))
          ∙ told (plain_lines rest.0) ∙ rw same,
    )

-- all lines have been read
pub dep-whole : (bytes : List ℕ) (said : DepLines) (file : Dependency) → AreAllRead bytes said
    → file ≡ dependency said.fields.declared (unwrap_or said.fields.go (1, 16)) said.fields.requirements.items → IsDependencyIn bytes file
dep-whole bytes said file all is = (
  all.0,
  all.1,
  lax-sound _ _ all.2.read,
  sym (is ∙ dependency-is _ _ _ all.2.read refl),
)

-- a line that says nothing but may open or close a block, without a fault
pub level-more : (lines : List (Line Word)) (here : Line Word) (item : Item) (old : DepLines) (block : Option Placed)
    → item_at (word_of old.block, here) ≡ item → AreDepLines lines old
    → IsLineAdded Lax old.fields old.fields item (Ok tt) → word_of block ≡ block_after_line (word_of old.block) here
    → AreDepLines (lines ++ here ∷ []) (record old { block = block })
level-more lines here item old block is so added after =
    dep-more _ _ _ _ _ so refl so.read.found (rw is added) after
