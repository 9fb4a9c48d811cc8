-- The invariant of the loop over the lines.
use Rattle.std.proofs.Common.{◌≡◌, ℕ, ◌+◌, ◌<◌, ◌≤◌, List, [], ◌∷◌, ◌++◌, length, map, take, drop, get_or, Option, Some, None, Ok, Err, refl, sym, ap, ◌∙◌, arith, append-nil}
use Rattle.std.proofs.lemmas.List.{get_or-map, length-map, length-take-le, take-append-drop, take_all, take_more}
use Rattle.std.specs.Option.{option_to_list}
use Rattle.std.specs.List.{filter_map}
use Rattle.gm_syntax_words.specs.Words.{Word}
use Rattle.gm_syntax.specs.Document.{Line}
use Rattle.gm_syntax.specs.LineViews.{line_of, line_views, plain, plain_lines}
use Rattle.gm_syntax.specs.declared.line.Line as declared
use Rattle.gm_file.specs.declared.fault.LineFault.{LineFault}
use Rattle.gm_file.specs.declared.fault.LineFault.TheVariants as line
use Rattle.gm_file.specs.declared.fields.Fields.{Fields}
use Rattle.gm_file.specs.Directives.{Mode, Directive, block_after_lines, block_after_line, directive_in, directives, item_at}
use Rattle.gm_file.specs.Faults.{fault_of, faults}
use Rattle.gm_file.specs.Fields.{first}
use Rattle.gm_file.specs.Private.Holding.{HaveIndexes, AreReadTo, Holds, IsLineAdded}
use Rattle.gm_file.specs.Views.{ReportsFault}
use Rattle.gm_file.specs.Private.Reading.{file_fault_at}
use Rattle.gm_file.proofs.Ordered.{first-reported, item-within}
use Rattle.gm_file.proofs.Snoc.{directives-snoc, faults-snoc}
use Rattle.gm_file.proofs.Told.{kinds_at, reported-at}

pub block-snoc : {W : Type 0} (block : Option W) (lines : List (Line W)) (line : Line W)
    → block_after_lines block (lines ++ line ∷ []) ≡ block_after_line (block_after_lines block lines) line
block-snoc block [] line = refl
block-snoc block (first ∷ lines) line = block-snoc (block_after_line block first) lines line

pub said-once : (mode : Mode) (lines : List (Line Word)) (line : Line Word)
    → directives mode (lines ++ line ∷ []) ≡ directives mode lines ++ option_to_list (directive_in mode (item_at (block_after_lines None lines, line)))
said-once mode lines line = directives-snoc _ _ _ ∙ rw (by _)
  where
    by : (o : Option Directive) → filter_map (λ (x : Option Directive). x) (o ∷ []) ≡ option_to_list o
    by None = refl
    by (Some d) = refl

-- after one more line that has no fault
pub read-more : (mode : Mode) (lines : List (Line Word)) (block : Option Word) (line : Line Word) (old new : Fields)
    → AreReadTo mode lines block old → HaveIndexes new
    → IsLineAdded mode old new (item_at (block, line)) (Ok tt) → AreReadTo mode (lines ++ line ∷ []) (block_after_line block line) new
read-more mode lines block line old new so found added =
    let at : item_at (block, line) ≡ item_at (block_after_lines None lines, line) = rw so.open_is in
    let more = added (directives mode lines) so.read.holds in
    record {
      open_is = rw so.open_is (sym (block-snoc None lines line));
      read = record {
        sound = faults-snoc _ _ _ ∙ rw (rw at at more.1) (append-nil (faults mode lines) ∙ so.read.sound);
        holds = rw (said-once _ _ _) (rw at at more.0);
        found = found;
      };
    }

-- the fault of the next line is reported
pub fault-reported : (mode : Mode) (lines : List (Line Word)) (block : Option Word) (here : Line Word)
    (later all : List (Line Word)) (n : ℕ) (old new : Fields) (fault : LineFault)
    → AreReadTo mode lines block old → n ≡ length lines + 1 → all ≡ (lines ++ here ∷ []) ++ later
    → IsLineAdded mode old new (item_at (block, here)) (Err fault) → ReportsFault mode all (file_fault_at n fault)
fault-reported mode lines block here later all n old new line.NoMemory so number is told = tt
fault-reported mode lines block here later all n old new (line.Kind k) so number is told =
    let at : item_at (block, here) ≡ item_at (block_after_lines None lines, here) = rw so.open_is in
    let kinds : first (kinds_at mode lines here) ≡ Some k =
    rw at at (told (directives mode lines) so.read.holds) in
    let f = first-reported _ (item-within mode (directives mode lines) (item_at (block_after_lines None lines, here))) kinds in
    ap (fault_of mode) is ∙ reported-at _ _ _ _ _ so.read.sound f.0 f.1 ∙ rw (← number)

-- before the first line
pub read-none : (mode : Mode) (f : Fields) → Holds mode [] f → HaveIndexes f → AreReadTo mode [] None f
unfolding faults
read-none mode f holds found = record { open_is = refl; read = record { sound = refl; holds = holds; found = found } }

-- ---- the lines of the program as contracts see them

both-maps : (lines : List declared.Line) → plain_lines (line_views lines) ≡ map (λ l. plain (line_of l)) lines
both-maps [] = refl
both-maps (l ∷ lines) = rw (both-maps lines)

length-lines : (lines : List declared.Line) → length (plain_lines (line_views lines)) ≡ length lines
length-lines lines = ap length (both-maps _) ∙ length-map lines (λ l. plain (line_of l))

-- the lines up to and including the next one
pub lines-next : (lines : List declared.Line) (n : ℕ) (item : declared.Line) → n < length lines → item ≡ get_or lines n item
    → take (n + 1) (plain_lines (line_views lines)) ≡ take n (plain_lines (line_views lines)) ++ plain (line_of item) ∷ []
lines-next lines n item inside is =
    let f : declared.Line → Line Word = λ l. plain (line_of l) in
    rw (both-maps _) (take_more _ _ (f item) (omega (arith, inside, length-map lines f))
    ∙ rw (get_or-map f lines _ _ (f item) inside ∙ ap f (sym is)))

-- the lines are those before the next one, this one, and those after it
pub lines-split : (lines : List declared.Line) (n : ℕ) (item : declared.Line) → n < length lines → item ≡ get_or lines n item
    → plain_lines (line_views lines) ≡ (take n (plain_lines (line_views lines)) ++ plain (line_of item) ∷ []) ++ drop (n + 1) (plain_lines (line_views lines))
lines-split lines n item inside is =
    sym (take-append-drop (n + 1) _) ∙ rw (lines-next _ _ _ inside is)

pub length-before : (lines : List declared.Line) (n : ℕ) → n < length lines → n + 1 ≡ length (take n (plain_lines (line_views lines))) + 1
length-before lines n inside = ap (λ (m : ℕ). m + 1) (sym (length-take-le n _ (omega (arith, inside, length-lines lines))))

pub lines-all : (lines : List declared.Line) (n : ℕ) → length lines ≤ n → take n (plain_lines (line_views lines)) ≡ plain_lines (line_views lines)
lines-all lines n le = take_all n (plain_lines (line_views lines)) (omega (arith, le, length-lines lines))
