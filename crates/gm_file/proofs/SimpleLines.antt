-- Lines that are read without a list of words, in a block of `require` and outside blocks.
use Rattle.std.proofs.Common.{◌≡◌, ℕ, true, false, List, [], ◌∷◌, ◌++◌, codes, Option, Some, None, Result, Ok, Err, is_some, OnOk, refl, sym, subst, append-nil}
use Rattle.std.specs.Prelude.{IfSome}
use Rattle.std.proofs.lemmas.List.{map_push}
use Rattle.std.specs.Str.{bytes_eq}
use Rattle.gm_syntax_words.specs.Words.{Word}
use Rattle.gm_syntax_words.specs.Tokens.{Placed}
use Rattle.gm_syntax.specs.Document.{Line, Blank, Open, Close, Entry}
use Rattle.gm_syntax.specs.LineReading.{HasRead, Unread}
use Rattle.gm_syntax.specs.LineViews.{plain, plain_lines}
use Rattle.gm_syntax.specs.SimpleLines.{bare_word, pair_line, triple_line, IsOpeningRead}
use Rattle.gm_file.specs.declared.dep_lines.DepLines.{DepLines}
use Rattle.gm_file.specs.declared.fault.DirectiveKind.TheVariants.{WrongArguments}
use Rattle.gm_file.specs.declared.fault.LineFault.{LineFault}
use Rattle.gm_file.specs.declared.fault.LineFault.TheVariants as line
use Rattle.gm_file.specs.declared.fields.Fields.{Fields}
use Rattle.gm_file.specs.Private.DepLines.{AreDepLines, HasNextFault, IsNextLineOf}
use Rattle.gm_file.specs.Directives.{Directive, DeclaresGo, DeclaresModule, Item, Kept, Silent, Opening, Saying, Lax, directive_in, directive_of, item_at, verb_in}
use Rattle.gm_file.specs.Faults.{directive_kinds, item_kinds, opening_kinds, pair_kinds, path_kinds}
use Rattle.gm_file.specs.Fields.{first}
use Rattle.gm_file.specs.Private.Holding.{HaveIndexes, Holds, IsLineAdded}
use Rattle.gm_file.specs.Private.Reading.{IsPartRead}
use Rattle.gm_file.specs.Private.SimpleLines.{AreReadSofar, IsLineSaid, TakesSimple, single_item}
use Rattle.gm_file.specs.Private.Requirements.{Requirements}
use Rattle.gm_file.proofs.Arrows.{first-append}
use Rattle.gm_file.proofs.DepReading.{dep-fault, dep-more, level-more, word_of}
use Rattle.gm_file.proofs.Saying.{say-requirement}

-- the content of a line of these two bare words in a block of `require`
abbrev require_item : List ℕ → List ℕ → Item
require_item path version = Saying (codes "require") (bare_word path ∷ bare_word version ∷ [])

-- ---- what such a line says

-- it adds its path and its version, and its kinds are theirs
pub require-added : (old : Fields) (now : Requirements) (path version : List ℕ) (result : Result (Unit {0}) LineFault)
    → OnOk result (now.items ≡ old.requirements.items ++ (path, version) ∷ [])
    → IsPartRead {Y = Unit {0}} (λ _. (path, version)) WrongArguments pair_kinds (Some (path, version)) result
    → IsLineAdded Lax old (record old { requirements = now }) (require_item path version) result
unfolding directive_of directive_kinds
require-added old now path version (Ok u) items told = λ ds holds.
    (rw items (say-requirement holds _), told.1)
require-added old now path version (Err line.NoMemory) items told = tt
require-added old now path version (Err (line.Kind kind)) items told = λ ds holds. told

-- ---- the content of such a line in the open block, which is one of `require`, or outside blocks

pub none-open : (block : Option Placed) → is_some block ≡ false → block ≡ None
none-open None e = refl
none-open (Some verb) e = absurd (cc e)

pub pair-in-block : (block : Option Placed) (path version : List ℕ) (suffix : Option (List ℕ))
    → IfSome block (λ verb. verb.word.spelling ≡ codes "require") → is_some block ≡ true
    → item_at (word_of block, pair_line path version suffix) ≡ require_item path version
unfolding item_at
pair-in-block None path version suffix spelled e = absurd (cc e)
pair-in-block (Some verb) path version suffix spelled e = rw spelled

pub pair-outside : (block : Option Placed) (verb value : List ℕ) (suffix : Option (List ℕ)) → is_some block ≡ false
    → item_at (word_of block, pair_line verb value suffix) ≡ single_item verb value
unfolding item_at
pair-outside None verb value suffix e = refl
pair-outside (Some word) verb value suffix e = absurd (cc e)

pub triple-outside : (block : Option Placed) (path version : List ℕ) (suffix : Option (List ℕ)) → is_some block ≡ false
    → item_at (word_of block, triple_line (codes "require") path version suffix) ≡ require_item path version
unfolding item_at
triple-outside None path version suffix e = refl
triple-outside (Some word) path version suffix e = absurd (cc e)

-- three words in a block of `require` are too many
triple-in-block : (block : Option Placed) (path version : List ℕ) (suffix : Option (List ℕ))
    → IfSome block (λ verb. verb.word.spelling ≡ codes "require") → is_some block ≡ true → (ds : List Directive)
    → first (item_kinds Lax ds (item_at (word_of block, triple_line (codes "require") path version suffix))) ≡ Some WrongArguments
unfolding item_at directive_of
triple-in-block None path version suffix spelled e ds = absurd (cc e)
triple-in-block (Some verb) path version suffix spelled e ds = rw spelled

-- ---- the lines with one more

pub triple-refused : (lines : List (Line Word)) (path version : List ℕ) (suffix : Option (List ℕ)) (old : DepLines)
    → TakesSimple old → is_some old.block ≡ true → AreDepLines lines old
    → HasNextFault lines (triple_line (codes "require") path version suffix) (line.Kind WrongArguments)
triple-refused lines path version suffix old takes opened so =
    dep-fault lines (triple_line (codes "require") path version suffix) (word_of old.block) old old.fields (line.Kind WrongArguments) so refl
    (λ ds holds. triple-in-block _ _ _ _ takes opened _)

module _ (lines : List (Line Word)) (path version : List ℕ) (words : List Word) (suffix : Option (List ℕ)) (old : DepLines)
    (item : item_at (word_of old.block, Entry words suffix) ≡ require_item path version) (so : AreDepLines lines old) where
  requires-more : {fields : Fields} → HaveIndexes fields
      → IsLineAdded Lax old.fields fields (require_item path version) (Ok tt)
      → AreDepLines (lines ++ Entry words suffix ∷ []) (record old { fields = fields })
  requires-more found added =
      let here : Line Word = Entry words suffix in
      dep-more _ _ _ _ _ so refl found (rw item added) refl

  requires-fault : (new : Fields) (fault : LineFault) → IsLineAdded Lax old.fields new (require_item path version)
      (Err fault) → HasNextFault lines (Entry words suffix) fault
  requires-fault new fault told =
      dep-fault _ _ _ _ new _ so refl (subst (λ (i : Item). IsLineAdded Lax old.fields new i (Err fault)) (sym item) told)

  -- a requirement is added, or refused
  pub required-next : (now : Requirements) (result : Result (Unit {0}) LineFault) → HaveIndexes old.fields
      → OnOk result (now.items ≡ old.fields.requirements.items ++ (path, version) ∷ [])
      → IsPartRead {Y = Unit {0}} (λ _. (path, version)) WrongArguments pair_kinds (Some (path, version)) result
      → IsNextLineOf lines (Entry words suffix) (record old { fields = record old.fields { requirements = now } }) result
  required-next now (Ok u) found items told =
      requires-more (record { excludes = found.excludes; replaces = found.replaces })
      (require-added old.fields now path version (Ok _) items told)
  required-next now (Err fault) found items told =
      requires-fault (record old.fields { requirements = now }) _ (require-added old.fields now path version (Err fault) items told)

-- ---- outside blocks

pub single-module : (verb value : List ℕ) → bytes_eq verb (codes "module") ≡ true → directive_in Lax (single_item verb value) ≡ Some (DeclaresModule value)
unfolding directive_of
single-module verb value is = rw is refl

pub single-go : (verb value : List ℕ) → bytes_eq verb (codes "module") ≡ false → bytes_eq verb (codes "go") ≡ true
    → directive_in Lax (single_item verb value) ≡ Some (DeclaresGo value)
unfolding directive_of
single-go verb value a is = rw (a, is) refl

pub single-require : (verb value : List ℕ) → bytes_eq verb (codes "module") ≡ false → bytes_eq verb (codes "go") ≡ false
    → bytes_eq verb (codes "require") ≡ true
    → (ds : List Directive) → first (item_kinds Lax ds (single_item verb value)) ≡ Some WrongArguments
unfolding directive_of
single-require verb value a b is ds = rw (a, b, is) refl

pub single-nothing : (verb value : List ℕ) → bytes_eq verb (codes "module") ≡ false → bytes_eq verb (codes "go") ≡ false
    → bytes_eq verb (codes "require") ≡ false
    → directive_in Lax (single_item verb value) ≡ Some Kept
unfolding directive_of
single-nothing verb value a b c = rw (a, b, c) refl

pub single-bad : (old new : Fields) (verb value : List ℕ) (fault : LineFault) → bytes_eq verb (codes "module") ≡ true
    → IsPartRead {Y = List ℕ} (λ path. path) WrongArguments path_kinds (Some value) (Err fault)
    → IsLineAdded Lax old new (single_item verb value) (Err fault)
unfolding directive_of directive_kinds
single-bad old new verb value line.NoMemory is told = tt
single-bad old new verb value (line.Kind kind) is told = rw is (λ ds holds. first-append _ _ _ told)

pub single-next : (lines : List (Line Word)) (verb value : List ℕ) (suffix : Option (List ℕ)) (old : DepLines)
    (new : Fields) (result : Result (Unit {0}) LineFault) → is_some old.block ≡ false → AreDepLines lines old
    → OnOk result (HaveIndexes new) → IsLineAdded Lax old.fields new (single_item verb value) result
    → IsNextLineOf lines (pair_line verb value suffix) (record old { fields = new }) result
single-next lines verb value suffix old new (Ok u) none so found added =
    dep-more _ _ _ _ _ so refl found (rw (pair-outside _ _ _ _ none) added) refl
single-next lines verb value suffix old new (Err fault) none so found told =
    dep-fault _ _ _ _ new _ so refl
    (subst (λ (i : Item). IsLineAdded Lax old.fields new i (Err fault)) (sym (pair-outside _ _ _ _ none)) told)

-- ---- a simple line that has been read after others

blank-item : (block : Option Word) → item_at (block, Blank) ≡ Silent
unfolding item_at
blank-item block = refl

opening-item : (block : Option Word) (verb : Word) (suffix : Option (List ℕ)) → item_at (block, Open verb suffix) ≡ Opening verb.spelling
unfolding item_at
opening-item block verb suffix = refl

closing-item : (block : Option Word) → item_at (block, Close None) ≡ Silent
unfolding item_at
closing-item block = refl

same-fields : (fields : Fields) {ds : List Directive} → Holds Lax ds fields → Holds Lax (ds ++ []) fields
same-fields fields {ds} holds = rw (append-nil ds) holds

module _ (lines : List (Line Placed)) (left : Unread) (said : DepLines) (so : AreDepLines (plain_lines lines) said) where
  pub blank-said : HasRead left (lines ++ Blank ∷ []) → IsLineSaid left lines said (Ok tt)
  blank-said read = (
    Blank,
    read,
    level-more _ _ _ _ _ (blank-item _) so (λ ds holds. (same-fields said.fields holds, refl)) refl,
  )

  pub opening-said : (verb : Placed) → verb.word.spelling ≡ codes "require" → IsOpeningRead left lines verb
      → IsLineSaid left lines (record said { block = Some verb }) (Ok tt)
  opening-said verb spelled (suffix, read) =
      let kinds : opening_kinds (verb_in Lax verb.word.spelling) ≡ [] = rw spelled in (
        Open verb suffix,
        read,
        level-more _ _ _ _ (Some verb) (opening-item _ _ _) so (λ ds holds. (same-fields said.fields holds, kinds)) refl,
      )

  pub closing-said : HasRead left (lines ++ Close None ∷ []) → IsLineSaid left lines (record said { block = None }) (Ok tt)
  closing-said read = (
    Close None,
    read,
    level-more _ _ _ _ None (closing-item _) so (λ ds holds. (same-fields said.fields holds, refl)) refl,
  )

-- a line of words, whatever its comment
pub words-said : (lines : List (Line Placed)) (left : Unread) (words : Option (List ℕ) → Line Word) (new : DepLines) (result : Result (Unit {0}) LineFault)
    → ((suffix : Option (List ℕ)) → IsNextLineOf (plain_lines lines) (words suffix) new result)
    → (here : Line Placed) × (suffix : Option (List ℕ)) × (plain here ≡ words suffix) × HasRead left (lines ++ here ∷ []) → IsLineSaid left lines new result
words-said lines left words new result told (here, suffix, is, read) = (here, read, rw is (told suffix))

-- one more line has been said
pub sofar-more : (left : Unread) (lines : List (Line Placed)) (said : DepLines) → IsLineSaid left lines said (Ok tt) → AreReadSofar left said
sofar-more left lines said (here, read, so) = (lines ++ here ∷ [], read, rw (map_push _ _ _) so)
