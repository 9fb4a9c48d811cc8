-- The retractions of a dependency's file.
use Rattle.std.proofs.Common.{◌≡◌, ℕ, Bool, true, false, List, [], ◌∷◌, ◌++◌, codes, Option, Some, None, Ok, refl, sym, ap, ◌∙◌}
use Rattle.std.specs.Prelude.{if◌then◌else◌, option_and_then}
use Rattle.std.specs.Option.{option_map, option_to_list}
use Rattle.std.proofs.lemmas.List.Elements.{filter_map-append}
use Rattle.std.specs.Cmp.Lexicographic.{same_text}
use Rattle.std.specs.List.{cons_option, filter_map}
use Rattle.std.specs.Str.{bytes_eq}
use Rattle.gm_syntax_words.specs.Words.{Word}
use Rattle.gm_syntax_words.specs.Tokens.{Placed}
use Rattle.gm_syntax.specs.Document.{Line}
use Rattle.gm_syntax.specs.LineReading.{HasRead, Unread}
use Rattle.gm_syntax.specs.LineViews.{plain, plain_lines}
use Rattle.std.proofs.lemmas.List.{map_push}
use Rattle.gm_file.specs.declared.verb.Verb.{Verb}
use Rattle.gm_file.specs.declared.verb.Verb.TheVariants.{Module as ForModule, Go as ForGo, Require as ForRequire, Exclude as ForExclude, Replace as ForReplace, Retract as ForRetract, Nothing as ForNothing, Unknown}
use Rattle.gm_file.specs.Directives.{Strict, VersionInterval, Directive, DeclaresModule, DeclaresGo, Requires, Excludes, Replaces, Retracts, Item, Saying, block_after_lines, block_after_line, directive_in, directive_of, directives, item_at, main_verb, one_of, pair_of, replacing_of}
use Rattle.gm_file.specs.declared.fault.DirectiveKind.TheVariants.{WrongArguments}
use Rattle.gm_file.specs.declared.fault.LineFault.TheVariants as line
use Rattle.gm_file.specs.Faults.{ends_kinds}
use Rattle.gm_file.specs.Fields.{lax_retracts_of, valid_ends, valid_interval}
use Rattle.gm_file.specs.Private.Reading.{IsPartRead}
use Rattle.gm_file.specs.Private.Retracting.{AreRetracted, AreRetractionsOf, retraction_at, retraction_in}
use Rattle.gm_file.specs.declared.retractions.Retractions.{Retractions}
use Rattle.gm_file.specs.declared.replace.Interval.{Interval}
use Rattle.gm_file.specs.Views.{interval_view, interval_views}
use Rattle.gm_file.proofs.DepReading.{word_of}
use Rattle.gm_file.proofs.Lines.{block-snoc, said-once}

is_retract : Verb → Bool
is_retract ForRetract = true
is_retract _ = false

none-of : {X : Type 0} (f : X → Directive) → ((x : X) → valid_interval (f x) ≡ None) → (o : Option X) → option_and_then valid_interval (option_map f o) ≡ None
none-of f none None = refl
none-of f none (Some x) = none x

other-verb : (verb : Verb) (words : List Word) → is_retract verb ≡ false → option_and_then valid_interval (directive_of verb words) ≡ None
unfolding directive_of is_retract
other-verb ForModule words e = none-of DeclaresModule (λ _. refl) (one_of words)
other-verb ForGo words e = none-of DeclaresGo (λ _. refl) (one_of words)
other-verb ForRequire words e = none-of Requires (λ _. refl) (pair_of words)
other-verb ForExclude words e = none-of Excludes (λ _. refl) (pair_of words)
other-verb ForReplace words e = none-of Replaces (λ _. refl) (replacing_of words)
other-verb ForRetract words e = absurd (cc e)
other-verb ForNothing words e = refl
other-verb Unknown words e = refl

verb-by : (a b c d e k : Bool) → is_retract (if a then ForModule
    else (if b then ForGo else (if c then ForRequire else
    (if d then ForExclude else (if e then ForReplace else (if k then ForNothing else Unknown)))))) ≡ false
unfolding is_retract
verb-by true b c d e k = refl
verb-by false true c d e k = refl
verb-by false false true d e k = refl
verb-by false false false true e k = refl
verb-by false false false false true k = refl
verb-by false false false false false true = refl
verb-by false false false false false false = refl

not-retract : (text : List ℕ) → bytes_eq text (codes "retract") ≡ false → is_retract (main_verb text) ≡ false
not-retract text e =
    rw e (verb-by _ _ _ _ _ _)

-- an entry with another verb retracts nothing
pub other-retracts : (item : Item) (verb : List ℕ) (words : List Word) → item ≡ Saying verb words
    → bytes_eq verb (codes "retract") ≡ false → None ≡ retraction_at item
other-retracts item verb words is other = sym (ap retraction_at is ∙ other-verb _ words (not-retract verb other))

and-map : (o : Option VersionInterval) → option_and_then valid_interval (option_map Retracts o) ≡ option_and_then valid_ends o
and-map None = refl
and-map (Some ends) = refl

-- an entry with the verb `retract` retracts the interval that its arguments spell
pub retract-retracts : (item : Item) (verb : List ℕ) (words : List Word) → item ≡ Saying verb words
    → bytes_eq verb (codes "retract") ≡ true → retraction_in words ≡ retraction_at item
unfolding directive_of
retract-retracts item verb words is same =
    let e : verb ≡ codes "retract" = same_text _ _ (sym same) in
    sym (ap retraction_at is ∙ rw e (and-map _))

to-list : (o : Option Directive) → filter_map valid_interval (option_to_list o) ≡ option_to_list (option_and_then valid_interval o)
to-list None = refl
to-list (Some d) = by _
  where
    by : (o : Option VersionInterval) → cons_option o [] ≡ option_to_list o
    by None = refl
    by (Some p) = refl

-- the intervals that lines retract, after one more line
retracts-snoc : (lines : List (Line Word)) (line : Line Word)
    → lax_retracts_of (lines ++ line ∷ []) ≡ lax_retracts_of lines
    ++ option_to_list (retraction_at (item_at (block_after_lines None lines, line)))
retracts-snoc lines line =
    ap (filter_map valid_interval) (said-once Strict _ _)
    ∙ filter_map-append valid_interval (directives Strict lines) (option_to_list (directive_in Strict (item_at (block_after_lines None lines, line))))
    ∙ rw (to-list _)

-- after one more line
pub retracted-more : (lines : List (Line Word)) (block : Option Word) (line : Line Word)
    (intervals more : List VersionInterval) → AreRetracted lines block intervals
    → more ≡ intervals ++ option_to_list (retraction_at (item_at (block, line))) → AreRetracted (lines ++ line ∷ []) (block_after_line block line) more
retracted-more lines block line intervals more so is = record {
  open_is = rw so.open_is (sym (block-snoc None lines line));
  are = is ∙ rw so.are (rw so.open_is (sym (retracts-snoc _ _)));
}

pub retractions-more : (lines : List (Line Word)) (here : Line Word) (block : Option Word) (old new : Retractions)
    → AreRetractionsOf lines old → block ≡ word_of old.block
    → interval_views new.intervals.items ≡ interval_views old.intervals.items ++ option_to_list (retraction_at (item_at (block, here)))
    → word_of new.block ≡ block_after_line (word_of old.block) here → AreRetractionsOf (lines ++ here ∷ []) new
retractions-more lines here block old new so is added after =
    let intervals = interval_views old.intervals.items in
    let more = interval_views new.intervals.items in
    let before : AreRetracted lines block intervals = rw is so in
    let now : word_of new.block ≡ block_after_line block here = after ∙ rw (← is) in
    rw now (retracted-more _ _ _ _ _ before added)

-- some lines of a text have been read, and these are their retractions
abbrev pub AreRetractedSofar : Unread → Retractions → Type 0
AreRetractedSofar left said = (lines : List (Line Placed)) × HasRead left lines × AreRetractionsOf (plain_lines lines) said

-- after one more line
pub retracted-sofar : (left : Unread) (lines : List (Line Placed)) (here : Line Placed) (said : Retractions) → HasRead left (lines ++ here ∷ [])
    → AreRetractionsOf (plain_lines lines ++ plain here ∷ []) said → AreRetractedSofar left said
retracted-sofar left lines here said read so = (lines ++ here ∷ [], read, rw (map_push _ _ _) so)

-- an interval that was read
pub ends-read : (part : Option VersionInterval) (interval : Interval)
    → IsPartRead interval_view WrongArguments ends_kinds part (Ok interval)
    → Some (interval_view interval) ≡ option_and_then valid_ends part
ends-read part interval read = sym (ap (option_and_then valid_ends) read.0 ∙ rw read.1)
