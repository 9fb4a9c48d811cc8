-- Which text a usage error has.
use Rattle.std.proofs.Common.{◌≡◌, ◌∙◌, ◌∷◌, ◌++◌, ◌<◌, ℕ, Bor, List, [], Option, ap, ap₂, append_assoc, arith, drop, drop_at, get_or, length, length-append, refl, sym, take-append-drop, true}
use Rattle.std.specs.Str.Iter.{HasSubslice}
use Rattle.std.specs.Str.Pattern.{FindsText, SplitsAroundMatch}
use Rattle.std.specs.Prelude.{String}
use Rattle.std.specs.Global.{Global}
use Rattle.clap.specs.Walk.{Row, Text}
use Rattle.gomod_hints.specs.Hints.{texts_of}
use Rattle.gomod_words.specs.Usage.{HasHintOf, HasNoTip, IsInAWord, IsLineOn, ShowsLine, ShowsUsage, is_line_or_memory, usage_of, usage_text}
use Rattle.gomod_words.specs.Private.Usage.{IsEntriesFault, IsLineOf}
use Rattle.gomod_words.specs.declared.table.CommandName.{CommandName}
use Rattle.gomod_words.specs.declared.usage.UsageFault.{UsageFault}
use Rattle.gomod_words.specs.declared.usage.UsageFault.TheVariants.{NoMemory, Help, Version, Line, BadPath, BadProxy}
use Rattle.gomod_hints.proofs.HintWords.{map_at}

-- a usage error of words with a message that has no tip shows what it must
pub line_shows : (words : List Text) (message : List ℕ) (fault : UsageFault) → IsLineOn words message fault → HasNoTip words message → ShowsLine words fault
line_shows words message NoMemory is bare = tt
line_shows words message (Line text) is bare = (message, bare, is)
line_shows words message (Help text) is bare = tt
line_shows words message (Version text) is bare = tt
line_shows words message (BadPath text) is bare = tt
line_shows words message (BadProxy text) is bare = tt

-- a fault with a message says of the entries what another one with a message does
pub line_fault : (entered : Option (CommandName × List Row)) (text : String Global) (fault : UsageFault) → is_line_or_memory fault ≡ true
    → IsEntriesFault entered (Line text) → IsEntriesFault entered fault
line_fault entered text NoMemory kind known = tt
line_fault entered text (Line _) kind known = known
line_fault entered text (Help _) kind known = cc kind
line_fault entered text (Version _) kind known = cc kind
line_fault entered text (BadPath _) kind known = cc kind
line_fault entered text (BadProxy _) kind known = cc kind

-- a usage error with a message, a hint after it and the usage line of the words
pub line_on : (words : List Text) (message shown text usage : List ℕ) (fault : UsageFault) → HasHintOf words message shown → text ≡ shown
    → usage ≡ usage_of words → IsLineOf (usage_text text usage) fault → IsLineOn words message fault
line_on words message shown text usage NoMemory has same at is = tt
line_on words message shown text usage (Line line) has same at is = (shown, has, is ∙ ap₂ usage_text same at)
line_on words message shown text usage (Help _) has same at is = is
line_on words message shown text usage (Version _) has same at is = is
line_on words message shown text usage (BadPath _) has same at is = is
line_on words message shown text usage (BadProxy _) has same at is = is

-- what shows what the words ask for shows it as far as it must
pub shows_usage : (words : List Text) (fault : UsageFault) → ShowsLine words fault → ShowsUsage words fault
shows_usage [] fault shows = tt
shows_usage (program ∷ []) fault shows = tt
shows_usage (program ∷ first ∷ words) fault shows = shows

-- a text that a word has in it is in one of the words
pub within_at : (text : List ℕ) (words : List (Bor Text)) (i : ℕ) (d : Bor Text) → i < length words
    → HasSubslice (get_or words i d).now text → IsInAWord text (texts_of words)
within_at text words i d less has = ((get_or words i d).now, map_at (λ w. w.now) _ i d less, has)

-- what stands before the first such mark doesn't have it
pub front_lacks : (mark text front back : List ℕ) → 0 < length mark → SplitsAroundMatch (FindsText mark) text front back → HasSubslice front mark → ⊥
front_lacks mark text front back some splits has =
    let a = has.0 in
    let i = splits.0 in
    let rest = has.1 ++ drop i text in
    let whole : text ≡ a ++ (mark ++ rest) =
    sym (take-append-drop i _) ∙ ap (λ l. l ++ drop i text) (sym splits.3 ∙ has.2)
    ∙ append_assoc a _ _ ∙ ap (λ l. a ++ l) (append_assoc mark _ _) in
    let less : length a < i = omega (arith, splits.6, ap length has.2, length-append a (mark ++ has.1), length-append mark has.1, some) in
    splits.2.0 (length a) less rest (ap (drop (length a)) whole ∙ drop_at a (mark ++ rest) (length a) refl)
