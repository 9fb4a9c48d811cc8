-- Keys of lines: what tells most lines apart without a look at their words. No public contract cites it.
use Rattle.std.specs.Prelude.{◌≡◌, ◌&&◌, ◌||◌, if◌then◌else◌, ℕ, Bool, false, List, [], ◌∷◌, drop, Option, Some, None, is_none, is_some, map, nat_eq, option_and_then}
use Rattle.std.specs.Borrow.{Bor}
use Rattle.std.specs.Option.{option_map, option_map_or}
use Rattle.gm_name.specs.Fingerprint.{fingerprint, tag_of}
use Rattle.gm_syntax_words.specs.Tokens.{Placed, words_of}
use Rattle.gm_syntax_words.specs.Words.{Word}
use Rattle.gm_syntax.specs.Document.{Line, Entry}
use Rattle.gm_file.specs.Faults.{is_same_version}
use Rattle.gm_file.specs.Values.{argument}
use Rattle.gm_file.specs.Directives.{Directive, DeclaresModule, DeclaresGo, Requires, Excludes, Replaces, Retracts, Item, Kept, LineInBlock, Strict, directive_in, verb_eq, with_blocks_from}
use Rattle.gm_file.specs.declared.verb.Verb.{Verb}
use Rattle.gm_file.specs.declared.verb.Verb.TheVariants as verb
use Rattle.gm_file_edit.specs.declared.keys.Key.{Key}
use Rattle.gm_file_edit.specs.declared.subject.Subject as declared
use Rattle.gm_file_edit.specs.Edits.{Edit, Set, ReplaceWith, Add, Drop, AnyRequire, AnyExclude, AnyReplace, AnyRetract}
use Rattle.gm_file_edit.specs.Kinds.{directive_added, directive_set}
use Rattle.gm_file_edit.specs.Holding.{item_of}
use Rattle.gm_file_edit.specs.NewWords.{entry_at}
use Rattle.gm_file_edit.specs.Private.Marks.{IsOfVerb}

-- ---- what directives and operations are about

-- a verb, and at most two texts: a path and a version, or both ends of an interval
abbrev pub Subject : Type 0
Subject = Verb × (Option (List ℕ) × Option (List ℕ))

-- what a directive is about
abbrev pub subject_of : Directive → Subject
subject_of (DeclaresModule path) = (verb.Module, (None, None))
subject_of (DeclaresGo text) = (verb.Go, (None, None))
subject_of (Requires p) = (verb.Require, (Some p.0, None))
subject_of (Excludes p) = (verb.Exclude, (Some p.0, Some p.1))
subject_of (Replaces r) = (verb.Replace, (Some r.0.path, r.0.version))
subject_of (Retracts ends) = (verb.Retract, (Some ends.0, Some ends.1))
subject_of Kept = (verb.Nothing, (None, None))

-- what the directives are about that an operation targets: that which it sets or adds, or those that it drops
abbrev pub target_of_edit : Edit → Subject
target_of_edit (Set s) = subject_of (directive_set s)
target_of_edit (Add a) = subject_of (directive_added a)
target_of_edit (Drop (AnyRequire path)) = (verb.Require, (Some path, None))
target_of_edit (Drop (AnyExclude p)) = (verb.Exclude, (Some p.0, Some p.1))
target_of_edit (Drop (AnyReplace left)) = (verb.Replace, (Some left.path, left.version))
target_of_edit (Drop (AnyRetract ends)) = (verb.Retract, (Some ends.0, Some ends.1))

-- whether an operation targets all directives about its path, whatever their versions
abbrev pub takes_any_version : Edit → Bool
takes_any_version (Set (ReplaceWith r)) = is_none r.0.version
takes_any_version edit = false

-- whether these are the texts of a subject; the second may not count
abbrev pub are_texts : Option (List ℕ) × Option (List ℕ) → Bool → Subject → Bool
are_texts texts any_second subject =
    is_same_version subject.1.0 texts.0 && (any_second || is_same_version subject.1.1 texts.1)

-- whether directives with the second subject are targeted
abbrev pub is_about : Subject → Bool → Subject → Bool
is_about target any_second subject = verb_eq target.0 subject.0 && are_texts target.1 any_second subject

-- a subject of the program as contracts see it
abbrev pub subject_view : declared.Subject → Subject
subject_view s = (s.verb, (option_map (λ t. t.now) s.first, option_map (λ t. t.now) s.second))

-- ---- what entries are about

-- the texts that a valid entry with this verb and these arguments is about
abbrev pub texts_named : Verb → List Word → Option (List ℕ) × Option (List ℕ)
texts_named verb.Require (path ∷ words) = (argument path, None)
texts_named verb.Exclude (path ∷ version ∷ words) = (argument path, argument version)
texts_named verb.Replace (path ∷ version ∷ words) = (argument path, argument version)
texts_named verb.Retract (version ∷ []) = (argument version, argument version)
texts_named verb.Retract (bracket ∷ low ∷ comma ∷ high ∷ words) = (argument low, argument high)
texts_named own words = (None, None)

-- the words of an entry
abbrev pub words_held : Line Placed → Option (List Placed)
words_held (Entry words suffix) = Some words
words_held line = None

-- the values of two words of the program, if there are such words
abbrev pub words_view : Option (Bor Placed) × Option (Bor Placed) → Option (List ℕ) × Option (List ℕ)
words_view words =
    (option_and_then (λ t. argument t.now.word) words.0, option_and_then (λ t. argument t.now.word) words.1)

-- whether an entry of the target's verb with these arguments is about its texts; the second may not count
abbrev pub have_texts : Subject → Bool → List Word → Bool
have_texts target any_second arguments = are_texts target.1 any_second (target.0, texts_named target.0 arguments)

-- whether a line, in a block or outside, is such an entry
abbrev pub hold_texts : Subject → Bool → Bool → Line Placed → Bool
hold_texts target any_second inside (Entry words suffix) =
    have_texts target any_second (words_of (if inside then words else drop 1 words))
hold_texts target any_second inside line = false

-- ---- keys

-- the number of a text, if there is one
abbrev pub text_number : Option (List ℕ) → ℕ
text_number text = option_map_or (λ t. tag_of (fingerprint 0 t)) text 0

-- the key of a line whose directive has this subject
abbrev pub key_with : Subject → Bool → Key
key_with subject inside =
    record { verb = subject.0; inside = inside; first = text_number subject.1.0; second = text_number subject.1.1 }

-- what a line is about that holds this directive, if any
abbrev pub held_subject : Option Directive → Subject
held_subject held = option_map_or subject_of held (verb.Unknown, (None, None))

-- the key of a line with this content
abbrev pub item_key : Item → Bool → Key
item_key item inside = key_with (held_subject (directive_in Strict item)) inside

-- the key of a line, given the verb of the open block, if any
abbrev pub key_at : Option Placed → Line Placed → Key
key_at block line = item_key (item_of block line) (is_some block)

-- the keys of lines, given the verb of the block that is open before them, if any
abbrev pub keys_from : Option Placed → List (Line Placed) → List Key
keys_from block lines = map (λ (seat : LineInBlock Placed). key_at seat.0 seat.1) (with_blocks_from block lines)

-- whether a key is that of a wanted subject; the second numbers may not count
abbrev pub agrees : Key → Bool → Key → Bool
agrees wanted any_second key =
    verb_eq wanted.verb key.verb && (nat_eq wanted.first key.first && (any_second || nat_eq wanted.second key.second))

-- a key in a block, or outside blocks
abbrev pub placed : Key → Bool → Key
placed key inside = record { verb = key.verb; inside = inside; first = key.first; second = key.second }

-- an entry with this verb and these arguments has this key, in a block of the verb and outside blocks
abbrev pub IsKeyedEntry : Key → List ℕ → List Placed → Type 0
IsKeyedEntry key verb arguments = (block : Option Placed) (inside : Bool) → is_some block ≡ inside → IsOfVerb verb block
    → key_at block (entry_at inside verb arguments) ≡ placed key inside
