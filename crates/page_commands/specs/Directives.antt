-- A copy from crates/gm_file/specs/Directives.antt, which tools/check/headline.py writes.
use Rattle.std.specs.Prelude.{ℕ, ◌&&◌, ◌||◌, if◌then◌else◌, Bool, true, false, List, [], ◌∷◌, codes, Option, Some, None, option_and_then}
use Rattle.std.specs.Option.{option_map}
use Rattle.std.specs.List.{after_first, before_first, filter_map}
use Rattle.std.specs.Str.{bytes_eq}
use Rattle.page_commands.specs.ModuleVersion.{ModuleVersion}
use Rattle.page_commands.specs.Words.{Word, is_mark}
use Rattle.page_commands.specs.Types.Kind.{Kind, Mark}
use Rattle.page_commands.specs.Document.{Line, Blank, Comment, Open, Close, Entry}
use Rattle.page_commands.specs.Types.Verb.{Verb, Module as ForModule, Go as ForGo, Require as ForRequire, Exclude as ForExclude, Replace as ForReplace, Retract as ForRetract, Nothing as ForNothing, Unknown}
use Rattle.page_commands.specs.GmFileValues.{argument, both, is_folder_path}

-- how a file is read: strictly, as the main file, or laxly, as a dependency's
pub data Mode : Type 0 where
  Strict : Mode
  Lax : Mode

-- the verb that a text spells in a main file
abbrev pub main_verb : List ℕ → Verb
main_verb text =
    if bytes_eq text (codes "module") then ForModule
    else (if bytes_eq text (codes "go") then ForGo
    else (if bytes_eq text (codes "require") then ForRequire
    else (if bytes_eq text (codes "exclude") then ForExclude
    else (if bytes_eq text (codes "replace") then ForReplace
    else (if bytes_eq text (codes "retract") then ForRetract
    else (if bytes_eq text (codes "toolchain") || bytes_eq text (codes "godebug") || bytes_eq text (codes "tool")
    || bytes_eq text (codes "ignore") then ForNothing
    else Unknown))))))

-- the verb that a text spells in a dependency's file
abbrev pub dependency_verb : List ℕ → Verb
dependency_verb text =
    if bytes_eq text (codes "module") then ForModule
    else (if bytes_eq text (codes "go") then ForGo
    else (if bytes_eq text (codes "require") then ForRequire
    else ForNothing))

-- the verb that a text spells in a file that is read in a mode
abbrev pub verb_in : Mode → List ℕ → Verb
verb_in Strict text = main_verb text
verb_in Lax text = dependency_verb text

-- the texts of both ends of an interval of versions; the ends belong to it (Go Modules Reference, "retract directive")
abbrev pub VersionInterval : Type 0
VersionInterval = List ℕ × List ℕ

abbrev pub pair : List ℕ → List ℕ → List ℕ × List ℕ
pair a b = (a, b)

-- the left side of a replace: a path, and optionally one version of it
pub record Left : Type 0 where
  pub path : List ℕ
  pub version : Option (List ℕ)

-- the right side: a folder, or a path and a version
pub data Right : Type 0 where
  Folder : List ℕ → Right
  Module : List ℕ → List ℕ → Right

-- both sides of a replace
abbrev pub Replacing : Type 0
Replacing = Left × Right

abbrev pub replacing : Left → Right → Replacing
replacing left right = (left, right)

-- a directive with the texts of its parts, valid or not
pub data Directive : Type 0 where
  DeclaresModule : List ℕ → Directive
  DeclaresGo : List ℕ → Directive
  Requires : ModuleVersion → Directive
  Excludes : ModuleVersion → Directive
  Replaces : Replacing → Directive
  Retracts : VersionInterval → Directive
  Kept : Directive

-- the verb of the entries that say a directive
abbrev pub verb_of_directive : Directive → Verb
verb_of_directive (DeclaresModule path) = ForModule
verb_of_directive (DeclaresGo text) = ForGo
verb_of_directive (Requires p) = ForRequire
verb_of_directive (Excludes p) = ForExclude
verb_of_directive (Replaces r) = ForReplace
verb_of_directive (Retracts ends) = ForRetract
verb_of_directive Kept = ForNothing

abbrev pub verb_eq : Verb → Verb → Bool
verb_eq ForModule ForModule = true
verb_eq ForGo ForGo = true
verb_eq ForRequire ForRequire = true
verb_eq ForExclude ForExclude = true
verb_eq ForReplace ForReplace = true
verb_eq ForRetract ForRetract = true
verb_eq ForNothing ForNothing = true
verb_eq Unknown Unknown = true
verb_eq _ _ = false

-- whether a directive is one of this verb
abbrev pub is_of_verb : Verb → Directive → Bool
is_of_verb verb d = verb_eq verb (verb_of_directive d)

-- one value
abbrev pub one_of : List Word → Option (List ℕ)
one_of (v ∷ []) = argument v
one_of _ = None

-- two values
abbrev pub pair_of : List Word → Option ModuleVersion
pair_of (p ∷ v ∷ []) = both pair (argument p) (argument v)
pair_of _ = None

-- a word of this kind and spelling is the arrow
abbrev pub is_of_arrow : Kind → List ℕ → Bool
is_of_arrow Mark text = bytes_eq text (codes "=>")
is_of_arrow _ text = false

abbrev pub is_arrow : Word → Bool
is_arrow w = is_of_arrow w.kind w.spelling

abbrev pub left_with : List ℕ → List ℕ → Left
left_with path version = record { path = path; version = Some version }

abbrev pub left_without : List ℕ → Left
left_without path = record { path = path; version = None }

-- the left side, from the words before the arrow
abbrev pub left_of : List Word → Option Left
left_of (p ∷ []) = option_map left_without (argument p)
left_of (p ∷ v ∷ []) = both left_with (argument p) (argument v)
left_of _ = None

-- the right side that is a folder alone
abbrev pub folder_right : List ℕ → Option Right
folder_right text = if is_folder_path text then Some (Folder text) else None

-- the right side that is a path and a version; a folder has no version
abbrev pub module_right : List ℕ → List ℕ → Option Right
module_right path version = if is_folder_path path then None else Some (Module path version)

-- the right side, from the words after the arrow: a folder alone, or a path that is not a folder and a version
abbrev pub right_of : List Word → Option Right
right_of (q ∷ []) = option_and_then folder_right (argument q)
right_of (q ∷ w ∷ []) = option_and_then (λ p. module_right p.0 p.1) (both pair (argument q) (argument w))
right_of _ = None

-- the two sides, before and after the first arrow
abbrev pub replacing_of : List Word → Option Replacing
replacing_of words = both replacing (left_of (before_first is_arrow words)) (right_of (after_first is_arrow words))

-- one version, which is both ends, or two in brackets: `[`, `,` and `]` are the bytes 91, 44 and 93
abbrev pub ends_of : List Word → Option VersionInterval
ends_of (v ∷ []) = option_map (λ w. pair w w) (argument v)
ends_of (a ∷ v ∷ b ∷ w ∷ c ∷ []) =
    if is_mark 91 a && is_mark 44 b && is_mark 93 c then both pair (argument v) (argument w) else None
ends_of _ = None

-- the directive of an entry with this verb and these arguments
unfoldable pub directive_of : Verb → List Word → Option Directive
directive_of ForModule words = option_map DeclaresModule (one_of words)
directive_of ForGo words = option_map DeclaresGo (one_of words)
directive_of ForRequire words = option_map Requires (pair_of words)
directive_of ForExclude words = option_map Excludes (pair_of words)
directive_of ForReplace words = option_map Replaces (replacing_of words)
directive_of ForRetract words = option_map Retracts (ends_of words)
directive_of ForNothing words = Some Kept
directive_of Unknown words = None

-- a line with the verb of the block that it is in, if any
abbrev pub LineInBlock : Type 0 → Type 0
LineInBlock W = Option W × Line W

-- the verb of the block that is open after a line, given the one that is open before it
abbrev pub block_after_line : {W : Type 0} → Option W → Line W → Option W
block_after_line block Blank = block
block_after_line block (Comment text) = block
block_after_line block (Open verb suffix) = Some verb
block_after_line block (Close suffix) = None
block_after_line block (Entry words suffix) = block

-- the lines, each with the verb of its block, where this block is open before them
abbrev pub with_blocks_from : {W : Type 0} → Option W → List (Line W) → List (LineInBlock W)
with_blocks_from block [] = []
with_blocks_from block (line ∷ lines) = (block, line) ∷ with_blocks_from (block_after_line block line) lines

-- the lines, each with the verb of its block
abbrev pub with_blocks : {W : Type 0} → List (Line W) → List (LineInBlock W)
with_blocks lines = with_blocks_from None lines

-- the content of a line: nothing, the start of a block, or an entry
pub data Item : Type 0 where
  Silent : Item
  -- the start of a block of this verb, or a whole block without entries
  Opening : List ℕ → Item
  -- an entry with this verb and these arguments
  Saying : List ℕ → List Word → Item

-- the words are just `(` and `)`, the bytes 40 and 41
abbrev pub is_empty_block : List Word → Bool
is_empty_block (a ∷ b ∷ []) = is_mark 40 a && is_mark 41 b
is_empty_block _ = false

-- the content of a line in its block
unfoldable pub item_at : LineInBlock Word → Item
item_at (block, Blank) = Silent
item_at (block, Comment text) = Silent
item_at (block, Open verb suffix) = Opening verb.spelling
item_at (block, Close suffix) = Silent
item_at (Some verb, Entry words suffix) = Saying verb.spelling words
item_at (None, Entry [] suffix) = Silent
item_at (None, Entry (verb ∷ arguments) suffix) =
    if is_empty_block arguments then Opening verb.spelling else Saying verb.spelling arguments

-- the directive of a line's content, if any
abbrev pub directive_in : Mode → Item → Option Directive
directive_in mode Silent = None
directive_in mode (Opening verb) = None
directive_in mode (Saying verb arguments) = directive_of (verb_in mode verb) arguments

-- the directive of a line, if any
abbrev pub directive_said : Mode → LineInBlock Word → Option Directive
directive_said mode seat = directive_in mode (item_at seat)

-- the directives of the lines, in order
abbrev pub directives : Mode → List (Line Word) → List Directive
directives mode lines = filter_map (directive_said mode) (with_blocks lines)
