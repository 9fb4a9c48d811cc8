-- The faults of a document: those of its lines. The first of them is reported.
use Rattle.std.specs.Prelude.{ℕ, ◌+◌, ◌==◌, ◌&&◌, ◌||◌, not, nat_lt, if◌then◌else◌, Bool, true, false, List, [], ◌∷◌, ◌++◌, map, find, length, Option, Some, None, is_some}
use Rattle.std.specs.Option.{option_or}
use Rattle.std.specs.List.{filter_map, flat_map, list_all, list_any}
use Rattle.std.specs.Str.{bytes_eq}
use Rattle.gm_syntax_words.specs.Words.{Word}
use Rattle.gm_syntax.specs.Document.{Line}
use Rattle.gm_file.specs.declared.fault.DirectiveKind.{DirectiveKind}
use Rattle.gm_file.specs.declared.fault.DirectiveKind.TheVariants.{UnknownVerb, WrongArguments, BadPath, BadVersion, Misfit, Repeated, NoModule, ConflictingReplace, BadGo}
use Rattle.gm_name.specs.Names.{does_fit, is_path, is_version}
use Rattle.gm_name.specs.ModuleVersion.{ModuleVersion}
use Rattle.gm_file.specs.GoVersions.{lax_go, strict_go}
use Rattle.gm_file.specs.declared.verb.Verb.{Verb}
use Rattle.gm_file.specs.declared.verb.Verb.TheVariants.{Module as ForModule, Go as ForGo, Unknown}
use Rattle.gm_file.specs.Directives.{is_of_verb, Mode, Strict, Lax, verb_in, VersionInterval, Left, Right, Folder, Module, Replacing, Directive, DeclaresModule, DeclaresGo, Requires, Excludes, Replaces, Retracts, Kept, directive_of, LineInBlock, with_blocks, Item, Silent, Opening, Saying, item_at, directive_said, directives}

-- this kind alone, or no kind if the test passes
abbrev pub unless : Bool → DirectiveKind → List DirectiveKind
unless true kind = []
unless false kind = kind ∷ []

-- the first two numbers of a go version in a file that is read in a mode
abbrev pub go_in : Mode → List ℕ → Option (ℕ × ℕ)
go_in Strict text = strict_go text
go_in Lax text = lax_go text

-- ---- the kinds of faults that a directive has by itself, each list in the order of the kinds

abbrev pub path_kinds : List ℕ → List DirectiveKind
path_kinds path = unless (is_path path) BadPath

abbrev pub version_kinds : List ℕ → List DirectiveKind
version_kinds version = unless (is_version version) BadVersion

abbrev pub pair_kinds : ModuleVersion → List DirectiveKind
pair_kinds p = path_kinds p.0 ++ version_kinds p.1 ++ unless (does_fit p.0 p.1) Misfit

abbrev pub ends_kinds : VersionInterval → List DirectiveKind
ends_kinds ends = version_kinds ends.0 ++ version_kinds ends.1

-- a left side need not have a version
abbrev pub left_version_kinds : Option (List ℕ) → List DirectiveKind
left_version_kinds None = []
left_version_kinds (Some version) = version_kinds version

abbrev pub does_left_fit : List ℕ → Option (List ℕ) → Bool
does_left_fit path None = true
does_left_fit path (Some version) = does_fit path version

abbrev pub right_path_kinds : Right → List DirectiveKind
right_path_kinds (Folder text) = []
right_path_kinds (Module path version) = path_kinds path

abbrev pub right_version_kinds : Right → List DirectiveKind
right_version_kinds (Folder text) = []
right_version_kinds (Module path version) = version_kinds version

-- the version on the right side need not fit its path
abbrev pub sides_kinds : Left → Right → List DirectiveKind
sides_kinds left right = path_kinds left.path ++ right_path_kinds right ++ left_version_kinds left.version
    ++ right_version_kinds right ++ unless (does_left_fit left.path left.version) Misfit

-- ---- the kinds of faults that a directive has after earlier ones

abbrev pub is_module : Directive → Bool
is_module d = is_of_verb ForModule d

abbrev pub is_go : Directive → Bool
is_go d = is_of_verb ForGo d

abbrev pub is_same_version : Option (List ℕ) → Option (List ℕ) → Bool
is_same_version None None = true
is_same_version None (Some w) = false
is_same_version (Some v) None = false
is_same_version (Some v) (Some w) = bytes_eq v w

abbrev pub is_same_left : Left → Left → Bool
is_same_left a b = bytes_eq a.path b.path && is_same_version a.version b.version

abbrev pub is_same_right : Right → Right → Bool
is_same_right (Folder a) (Folder b) = bytes_eq a b
is_same_right (Folder a) (Module q w) = false
is_same_right (Module p v) (Folder b) = false
is_same_right (Module p v) (Module q w) = bytes_eq p q && bytes_eq v w

-- two replaces have the same left side and different right sides
abbrev pub is_conflict : Replacing → Replacing → Bool
is_conflict a b = is_same_left a.0 b.0 && not (is_same_right a.1 b.1)

-- a replace conflicts with another directive
abbrev pub conflicts : Replacing → Directive → Bool
conflicts r (Replaces other) = is_conflict r other
conflicts r _ = false

-- the kinds of a directive's faults, after the earlier directives
unfoldable pub directive_kinds : Mode → List Directive → Directive → List DirectiveKind
directive_kinds mode earlier (DeclaresModule path) =
    path_kinds path ++ unless (not (list_any is_module earlier)) Repeated
directive_kinds mode earlier (DeclaresGo text) =
    unless (not (list_any is_go earlier)) Repeated ++ unless (is_some (go_in mode text)) BadGo
directive_kinds mode earlier (Requires p) = pair_kinds p
directive_kinds mode earlier (Excludes p) = pair_kinds p
directive_kinds mode earlier (Replaces r) =
    sides_kinds r.0 r.1 ++ unless (not (list_any (conflicts r) earlier)) ConflictingReplace
directive_kinds mode earlier (Retracts ends) = ends_kinds ends
directive_kinds mode earlier Kept = []

-- ---- faults of a line

-- the kinds of the start of a block; no block opens for `go`
abbrev pub opening_kinds : Verb → List DirectiveKind
opening_kinds ForGo = WrongArguments ∷ []
opening_kinds Unknown = UnknownVerb ∷ []
opening_kinds _ = []

-- the kind of an entry without a directive; in a block of an unknown verb, the start of the block has this fault first
abbrev pub malformed_entry_kind : Verb → DirectiveKind
malformed_entry_kind Unknown = UnknownVerb
malformed_entry_kind _ = WrongArguments

-- the kinds of an entry with this verb, from its directive, after the earlier directives
abbrev pub entry_kinds : Mode → List Directive → Verb → Option Directive → List DirectiveKind
entry_kinds mode earlier verb None = malformed_entry_kind verb ∷ []
entry_kinds mode earlier verb (Some directive) = directive_kinds mode earlier directive

-- the kinds of the faults of a line's content, after lines with the earlier directives
abbrev pub item_kinds : Mode → List Directive → Item → List DirectiveKind
item_kinds mode earlier Silent = []
item_kinds mode earlier (Opening verb) = opening_kinds (verb_in mode verb)
item_kinds mode earlier (Saying verb arguments) =
    entry_kinds mode earlier (verb_in mode verb) (directive_of (verb_in mode verb) arguments)

-- ---- the faults of a document

-- the number of a line, counted from 1, or 0 for the whole file, and the kind of its fault
abbrev pub Fault : Type 0
Fault = ℕ × DirectiveKind

-- the elements, each with those before it, where the first list precedes them all
abbrev pub with_before_from : {X : Type 0} → List X → List X → List (List X × X)
with_before_from before [] = []
with_before_from before (x ∷ xs) = (before, x) ∷ with_before_from (before ++ x ∷ []) xs

-- the elements, each with those before it
abbrev pub with_before : {X : Type 0} → List X → List (List X × X)
with_before xs = with_before_from [] xs

-- the faults of a line, which is paired with the lines before it
abbrev pub faults_after : Mode → List (LineInBlock Word) × LineInBlock Word → List Fault
faults_after mode place =
    map (λ kind. (length place.0 + 1, kind))
    (item_kinds mode (filter_map (directive_said mode) place.0) (item_at place.1))

-- all faults of the lines
unfoldable pub faults : Mode → List (Line Word) → List Fault
faults mode lines = flat_map (faults_after mode) (with_before (with_blocks lines))

-- the order of the kinds
abbrev pub rank : DirectiveKind → ℕ
rank UnknownVerb = 0
rank WrongArguments = 1
rank BadPath = 2
rank BadVersion = 3
rank Misfit = 4
rank Repeated = 5
rank NoModule = 6
rank ConflictingReplace = 7
rank BadGo = 8

-- a fault on a lower line comes first, and on the same line one of a kind that is earlier in the order
abbrev pub precedes : Fault → Fault → Bool
precedes a b = nat_lt a.0 b.0 || ((a.0 == b.0) && nat_lt (rank a.1) (rank b.1))

-- the fault that no other precedes
abbrev pub first_of : List Fault → Option Fault
first_of found = find (λ a. list_all (λ b. not (precedes b a)) found) found

-- the fault of a main file without `module`
abbrev pub missing_module : Mode → List Directive → Option Fault
missing_module Strict said = if list_any is_module said then None else Some (0, NoModule)
missing_module Lax said = None

-- the fault that reading the lines reports; NoModule only if there is no other
unfoldable pub fault_of : Mode → List (Line Word) → Option Fault
fault_of mode lines = option_or (first_of (faults mode lines)) (missing_module mode (directives mode lines))
