-- What a file without a fault names is proper: paths, versions, and the folders on the right sides of a main file.
use Rattle.std.proofs.Common.{◌≡◌, ℕ, Bool, true, false, cond, List, [], ◌∷◌, ◌++◌, Option, Some, None, Ok, Contains, refl, subst}
use Rattle.std.specs.Prelude.{⊤, find, unwrap_or}
use Rattle.std.specs.List.{AllByRecursion, cons_option, filter_map, flat_map, list_any}
use Rattle.std.specs.Option.{option_map, option_or}
use Rattle.gm_name.specs.Path.{IsPath}
use Rattle.gm_version.specs.Version.{IsVersion}
use Rattle.gm_name.specs.ModuleVersion.{ModuleVersion}
use Rattle.gm_name.proofs.NameTests.{path-tested, version-tested}
use Rattle.gm_syntax_words.specs.Words.{Word}
use Rattle.gm_syntax_words.specs.Spelling.{IsWord}
use Rattle.gm_syntax_words.specs.Tokens.{Placed}
use Rattle.gm_syntax.specs.Document.{Entry, IsValidLine, Line, inside_after}
use Rattle.gm_syntax.specs.LineViews.{plain_lines}
use Rattle.gm_syntax.specs.Parsed.{IsParsedAs}
use Rattle.gm_syntax.proofs.Changes.{AreValidFrom, lines_stand, standing_entry}
use Rattle.gm_file.specs.declared.fault.DirectiveKind.{DirectiveKind}
use Rattle.gm_file.specs.Directives.{Directive, DeclaresModule, Requires, Replaces, Folder, Item, Left, LineInBlock, Mode, Module, Opening, Replacing, Right, Saying, block_after_line, directive_in, directive_of, directive_said, directives, item_at, left_with, left_without, verb_in, with_blocks_from}
use Rattle.gm_file.specs.Faults.{Fault, directive_kinds, entry_kinds, fault_of, faults, faults_after, is_module, is_same_left, item_kinds, path_kinds, unless, version_kinds, with_before_from}
use Rattle.gm_file.specs.Fields.{as_module, as_replacing, as_requirement, first, replacement_of, right_for}
use Rattle.gm_file.proofs.First.{first-none}
use Rattle.gm_file.proofs.Pairwise.{nil-map, nil-parts}
use Rattle.gm_graph_select.proofs.Ascending.{member_head, member_tail}
use Rattle.gomod_texts.specs.PrintedLines.{IsProperRight}
use Rattle.gomod_texts.proofs.FolderNames.{plain_replace, read_document}

pub found_among : {X : Type 0} (test : X → Bool) (xs : List X) (x : X) → find test xs ≡ Some x → Contains xs x
found_among test [] x is = absurd (cc is)
found_among {X} test (first ∷ xs) x is = by_test _ is (found_among _ xs x)
  where
    by_test : (b : Bool) → cond b (Some first) (find test xs) ≡ Some x → (find test xs ≡ Some x → Contains xs x) → Contains (first ∷ xs) x
    by_test true e rest = let same : first ≡ x = cc e in subst (λ y. Contains (first ∷ xs) y) same (member_head _ xs)
    by_test false e rest = member_tail _ x xs (rest e)

abbrev pub IsName : ModuleVersion → Type 0
IsName x = IsPath x.0 × IsVersion x.1

-- ---- one directive

-- what it names is proper
abbrev IsProper : Directive → Type 0
IsProper (DeclaresModule path) = IsPath path
IsProper (Requires p) = IsName p
IsProper (Replaces r) = IsProperRight (Some r.1)
IsProper d = ⊤

is_tested : (b : Bool) (kind : DirectiveKind) → unless b kind ≡ [] → b ≡ true
is_tested true kind e = refl
is_tested false kind e = absurd (cc e)

path_tested : (text : List ℕ) → path_kinds text ≡ [] → IsPath text
path_tested text none = (path-tested _).0 (is_tested _ _ none)

version_tested : (text : List ℕ) → version_kinds text ≡ [] → IsVersion text
version_tested text none = (version-tested _).0 (is_tested _ _ none)

-- a directive without a fault that these words say
proper_directive : (mode : Mode) (earlier : List Directive) (verb : List ℕ) (words : List Word) (d : Directive) → AllByRecursion IsWord words
    → directive_of (verb_in mode verb) words ≡ Some d → directive_kinds mode earlier d ≡ [] → IsProper d
unfolding directive_kinds
proper_directive mode earlier verb words (DeclaresModule path) are is none = path_tested _ (nil-parts _ _ none).0
proper_directive mode earlier verb words (Requires p) are is none =
    let parts = nil-parts (path_kinds p.0) _ (nil-parts _ _ none).0 in
    (path_tested p.0 parts.0, version_tested p.1 parts.1)
proper_directive mode earlier verb words (Replaces (left, Folder text)) are is none = plain_replace _ words _ are is
proper_directive mode earlier verb words (Replaces (left, Module path version)) are is none =
    let parts = nil-parts _ (version_kinds version) (nil-parts _ _ (nil-parts _ _ none).0).0 in
    (path_tested path (nil-parts _ _ (nil-parts _ _ parts.0).0).1, version_tested version parts.1)
proper_directive mode earlier verb words d are is none = tt

-- ---- the directives of lines

-- the arguments of an entry are words
abbrev HasWords : Item → Type 0
HasWords (Saying verb words) = AllByRecursion IsWord words
HasWords item = ⊤

item_words : (block : Option Word) (inside : Bool) (line : Line Word) → IsValidLine inside line → HasWords (item_at (block, line))
unfolding item_at
item_words (Some verb) inside (Entry words suffix) valid = (standing_entry _ _ _ valid).are_words
item_words None inside (Entry (verb ∷ arguments) suffix) valid =
    by_test _ (standing_entry _ _ _ valid).are_words.1
  where
    by_test : (b : Bool) → AllByRecursion IsWord arguments → HasWords (cond b (Opening verb.spelling) (Saying verb.spelling arguments))
    by_test true are = tt
    by_test false are = are
item_words block inside line valid = tt

proper_item : (mode : Mode) (earlier : List Directive) (item : Item) (d : Directive) → HasWords item → item_kinds mode earlier item ≡ []
    → directive_in mode item ≡ Some d → IsProper d
proper_item mode earlier (Saying verb words) d are none is =
    proper_directive _ _ _ _ d are is (subst (λ o. entry_kinds mode earlier (verb_in mode verb) o ≡ []) is none)
proper_item mode earlier item d are none is = absurd (cc is)

all_with : (o : Option Directive) (ds : List Directive) → ((d : Directive) → o ≡ Some d → IsProper d) → AllByRecursion IsProper ds
    → AllByRecursion IsProper (cons_option o ds)
all_with None ds proper are = are
all_with (Some d) ds proper are = (proper d refl, are)

all_proper : (mode : Mode) (before : List (LineInBlock Word)) (block : Option Word) (inside : Bool) (lines : List (Line Word)) → AreValidFrom inside lines
    → flat_map (faults_after mode) (with_before_from before (with_blocks_from block lines)) ≡ []
    → AllByRecursion IsProper (filter_map (directive_said mode) (with_blocks_from block lines))
all_proper mode before block inside [] valid none = tt
all_proper mode before block inside (line ∷ lines) valid none =
    let parts = nil-parts _ _ none in
    all_with _ _
    (λ d. proper_item _ _ _ d (item_words _ _ _ valid.0) (nil-map _ _ parts.0))
    (all_proper mode (before ++ (block, line) ∷ []) (block_after_line block line) (inside_after inside line) lines valid.1 parts.1)

or_none : (a b : Option Fault) → option_or a b ≡ None → a ≡ None
or_none None b e = refl
or_none (Some x) b e = cc e

-- those of a file
pub said_properly : (mode : Mode) (file : List ℕ) (lines : List (Line Placed)) → IsParsedAs file (Ok lines)
    → fault_of mode (plain_lines lines) ≡ None → AllByRecursion IsProper (directives mode (plain_lines lines))
unfolding fault_of faults
said_properly mode file lines parsed none =
    let valid = lines_stand _ _ (read_document _ _ parsed.1.reads) in
    all_proper _ [] None false (plain_lines lines) valid.0 (first-none (faults mode (plain_lines lines)) (or_none _ _ none))

-- ---- the fields of proper directives

pub proper_requirements : (ds : List Directive) → AllByRecursion IsProper ds → AllByRecursion IsName (filter_map as_requirement ds)
proper_requirements [] are = tt
proper_requirements (Requires p ∷ ds) are = (are.0, proper_requirements ds are.1)
proper_requirements (d ∷ ds) are = proper_requirements ds are.1

pub proper_path : (ds : List Directive) → AllByRecursion IsProper ds → list_any is_module ds ≡ true → IsPath (unwrap_or (first (filter_map as_module ds)) [])
proper_path [] are some = absurd (cc some)
proper_path (DeclaresModule path ∷ ds) are some = are.0
proper_path (d ∷ ds) are some = proper_path ds are.1 some

found_right : (P : Option Right → Type 0) → P None → (left : Left) (replaces : List Replacing) → AllByRecursion (λ r. P (Some r.1)) replaces
    → P (right_for replaces left)
found_right P none left [] are = none
found_right P none left (r ∷ rs) are = by_test _ (found_right P none _ rs are.1)
  where
    by_test : (b : Bool) → P (right_for rs left)
        → P (option_map (λ r. r.1) (cond b (Some r) (find (λ r. is_same_left left r.0) rs)))
    by_test true rest = are.0
    by_test false rest = rest

-- what is so of each right side is so of the one that replaces a module
pub of_each_right : (P : Option Right → Type 0) → P None → (replaces : List Replacing) (x : ModuleVersion) → AllByRecursion (λ r. P (Some r.1)) replaces
    → P (replacement_of replaces x)
of_each_right P none replaces x are = either _ (found_right P none (left_with x.0 x.1) _ are)
  where
    either : (o : Option Right) → P o → P (option_or o (right_for replaces (left_without x.0)))
    either None own = found_right P none (left_without x.0) _ are
    either (Some right) own = own

proper_rights : (ds : List Directive) → AllByRecursion IsProper ds → AllByRecursion (λ r. IsProperRight (Some r.1)) (filter_map as_replacing ds)
proper_rights [] are = tt
proper_rights (Replaces r ∷ ds) are = (are.0, proper_rights ds are.1)
proper_rights (d ∷ ds) are = proper_rights ds are.1

pub proper_replacement : (ds : List Directive) (x : ModuleVersion) → AllByRecursion IsProper ds → IsProperRight (replacement_of (filter_map as_replacing ds) x)
proper_replacement ds x are = of_each_right IsProperRight tt _ x (proper_rights ds are)

pub replaces_is : (d : Directive) (r : Replacing) → as_replacing d ≡ Some r → d ≡ Replaces r
replaces_is (Replaces q) r is = cc is
replaces_is d r is = absurd (cc is)
