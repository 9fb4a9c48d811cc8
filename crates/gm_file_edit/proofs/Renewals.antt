-- The operations that rewrite an entry.
use Rattle.std.proofs.Common.{◌≡◌, ℕ, ◌&&◌, not, true, false, List, [], ◌∷◌, ◌++◌, Option, Some, None, is_some, refl, sym, ap, subst, append_assoc, ◌∙◌, inl, inr}
use Rattle.std.specs.Prelude.{IfSome}
use Rattle.std.specs.Option.{option_map}
use Rattle.std.specs.List.{after_first, before_first}
use Rattle.std.specs.Str.{bytes_eq}
use Rattle.std.proofs.lemmas.Bool.{and_from, and_left, cases_Bool}
use Rattle.std.proofs.lemmas.Slice.Eq.{bytes_eq-Decides}
use Rattle.gm_syntax_words.specs.declared.word.Punct.TheVariants.{Arrow}
use Rattle.gm_syntax_words.specs.Lines.{HasNoLineFeed}
use Rattle.gm_syntax_words.specs.Words.{Word}
use Rattle.gm_syntax_words.specs.Bare.{can_be_bare, new_word}
use Rattle.gm_syntax_words.specs.Spelling.{IsWord}
use Rattle.gm_syntax_words.specs.Tokens.{Placed, words_of}
use Rattle.gm_syntax_words.proofs.Marks.{mark_stands}
use Rattle.gm_syntax.specs.Document.{Line, Entry, IsValidLine}
use Rattle.gm_syntax.specs.LineViews.{plain}
use Rattle.gm_syntax.proofs.NewWords.{no_mark}
use Rattle.gm_syntax.proofs.Changes.{standing_entry}
use Rattle.gm_name.specs.Names.{does_fit, is_path}
use Rattle.gm_name.specs.ModuleVersion.{ModuleVersion}
use Rattle.gm_name.proofs.Texts.{bytes_eq-self}
use Rattle.gm_file.specs.Values.{argument}
use Rattle.gm_file.specs.GoVersions.{strict_go}
use Rattle.gm_file.specs.declared.verb.Verb.{Verb}
use Rattle.gm_file.specs.declared.verb.Verb.TheVariants.{Go as ForGo, Require as ForRequire, Replace as ForReplace}
use Rattle.gm_file.specs.Directives.{Strict, Left, Right, Folder, Module, Replacing, Directive, DeclaresModule, DeclaresGo, Requires, Replaces, directive_of, is_arrow, left_of, main_verb, one_of, pair_of, right_of, verb_of_directive}
use Rattle.gm_file.specs.Faults.{directive_kinds, does_left_fit, is_go, is_module, is_same_left, is_same_right, is_same_version, left_version_kinds, path_kinds, pair_kinds, right_path_kinds, right_version_kinds, sides_kinds}
use Rattle.gm_file_edit.specs.About.{about, is_covered_by, is_replaced_by, requires_path}
use Rattle.gm_file_edit.specs.Holding.{directive_at}
use Rattle.gm_file_edit.specs.NewWords.{left_words, made_mark, made_word, replace_words, right_words}
use Rattle.gm_file_edit.specs.Renewing.{made_new, with_arguments, with_last}
use Rattle.gm_file_edit.specs.Sound.{IsPairOfNames, IsSoundEdit, IsSoundLeft, IsSoundRight, IsSoundVersion}
use Rattle.gm_file_edit.proofs.NoLineFeeds.{byte-feed, go-feed, path-feed, version-feed, map-some}
use Rattle.gm_file_edit.proofs.Folders.{path-no-folder}
use Rattle.gm_file_edit.proofs.Made.{AreArguments, IsFront, all-arguments, begins-path, entry-made, held-by, made-stands, made-value, one-are, one-argument, last-replaced, two-are, two-arguments, IsMadeNew, IsRenewal, IsWanted, Makes}
use Rattle.gm_file_edit.proofs.Targets.{about-module, about-verb}
use Rattle.gm_file_edit.specs.Edits.{Edit, Set, Setting, ModuleIs, GoIs, RequireAt, ReplaceWith, Add, Exclude, Retract, Drop}
use Rattle.gm_file_edit.specs.Kinds.{directive_added, directive_set, is_fit}
use Rattle.gm_file.specs.Pairwise.{do_clash}
use Rattle.gm_file.proofs.DirectiveVerbs.{directive-verb}
use Rattle.gm_file.proofs.Pairwise.{both-nil, same-left}
use Rattle.gm_file.proofs.Indexed.{left-self}

-- ---- the module and the go version

pub go-says : (text : List ℕ) → HasNoLineFeed text → directive_of ForGo (words_of (made_word text ∷ [])) ≡ Some (DeclaresGo text)
unfolding directive_of
go-says text plain = rw (made-value _ plain)

-- a directive of one argument
one-made : {v : Verb} (make : List ℕ → Directive) → ((words : List Word)
    → directive_of v words ≡ option_map make (one_of words)) → (text : List ℕ) → HasNoLineFeed text
    → directive_kinds Strict [] (make text) ≡ []
    → (block : Option Placed) (line : Line Placed) (d : Directive) → directive_at block line ≡ Some d
    → verb_of_directive d ≡ v → IsValidLine (is_some block) (plain line)
    → IsMadeNew (make text) block (with_last text block line)
one-made {v} make reads text plain kinds block line d held named stands =
    let by = held-by block line held in
    let verb : main_verb by.verb ≡ v = sym (directive-verb (main_verb by.verb) (words_of by.arguments) d by.says) ∙ named in
    let said : directive_of v (words_of by.arguments) ≡ Some d = rw verb at by.says in
    let one = map-some make (one_of (words_of by.arguments)) (sym (reads (words_of by.arguments)) ∙ said) in
    let a = one-argument by.arguments one.1 in
    let is : line ≡ Entry (by.front ++ a.0 ∷ []) by.suffix = rw (← a.1) by.is in
    entry-made by
    (ap (with_last text block) is ∙ last-replaced text block by.front a.0 by.suffix) stands (one-are text plain)
    (rw verb (reads (words_of (made_word text ∷ [])) ∙ rw (made-value text plain))) kinds

module-made : (path : List ℕ) → is_path path ≡ true → directive_kinds Strict [] (DeclaresModule path) ≡ []
    → Makes is_module (DeclaresModule path) (with_last path)
unfolding directive_of
module-made path h kinds = λ block line d held e stands. one-made DeclaresModule (λ words. refl) path (path-feed _ h) kinds
    _ _ _ held (about-verb (Set (ModuleIs path)) _ e) stands

go-made : (text : List ℕ) → is_some (strict_go text) ≡ true → directive_kinds Strict [] (DeclaresGo text) ≡ []
    → Makes is_go (DeclaresGo text) (with_last text)
unfolding directive_of
go-made text h kinds = λ block line d held e stands. one-made DeclaresGo (λ words. refl) text (go-feed _ h) kinds
    _ _ _ held (about-verb (Set (GoIs text)) _ e) stands

-- ---- a requirement

pair-kinds : (p : ModuleVersion) → IsPairOfNames p → does_fit p.0 p.1 ≡ true → pair_kinds p ≡ []
pair-kinds p names fit = rw (names.0, names.1, fit)

require-says : (a : Placed) (p : ModuleVersion) → argument a.word ≡ Some p.0 → HasNoLineFeed p.1
    → directive_of ForRequire (words_of (a ∷ made_word p.1 ∷ [])) ≡ Some (Requires p)
unfolding directive_of
require-says a p is plain = rw (is, made-value _ plain)

held-pair : (words : List Word) (p : ModuleVersion) → directive_of ForRequire words ≡ Some (Requires p) → pair_of words ≡ Some p
unfolding directive_of
held-pair words p e = let m = map-some _ _ e in let same : m.0 ≡ p = cc in m.1 ∙ ap Some same

-- the words of an existing line are valid words
kept-word : (block : Option Placed) (verb : List ℕ) (front others : List Placed) (suffix : Option (List ℕ)) (a : Placed)
    (line : Line Placed) → IsFront block verb front → line ≡ Entry (front ++ a ∷ others) suffix
    → IsValidLine (is_some block) (plain line) → IsWord a.word
kept-word None verb front others suffix a line at is stands = (standing_entry _ _ _ (rw (is, at.1) at stands)).are_words.1.0
kept-word (Some v) verb front others suffix a line at is stands = (standing_entry _ _ _ (rw (is, at.0) at stands)).are_words.0

require-made : (p : ModuleVersion) → IsPairOfNames p → directive_kinds Strict [] (Requires p) ≡ []
    → (block : Option Placed) (line : Line Placed) (d : Directive) → directive_at block line ≡ Some d
    → requires_path p.0 d ≡ true → IsValidLine (is_some block) (plain line)
    → IsMadeNew (Requires p) block (with_last p.1 block line)
require-made p names kinds block line (Requires q) held e stands =
    let plain_version = version-feed p.1 names.1 in
    let by = held-by block line held in
    let verb : main_verb by.verb ≡ ForRequire = sym (directive-verb (main_verb by.verb) (words_of by.arguments) (Requires q) by.says) in
    let two = two-arguments by.arguments q (held-pair (words_of by.arguments) q (rw verb at by.says)) in
    let same : q.0 ≡ p.0 = (bytes_eq-Decides q.0 p.0).0 e in
    let path : argument two.0.word ≡ Some p.0 = rw (← same) two.3 in
    let is : line ≡ Entry (by.front ++ two.0 ∷ two.1 ∷ []) by.suffix = rw (← two.2) by.is in
    let word : IsWord two.0.word = kept-word block by.verb by.front (two.1 ∷ []) by.suffix two.0 line by.at is stands in
    entry-made by
    (ap (with_last p.1 block) is ∙ rw (
      ← append_assoc by.front (two.0 ∷ []) (two.1 ∷ []),
      last-replaced p.1 block (by.front ++ two.0 ∷ []) two.1 by.suffix,
      append_assoc by.front (two.0 ∷ []) (made_word p.1 ∷ []),
    )) stands (two-are two.0 p.0 p.1 word path plain_version)
    (subst (λ (v : Verb). directive_of v (words_of (two.0 ∷ made_word p.1 ∷ [])) ≡ Some (Requires p)) (sym verb)
    (require-says two.0 p path plain_version)) kinds
require-made p names kinds block line d held e stands = absurd cc

-- ---- a replace

not-covered : (left other : Left) (v : Option (List ℕ)) → is_covered_by left v other ≡ false → is_same_left other left ≡ false
not-covered left other None e = and_left (bytes_eq other.path left.path) (is_same_version other.version left.version) e
not-covered left other (Some version) e = e

replace-mild : (r : Replacing) (d : Directive) → is_replaced_by r.0 d ≡ false → do_clash (Replaces r) d ≡ false
replace-mild r (Replaces q) e = and_left (is_same_left r.0 q.0) (not (is_same_right r.1 q.1)) (same-left r.0 q.0 ∙ not-covered r.0 q.0 r.0.version e)
replace-mild r d e = refl

right-path-right : (right : Right) → IsSoundRight right → right_path_kinds right ≡ []
right-path-right (Folder text) s = refl
right-path-right (Module path version) s = rw s.0

right-version-right : (right : Right) → IsSoundRight right → right_version_kinds right ≡ []
right-version-right (Folder text) s = refl
right-version-right (Module path version) s = rw s.1

left-version-right : (version : Option (List ℕ)) → IsSoundVersion version → left_version_kinds version ≡ []
left-version-right None s = refl
left-version-right (Some version) s = rw s

sides-right : (left : Left) (right : Right) → IsSoundLeft left → IsSoundRight right → does_left_fit left.path left.version ≡ true → sides_kinds left right ≡ []
sides-right left right l r fit =
    let path : path_kinds left.path ≡ [] = rw l.0 refl in
    rw (path, right-path-right _ r, left-version-right _ l.1, right-version-right _ r, fit)

no-arrow : (value : List ℕ) → is_arrow (new_word value) ≡ false
no-arrow value = elim (cases_Bool (can_be_bare value)) [ inl e ↦ rw e refl | inr e ↦ rw e refl ]

-- the words before and after the arrow
arrow-splits : (path : List ℕ) (version : Option (List ℕ)) (rest : List Placed)
    → (before_first is_arrow (words_of (left_words path version ++ made_mark Arrow ∷ rest))
    ≡ words_of (left_words path version))
    × (after_first is_arrow (words_of (left_words path version ++ made_mark Arrow ∷ rest)) ≡ words_of rest)
arrow-splits path None rest = rw (no-arrow _) (refl, refl)
arrow-splits path (Some version) rest = rw (no-arrow _, no-arrow _) (refl, refl)

left-says : (path : List ℕ) (version : Option (List ℕ)) → is_path path ≡ true → IsSoundVersion version
    → left_of (words_of (left_words path version)) ≡ Some (record { path = path; version = version })
left-says path None p v = rw (made-value _ (path-feed _ p))
left-says path (Some version) p v = rw (made-value _ (path-feed _ p), made-value _ (version-feed _ v))

right-says : (right : Right) → IsSoundRight right → right_of (words_of (right_words right)) ≡ Some right
right-says (Folder text) r = rw (made-value _ (byte-feed _ r.1), r.0)
right-says (Module q w) r = rw (made-value _ (path-feed _ r.0), made-value _ (version-feed _ r.1), path-no-folder _ r.0)

replace-says-of : (path : List ℕ) (version : Option (List ℕ)) (right : Right) → is_path path ≡ true → IsSoundVersion version → IsSoundRight right
    → directive_of ForReplace (words_of (left_words path version ++ made_mark Arrow ∷ right_words right))
    ≡ Some (Replaces (record { path = path; version = version }, right))
unfolding directive_of
replace-says-of path version right p v r =
    let parts = arrow-splits path version (right_words right) in
    rw (parts.0, parts.1, left-says path version p v, right-says right r)

pub replace-says : (r : Replacing) → IsSoundLeft r.0 → IsSoundRight r.1 → directive_of ForReplace (words_of (replace_words r)) ≡ Some (Replaces r)
replace-says r left right = replace-says-of _ _ _ left.0 left.1 right

replace-are-of : (path : List ℕ) (version : Option (List ℕ)) (right : Right) → is_path path ≡ true → IsSoundVersion version → IsSoundRight right
    → AreArguments (left_words path version ++ made_mark Arrow ∷ right_words right)
replace-are-of path None (Folder text) p v r = begins-path _ _ (path-feed _ p)
    (mark_stands Arrow, (made-stands _ (byte-feed _ r.1), tt)) (no_mark 40 _) refl
replace-are-of path None (Module q w) p v r =
    begins-path _ _ (path-feed _ p) (
      mark_stands Arrow,
      (made-stands _ (path-feed _ r.0), (made-stands _ (version-feed _ r.1), tt)),
    ) (no_mark 40 _) refl
replace-are-of path (Some version) (Folder text) p v r =
    begins-path _ _ (path-feed _ p) (
      made-stands _ (version-feed _ v),
      (mark_stands Arrow, (made-stands _ (byte-feed _ r.1), tt)),
    ) (no_mark 40 _) refl
replace-are-of path (Some version) (Module q w) p v r =
    begins-path _ _ (path-feed _ p) (
      made-stands _ (version-feed _ v),
      (mark_stands Arrow, (made-stands _ (path-feed _ r.0), (made-stands _ (version-feed _ r.1), tt))),
    ) (no_mark 40 _) refl

pub replace-are : (r : Replacing) → IsSoundLeft r.0 → IsSoundRight r.1 → AreArguments (replace_words r)
replace-are r left right = replace-are-of _ _ _ left.0 left.1 right

replace-made : (r : Replacing) → IsSoundLeft r.0 → IsSoundRight r.1 → directive_kinds Strict [] (Replaces r) ≡ []
    → (block : Option Placed) (line : Line Placed) (d : Directive)
    → directive_at block line ≡ Some d → is_replaced_by r.0 d ≡ true → IsValidLine (is_some block) (plain line)
    → IsMadeNew (Replaces r) block (with_arguments (replace_words r) block line)
replace-made r left right kinds block line (Replaces q) held e stands =
    let by = held-by _ _ held in
    let verb : main_verb by.verb ≡ ForReplace = sym (directive-verb _ _ _ by.says) in
    entry-made by (all-arguments _ _ _ _ _ _ by.at by.is) stands (replace-are _ left right) (rw verb (replace-says _ left right))
    kinds
replace-made r left right kinds block line d held e stands = absurd cc

-- ---- what an operation puts in

-- the directive that an operation sets or adds
abbrev pub put_by : Edit → Option Directive
put_by (Set s) = Some (directive_set s)
put_by (Add a) = Some (directive_added a)
put_by (Drop t) = None

pub pair-itself : (p : List ℕ × List ℕ) → (bytes_eq p.0 p.0 && bytes_eq p.1 p.1) ≡ true
pair-itself p = and_from _ _ (bytes_eq-self p.0) (bytes_eq-self p.1)

left-covered : (left : Left) (version : Option (List ℕ)) → is_covered_by left version left ≡ true
left-covered left None = bytes_eq-self left.path
left-covered left (Some version) = left-self left

puts-wanted : (edit : Edit) → IsSoundEdit edit → is_fit edit ≡ true → IfSome (put_by edit) (IsWanted (about edit))
unfolding directive_kinds
puts-wanted (Set (ModuleIs path)) good fit = record { kinds = rw good; mild = λ d f. f; own = refl }
puts-wanted (Set (GoIs text)) good fit = record { kinds = rw good; mild = λ d f. f; own = refl }
puts-wanted (Set (RequireAt p)) good fit = record { kinds = pair-kinds p good fit; mild = λ d f. refl; own = bytes_eq-self p.0 }
puts-wanted (Set (ReplaceWith r)) good fit =
    let kinds = both-nil (sides_kinds r.0 r.1) [] (sides-right r.0 r.1 good.0 good.1 fit) refl in
    record { kinds = kinds; mild = replace-mild r; own = left-covered r.0 r.0.version }
puts-wanted (Add (Exclude p)) good fit = record { kinds = pair-kinds p good fit; mild = λ d f. refl; own = pair-itself p }
puts-wanted (Add (Retract ends)) good fit = record { kinds = rw (good.0, good.1); mild = λ d f. refl; own = pair-itself ends }
puts-wanted (Drop t) good fit = tt

pub wanted : (edit : Edit) (new : Directive) → put_by edit ≡ Some new → IsSoundEdit edit → is_fit edit ≡ true → IsWanted (about edit) new
wanted edit new e good fit = rw e at (puts-wanted _ good fit)

-- how a setting rewrites an entry
makes : (s : Setting) → IsSoundEdit (Set s) → directive_kinds Strict [] (directive_set s) ≡ []
    → Makes (about (Set s)) (directive_set s) (made_new (Set s))
makes (ModuleIs path) good kinds = module-made path good kinds
makes (GoIs text) good kinds = go-made text good kinds
makes (RequireAt p) good kinds = require-made p good kinds
makes (ReplaceWith r) good kinds = replace-made r good.0 good.1 kinds

about-set : (s : Setting) (d : Directive) → about (Set s) d ≡ true → is_module d ≡ is_module (directive_set s)
about-set (ModuleIs path) = about-module (Set (ModuleIs path))
about-set (GoIs text) = about-module (Set (GoIs text))
about-set (RequireAt p) = about-module (Set (RequireAt p))
about-set (ReplaceWith r) = about-module (Set (ReplaceWith r))

pub renewal : (s : Setting) → IsSoundEdit (Set s) → is_fit (Set s) ≡ true → IsRenewal (about (Set s)) (directive_set s) (made_new (Set s))
renewal s good fit =
    let by = wanted (Set s) (directive_set s) refl good fit in
    record { wanted = by; made = makes s good by.kinds; other = about-set s }
