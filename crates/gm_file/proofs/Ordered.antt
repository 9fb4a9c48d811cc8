-- The kinds of a line's faults are in the order of the kinds, so the first one is reported.
use Rattle.std.proofs.Common.{◌≡◌, ℕ, ◌≤◌, Bool, true, false, not, List, [], ◌∷◌, ◌++◌, Option, Some, None, is_some, sym, ap, inl, arith, lit≤}
use Rattle.std.specs.List.{list_any}
use Rattle.gm_file.specs.declared.fault.DirectiveKind.{DirectiveKind}
use Rattle.gm_file.specs.declared.fault.DirectiveKind.TheVariants.{UnknownVerb, WrongArguments, Repeated, BadGo}
use Rattle.gm_file.specs.declared.verb.Verb.{Verb}
use Rattle.gm_file.specs.declared.verb.Verb.TheVariants.{Module as ForModule, Go as ForGo, Require as ForRequire, Exclude as ForExclude, Replace as ForReplace, Retract as ForRetract, Nothing as ForNothing, Unknown}
use Rattle.gm_file.specs.Directives.{Mode, Left, Right, Folder, Module, Item, Silent, Opening, Saying, Directive, DeclaresModule, DeclaresGo, Requires, Excludes, Replaces, Retracts, Kept}
use Rattle.gm_file.specs.Faults.{directive_kinds, is_go, item_kinds, left_version_kinds, opening_kinds, pair_kinds, path_kinds, rank, right_path_kinds, right_version_kinds, entry_kinds, sides_kinds, unless, malformed_entry_kind, version_kinds}
use Rattle.gm_file.specs.Fields.{first}
use Rattle.gm_file.proofs.Told.{IsOneKind, NoneFirst}

-- kinds that ascend from one rank to another
abbrev pub Within : ℕ → ℕ → List DirectiveKind → Type 0
Within low high [] = low ≤ high
Within low high (k ∷ ks) = (low ≤ rank k) × Within (rank k) high ks

lower : (a b c : ℕ) (ks : List DirectiveKind) → a ≤ b → Within b c ks → Within a c ks
lower a b c [] le w = omega (arith, le, w)
lower a b c (k ∷ ks) le w = (omega (arith, le, w.0), w.1)

Within-append : (a b c d : ℕ) (xs ys : List DirectiveKind) → Within a b xs → b ≤ c → Within c d ys → Within a d (xs ++ ys)
Within-append a b c d [] ys v le w = lower _ _ _ _ (omega (arith, v, le)) w
Within-append a b c d (k ∷ ks) ys v le w = (v.0, Within-append (rank k) b c d ks ys v.1 le w)

one : (b : Bool) (k : DirectiveKind) → Within (rank k) (rank k) (unless b k)
one true k = omega arith
one false k = (omega arith, omega arith)

later : (k : DirectiveKind) (low high : ℕ) (ks : List DirectiveKind) → rank k ≤ low → Within low high ks → NoneFirst k ks
later k low high [] le w = tt
later k low high (j ∷ js) le w = (omega (arith, le, w.0), later k (rank j) high js (omega (arith, le, w.0)) w.1)

first-by : (j k : DirectiveKind) (ks : List DirectiveKind) → Within 0 8 (j ∷ ks) → Some j ≡ Some k → IsOneKind k (j ∷ ks) × NoneFirst k (j ∷ ks)
first-by j k ks w e =
    let f : j ≡ k = cc in
    (inl (sym f), (omega (arith, ap rank f), later _ _ 8 _ (omega (arith, ap rank f)) w.1))

-- if kinds are in their order, none precedes the first one
pub first-reported : (ks : List DirectiveKind) {k : DirectiveKind} → Within 0 8 ks → first ks ≡ Some k → IsOneKind k ks × NoneFirst k ks
first-reported [] w e = absurd (cc e)
first-reported (j ∷ ks) w e = first-by _ _ _ w e

path-within : (path : List ℕ) → Within 2 2 (path_kinds path)
path-within path = one _ _

version-within : (version : List ℕ) → Within 3 3 (version_kinds version)
version-within version = one _ _

left-version-within : (version : Option (List ℕ)) → Within 3 3 (left_version_kinds version)
left-version-within None = lit≤ tt
left-version-within (Some version) = version-within _

right-path-within : (right : Right) → Within 2 2 (right_path_kinds right)
right-path-within (Folder text) = lit≤ tt
right-path-within (Module path version) = path-within _

right-version-within : (right : Right) → Within 3 3 (right_version_kinds right)
right-version-within (Folder text) = lit≤ tt
right-version-within (Module path version) = version-within _

higher : (low a b : ℕ) (ks : List DirectiveKind) → a ≤ b → Within low a ks → Within low b ks
higher low a b [] le w = omega (arith, le, w)
higher low a b (k ∷ ks) le w = (w.0, higher (rank k) a b ks le w.1)

widen : (low high : ℕ) (ks : List DirectiveKind) → high ≤ 8 → Within low high ks → Within 0 8 ks
widen low high ks le w = lower 0 _ 8 _ (omega arith) (higher _ _ 8 _ le w)

pair-within : (path version : List ℕ) → Within 2 4 (pair_kinds (path, version))
pair-within path version =
    Within-append 2 3 4 4 _ _ (Within-append 2 2 3 3 _ _ (path-within _) (lit≤ tt) (version-within _)) (lit≤ tt) (one _ _)

sides-within : (left : Left) (right : Right) → Within 2 4 (sides_kinds left right)
sides-within left right =
    let paths : Within 2 2 (path_kinds left.path ++ right_path_kinds right) =
    Within-append 2 2 2 2 _ _ (path-within _) (lit≤ tt) (right-path-within _) in
    let with_left : Within 2 3 (path_kinds left.path ++ right_path_kinds right ++ left_version_kinds left.version) =
    Within-append 2 2 3 3 _ _ paths (lit≤ tt) (left-version-within _) in
    let with_right : Within 2 3 (path_kinds left.path ++ right_path_kinds right ++ left_version_kinds left.version ++ right_version_kinds right) =
    Within-append 2 3 3 3 _ _ with_left (lit≤ tt) (right-version-within _) in
    Within-append 2 3 4 4 _ _ with_right (lit≤ tt) (one _ _)

directive-within : (mode : Mode) (earlier : List Directive) (d : Directive) → Within 0 8 (directive_kinds mode earlier d)
unfolding directive_kinds
directive-within mode earlier (DeclaresModule path) =
    widen 2 5 _ (lit≤ tt) (Within-append 2 2 5 5 _ _ (path-within _) (lit≤ tt) (one _ _))
directive-within mode earlier (DeclaresGo text) =
    widen 5 8 _ (lit≤ tt) (Within-append 5 5 8 8 (unless (not (list_any is_go earlier)) Repeated) (unless (is_some _) BadGo)
    (one (not (list_any is_go earlier)) Repeated) (lit≤ tt) (one (is_some _) BadGo))
directive-within mode earlier (Requires p) = widen 2 4 _ (lit≤ tt) (pair-within _ _)
directive-within mode earlier (Excludes p) = widen 2 4 _ (lit≤ tt) (pair-within _ _)
directive-within mode earlier (Replaces r) =
    widen 2 7 _ (lit≤ tt) (Within-append 2 4 7 7 _ _ (sides-within _ _) (lit≤ tt) (one _ _))
directive-within mode earlier (Retracts ends) =
    widen 3 3 _ (lit≤ tt) (Within-append 3 3 3 3 _ _ (version-within _) (lit≤ tt) (version-within _))
directive-within mode earlier Kept = lit≤ tt

alone : (k : DirectiveKind) → rank k ≤ 8 → Within 0 8 (k ∷ [])
alone k le = (omega arith, le)

opening-within : (verb : Verb) → Within 0 8 (opening_kinds verb)
opening-within ForModule = lit≤ tt
opening-within ForGo = alone WrongArguments (lit≤ tt)
opening-within ForRequire = lit≤ tt
opening-within ForExclude = lit≤ tt
opening-within ForReplace = lit≤ tt
opening-within ForRetract = lit≤ tt
opening-within ForNothing = lit≤ tt
opening-within Unknown = alone UnknownVerb (lit≤ tt)

unread-within : (verb : Verb) → rank (malformed_entry_kind verb) ≤ 8
unread-within ForModule = lit≤ tt
unread-within ForGo = lit≤ tt
unread-within ForRequire = lit≤ tt
unread-within ForExclude = lit≤ tt
unread-within ForReplace = lit≤ tt
unread-within ForRetract = lit≤ tt
unread-within ForNothing = lit≤ tt
unread-within Unknown = lit≤ tt

saying-within : (mode : Mode) (earlier : List Directive) (verb : Verb) (o : Option Directive) → Within 0 8 (entry_kinds mode earlier verb o)
saying-within mode earlier verb None = alone _ (unread-within _)
saying-within mode earlier verb (Some d) = directive-within _ _ _

pub item-within : (mode : Mode) (earlier : List Directive) (item : Item) → Within 0 8 (item_kinds mode earlier item)
item-within mode earlier Silent = lit≤ tt
item-within mode earlier (Opening verb) = opening-within _
item-within mode earlier (Saying verb arguments) = saying-within _ _ _ _
