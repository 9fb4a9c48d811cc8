-- The fields of directives after one more directive.
use Rattle.std.proofs.Common.{◌≡◌, ℕ, ◌||◌, not, Bool, true, false, List, [], ◌∷◌, ◌++◌, Option, Some, None, Err, refl, sym, ap, ◌∙◌, append-nil}
use Rattle.std.specs.Prelude.{is_some, option_and_then}
use Rattle.std.proofs.lemmas.List.Elements.{filter_map-append}
use Rattle.std.proofs.lemmas.List.Folds.{list_any-append}
use Rattle.std.specs.List.{cons_option, filter_map, list_any}
use Rattle.gm_name.specs.ModuleVersion.{ModuleVersion}
use Rattle.gm_file.specs.declared.fault.DirectiveKind.{DirectiveKind}
use Rattle.gm_file.specs.declared.fault.DirectiveKind.TheVariants.{BadGo, ConflictingReplace, Repeated}
use Rattle.gm_file.specs.declared.fault.LineFault.{LineFault}
use Rattle.gm_file.specs.declared.fault.LineFault.TheVariants as line
use Rattle.gm_file.specs.declared.fields.Fields.{Fields}
use Rattle.gm_file.specs.Directives.{Mode, VersionInterval, Replacing, Directive, DeclaresModule, DeclaresGo, Requires, Excludes, Replaces, Retracts, Kept}
use Rattle.gm_file.specs.Faults.{conflicts, directive_kinds, go_in, is_conflict, is_go, is_module, path_kinds, unless}
use Rattle.gm_file.specs.Fields.{as_exclusion, as_go, as_interval, as_module, as_replacing, as_requirement, first}
use Rattle.gm_file.specs.Private.Holding.{Holds, IsAdded, HaveFields}
use Rattle.gm_file.specs.Private.Indexes.{ReportsConflict}
use Rattle.gm_file.specs.Reading.{own_kinds}
use Rattle.gm_name.proofs.Logic.{or-false}

-- a directive that gives nothing to a field leaves it unchanged
skip : {Y : Type 0} (h : Directive → Option Y) (ds : List Directive) (d : Directive) → h d ≡ None → filter_map h (ds ++ d ∷ []) ≡ filter_map h ds
skip {Y} h ds d e = filter_map-append h _ _ ∙ ap (λ (o : Option Y). filter_map h ds ++ cons_option o []) e ∙ append-nil (filter_map h ds)

put : {Y : Type 0} (h : Directive → Option Y) (ds : List Directive) (d : Directive) (y : Y) → h d ≡ Some y
    → filter_map h (ds ++ d ∷ []) ≡ filter_map h ds ++ y ∷ []
put {Y} h ds d y e = filter_map-append h _ _ ∙ ap (λ (o : Option Y). filter_map h ds ++ cons_option o []) e

or-true : (a : Bool) → (a || (true || false)) ≡ true
or-true true = refl
or-true false = refl

pass : (p : Directive → Bool) (ds : List Directive) (d : Directive) → p d ≡ false → list_any p (ds ++ d ∷ []) ≡ list_any p ds
pass p ds d e = list_any-append p ds (d ∷ []) ∙ rw e (or-false _)

hit : (p : Directive → Bool) (ds : List Directive) (d : Directive) → p d ≡ true → list_any p (ds ++ d ∷ []) ≡ true
hit p ds d e = list_any-append p ds (d ∷ []) ∙ rw e (or-true _)

first-new : {X : Type 0} (xs : List X) {x : X} → first xs ≡ None → first (xs ++ x ∷ []) ≡ Some x
first-new [] e = refl
first-new (y ∷ xs) e = cc e

none-by : {X : Type 0} (o : Option X) (b rest : Bool) (xs : List X) → b ≡ is_some o → (b || rest) ≡ false
    → (rest ≡ false → first xs ≡ None) → first (cons_option o xs) ≡ None
none-by None true rest xs s e later = absurd (cc s)
none-by None false rest xs s e later = later e
none-by (Some x) true rest xs s e later = absurd (cc e)
none-by (Some x) false rest xs s e later = absurd (cc s)

none-first : {X : Type 0} (h : Directive → Option X) (p : Directive → Bool) → ((d : Directive) → p d ≡ is_some (h d))
    → (ds : List Directive) → list_any p ds ≡ false → first (filter_map h ds) ≡ None
none-first h p same [] e = refl
none-first h p same (d ∷ ds) e = none-by _ _ _ _ (same d) e (none-first h p same ds)

is_go-given : (d : Directive) → is_go d ≡ is_some (as_go d)
is_go-given (DeclaresModule path) = refl
is_go-given (DeclaresGo text) = refl
is_go-given (Requires p) = refl
is_go-given (Excludes p) = refl
is_go-given (Replaces r) = refl
is_go-given (Retracts ends) = refl
is_go-given Kept = refl

is_module-given : (d : Directive) → is_module d ≡ is_some (as_module d)
is_module-given (DeclaresModule path) = refl
is_module-given (DeclaresGo text) = refl
is_module-given (Requires p) = refl
is_module-given (Excludes p) = refl
is_module-given (Replaces r) = refl
is_module-given (Retracts ends) = refl
is_module-given Kept = refl

module _ {mode : Mode} {ds : List Directive} {declared : Option (List ℕ)} {go : Option (ℕ × ℕ)}
    {requirements excludes : List ModuleVersion} {replaces : List Replacing} {retracts : List VersionInterval}
    (say : HaveFields mode ds declared go requirements excludes replaces retracts) where
  -- the fields with one more directive, given what then is known of the module and of the go version
  abbrev With : Directive → Option (List ℕ) → Option (ℕ × ℕ) → Type 0
  With d path numbers = HaveFields mode (ds ++ d ∷ []) path numbers (requirements ++ cons_option (as_requirement d) [])
      (excludes ++ cons_option (as_exclusion d) []) (replaces ++ cons_option (as_replacing d) []) (retracts ++ cons_option (as_interval d) [])

  say-more : (d : Directive) (path : Option (List ℕ)) (numbers : Option (ℕ × ℕ)) → first (filter_map as_module (ds ++ d ∷ [])) ≡ path
      → list_any is_module (ds ++ d ∷ []) ≡ is_some path → option_and_then (go_in mode) (first (filter_map as_go (ds ++ d ∷ []))) ≡ numbers
      → list_any is_go (ds ++ d ∷ []) ≡ is_some numbers → With d path numbers
  say-more d path numbers declared_is is_declared go_is is_given = record {
    declared_is = declared_is;
    is_declared = is_declared;
    go_is = go_is;
    is_given = is_given;
    requirements_are = filter_map-append as_requirement ds (d ∷ []) ∙ rw say.requirements_are;
    excludes_are = filter_map-append as_exclusion ds (d ∷ []) ∙ rw say.excludes_are;
    replaces_are = filter_map-append as_replacing ds (d ∷ []) ∙ rw say.replaces_are;
    retracts_are = filter_map-append as_interval ds (d ∷ []) ∙ rw say.retracts_are;
  }

  -- a directive that says neither leaves both unchanged
  say-entry : (d : Directive) → as_module d ≡ None → is_module d ≡ false → as_go d ≡ None → is_go d ≡ false → With d declared go
  say-entry d no_path no_module no_text no_go = say-more d declared go (rw (skip as_module ds d no_path) say.declared_is)
      (pass is_module ds d no_module ∙ say.is_declared) (rw (skip as_go ds d no_text) say.go_is) (pass is_go ds d no_go ∙ say.is_given)

  pub say-kept : HaveFields mode (ds ++ Kept ∷ []) declared go requirements excludes replaces retracts
  say-kept = simp append-nil at (say-entry Kept refl refl refl refl)

  pub say-requirement : (p : ModuleVersion) → HaveFields mode (ds ++ Requires p ∷ []) declared go (requirements ++ p ∷ []) excludes replaces retracts
  say-requirement p = simp append-nil at (say-entry (Requires p) refl refl refl refl)

  pub say-exclusion : (p : ModuleVersion) → HaveFields mode (ds ++ Excludes p ∷ []) declared go requirements (excludes ++ p ∷ []) replaces retracts
  say-exclusion p = simp append-nil at (say-entry (Excludes p) refl refl refl refl)

  pub say-replacing : (r : Replacing) → HaveFields mode (ds ++ Replaces r ∷ []) declared go requirements excludes (replaces ++ r ∷ []) retracts
  say-replacing r = simp append-nil at (say-entry (Replaces r) refl refl refl refl)

  pub say-interval : (ends : VersionInterval) → HaveFields mode (ds ++ Retracts ends ∷ []) declared go requirements excludes replaces (retracts ++ ends ∷ [])
  say-interval ends = simp append-nil at (say-entry (Retracts ends) refl refl refl refl)

  pub say-module : (path : List ℕ) → is_some declared ≡ false
      → HaveFields mode (ds ++ DeclaresModule path ∷ []) (Some path) go requirements excludes replaces retracts
  say-module path none = let d = DeclaresModule path in
      let none_yet = none-first as_module is_module is_module-given ds (say.is_declared ∙ none) in
      simp append-nil at (say-more d (Some path) go (rw (put as_module ds d path refl) (first-new (filter_map as_module ds) none_yet))
      (hit is_module ds d refl) (rw (skip as_go ds d refl) say.go_is) (pass is_go ds d refl ∙ say.is_given))

  pub say-go : (text : List ℕ) (numbers : ℕ × ℕ) → is_some go ≡ false → go_in mode text ≡ Some numbers
      → HaveFields mode (ds ++ DeclaresGo text ∷ []) declared (Some numbers) requirements excludes replaces retracts
  say-go text numbers none read = let d = DeclaresGo text in
      let none_yet = none-first as_go is_go is_go-given ds (say.is_given ∙ none) in
      simp append-nil at (say-more d declared (Some numbers) (rw (skip as_module ds d refl) say.declared_is) (pass is_module ds d refl ∙ say.is_declared)
      (rw (put as_go ds d text refl, first-new (filter_map as_go ds) none_yet) read) (hit is_go ds d refl))

-- ---- faults after earlier directives

conflicts-lines : (r : Replacing) (ds : List Directive) → list_any (conflicts r) ds ≡ list_any (is_conflict r) (filter_map as_replacing ds)
conflicts-lines r [] = refl
conflicts-lines r (DeclaresModule path ∷ ds) = conflicts-lines r ds
conflicts-lines r (DeclaresGo text ∷ ds) = conflicts-lines r ds
conflicts-lines r (Requires p ∷ ds) = conflicts-lines r ds
conflicts-lines r (Excludes p ∷ ds) = conflicts-lines r ds
conflicts-lines r (Replaces other ∷ ds) = rw (conflicts-lines r ds)
conflicts-lines r (Retracts ends ∷ ds) = conflicts-lines r ds
conflicts-lines r (Kept ∷ ds) = conflicts-lines r ds

none-behind : {kinds : List DirectiveKind} {b : Bool} (kind : DirectiveKind) → kinds ≡ [] → b ≡ false → kinds ++ unless (not b) kind ≡ []
none-behind kind none e = rw (none, e) refl

one-behind : {kinds : List DirectiveKind} {b : Bool} {kind : DirectiveKind} → kinds ≡ [] → b ≡ true → first (kinds ++ unless (not b) kind) ≡ Some kind
one-behind none e = rw (none, e) refl

pub module-right : (mode : Mode) (ds : List Directive) (path : List ℕ) → path_kinds path ≡ []
    → list_any is_module ds ≡ false → directive_kinds mode ds (DeclaresModule path) ≡ []
unfolding directive_kinds
module-right mode ds path early none = none-behind _ early none

pub module-repeated : (mode : Mode) (ds : List Directive) (path : List ℕ) → path_kinds path ≡ []
    → list_any is_module ds ≡ true → first (directive_kinds mode ds (DeclaresModule path)) ≡ Some Repeated
unfolding directive_kinds
module-repeated mode ds path early some = one-behind early some

pub go-right : (mode : Mode) (ds : List Directive) (text : List ℕ) (numbers : ℕ × ℕ) → list_any is_go ds ≡ false
    → go_in mode text ≡ Some numbers → directive_kinds mode ds (DeclaresGo text) ≡ []
unfolding directive_kinds
go-right mode ds text numbers none read = rw (none, read) refl

pub go-repeated : (mode : Mode) (ds : List Directive) (text : List ℕ) → list_any is_go ds ≡ true
    → first (directive_kinds mode ds (DeclaresGo text)) ≡ Some Repeated
unfolding directive_kinds
go-repeated mode ds text some = rw some refl

pub go-bad : (mode : Mode) (ds : List Directive) (text : List ℕ) → list_any is_go ds ≡ false → go_in mode text ≡ None
    → first (directive_kinds mode ds (DeclaresGo text)) ≡ Some BadGo
unfolding directive_kinds
go-bad mode ds text none unread = rw (none, unread) refl

pub replace-right : (mode : Mode) (ds : List Directive) (r : Replacing) → own_kinds (Replaces r) ≡ []
    → list_any (is_conflict r) (filter_map as_replacing ds) ≡ false → directive_kinds mode ds (Replaces r) ≡ []
unfolding directive_kinds
replace-right mode ds r early none = none-behind ConflictingReplace early (conflicts-lines r ds ∙ none)

pub replace-conflicts : (mode : Mode) (ds : List Directive) (r : Replacing) → own_kinds (Replaces r) ≡ []
    → list_any (is_conflict r) (filter_map as_replacing ds) ≡ true
    → first (directive_kinds mode ds (Replaces r)) ≡ Some ConflictingReplace
unfolding directive_kinds
replace-conflicts mode ds r early some = one-behind early (conflicts-lines r ds ∙ some)

-- the result of adding a replace that conflicts with an earlier one
pub conflict-reported : (mode : Mode) (old new : Fields) (r : Replacing) (replaces : List Replacing) (fault : LineFault) → own_kinds (Replaces r) ≡ []
    → ((ds : List Directive) → Holds mode ds old → filter_map as_replacing ds ≡ replaces)
    → ReportsConflict r replaces (Err fault) → IsAdded mode old new (Replaces r) (Err fault)
conflict-reported mode old new r replaces line.NoMemory early are told = tt
conflict-reported mode old new r replaces (line.Kind kind) early are told = λ ds holds.
    replace-conflicts _ _ _ early (ap (list_any (is_conflict r)) (are ds holds) ∙ told.1) ∙ ap Some (sym told.0)
