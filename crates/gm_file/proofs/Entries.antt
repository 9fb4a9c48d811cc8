-- From the faults of the parts of an entry to the faults of its line.
use Rattle.std.proofs.Common.{◌≡◌, ℕ, List, Option, Some, None, Err, ap, ◌∙◌}
use Rattle.std.specs.Option.{option_map}
use Rattle.gm_syntax_words.specs.Words.{Word}
use Rattle.gm_file.specs.declared.fault.DirectiveKind.{DirectiveKind}
use Rattle.gm_file.specs.declared.fault.LineFault.{LineFault}
use Rattle.gm_file.specs.declared.fault.LineFault.TheVariants as line
use Rattle.gm_file.specs.declared.verb.Verb.{Verb}
use Rattle.gm_file.specs.Directives.{Mode, Saying, Directive, DeclaresModule, DeclaresGo, Requires, Excludes, Replaces, Retracts, Kept, directive_of, verb_in}
use Rattle.gm_file.specs.Faults.{directive_kinds, entry_kinds, malformed_entry_kind}
use Rattle.gm_file.specs.Fields.{first}
use Rattle.gm_file.specs.Reading.{own_kinds}
use Rattle.gm_file.specs.Private.Reading.{IsPartRead, part_kinds}
use Rattle.gm_file.specs.DirectiveViews.{IsLineRead, directive_view}
use Rattle.gm_file.proofs.Arrows.{first-append}

-- a fault of a part is a fault of what is made of it
pub map-fault : {X Y Z V : Type 0} (view : Y → X) (seen : V → Z) (wrong : DirectiveKind)
    (kinds : X → List DirectiveKind) (more : Z → List DirectiveKind) (f : X → Z) (o : Option X) (fault : LineFault)
    → ((x : X) → more (f x) ≡ kinds x) → IsPartRead view wrong kinds o (Err fault) → IsPartRead seen wrong more (option_map f o) (Err fault)
map-fault view seen wrong kinds more f o line.NoMemory same told = tt
map-fault view seen wrong kinds more f None (line.Kind k) same told = told
map-fault view seen wrong kinds more f (Some x) (line.Kind k) same told = ap first (same x) ∙ told

-- a fault that a directive has by itself is reported first
directive-first : (mode : Mode) (earlier : List Directive) (d : Directive) (k : DirectiveKind)
    → first (own_kinds d) ≡ Some k → first (directive_kinds mode earlier d) ≡ Some k
unfolding directive_kinds
directive-first mode earlier (DeclaresModule path) k e = first-append _ _ _ e
directive-first mode earlier (DeclaresGo text) k e = cc e
directive-first mode earlier (Requires p) k e = e
directive-first mode earlier (Excludes p) k e = e
directive-first mode earlier (Replaces r) k e = first-append _ _ _ e
directive-first mode earlier (Retracts ends) k e = e
directive-first mode earlier Kept k e = cc e

saying-first : (mode : Mode) (earlier : List Directive) (verb : Verb) (o : Option Directive) (k : DirectiveKind)
    → first (part_kinds (malformed_entry_kind verb) own_kinds o) ≡ Some k → first (entry_kinds mode earlier verb o) ≡ Some k
saying-first mode earlier verb None k e = e
saying-first mode earlier verb (Some d) k e = directive-first _ _ _ _ e

pub saying-fault : (mode : Mode) (verb : List ℕ) (words : List Word) (fault : LineFault) (v : Verb) → v ≡ verb_in mode verb
    → IsPartRead directive_view (malformed_entry_kind v) own_kinds (directive_of v words) (Err fault) → IsLineRead mode (Saying verb words) (Err fault)
saying-fault mode verb words line.NoMemory v is told = tt
saying-fault mode verb words (line.Kind k) v is told = λ earlier.
    saying-first _ _ _ _ _ (rw is at told)
