-- What operations target, by subjects and by keys: no line is passed over that an operation targets.
use Rattle.std.proofs.Common.{◌≡◌, ◌&&◌, ◌||◌, ℕ, Bool, true, false, List, [], ◌∷◌, Option, Some, None, is_none, is_some, refl, sym, ap, ◌∙◌, inl, inr}
use Rattle.std.specs.Prelude.{nat_eq}
use Rattle.std.specs.List.{list_any}
use Rattle.std.specs.Str.{bytes_eq}
use Rattle.std.proofs.lemmas.Bool.{cases_Bool, eq-eqb, or_parts}
use Rattle.gm_name.proofs.Logic.{and-true}
use Rattle.gm_name.proofs.NameTests.{and_both}
use Rattle.gm_syntax_words.specs.Tokens.{Placed}
use Rattle.gm_syntax.specs.Document.{Line}
use Rattle.gm_file.specs.declared.verb.Verb.{Verb}
use Rattle.gm_file.specs.declared.verb.Verb.TheVariants.{Module as ForModule, Unknown}
use Rattle.gm_file.specs.Directives.{Directive, Requires, Excludes, Replaces, Retracts, Left, block_after_line, is_of_verb, verb_eq, verb_of_directive}
use Rattle.gm_file.specs.Faults.{is_module, is_same_version}
use Rattle.gm_file.proofs.DirectiveVerbs.{same-verb}
use Rattle.gm_file.proofs.Indexed.{same-version}
use Rattle.gm_file_edit.specs.About.{about, is_covered_by}
use Rattle.gm_file_edit.specs.Edits.{Edit, Set, ModuleIs, GoIs, RequireAt, Drop, AnyRequire, Add, Exclude, AnyExclude, ReplaceWith, AnyReplace, Retract, AnyRetract}
use Rattle.gm_file_edit.specs.Holding.{directive_at, is_there, passes}
use Rattle.gm_file_edit.specs.Private.Keys.{Subject, agrees, are_texts, held_subject, is_about, key_with, keys_from, text_number, subject_of, takes_any_version, target_of_edit}

-- ---- operations by subjects

abbrev pub is_targeted : Edit → Subject → Bool
is_targeted edit subject = is_about (target_of_edit edit) (takes_any_version edit) subject

covered : (left : Left) (version : Option (List ℕ)) (other : Left) → left.version ≡ version
    → (bytes_eq other.path left.path && (is_none version || is_same_version other.version version)) ≡ is_covered_by left version other
covered left None other is = and-true _
covered left (Some version) other is = rw is

pub about-is : (edit : Edit) (d : Directive) → is_targeted edit (subject_of d) ≡ about edit d
about-is (Set (ModuleIs path)) (Requires q) = refl
about-is (Set (GoIs text)) (Requires q) = refl
about-is (Set (RequireAt p)) (Requires q) = and-true _
about-is (Drop (AnyRequire path)) (Requires q) = and-true _
about-is (Add (Exclude p)) (Excludes q) = refl
about-is (Drop (AnyExclude p)) (Excludes q) = refl
about-is (Set (ReplaceWith r)) (Replaces q) = covered r.0 r.0.version q.0 refl
about-is (Drop (AnyReplace left)) (Replaces q) = refl
about-is (Add (Retract ends)) (Retracts e) = refl
about-is (Drop (AnyRetract ends)) (Retracts e) = refl
about-is edit d = refl

-- ---- the verb of an operation

pub subject-verb : (d : Directive) → (subject_of d).0 ≡ verb_of_directive d
subject-verb (Requires p) = refl
subject-verb d = refl

pub about-verb : (edit : Edit) (d : Directive) → about edit d ≡ true → verb_of_directive d ≡ (target_of_edit edit).0
about-verb edit d holds =
    let subject = subject_of d in
    let parts = and_both _ (are_texts (target_of_edit edit).1 (takes_any_version edit) subject) (about-is edit d ∙ holds) in
    sym (subject-verb _) ∙ sym (same-verb (target_of_edit edit).0 subject.0 parts.0)

-- only an operation on the module targets a directive that declares one
pub about-module : (edit : Edit) (d : Directive) → about edit d ≡ true → is_module d ≡ verb_eq ForModule (target_of_edit edit).0
about-module edit d holds = ap (verb_eq ForModule) (about-verb _ _ holds)

-- ---- operations by keys

same-number : (one other : Option (List ℕ)) → is_same_version one other ≡ true → nat_eq (text_number other) (text_number one) ≡ true
same-number one other same = rw (same-version one other same) (eq-eqb _ _ refl)

-- whether a key agrees with an operation's
abbrev pub may_hold : Edit → Bool → Subject → Bool
may_hold edit inside subject = agrees (key_with (target_of_edit edit) false) (takes_any_version edit) (key_with subject inside)

same-second : (any : Bool) (one other : Option (List ℕ)) → (any || is_same_version one other) ≡ true → (any || nat_eq (text_number other) (text_number one)) ≡ true
same-second true one other same = refl
same-second false one other same = same-number _ _ same

agreeing : (edit : Edit) (subject : Subject) (inside : Bool) → is_targeted edit subject ≡ true → may_hold edit inside subject ≡ true
agreeing edit subject inside is =
    let target = target_of_edit edit in
    let any = takes_any_version edit in
    let verb = and_both (verb_eq target.0 subject.0) (are_texts target.1 any subject) is in
    let texts = and_both (is_same_version subject.1.0 target.1.0) (any || is_same_version subject.1.1 target.1.1) verb.1 in
    rw (verb.0, same-number subject.1.0 target.1.0 texts.0, same-second any subject.1.1 target.1.1 texts.1)

-- a line whose key doesn't agree holds no directive that the operation targets
pub passed-over : (edit : Edit) (inside : Bool) (held : Option Directive) → may_hold edit inside (held_subject held) ≡ false → passes (about edit) held ≡ false
passed-over edit inside None other = refl
passed-over edit inside (Some d) other = elim (cases_Bool (about edit d)) [
  | inl hit ↦ absurd (let holds = agreeing edit (subject_of d) inside (about-is edit d ∙ hit) in cc)
  | inr miss ↦ miss
]

-- so there is none if no key agrees
pub none-there : (edit : Edit) (block : Option Placed) (lines : List (Line Placed))
    → list_any (λ key. agrees (key_with (target_of_edit edit) false) (takes_any_version edit) key) (keys_from block lines) ≡ false
    → is_there (about edit) block lines ≡ false
none-there edit block [] none = refl
none-there edit block (line ∷ lines) none =
    let parts = or_parts (may_hold edit (is_some block) (held_subject (directive_at block line))) _ none in
    rw (passed-over edit (is_some block) (directive_at block line) parts.0, none-there edit (block_after_line block line) lines parts.1)

pub target-known : (edit : Edit) → verb_eq (target_of_edit edit).0 Unknown ≡ false
target-known (Set (ModuleIs path)) = refl
target-known (Add (Exclude p)) = refl
target-known (Drop (AnyRequire path)) = refl
target-known edit = refl

-- ---- the verb of a key

-- a verb that directives have
abbrev pub IsKnown : Verb → Type 0
IsKnown own = verb_eq own Unknown ≡ false

-- a key's verb says whether the line holds a directive of a verb
pub verb-tells : (own : Verb) → IsKnown own → (held : Option Directive) → verb_eq own (held_subject held).0 ≡ passes (is_of_verb own) held
verb-tells own known None = known
verb-tells own known (Some d) = ap (verb_eq own) (subject-verb _)
