-- The arguments of a parsed operation are valid.
use Rattle.std.proofs.Common.{◌≡◌, ℕ, Bool, true, List, Some, None, is_some, inl, inr}
use Rattle.std.specs.Prelude.{if◌then◌else◌}
use Rattle.std.proofs.lemmas.Bool.{cases_Bool}
use Rattle.gm_name.specs.Names.{is_path, is_version}
use Rattle.gm_name.specs.ModuleVersion.{ModuleVersion}
use Rattle.gm_file.specs.Values.{both, is_folder_path}
use Rattle.gm_file.specs.GoVersions.{strict_go}
use Rattle.gm_file.specs.Directives.{VersionInterval, pair, Left, left_with, left_without, Right, Folder, Module, Replacing, replacing}
use Rattle.gm_file_edit.specs.Edits.{Edit, Exclude, Retract, edit_as, edit_in, go_text_in, inside_brackets, interval_in, is_bracketed, left_in, edit_named, pair_in, path_in, replacing_in, right_in, trim, version_in}
use Rattle.gm_operation.specs.Operations.{has_byte, operation_named, split_at_byte}
use Rattle.gm_operation.specs.declared.kind.OperationKind.{OperationKind}
use Rattle.gm_operation.specs.declared.kind.OperationKind.TheVariants as op
use Rattle.gm_file_edit.specs.Sound.{AreVersions, IsPairOfNames, IsSoundEdit, IsSoundLeft, IsSoundRight}
use Rattle.std.proofs.lemmas.Option.{same_Some}
use Rattle.gm_file_edit.proofs.NoLineFeeds.{if-some, if-other, both-are, map-some, then-some}

-- a text that passes a test
tested : (test : List ℕ → Bool) (text : List ℕ) {out : List ℕ} → (if test text then Some text else None) ≡ Some out → test out ≡ true
tested test text {out} e =
    let t = if-some (test text) (Some text) e in
    rw (same_Some _ _ t.1) at t.0

path-sound : (text : List ℕ) {path : List ℕ} → path_in text ≡ Some path → is_path path ≡ true
path-sound text e = tested is_path text e

version-sound : (text : List ℕ) {version : List ℕ} → version_in text ≡ Some version → is_version version ≡ true
version-sound text {version} e = tested is_version text e

go-sound : (text go : List ℕ) → go_text_in text ≡ Some go → is_some (strict_go go) ≡ true
go-sound text go e = tested (λ t. is_some (strict_go t)) text e

pair-sound : (text : List ℕ) {p : ModuleVersion} → pair_in text ≡ Some p → IsPairOfNames p
unfolding pair_in
pair-sound text e =
    let cut = then-some (λ (parts : List ℕ × List ℕ). both pair (path_in parts.0) (version_in parts.1)) (split_at_byte 64 text) e in
    let parts = both-are pair _ _ cut.2 in
    rw (← parts.4) (path-sound cut.0.0 parts.2, version-sound cut.0.1 parts.3)

left-sound : (text : List ℕ) (left : Left) → left_in text ≡ Some left → IsSoundLeft left
unfolding left_in
left-sound text left e = elim (cases_Bool (has_byte 64 text)) [
  | inl versioned ↦
      let m = map-some (λ (p : ModuleVersion). left_with p.0 p.1) (pair_in text) (rw versioned at e) in
      rw (← m.2) (pair-sound text m.1)
  | inr bare ↦
      let m = map-some left_without (path_in text) (rw bare at e) in
      rw (← m.2) (path-sound text m.1, tt)
]

right-sound : (text : List ℕ) (right : Right) → right_in text ≡ Some right → IsSoundRight right
unfolding right_in
right-sound text right e = elim (cases_Bool (is_folder_path text)) [
  | inl folder ↦
      let t = if-other (has_byte 10 text) (Some (Folder text)) (rw folder at e) in
      let same : Folder text ≡ right = cc in
      rw (← same) (folder, t.0)
  | inr other ↦
      let m = map-some (λ (p : ModuleVersion). Module p.0 p.1) (pair_in text) (rw other at e) in
      rw (← m.2) (pair-sound text m.1)
]

replacing-sound : (text : List ℕ) (r : Replacing) → replacing_in text ≡ Some r → IsSoundLeft r.0 × IsSoundRight r.1
unfolding replacing_in
replacing-sound text r e =
    let cut = then-some (λ (parts : List ℕ × List ℕ). both replacing (left_in parts.0) (right_in parts.1)) (split_at_byte 61 text) e in
    let parts = both-are replacing _ _ cut.2 in
    rw (← parts.4) (left-sound cut.0.0 _ parts.2, right-sound cut.0.1 _ parts.3)

ends-sound : (text : List ℕ) (ends : VersionInterval) → interval_in text ≡ Some ends → AreVersions ends
unfolding interval_in
ends-sound text ends e = elim (cases_Bool (is_bracketed text)) [
  | inl two ↦
      let cut = then-some (λ (parts : List ℕ × List ℕ). both pair (version_in (trim parts.0))
      (version_in (trim parts.1))) (split_at_byte 44 (inside_brackets text)) (rw two at e) in
      let parts = both-are pair (version_in (trim cut.0.0)) (version_in (trim cut.0.1)) cut.2 in
      rw (← parts.4) (version-sound (trim cut.0.0) parts.2, version-sound (trim cut.0.1) parts.3)
  | inr one ↦
      let m = map-some (λ (v : List ℕ). pair v v) (version_in text) (rw one at e) in
      let v = version-sound text m.1 in
      rw (← m.2) (v, v)
]

-- an operation of a kind has valid arguments
as-sound : (kind : OperationKind) (text : List ℕ) (edit : Edit) → edit_as kind text ≡ Some edit → IsSoundEdit edit
as-sound op.Module text edit e =
    let m = map-some _ _ e in rw (← m.2) (path-sound _ m.1)
as-sound op.Go text edit e =
    let m = map-some _ _ e in rw (← m.2) (go-sound _ _ m.1)
as-sound op.Require text edit e =
    let m = map-some _ _ e in rw (← m.2) (pair-sound _ m.1)
as-sound op.DropRequire text edit e =
    let m = map-some _ _ e in rw (← m.2) tt
as-sound op.Exclude text edit e =
    let m = map-some _ _ e in rw (← m.2) (pair-sound _ m.1)
as-sound op.DropExclude text edit e =
    let m = map-some _ _ e in rw (← m.2) tt
as-sound op.Replace text edit e =
    let m = map-some _ _ e in rw (← m.2) (replacing-sound _ _ m.1)
as-sound op.DropReplace text edit e =
    let m = map-some _ _ e in rw (← m.2) tt
as-sound op.Retract text edit e =
    let m = map-some _ _ e in rw (← m.2) (ends-sound _ _ m.1)
as-sound op.DropRetract text edit e =
    let m = map-some _ _ e in rw (← m.2) tt

pub named-sound : (name text : List ℕ) {edit : Edit} → edit_named name text ≡ Some edit → IsSoundEdit edit
unfolding edit_named
named-sound name text {edit} e =
    let named = then-some (λ (kind : OperationKind). edit_as kind text) (operation_named name) e in as-sound named.0 text _ named.2

-- an operation that some text spells has valid arguments
pub written-sound : (text : List ℕ) (edit : Edit) → edit_in text ≡ Some edit → IsSoundEdit edit
unfolding edit_in
written-sound text edit e =
    let cut = then-some (λ (parts : List ℕ × List ℕ). edit_named parts.0 parts.1) (split_at_byte 61 text) e in
    named-sound cut.0.0 cut.0.1 cut.2
