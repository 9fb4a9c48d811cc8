-- Adding an exclusion or a replacement, or its refusal.
use Rattle.std.proofs.Common.{◌≡◌, [], ◌∷◌, ◌++◌, Result, Ok, Err, ap, ◌∙◌}
use Rattle.std.specs.Prelude.{IfErr, OnOk}
use Rattle.std.specs.List.{list_any}
use Rattle.gm_name.specs.ModuleVersion.{ModuleVersion}
use Rattle.gm_file.specs.declared.exclusions.Exclusions.{Exclusions}
use Rattle.gm_file.specs.declared.fault.LineFault.{LineFault}
use Rattle.gm_file.specs.declared.fault.LineFault.TheVariants as line
use Rattle.gm_file.specs.declared.fields.Fields.{Fields}
use Rattle.gm_file.specs.declared.replacements.Replacements.{Replacements}
use Rattle.gm_file.specs.Directives.{Excludes, Mode, Replaces, Replacing}
use Rattle.gm_file.specs.Faults.{directive_kinds, is_conflict}
use Rattle.gm_file.specs.Private.Holding.{HaveIndexes, IsAdded}
use Rattle.gm_file.specs.Indexes.{AreIndexed, IsSetOfLines}
use Rattle.gm_file.specs.Private.Indexes.{ReportsConflict}
use Rattle.gm_file.specs.Reading.{own_kinds}
use Rattle.gm_file.specs.Views.{replace_views}
use Rattle.gm_file.proofs.Saying.{conflict-reported, replace-right, say-exclusion, say-replacing}

-- ---- the indexes

pub excludes-found : (old : Fields) (now : Exclusions) (result : Result (Unit {0}) LineFault) → HaveIndexes old
    → OnOk result (IsSetOfLines now) → OnOk result (HaveIndexes (record old { excludes = now }))
excludes-found old now (Ok u) found set = record { excludes = set; replaces = found.replaces }
excludes-found old now (Err fault) found set = tt

pub replaces-found : (old : Fields) (now : Replacements) (result : Result (Unit {0}) LineFault) → HaveIndexes old
    → OnOk result (AreIndexed now) → OnOk result (HaveIndexes (record old { replaces = now }))
replaces-found old now (Ok u) found indexed = record { excludes = found.excludes; replaces = indexed }
replaces-found old now (Err fault) found indexed = tt

-- ---- the fields

pub exclusion-added : (mode : Mode) (old : Fields) (now : Exclusions) (pair : ModuleVersion)
    (result : Result (Unit {0}) LineFault) → own_kinds (Excludes pair) ≡ []
    → OnOk result (now.lines.items ≡ old.excludes.lines.items ++ pair ∷ [])
    → IfErr result (λ fault. fault ≡ line.NoMemory) → IsAdded mode old (record old { excludes = now }) (Excludes pair) result
unfolding directive_kinds
exclusion-added mode old now pair (Ok u) early lines memory = λ ds holds. (rw lines (say-exclusion holds _), early)
exclusion-added mode old now pair (Err line.NoMemory) early lines memory = tt
exclusion-added mode old now pair (Err (line.Kind kind)) early lines memory = absurd (cc memory)

pub replacing-added : (mode : Mode) (old : Fields) (now : Replacements) (r : Replacing)
    (result : Result (Unit {0}) LineFault) → own_kinds (Replaces r) ≡ []
    → OnOk result (replace_views now.lines.items ≡ replace_views old.replaces.lines.items ++ r ∷ [])
    → ReportsConflict r (replace_views old.replaces.lines.items) result
    → IsAdded mode old (record old { replaces = now }) (Replaces r) result
replacing-added mode old now r (Ok u) early lines conflict = λ ds holds. (
  rw lines (say-replacing holds _),
  replace-right _ _ _ early (ap (list_any (is_conflict r)) holds.replaces_are ∙ conflict),
)
replacing-added mode old now r (Err fault) early lines conflict =
    conflict-reported _ old (record old { replaces = now }) _ _ _ early (λ ds holds. holds.replaces_are) conflict
