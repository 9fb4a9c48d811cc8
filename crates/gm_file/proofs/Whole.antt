-- From the fields of all lines to the fault and the invariant of a whole file.
use Rattle.std.proofs.Common.{◌≡◌, ℕ, Bool, List, Option, Some, None, is_some, refl, sym, ap, ◌∙◌}
use Rattle.std.specs.Prelude.{if◌then◌else◌, unwrap_or}
use Rattle.gm_name.specs.ModuleVersion.{ModuleVersion}
use Rattle.gm_syntax_words.specs.Tokens.{Placed}
use Rattle.gm_syntax_words.specs.Words.{Word}
use Rattle.gm_syntax.specs.Document.{Line}
use Rattle.gm_syntax.specs.LineViews.{plain_lines}
use Rattle.gm_file.specs.declared.fault.DirectiveKind.TheVariants.{NoModule}
use Rattle.gm_file.specs.declared.fields.Fields.{Fields}
use Rattle.gm_file.specs.Directives.{Mode, Strict, Lax, directives}
use Rattle.gm_file.specs.Faults.{fault_of, missing_module}
use Rattle.gm_file.specs.Fields.{Dependency, dependency_of, go_of, module_of}
use Rattle.gm_file.specs.Held.{AreMainFields}
use Rattle.gm_file.specs.Main.{Main, main_of}
use Rattle.gm_file.specs.Private.Holding.{AreRead}
use Rattle.gm_file.specs.Views.{replace_views}

only-missing : {mode : Mode} {lines : List (Line Word)} {f : Fields} → AreRead mode lines f → fault_of mode lines ≡ missing_module mode (directives mode lines)
unfolding fault_of
only-missing read = rw read.sound

-- the fault of a missing module, by whether a path is declared
missing-by : {lines : List (Line Word)} {f : Fields} {b : Bool} → AreRead Strict lines f → is_some f.declared ≡ b
    → fault_of Strict lines ≡ (if b then None else Some (0, NoModule))
missing-by read is = only-missing read ∙ rw (read.holds.is_declared ∙ is)

pub none-declared : (lines : List (Line Word)) (f : Fields) → AreRead Strict lines f → f.declared ≡ None → fault_of Strict lines ≡ Some (0, NoModule)
none-declared lines f read none = missing-by read (ap is_some none)

pub main-sound : (lines : List (Line Word)) (f : Fields) (path : List ℕ) → AreRead Strict lines f → f.declared ≡ Some path → fault_of Strict lines ≡ None
main-sound lines f path read is = missing-by read (ap is_some is)

-- what a file with these fields says
abbrev pub said-by : Fields → List ℕ → ℕ × ℕ → Main
said-by f path go = record {
  path = path;
  go = go;
  requirements = f.requirements.items;
  excludes = f.excludes.lines.items;
  replaces = replace_views f.replaces.lines.items;
}

main-said : (lines : List (Line Placed)) (f : Fields) (path : List ℕ) (go : ℕ × ℕ) → AreRead Strict (plain_lines lines) f
    → f.declared ≡ Some path → go ≡ unwrap_or f.go (1, 16) → main_of lines ≡ said-by f path go
main-said lines f path go read is go-is =
    let declared : module_of Strict (plain_lines lines) ≡ Some path = read.holds.declared_is ∙ is in
    let number : go_of Strict (plain_lines lines) ≡ go = rw read.holds.go_is (sym go-is) in
    rw (declared, number, read.holds.requirements_are, read.holds.excludes_are, read.holds.replaces_are) refl

pub main-held : (lines : List (Line Placed)) (f : Fields) (path : List ℕ) (go : ℕ × ℕ) → AreRead Strict (plain_lines lines) f
    → f.declared ≡ Some path → go ≡ unwrap_or f.go (1, 16) → AreMainFields lines (said-by f path go) f.retracts.items
main-held lines f path go read is go-is = record {
  sound = main-sound _ _ _ read is;
  path_is = read.holds.declared_is ∙ is;
  main_is = main-said _ _ _ _ read is go-is;
  retracts_are = read.holds.retracts_are;
}

pub lax-sound : (lines : List (Line Word)) (f : Fields) → AreRead Lax lines f → fault_of Lax lines ≡ None
lax-sound lines f read = only-missing read

abbrev pub dependency : Option (List ℕ) → ℕ × ℕ → List ModuleVersion → Dependency
dependency declared go requirements = record { declared = declared; go = go; requirements = requirements }

pub dependency-is : (lines : List (Line Word)) (f : Fields) (go : ℕ × ℕ) → AreRead Lax lines f
    → go ≡ unwrap_or f.go (1, 16) → dependency f.declared go f.requirements.items ≡ dependency_of lines
dependency-is lines f go read go-is =
    let number : go ≡ go_of Lax lines = go-is ∙ sym (rw read.holds.go_is) in
    rw (← read.holds.declared_is) (rw number (rw (← read.holds.requirements_are)))
