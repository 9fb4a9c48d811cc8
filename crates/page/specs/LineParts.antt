-- A copy from crates/gomod_texts/specs/LineParts.antt, which tools/check/headline.py writes.
use Rattle.std.specs.Prelude.{ℕ, List, ◌++◌, codes}
use Rattle.page.specs.ModuleVersion.{ModuleVersion}

-- a text with the line feed that ends it
abbrev pub line : List ℕ → List ℕ
line text = text ++ codes "\n"

-- `PATH@VERSION`
abbrev pub vertex_text : ModuleVersion → List ℕ
vertex_text x = x.0 ++ codes "@" ++ x.1
