-- The class of bytes that can't be read as a dependency's file.
use Rattle.std.proofs.Common.{◌≡◌, ◌<◌, ◌≤◌, ℕ, List, length, Err, ap, arith}
use Rattle.gm_file.specs.Directives.{Lax}
use Rattle.gm_file.specs.Misreading.{IsMisread}
use Rattle.gm_file.specs.declared.misreading.Misreading.{Misreading}
use Rattle.gm_file.specs.declared.misreading.Misreading.TheVariants as misreading
use Rattle.gm_graph_files.specs.declared.class.Class.TheVariants.{Malformed}
use Rattle.gm_graph_files.specs.Reading.{IsContentReading}

-- bytes that aren't too many
pub class-of_few : (content : List ℕ) (line : ℕ) (kind : Misreading) → IsMisread Lax content line kind
    → length content ≤ 16777216 → IsContentReading content (Err (Malformed line kind))
class-of_few content line misreading.TooMany is few = omega (arith, is.1, few)
class-of_few content line misreading.NotUtf8 is few = is
class-of_few content line (misreading.Syntax kind) is few = is
class-of_few content line (misreading.Directive kind) is few = is

-- bytes that are too many
pub class-of_many : (content : List ℕ) (line : ℕ) (kind : Misreading) → IsMisread Lax content line kind
    → 16777216 < length content → Malformed line kind ≡ Malformed 0 misreading.TooMany
class-of_many content line misreading.TooMany is many = ap (λ (n : ℕ). Malformed n misreading.TooMany) is.0
class-of_many content line misreading.NotUtf8 is many = absurd (omega (arith, is.1.0, many))
class-of_many content line (misreading.Syntax kind) is many = absurd (omega (arith, is.0.0, many))
class-of_many content line (misreading.Directive kind) is many = absurd (omega (arith, is.1.0.0, many))
