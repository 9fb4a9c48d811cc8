-- The text of a name.
use Rattle.std.specs.Prelude.{ℕ, List, string_bytes}
use Rattle.gm_version.specs.declared.name_text.NameText.{NameText}
use Rattle.gm_version.specs.declared.name_text.NameText.TheVariants.{Long, Short}

abbrev pub text_bytes : NameText → List ℕ
text_bytes (Short text) = text.bytes
text_bytes (Long text) = string_bytes text
