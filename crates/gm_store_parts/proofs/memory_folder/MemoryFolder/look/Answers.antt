use Rattle.std.proofs.Common.{◌≡◌, ◌<◌, ◌≤◌, ℕ, length, ap, ◌∙◌, sym, arith, Option, Some, List, Vec, Global}
use Rattle.std.specs.Prelude.{if◌then◌else◌, nat_le}
use Rattle.gm_store_parts.specs.FoldersInMemory.{result_for_file}
use Rattle.gm_store_parts.specs.Steps.{found, too_long}
use Rattle.gm_store_parts.specs.declared.memory_folder.Held.{Held}
use Rattle.gm_store_parts.specs.declared.memory_folder.Held.TheVariants.{Content}
use Rattle.gm_store_parts.proofs.NameOrder.{found_by}
use Rattle.gm_store_parts.proofs.memory_folder.MemoryFolder.look.Goals as goal

fits : (limit : ℕ) (xs : List ℕ) → length xs ≤ limit → (if nat_le (length xs) limit then found xs else too_long) ≡ found xs
fits limit xs h = grind arith

exceeds : (limit : ℕ) (xs : List ℕ) → limit < length xs → (if nat_le (length xs) limit then found xs else too_long) ≡ too_long
exceeds limit xs h = grind arith

seen_short : (held : Option Held) (bytes : Vec ℕ Global) → held ≡ Some (Content bytes) → length bytes.items ≤ 16777216
    → found bytes.items ≡ result_for_file held
seen_short held bytes e h = sym (ap result_for_file e ∙ fits 16777216 bytes.items h)

seen_long : (held : Option Held) (bytes : Vec ℕ Global) → held ≡ Some (Content bytes) → 16777216 < length bytes.items → too_long ≡ result_for_file held
seen_long held bytes e h = sym (ap result_for_file e ∙ exceeds 16777216 bytes.items h)

pub returns-in-None-clause-contents : goal.returns-in-None-clause-contents
returns-in-None-clause-contents c = sym (ap result_for_file (sym (c.in-None.ensures.value ∙ found_by c.args.name.now c.args.self.now.held.entries)))

pub returns-in-Some-Broken-clause-contents : goal.returns-in-Some-Broken-clause-contents
returns-in-Some-Broken-clause-contents c =
    sym (ap result_for_file (sym (c.in-Some-Broken.ensures.value
    ∙ found_by c.args.name.now c.args.self.now.held.entries) ∙ ap Some c.in-Some-Broken.field-0-is))

pub returns-then-len-gt-LIMIT-clause-contents : goal.returns-then-len-gt-LIMIT-clause-contents
returns-then-len-gt-LIMIT-clause-contents c =
    let lies = sym (c.in-Some-Content.ensures.value ∙ found_by c.args.name.now c.args.self.now.held.entries) ∙ ap Some c.in-Some-Content.field-0-is in
    seen_long _ c.in-Some-Content.content lies (omega arith)

pub returns-in_ok-copy_bytes-in-Some-Content-clause-contents : goal.returns-in_ok-copy_bytes-in-Some-Content-clause-contents
returns-in_ok-copy_bytes-in-Some-Content-clause-contents c =
    let lies = sym (c.in-Some-Content.ensures.value ∙ found_by c.args.name.now c.args.self.now.held.entries) ∙ ap Some c.in-Some-Content.field-0-is in
    ap found c.in_ok-copy_bytes-in-Some-Content.ensures ∙ seen_short _ c.in-Some-Content.content lies (omega arith)
