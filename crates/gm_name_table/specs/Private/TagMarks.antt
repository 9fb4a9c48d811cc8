-- Marks under tags.
use Rattle.std.specs.Prelude.{◌≡◌, ◌/◌, ℕ, Some, length, slice_get, true}
use Rattle.gm_name_table.specs.declared.tag_marks.TagMarks.{TagMarks}

-- which mark is that of a tag
abbrev pub mark_of : ℕ → ℕ
mark_of tag = tag / 4194304

-- The tag is marked.
abbrev pub IsMarked : TagMarks → ℕ → Type 0
IsMarked marks tag = (length marks.marks.items ≡ 1024) × (slice_get marks.marks.items (mark_of tag) ≡ Some true)

-- What was marked is marked.
abbrev pub KeepsMarks : TagMarks → TagMarks → Type 0
KeepsMarks old new = (tag : ℕ) → IsMarked old tag → IsMarked new tag
