-- A copy from crates/gm_name/specs/Tail.antt, which tools/check/headline.py writes.
use Rattle.std.specs.Prelude.{ℕ, ◌-◌, Bool, List, length, take, drop}
use Rattle.std.specs.List.{suffix_len}

-- the bytes at the end of a text that pass
abbrev pub tail : (ℕ → Bool) → List ℕ → List ℕ
tail p text = drop (length text - suffix_len p text) text

-- the text before them
abbrev pub head : (ℕ → Bool) → List ℕ → List ℕ
head p text = take (length text - suffix_len p text) text
