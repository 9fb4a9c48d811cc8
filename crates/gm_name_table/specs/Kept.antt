-- What a contract sees of known names: how many are kept, and how many may be.
use Rattle.std.specs.Prelude.{◌≡◌, ◌≤◌, ℕ}

-- for how many names of each kind there is room, and how many paths and versions are kept
pub record KeptCounts : Type 0 where
  pub room : ℕ
  pub paths : ℕ
  pub versions : ℕ

-- no more paths and versions are kept than there is room for
abbrev pub IsWithinRoom : KeptCounts → Type 0
IsWithinRoom kept = (kept.paths ≤ kept.room) × (kept.versions ≤ kept.room)

-- nothing is kept
abbrev pub none_kept : ℕ → KeptCounts
none_kept room = record { room = room; paths = 0; versions = 0 }

-- the room stays, and no path or version is forgotten
abbrev pub KeepsAll : KeptCounts → KeptCounts → Type 0
KeepsAll old new = (new.room ≡ old.room) × (old.paths ≤ new.paths) × (old.versions ≤ new.versions)
