-- The files whose lists were followed: what they require has turns at full depth.
use Rattle.std.specs.Prelude.{ℕ, Bool, false, slice_index_or}
use Rattle.gm_graph.specs.declared.followed.Followed.{Followed}

-- Whether the list of the file at a place was followed.
abbrev pub followed_at : Followed → ℕ → Bool
followed_at followed file = slice_index_or followed.files.items file false
