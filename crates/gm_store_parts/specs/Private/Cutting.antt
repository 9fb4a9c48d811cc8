-- The state of parsing a proxy list, after part of its text.
use Rattle.std.specs.Prelude.{◌≡◌, ℕ, List, [], ◌∷◌, ◌++◌, length, map, String}
use Rattle.std.specs.String.{string_bytes}
use Rattle.std.specs.declared.alloc.Global.{Global}
use Rattle.gm_store_parts.specs.declared.fallback.proxy_list.Mark.{Mark}
use Rattle.gm_store_parts.specs.Proxies.{folders_of, marks_of}

-- the complete folders, the marks that end them, and the last folder, which may still grow
pub record IsParsedPrefix (text : List ℕ) (folders : List (String Global)) (marks : List Mark) (last : String Global)
    : Type 0 where
  pub folders_so_far : folders_of text ≡ map string_bytes folders ++ string_bytes last ∷ []
  pub marks_so_far : marks_of text ≡ marks
  pub between : length folders ≡ length marks
