-- The places of files: of their names, and noted for the numbers of modules.
use Rattle.std.proofs.Common.{◌≡◌, ◌∙◌, ◌<◌, ℕ, List, [], Option, Some, None, ap, ap₂, length, refl, sym}
use Rattle.std.specs.Option.{IsSome, option_or}
use Rattle.std.specs.Prelude.{unwrap_or}
use Rattle.std.proofs.lemmas.Option.{slice_get-get_or}
use Rattle.gm_name.specs.ModuleVersion.{ModuleVersion, module_at}
use Rattle.gm_name_table.specs.Private.Lists.{IsAbsent}
use Rattle.gm_file.specs.Directives.{Right}
use Rattle.gm_file.specs.Main.{Main, replacement_in}
use Rattle.gm_store_parts.specs.Asked.{Name, mod_file}
use Rattle.gm_graph_cache.specs.declared.cache.file_table.FileTable.{FileTable}
use Rattle.gm_graph_cache.specs.FileTable.{place_of}
use Rattle.gm_graph_cache.specs.Private.FileTable.{IsUnnoted, NotesFiles, place_noted, replacing_place}
use Rattle.gm_graph_files.specs.Reading.{file_named, file_of}

-- ---- a file that is not one of a replacement is that of one module

module _ (main : Main) (modules : List ModuleVersion) (files : FileTable) (notes : NotesFiles main modules files) where
  own_file : (x : ModuleVersion) → replacing_place files (file_of main x) ≡ None → file_of main x ≡ mod_file x.0 x.1
  own_file x none = by (replacement_in main x) (λ some. let there = rw none at (notes.has_replacing x some) in cc)
    where
      by : (o : Option Right) → (IsSome o → ⊥) → file_named x o ≡ mod_file x.0 x.1
      by None never = refl
      by (Some right) never = absurd (never refl)

  one_owner : (x y : ModuleVersion) (name : Name) → replacing_place files name ≡ None → name ≡ file_of main x → name ≡ file_of main y → x ≡ y
  one_owner x y name none named also =
      one_module (sym (own_file x (ap (replacing_place files) (sym named) ∙ none)) ∙ sym named ∙ also
      ∙ own_file y (ap (replacing_place files) (sym also) ∙ none))
    where
      one_module : mod_file x.0 x.1 ≡ mod_file y.0 y.1 → x ≡ y
      one_module same =
          let p : x.0 ≡ y.0 = cc in let v : x.1 ≡ y.1 = cc in
          ap₂ (λ (a b : List ℕ). (a, b)) p v

  -- If no place is noted for the modules with this file, its place is that of a replacement's file.
  by_replacing : (name : Name) → (replacing_place files name ≡ None → IsUnnoted main modules files name)
      → place_of files name ≡ unwrap_or (replacing_place files name) None
  by_replacing name unnoted = by (replacing_place files name) refl
    where
      by : (o : Option (Option ℕ)) → replacing_place files name ≡ o → place_of files name ≡ unwrap_or o None
      by None none = notes.others_noted name (unnoted none) none
      by (Some place) some = notes.replacing_noted name place some

  -- So it is for a module without a number.
  pub place_by_absent : (x : ModuleVersion) (name : Name) → IsAbsent modules x → name ≡ file_of main x
      → place_of files name ≡ unwrap_or (replacing_place files name) None
  place_by_absent x name absent named = by_replacing name (λ none k below also. absurd (absent k
      (slice_get-get_or modules k ([], []) below ∙ ap (λ (y : ModuleVersion). Some y) (sym (one_owner x (module_at modules k) name none named also)))))

-- The place of a file's name is the one noted for its module, or otherwise that of a replacement's file.
pub place_by : (main : Main) (modules : List ModuleVersion) (files : FileTable) (number : ℕ) (name : Name) → NotesFiles main modules files
    → ((k : ℕ) → k < length modules → module_at modules k ≡ module_at modules number → k ≡ number) → name ≡ file_of main (module_at modules number)
    → place_of files name ≡ option_or (place_noted files number) (unwrap_or (replacing_place files name) None)
place_by main modules files number name notes only named = noted (place_noted files number) refl
  where
    noted : (o : Option ℕ) → place_noted files number ≡ o
        → place_of files name ≡ option_or o (unwrap_or (replacing_place files name) None)
    noted None nowhere = by_replacing main modules files notes name (λ none k below also.
        ap (place_noted files) (only k below (one_owner main modules files notes (module_at modules k) (module_at modules number) name none also named))
        ∙ nowhere)
    noted (Some place) some = ap (place_of files) named ∙ (notes.modules_noted number place some).placed
