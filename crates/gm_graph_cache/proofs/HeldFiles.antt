-- What is held of files stays if the list of modules grows, and when one more file is kept.
use Rattle.std.proofs.Common.{◌≡◌, ◌∙◌, cond, ℕ, List, [], ◌∷◌, Option, Some, None, ap, append-nil, refl, sym, inl, inr}
use Rattle.std.specs.Prelude.{slice_get}
use Rattle.std.specs.Option.{option_and_then, option_map}
use Rattle.std.proofs.lemmas.Bool.{cases_Bool}
use Rattle.std.proofs.lemmas.Option.{same_Some}
use Rattle.std.proofs.Math.Logic.{∥∥₁_map}
use Rattle.gm_name.specs.ModuleVersion.{ModuleVersion}
use Rattle.gm_name_table.proofs.Listed.{begins_as}
use Rattle.gm_name_table.specs.Listed.{NumberedList, modules_of}
use Rattle.gm_name_table.specs.Lists.{IsOneMoreAtMost}
use Rattle.gm_file.specs.Main.{Main}
use Rattle.gm_store_parts.proofs.NameOrder.{names_equal}
use Rattle.gm_store_parts.specs.Asked.{Name, Reply, answer_in, same_name}
use Rattle.gm_store_sums.specs.Sums.{Sums}
use Rattle.gm_graph_cache.specs.declared.cache.file_table.FileTable.{FileTable}
use Rattle.gm_graph_files.specs.declared.summary.Kept.{Kept}
use Rattle.gm_graph_cache.specs.FileTable.{kept_at, place_of}
use Rattle.gm_graph_cache.specs.Private.FileTable.{KeepsFiles, PutsFile}
use Rattle.gm_graph_cache.specs.Held.{HoldsAnswers, IsKeptReading, held_under}
use Rattle.gm_graph_cache.specs.Sayings.{Run, run_of}
use Rattle.gm_graph_files.specs.Summaries.{summary_reading}
use Rattle.gm_graph_files.specs.KeptFiles.{AreKeptIn, Grows, IsKeptIn}
use Rattle.gm_graph_files.proofs.Spans.{readings_still}

-- If nothing is kept, no answers say so.
pub none_holds : {main : Main} {sums : Option Sums} {list : NumberedList} {files : FileTable} → ((name : Name) → kept_at files name ≡ None)
    → HoldsAnswers (run_of main sums []) list files
none_holds none = record { kept = λ name reply e. absurd (cc e); only = λ name e. rw (none name) refl }

-- Where the same is held of each name, the same answers say it.
pub holds_by : {run : Run} {list more : NumberedList} {old new : FileTable} → ((name : Name) → held_under more new name ≡ held_under list old name)
    → HoldsAnswers run list old → HoldsAnswers run more new
holds_by same holds = record {
  kept = λ name reply e. let got = holds.kept name reply e in (got.0, same name ∙ got.1, got.2);
  only = λ name e. same name ∙ holds.only name e;
}

-- ---- a list of modules that grew

-- The list is the same, and one more module may have a number.
pub numbered_more : {old new : NumberedList} (pair : ModuleVersion) → IsOneMoreAtMost old.modules new.modules pair → new.numbers ≡ old.numbers
    → modules_of new ≡ modules_of old → Grows old new
numbered_more {old} {new} pair only numbers list = (
  [],
  record {
    numbered = begins_as old.modules new.modules pair only;
    kept = ([], numbers ∙ sym (append-nil old.numbers));
    listed = list ∙ sym (append-nil (modules_of old));
  },
)

-- The requirements of a file that is found by its name are in the list.
kept_named : (modules : List ModuleVersion) (files : FileTable) (name : Name) (one : Kept) → AreKeptIn modules files.files.items → kept_at files name ≡ Some one
    → IsKeptIn modules files.files.items one
kept_named modules files name one are = by (place_of files name)
  where
    by : (o : Option ℕ) → option_and_then (slice_get files.files.items) o ≡ Some one → IsKeptIn modules files.files.items one
    by None e = absurd (cc e)
    by (Some place) e = are place one e

module _ (main : Main) (old new : NumberedList) (files : FileTable) (grows : Grows old new)
    (are : AreKeptIn (modules_of old) files.files.items) where
  pub grown_held : (name : Name) → held_under new files name ≡ held_under old files name
  grown_held name =
      readings_still (modules_of old) (modules_of new) files.files.items (kept_at files name) (grows.0, grows.1.listed)
      (λ one. kept_named (modules_of old) files name one are)

  pub grown_holds : (sums : Option Sums) (pairs : List (Name × Reply)) → HoldsAnswers (run_of main sums pairs) old files
      → HoldsAnswers (run_of main sums pairs) new files
  grown_holds sums pairs holds = holds_by grown_held holds

-- ---- a file that was added

-- Some answers say what is held.
abbrev pub HoldsSome : Main → Option Sums → NumberedList → FileTable → Type 0
HoldsSome main sums list files = (pairs : List (Name × Reply)) × HoldsAnswers (run_of main sums pairs) list files

module _ (main : Main) (sums : Option Sums) (list : NumberedList) (old new : FileTable) where
  -- The answer for one name is this one now, and those for the others stay.
  pub put_holds : (name : Name) (reply : Reply) (one : Kept) → PutsFile old new name one
      → IsKeptReading main sums name reply (summary_reading (modules_of list) one) → (pairs all : List (Name × Reply))
      → ((other : Name) → answer_in all other ≡ cond (same_name other name) (Some reply) (answer_in pairs other))
      → HoldsAnswers (run_of main sums pairs) list old → HoldsAnswers (run_of main sums all) list new
  put_holds name reply one puts reads pairs all more holds = record {
    kept = λ other held e. elim (cases_Bool (same_name other name)) [
      | inl same ↦ (
        summary_reading (modules_of list) one,
        rw (puts other, same) refl,
        rw (names_equal other name same) (rw (same_Some reply held (sym (rw same at (more other)) ∙ e)) at reads),
      )
      | inr apart ↦ (
          let got = holds.kept other held (sym (rw apart at (more other)) ∙ e) in
          (got.0, rw (puts other, apart) got.1, got.2))
    ];
    only = λ other e. elim (cases_Bool (same_name other name)) [
      | inl same ↦ absurd (cc (sym (rw same at (more other)) ∙ e))
      | inr apart ↦ rw (puts other, apart) (holds.only other (sym (rw apart at (more other)) ∙ e))
    ];
  }

  pub kept_some : KeepsFiles old new → ∥ HoldsSome main sums list old ∥₁ → ∥ HoldsSome main sums list new ∥₁
  kept_some keeps some =
      ∥∥₁_map some (λ it. (it.0, holds_by (λ name. ap (option_map (summary_reading (modules_of list))) (keeps name)) it.1))

  -- So some answers say what is held after a file was added.
  pub added_some : (name : Name) (one : Kept) → (reply : Reply) × IsKeptReading main sums name reply (summary_reading (modules_of list) one)
      → PutsFile old new name one → ∥ HoldsSome main sums list old ∥₁ → ∥ HoldsSome main sums list new ∥₁
  added_some name one says puts some =
      ∥∥₁_map some (λ it. ((name, says.0) ∷ it.0, put_holds name says.0 one puts says.1 it.0 ((name, says.0) ∷ it.0) (λ other. refl) it.1))
