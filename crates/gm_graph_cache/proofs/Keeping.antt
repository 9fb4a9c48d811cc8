-- What stays when more is asked for, and when a cache returns requirements.
use Rattle.std.proofs.Common.{◌≡◌, ◌∙◌, List, [], ◌++◌, Option, Some, None, Result, Ok, Err, append-nil, arith, length, length-append, sym, ap, refl}
use Rattle.std.specs.Prelude.{IsErrAnd}
use Rattle.std.specs.Option.{option_and_then}
use Rattle.std.proofs.lemmas.Option.{option_and_then_some}
use Rattle.gm_store_parts.specs.Asked.{Name, Reply}
use Rattle.gm_store_parts.specs.States.{StoreState}
use Rattle.gm_store_parts.specs.declared.files.AskFault.{AskFault}
use Rattle.gm_store_parts.specs.declared.files.AskFault.TheVariants as ask
use Rattle.gm_store_parts.specs.declared.files.FileName.{FileName}
use Rattle.gm_name.specs.ModuleVersion.{ModuleVersion}
use Rattle.gm_name_table.specs.Listed.{BeginsWith}
use Rattle.gm_name_table.proofs.Listed.{begins_after}
use Rattle.gm_graph_cache.specs.declared.cache.Cache.{Cache}
use Rattle.gm_graph_files.specs.declared.summary.Kept.{Kept}
use Rattle.gm_file.specs.Main.{Main}
use Rattle.gm_graph_files.specs.Reading.{file_of}
use Rattle.gm_graph_cache.specs.FileTable.{kept_at}
use Rattle.gm_graph_cache.specs.Private.FileTable.{KeepsFiles, KeepsOthers}
use Rattle.gm_graph_files.specs.Summaries.{listed_span}
use Rattle.gm_graph_files.specs.KeptFiles.{Grows}
use Rattle.gm_graph_cache.specs.Cached.{HoldsSame, KeepsSound, Knows, LentSame, main_in, run_in, summary_at, sums_in, table_in, Follows}
use Rattle.gm_graph_cache.specs.Sayings.{KeepsSayings, Run}
use Rattle.gm_graph_cache.specs.Asking.{AsksFor, IsLoadFaultOf}
use Rattle.gm_graph_cache.specs.Refusals.{refused_in, refused_names}
use Rattle.gm_graph_cache.specs.declared.cache.load_fault.LoadFault.{LoadFault}
use Rattle.gm_graph_cache.specs.declared.cache.load_fault.LoadFault.TheVariants as load
use Rattle.gm_graph_cache.proofs.PuttingPlaces.{same_files}
use Rattle.gm_graph_cache.proofs.Sayings.{says_asked, says_more}
use Rattle.gm_graph_files.proofs.SharedLists.{own_still}
use Rattle.gm_graph_cache.proofs.HeldFiles.{grown_held, holds_by}

-- ---- the runs of a cache

-- A cache with the same main file and the same go.sum has the same runs.
pub same_run : (old new : Cache) (pairs : List (Name × Reply)) → new.main.now ≡ old.main.now → sums_in new ≡ sums_in old
    → run_in new pairs ≡ run_in old pairs
same_run old new pairs main sums = rw (main, sums) refl

-- If more is asked for, each file still says what it said.
pub says_later : (old new : Cache) (pairs more all : List (Name × Reply)) → new.main.now ≡ old.main.now → sums_in new ≡ sums_in old
    → all ≡ pairs ++ more → KeepsSayings (run_in old pairs) (run_in new all)
says_later old new pairs more all main sums asked x said says =
    rw (main, sums, asked) (says_more (main_in old) (sums_in old) pairs more x said says)

-- So it does after the file of a vertex was asked for, or nothing.
pub says_still : (old new : Cache) (before after : StoreState) (x : ModuleVersion) → LentSame old new → AsksFor (main_in old) before after x
    → KeepsSayings (run_in old before.asked) (run_in new after.asked)
says_still old new before after x lent asks y said says =
    rw (lent.main, lent.sums) (says_asked (main_in old) (sums_in old) before after x asks y said says)

-- ---- places stay

-- If the files are still where they were and what they were found by, and say what they said, what was found at a place
-- is found there still.
pub sound_still : (old new : Cache) (earlier later : Run) → new.main.now ≡ old.main.now → BeginsWith old.files.files.items new.files.files.items
    → ((name : Name) (one : Kept) → summary_at old name ≡ Some one → summary_at new name ≡ Some one)
    → KeepsSayings earlier later → KeepsSound old earlier new later
sound_still old new earlier later main files stay keeps x place sound =
    let same : main_in new ≡ main_in old = main in
    record {
      within = omega (arith, sound.within, ap length files.1, length-append old.files.files.items files.0);
      span = sound.span;
      own = rw files.1 (own_still old.files.files.items files.0 place sound.span sound.own);
      listed = ap (λ (m : Main). option_and_then listed_span (summary_at new (file_of m x))) same
          ∙ option_and_then_some listed_span (summary_at old (file_of (main_in old) x)) sound.span sound.listed
          (λ one there listed. ap (option_and_then listed_span) (stay (file_of (main_in old) x) one there) ∙ listed);
      file = sound.file;
      says = keeps x (Ok sound.file) sound.says;
    }

-- ---- a cache that holds the same

-- A cache that holds the same knows the same.
pub knows_still : {old new : Cache} (pairs : List (Name × Reply)) → HoldsSame old new → Knows old pairs → Knows new pairs
knows_still {old} {new} pairs same knows = rw (same_run old new pairs same.main same.sums) (holds_by same.held knows)

-- A cache with the same files holds the same, if its list of modules only grew.
pub holds_grown : (old new : Cache) → new.main.now ≡ old.main.now → sums_in new ≡ sums_in old → new.files ≡ old.files
    → Grows old.modules new.modules → HoldsSame old new
holds_grown old new main sums files grows =
    record {
      main = main;
      sums = sums;
      held = λ name. rw files (grown_held (main_in old) old.modules new.modules old.files grows old.consistent.listed name);
      numbered = grows.1.numbered;
      sound = λ run. sound_still old new run run main ([], ap (λ kept. kept.files.items) files ∙ sym (append-nil old.files.files.items))
          (λ name one e. rw files e) (λ x said says. says);
    }

-- So does one with the same list of modules, whose files begin with the old ones.
pub holds_listed : (old new : Cache) → new.main.now ≡ old.main.now → sums_in new ≡ sums_in old
    → KeepsFiles old.files new.files → BeginsWith old.files.files.items new.files.files.items
    → new.modules ≡ old.modules → HoldsSame old new
holds_listed old new main sums keeps files modules =
    record {
      main = main;
      sums = sums;
      held = λ name. rw (modules, keeps name) refl;
      numbered = ([], ap (λ list. list.modules) modules ∙ sym (append-nil (table_in old)));
      sound = λ run. sound_still old new run run main files (λ name one e. keeps name ∙ e) (λ x said says. says);
    }

-- So does one in which a place was noted.
pub holds_noted : (old new : Cache) → new.main.now ≡ old.main.now → sums_in new ≡ sums_in old → KeepsOthers old.files new.files
    → new.modules ≡ old.modules → HoldsSame old new
holds_noted old new main sums others modules =
    holds_listed old new main sums (same_files others) ([], rw others.files (sym (append-nil old.files.files.items))) modules

-- So does one with the same files.
pub holds_beside : (old new : Cache) → new.main.now ≡ old.main.now → sums_in new ≡ sums_in old → new.files ≡ old.files
    → new.modules ≡ old.modules → HoldsSame old new
holds_beside old new main sums files modules = holds_listed old new main sums (λ name. ap (λ kept. kept_at kept name) files)
    ([], ap (λ kept. kept.files.items) files ∙ sym (append-nil old.files.files.items)) modules

-- The same cache holds the same.
pub holds_itself : {cache : Cache} → HoldsSame cache cache
holds_itself {cache} = holds_beside cache cache refl refl refl refl

pub holds_after : {old mid new : Cache} → HoldsSame old mid → HoldsSame mid new → HoldsSame old new
holds_after {old} {mid} {new} one two = record {
  main = two.main ∙ one.main;
  sums = two.sums ∙ one.sums;
  held = λ name. two.held name ∙ one.held name;
  numbered = begins_after (table_in old) (table_in mid) (table_in new) one.numbered two.numbered;
  sound = λ run x place sound. two.sound run x place (one.sound run x place sound);
}

-- What was found at a place is found there by the same answers.
pub sound_same : (old new : Cache) (pairs : List (Name × Reply)) → HoldsSame old new → KeepsSound old (run_in old pairs) new (run_in new pairs)
sound_same old new pairs same =
    rw (same_run old new pairs same.main same.sums) (same.sound (run_in old pairs))

-- A cache that holds the same comes after it, by the same answers.
pub follows_same : {old new : Cache} {pairs : List (Name × Reply)} → HoldsSame old new → Knows old pairs → Follows old pairs new pairs
follows_same {old} {new} {pairs} same knows = record {
  knows = knows_still pairs same knows;
  main = same.main;
  sums = same.sums;
  numbered = same.numbered;
  stays = λ x said says. rw (same_run old new pairs same.main same.sums) says;
  sound = sound_same old new pairs same;
}

-- ---- refusals

-- Where memory runs out, no name is refused.
pub none_refused : {T : Type 0} (result : Result T LoadFault) (old new : List Name)
    → IsErrAnd result (λ fault. fault ≡ load.NoMemory) → new ≡ old → new ≡ old ++ refused_in result
none_refused (Ok value) old new given same = absurd given
none_refused (Err fault) old new given same = same ∙ sym (append-nil old) ∙ ap (λ fault. old ++ refused_names fault) (sym given)

pub never_many : (fault : AskFault) (failed : Option FileName) (result : LoadFault) → IsLoadFaultOf fault failed result → result ≡ load.TooMany → ⊥
never_many ask.NoMemory failed result is e = cc (sym is ∙ e)
never_many ask.Device None result is e = is
never_many ask.Device (Some there) result is e = cc (sym is ∙ e)
