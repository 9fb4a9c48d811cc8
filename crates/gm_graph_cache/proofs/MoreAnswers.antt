-- A cache that keeps one more file knows one more answer.
use Rattle.std.proofs.Common.{◌≡◌, ◌∙◌, cond, List, [], ◌∷◌, ◌++◌, Option, Some, None, sym, ap, refl, inl, inr}
use Rattle.std.specs.Option.{option_map, option_or}
use Rattle.std.proofs.lemmas.Bool.{cases_Bool}
use Rattle.gm_name.specs.ModuleVersion.{ModuleVersion}
use Rattle.gm_store_parts.specs.Asked.{Name, Reply, answer_in, same_name}
use Rattle.gm_store_parts.proofs.NameOrder.{names_equal}
use Rattle.gm_name_table.specs.Listed.{BeginsWith, modules_of}
use Rattle.gm_graph_files.specs.declared.summary.Kept.{Kept}
use Rattle.gm_graph_cache.specs.declared.cache.Cache.{Cache}
use Rattle.gm_graph_cache.specs.declared.cache.file_table.FileTable.{FileTable}
use Rattle.gm_graph_cache.specs.Held.{HoldsAnswers, IsKeptReading}
use Rattle.gm_graph_cache.specs.Private.FileTable.{PutsFile}
use Rattle.gm_graph_cache.proofs.HeldFiles.{put_holds}
use Rattle.gm_graph_cache.proofs.Keeping.{knows_still, says_later, sound_still}
use Rattle.gm_graph_cache.proofs.Sayings.{answer_append}
use Rattle.gm_graph_files.specs.Summaries.{summary_reading}
use Rattle.gm_graph_cache.specs.Cached.{HoldsSame, KeepsSound, Knows, LentSame, main_in, run_in, summary_at, sums_in}

-- A name without an entry was not asked for.
pub not_asked : (cache : Cache) (pairs : List (Name × Reply)) (name : Name) → Knows cache pairs → summary_at cache name ≡ None → answer_in pairs name ≡ None
not_asked cache pairs name knows none = by (answer_in pairs name) refl
  where
    by : (answer : Option Reply) → answer_in pairs name ≡ answer → answer ≡ None
    by None is = refl
    by (Some reply) is =
        let got = knows.kept name reply is in absurd (cc (sym (ap (option_map (summary_reading (modules_of cache.modules))) none) ∙ got.1))

-- ---- one more answer

answer_more : (pairs : List (Name × Reply)) (name other : Name) (reply : Reply) → answer_in pairs name ≡ None
    → answer_in (pairs ++ (name, reply) ∷ []) other ≡ cond (same_name other name) (Some reply) (answer_in pairs other)
answer_more pairs name other reply none = rw (answer_append pairs ((name, reply) ∷ []) other)
    (elim (cases_Bool (same_name other name)) [
      | inl is ↦ (let no : answer_in pairs other ≡ None = ap (answer_in pairs) (names_equal other name is) ∙ none in rw (is, no))
      | inr apart ↦ rw apart (first (answer_in pairs other))
    ])
  where
    first : (o : Option Reply) → option_or o None ≡ o
    first None = refl
    first (Some held) = refl

-- ---- a cache with one more file

-- A cache that adds what was read of one more file knows all answers.
pub knows_read : (old mid : Cache) (files : FileTable) (pairs all : List (Name × Reply)) (name : Name) (reply : Reply) (one : Kept)
    → Knows old pairs → HoldsSame old mid → summary_at old name ≡ None → PutsFile mid.files files name one
    → all ≡ pairs ++ (name, reply) ∷ [] → IsKeptReading (main_in old) (sums_in old) name reply (summary_reading (modules_of mid.modules) one)
    → HoldsAnswers (run_in mid all) mid.modules files
knows_read old mid files pairs all name reply one knows same none adds e reads =
    put_holds (main_in mid) (sums_in mid) mid.modules mid.files files name reply one adds (rw (same.main, same.sums) reads) pairs all
    (λ other. rw e (answer_more pairs name other reply (not_asked old pairs name knows none)))
    (knows_still pairs same knows)

none_kept : (modules : List ModuleVersion) (o : Option Kept) → option_map (summary_reading modules) o ≡ None → o ≡ None
none_kept modules None e = refl
none_kept modules (Some one) e = absurd cc

-- A cache that holds the same keeps no file of which nothing was kept.
pub none_still : (old mid : Cache) (name : Name) → HoldsSame old mid → summary_at old name ≡ None → summary_at mid name ≡ None
none_still old mid name same none =
    none_kept (modules_of mid.modules) (summary_at mid name) (same.held name ∙ ap (option_map (summary_reading (modules_of old.modules))) none)

-- What was found at a place is found there still after what was read of one more file was added, if the files begin with
-- those that were kept.
pub sound_read : (old mid new : Cache) (pairs all : List (Name × Reply)) (name : Name) (reply : Reply) (one : Kept) → HoldsSame old mid
    → LentSame mid new → summary_at old name ≡ None → PutsFile mid.files new.files name one
    → BeginsWith mid.files.files.items new.files.files.items → all ≡ pairs ++ (name, reply) ∷ []
    → KeepsSound old (run_in old pairs) new (run_in new all)
sound_read old mid new pairs all name reply one same lent none adds files asked x place sound =
    let none_more : summary_at mid name ≡ None = none_still old mid name same none in
    sound_still mid new (run_in old pairs) (run_in new all) lent.main files
    (λ other some e. elim (cases_Bool (same_name other name)) [
      | inl is ↦ absurd (cc (sym (ap (summary_at mid) (names_equal other name is) ∙ none_more) ∙ e))
      | inr apart ↦ adds other ∙ rw apart e
    ])
    (says_later old new pairs ((name, reply) ∷ []) all (lent.main ∙ same.main) (lent.sums ∙ same.sums) asked) x place
    (same.sound (run_in old pairs) x place sound)
