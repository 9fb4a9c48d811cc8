-- A file that is found in folders in memory is found with one more folder after the last, too.
use Rattle.std.proofs.Common.{◌≡◌, ◌≢◌, ◌∙◌, ◌++◌, ◌∷◌, ℕ, zero, suc, List, [], Option, Some, None, ap, append_assoc, sym}
use Rattle.std.specs.Prelude.{map, slice_get}
use Rattle.std.proofs.lemmas.List.{map-append}
use Rattle.gm_store_parts.specs.declared.fallback.step.Next.TheVariants.{Go, Take}
use Rattle.gm_store_parts.specs.declared.memory_folder.MemoryFolder.{MemoryFolder}
use Rattle.gm_store_parts.specs.declared.fallback.proxy_list.Mark.{Mark}
use Rattle.gm_store_parts.specs.declared.fallback.proxy_list.Mark.TheVariants.{Bar, Comma}
use Rattle.gm_store_parts.specs.Asked.{Name, Reply, bytes, folder_file, list_file, mod_file}
use Rattle.gm_store_parts.specs.FoldersInMemory.{result_at}
use Rattle.gm_store_parts.specs.Steps.{Seen, StopsAt, absent, failed, found, outcome_of, step_of, too_long}
use Rattle.gm_store.specs.declared.folders.in_memory.FoldersInMemory.{FoldersInMemory}
use Rattle.gm_store.proofs.Stops.{held_stop, one_stop, unmarked}
use Rattle.gomod_laws.specs.FolderLaws.{HasOneMore, FolderMayAnswer}

-- ---- one more result and one more mark

-- a request that goes on after a folder goes on as before
goes_again : (marks : List Mark) (mark : Mark) (k : ℕ) (seen : Seen) → step_of seen (slice_get marks k) ≡ Go
    → step_of seen (slice_get (marks ++ mark ∷ []) k) ≡ Go
goes_again [] mark k seen goes = absurd (unmarked _ goes)
goes_again (first ∷ marks) mark zero seen goes = goes
goes_again (first ∷ marks) mark (suc k) seen goes = goes_again marks _ k _ goes

-- only a file that was found is the answer
only_found : (content : List ℕ) (last : Seen) (mark : Option Mark) → Some (bytes content) ≡ outcome_of last (step_of last mark) → last ≡ found content
only_found content (found other) mark e = let same : content ≡ other = cc e in ap found (sym same)
only_found content too_long mark e = cc e
only_found content absent None e = cc e
only_found content absent (Some mark) e = cc e
only_found content failed None e = cc e
only_found content failed (Some Bar) e = cc e
only_found content failed (Some Comma) e = cc e

found_takes : (content : List ℕ) (last : Seen) (mark : Option Mark) → last ≡ found content → step_of last mark ≢ Go
found_takes content last mark is goes = let takes : Take ≡ Go = sym (ap (λ s. step_of s mark) is) ∙ goes in cc takes

found_answers : (content : List ℕ) (last : Seen) (mark : Option Mark) → last ≡ found content → Some (bytes content) ≡ outcome_of last (step_of last mark)
found_answers content last mark is = sym (ap (λ s. outcome_of s (step_of s mark)) is)

stops_again : (looks : List Seen) (marks : List Mark) (content : List ℕ) (failures : ℕ) (look : Seen) (mark : Mark)
    → StopsAt looks marks (Some (bytes content)) failures
    → StopsAt (looks ++ look ∷ []) (marks ++ mark ∷ []) (Some (bytes content)) failures
stops_again looks marks content failures look mark stop =
    let is = only_found _ _ _ stop.answers in
    record {
      passed = stop.passed;
      last = stop.last;
      rest = stop.rest ++ look ∷ [];
      in_order = ap (λ seen. seen ++ look ∷ []) stop.in_order ∙ append_assoc _ _ (look ∷ []);
      goes = λ k seen e. goes_again _ _ k _ (stop.goes k seen e);
      stops = found_takes _ _ _ is;
      answers = found_answers _ _ _ is;
      counted = stop.counted;
    }

one_reply : (looks : List Seen) (marks : List Mark) (a b : Reply) (failures others : ℕ)
    → StopsAt looks marks (Some a) failures → StopsAt looks marks (Some b) others → b ≡ a
one_reply looks marks a b failures others stop again = let same = (one_stop looks marks (Some a) (Some b) failures others stop again).0 in cc same

-- ---- one more folder

module _ (folders others : FoldersInMemory) (marks more : List Mark) (one : HasOneMore folders others marks more) where
  in_proxies : (name : Name) (content : List ℕ) (reply : Reply) (failures count : ℕ)
      → StopsAt (map (λ shelf. result_at shelf name) folders.proxies.items) marks (Some (bytes content)) failures
      → StopsAt (map (λ shelf. result_at shelf name) others.proxies.items) more (Some reply) count
      → reply ≡ bytes content
  in_proxies name content reply failures count stop again =
      let look : MemoryFolder → Seen = λ shelf. result_at shelf name in
      let longer : map look others.proxies.items ≡ map look folders.proxies.items ++ look one.folder ∷ [] =
      ap (map look) one.proxies ∙ map-append _ _ (one.folder ∷ []) in
      one_reply _ _ _ _ _ _ (stops_again _ _ _ _ _ _ stop) (rw longer at (rw one.marks_are at again))

  beside_main : (name : Name) (content : List ℕ) (reply : Reply) (failures count : ℕ)
      → StopsAt (result_at folders.beside name ∷ []) [] (Some (bytes content)) failures
      → StopsAt (result_at others.beside name ∷ []) [] (Some reply) count
      → reply ≡ bytes content
  beside_main name content reply failures count stop again =
      one_reply _ _ _ _ _ _ stop (rw one.beside at again)

  -- the one answer to the name of a file that was found is that file
  pub found_again : (name : Name) (content : List ℕ) (reply : Reply)
      → FolderMayAnswer folders marks name (Some (bytes content)) → FolderMayAnswer others more name (Some reply)
      → reply ≡ bytes content
  found_again (mod_file path version) content reply (failures, may) (count, could) =
      let name = mod_file path version in
      in_proxies name _ _ _ _
      (held_stop folders name marks (Some _) failures may) (held_stop others name more (Some _) count could)
  found_again (list_file path) content reply (failures, may) (count, could) =
      let name = list_file path in
      in_proxies name _ _ _ _
      (held_stop folders name marks (Some _) failures may) (held_stop others name more (Some _) count could)
  found_again (folder_file text) content reply (failures, may) (count, could) =
      let name = folder_file text in
      beside_main name _ _ _ _
      (held_stop folders name [] (Some _) failures may) (held_stop others name [] (Some _) count could)
