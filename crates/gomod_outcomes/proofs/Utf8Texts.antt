-- The texts of `graph`, `list` and `chain` are UTF-8: names are ASCII, and the folders of a main file are UTF-8.
use Rattle.std.proofs.Common.{◌≡◌, ◌++◌, ◌∷◌, ◌<◌, ◌-◌, zero, suc, ℕ, true, List, [], Option, Some, None, All, Contains, arith, codes, get_or, inl, inr, length, refl, subst, sym}
use Rattle.std.proofs.lemmas.Bool.Decides.{nat_tests}
use Rattle.std.proofs.lemmas.List.Elements.{All-drop, All-head, All-tail, All-take, Contains-get_or}
use Rattle.std.proofs.lemmas.Str.{IsUtf8-append, IsUtf8-from_ascii, IsUtf8-nil, IsUtf8-string_bytes}
use Rattle.std.specs.Cmp.{first_so, second_so}
use Rattle.std.specs.List.{flat_map, list_all, slice_index}
use Rattle.std.specs.Str.{IsUtf8}
use Rattle.gm_name.specs.Path.{IsPath, is_byte_of_path}
use Rattle.gm_version.specs.Version.{IsVersion}
use Rattle.gm_name.proofs.Bytes.{path-bytes}
use Rattle.gm_store_parts.specs.Asked.{Name, Reply}
use Rattle.gm_store_parts.specs.States.{StoreState}
use Rattle.gm_store.proofs.Bytes.{IsAscii-version}
use Rattle.gm_store_sums.specs.Sums.{Sums}
use Rattle.gm_file.specs.Directives.{Folder, Module, Right}
use Rattle.gm_file.specs.Main.{IsMainFile, Main}
use Rattle.gm_file.specs.Views.{replace_views, right_view}
use Rattle.gm_file.specs.declared.replace.Right as declared
use Rattle.gm_file.specs.declared.replace.Right.TheVariants as right
use Rattle.gm_file.specs.declared.replace.Replace.{Replace}
use Rattle.gm_graph.specs.Entries.{Entry}
use Rattle.gm_graph.specs.Run.{AreRows}
use Rattle.gm_graph_cache.specs.Sayings.{Run, run_of}
use Rattle.gm_graph_select.proofs.Ascending.{member_cases}
use Rattle.gm_graph_select.proofs.RankedLists.{from_mapped}
use Rattle.gm_graph_select.specs.BuildList.{main_entry}
use Rattle.gm_graph_select.specs.declared.step.Step.{Step}
use Rattle.gm_graph_select.specs.declared.step.Step.TheVariants.{Main as FromMain, Of}
use Rattle.gomod_texts.proofs.FileNames.{of_each_right}
use Rattle.gomod_texts.proofs.OneRead.{one_main}
use Rattle.gomod_texts.proofs.PartOfRows.{after_row}
use Rattle.gomod_texts.proofs.RunNames.{run_has_names, run_has_proper_edges, run_has_proper_rows, run_has_proper_steps}
use Rattle.gomod_texts.specs.ChainQuery.{PrintsChain}
use Rattle.gomod_texts.specs.GraphQuery.{PrintsGraph, edge_line}
use Rattle.gomod_texts.specs.LineParts.{line, step_text}
use Rattle.gomod_texts.specs.ListQuery.{PrintsList, entry_line, no_path, path_listed, path_unlisted, replacement_suffix, up_to}
use Rattle.gomod_texts.specs.Outcome.{OrNoMemory, Outcome}
use Rattle.gomod_texts.specs.PrintedLines.{IsProperRight, IsProperRow, IsProperStep}
use Rattle.gomod_outcomes.specs.Private.Folders.{AreUtf8Folders, IsUtf8Right}
use Rattle.gomod_texts.specs.Queries.{FilesReadAs, Given, Prints, QueryEnds, bad_main, bad_sums, device, faulty, no_fault, too_many}
use Rattle.gomod_outcomes.specs.Runs.{ComesTo, RunEnds, command_of}
use Rattle.gomod_outcomes.specs.declared.queries.query.Query.{Query}
use Rattle.gomod_outcomes.specs.declared.queries.query.Query.TheVariants.{Graph, List as Rows, Chain}

-- ---- names

small_byte : (b : ℕ) → is_byte_of_path b ≡ true → b < 128
small_byte b e = grind (arith, nat_tests)

small_at : (xs : List ℕ) → list_all is_byte_of_path xs ≡ true → (i : ℕ) → slice_index xs i < 128
small_at [] e i = omega arith
small_at (x ∷ xs) e zero = small_byte x (first_so _ _ e)
small_at (x ∷ xs) e (suc i) = small_at xs (second_so _ _ e) i

path_utf8 : (p : List ℕ) → IsPath p → IsUtf8 p
path_utf8 p is = IsUtf8-from_ascii p (small_at p (path-bytes p is))

-- a path, what is between, and a version
pair_utf8 : (path between version : List ℕ) → IsPath path → IsUtf8 between → IsVersion version → IsUtf8 (path ++ between ++ version)
pair_utf8 path between version is plain at =
    IsUtf8-append _ _ (IsUtf8-append _ _ (path_utf8 _ is) plain) (IsUtf8-from_ascii _ (IsAscii-version _ at))

blank : IsUtf8 (codes " ")
unfolding lib.Utf8.encode
blank = (codes " ", (refl, refl))

arrow : IsUtf8 (codes " => ")
unfolding lib.Utf8.encode
arrow = (codes " => ", (refl, refl))

at : IsUtf8 (codes "@")
unfolding lib.Utf8.encode
at = (codes "@", (refl, refl))

feed : IsUtf8 (codes "\n")
unfolding lib.Utf8.encode
feed = (codes "\n", (refl, refl))

step_utf8 : (main : List ℕ) → IsPath main → (s : Step) → IsProperStep s → IsUtf8 (step_text main s)
step_utf8 main is FromMain proper = path_utf8 _ is
step_utf8 main is (Of x) proper = pair_utf8 _ _ _ proper.0 at proper.1

-- ---- folders

folder_utf8 : (right : declared.Right) → IsUtf8Right (Some (right_view right))
folder_utf8 (right.Folder text) = IsUtf8-string_bytes text
folder_utf8 (right.Module path version) = tt

-- those that a main file holds
pub folders_utf8 : (replaces : List Replace) → AreUtf8Folders (replace_views replaces)
folders_utf8 [] = tt
folders_utf8 (replace ∷ replaces) = (folder_utf8 replace.right, folders_utf8 replaces)

right_utf8 : (right : Option Right) → IsProperRight right → IsUtf8Right right → IsUtf8 (replacement_suffix right)
right_utf8 None proper is = IsUtf8-nil
right_utf8 (Some (Folder text)) proper is = IsUtf8-append _ _ arrow is
right_utf8 (Some (Module path version)) proper is = IsUtf8-append _ _ arrow (pair_utf8 _ _ _ proper.0 blank proper.1)

-- ---- lines

line_utf8 : (text : List ℕ) → IsUtf8 text → IsUtf8 (line text)
line_utf8 text is = IsUtf8-append _ _ is feed

lines_utf8 : {X : Type 0} (f : X → List ℕ) (xs : List X) → All (λ x. IsUtf8 (f x)) xs → IsUtf8 (flat_map f xs)
lines_utf8 f [] all = IsUtf8-nil
lines_utf8 f (x ∷ xs) all = IsUtf8-append _ _ (All-head (λ x. IsUtf8 (f x)) x xs all) (lines_utf8 f xs (All-tail (λ x. IsUtf8 (f x)) x xs all))

row_utf8 : (main : List ℕ) → IsPath main → (row : Entry) → IsProperRow row → IsUtf8Right row.1 → IsUtf8 (entry_line main row)
row_utf8 main is (FromMain, right) proper folder =
    line_utf8 _ (subst (λ o. IsUtf8 (main ++ replacement_suffix o)) (sym proper) (IsUtf8-append _ _ (path_utf8 _ is) IsUtf8-nil))
row_utf8 main is (Of x, right) proper folder =
    line_utf8 _ (IsUtf8-append _ _ (pair_utf8 _ _ _ proper.0 blank proper.1) (right_utf8 _ proper.2 folder))

-- ---- rows

within : {X : Type 0} (P : X → Type 0) (limit : Option ℕ) (xs : List X) → All P xs → All P (up_to limit xs)
within P None xs all = all
within P (Some n) xs all = All-take P n xs all

row_folder : (run : Run) (rows : List Entry) → AreUtf8Folders run.main.replaces → AreRows run rows → (row : Entry) → Contains rows row → IsUtf8Right row.1
row_folder run rows folders are row there =
    elim (member_cases main_entry row _
    (subst (λ es. Contains es row) are.entries_are there)) [
      | inl same ↦ subst (λ e. IsUtf8Right e.1) same tt
      | inr later ↦ (let (x, inside, is) = from_mapped _ _ row later in
          subst (λ e. IsUtf8Right e.1) is (of_each_right IsUtf8Right tt _ x folders))
    ]

-- ---- what is printed

-- what has this text has one that is UTF-8
has_text : (outcome other : Outcome) → outcome ≡ other → IsUtf8 other.text → IsUtf8 outcome.text
has_text outcome other says is = subst (λ o. IsUtf8 o.text) (sym says) is

module _ (run : Given) (main : Main) (main_is : IsMainFile run.file main) (folders : AreUtf8Folders main.replaces) where
  -- what is printed of the run is UTF-8
  abbrev ArePlain : Prints → Outcome → Type 0
  ArePlain prints outcome = (table : Option Sums) → FilesReadAs run.file run.sums main table
      → prints (run_of main table run.answers.asked) outcome → IsUtf8 outcome.text

  end_utf8 : (prints : Prints) (outcome : Outcome) → ArePlain prints outcome → QueryEnds prints run outcome → IsUtf8 outcome.text
  end_utf8 prints outcome plainly (bad_main place misread unasked says) = has_text _ _ says IsUtf8-nil
  end_utf8 prints outcome plainly (bad_sums other report read invalid unasked says) = has_text _ _ says IsUtf8-nil
  end_utf8 prints outcome plainly (device other table name read due failed says) = has_text _ _ says IsUtf8-nil
  end_utf8 prints outcome plainly (too_many other table read all many none says) = has_text _ _ says IsUtf8-nil
  end_utf8 prints outcome plainly (faulty other table first others found says) = has_text outcome _ says IsUtf8-nil
  end_utf8 prints outcome plainly (no_fault other table found shown) =
      let same : other ≡ main = one_main _ other main found.read.main_file main_is in
      plainly table (subst (λ (m : Main). FilesReadAs run.file run.sums m table) same found.read)
      (subst (λ m. prints (run_of m table run.answers.asked) outcome) same shown)

  graph_plain : (outcome : Outcome) → ArePlain PrintsGraph outcome
  graph_plain outcome table read (edges, are, says) =
      has_text outcome _ says
      (lines_utf8 (edge_line main.path) edges (λ k d less.
      let edge = get_or edges k d in
      let ends = run_has_proper_edges run main table edges read are edge (Contains-get_or edges k d less) in
      let is = (run_has_names run main table read).0 in
      line_utf8 _ (IsUtf8-append _ _ (IsUtf8-append _ _ (step_utf8 main.path is edge.from ends.0) blank) (step_utf8 main.path is (Of edge.to) ends.1))))

  chain_plain : (path : List ℕ) (outcome : Outcome) → ArePlain (PrintsChain path) outcome
  chain_plain path outcome table read (rows, are, inl (s, steps, entry, chain, says)) =
      has_text outcome _ says
      (lines_utf8 _ steps (λ k d less. line_utf8 _
      (step_utf8 _ (run_has_names run main table read).0 _
      (run_has_proper_steps run main table s steps read chain (get_or steps k d) (Contains-get_or steps k d less)))))
  chain_plain path outcome table read (rows, are, inr (none, says)) = has_text outcome _ says IsUtf8-nil

  -- the lines of its rows
  abbrev IsPlainRow : Entry → Type 0
  IsPlainRow row = IsUtf8 (entry_line main.path row)

  rows_plain : (table : Option Sums) (rows : List Entry) → FilesReadAs run.file run.sums main table
      → AreRows (run_of main table run.answers.asked) rows → All IsPlainRow rows
  rows_plain table rows read are k d less =
      let row = get_or rows k d in
      let there : Contains rows row = Contains-get_or rows k d less in
      row_utf8 main.path (run_has_names run main table read).0 row (run_has_proper_rows run main table rows read are row there)
      (row_folder (run_of main table run.answers.asked) rows folders are row there)

  list_plain : (after : Option (List ℕ)) (limit : Option ℕ) (outcome : Outcome) → ArePlain (PrintsList after limit) outcome
  list_plain after limit outcome table read (rows, are, no_path none says) =
      has_text outcome _ says (lines_utf8 (entry_line main.path) (up_to limit rows) (within IsPlainRow limit rows (rows_plain table rows read are)))
  list_plain after limit outcome table read (rows, are, path_listed path others given (entry, at) says) =
      has_text outcome _ says (lines_utf8 (entry_line main.path) (up_to limit others)
      (within IsPlainRow limit others (subst (All IsPlainRow) (after_row rows at.before entry others at.parts) (All-drop IsPlainRow (length rows - length others) rows (rows_plain table rows read are)))))
  list_plain after limit outcome table read (rows, are, path_unlisted path given (none, says)) = has_text outcome _ says IsUtf8-nil

  query_utf8 : (query : Query) (outcome : Outcome) → OrNoMemory (RunEnds (command_of query) run) outcome → IsUtf8 outcome.text
  query_utf8 query outcome (inr memory) = has_text _ _ memory IsUtf8-nil
  query_utf8 Graph outcome (inl is) = end_utf8 _ _ (graph_plain _) is
  query_utf8 (Rows after limit) outcome (inl is) = end_utf8 _ _ (list_plain _ _ _) is
  query_utf8 (Chain path) outcome (inl is) = end_utf8 _ _ (chain_plain _ _) is

-- what a query comes to
pub comes_utf8 : (query : Query) (file : List ℕ) (sums : Option (List ℕ)) (before after : Name → Option Reply → Type 0) (old new : StoreState) (outcome : Outcome)
    (main : Main) → IsMainFile file main → AreUtf8Folders main.replaces → ComesTo (command_of query) file sums before after old new outcome
    → IsUtf8 outcome.text
comes_utf8 query file sums before after old new outcome main is folders comes =
    query_utf8 _ _ is folders query outcome comes.ends
