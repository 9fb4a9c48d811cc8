-- The edges of a run in which one file is answered.
use Rattle.std.proofs.Common.{◌≡◌, ◌∷◌, List, [], Result, Ok, Contains, ap, arith, inl, inr, refl, subst, sym}
use Rattle.std.specs.declared.cmp.Ordering.TheVariants.{Less}
use Rattle.std.proofs.lemmas.Option.{cond_some}
use Rattle.gm_name.specs.Path.{is_fetchable}
use Rattle.gm_name.specs.ModuleVersion.{ModuleVersion}
use Rattle.gm_file.specs.Fields.{Dependency}
use Rattle.gm_store_parts.specs.Asked.{Name, folder_file, list_file, mod_file}
use Rattle.gm_store_parts.proofs.NameOrder.{names_equal}
use Rattle.gm_graph_files.specs.Reading.{file_of}
use Rattle.gm_graph_files.specs.declared.class.Class.{Class}
use Rattle.gm_graph.specs.Run.{AreEdges, IsEdge, IsOpened, IsTop, IsVertex, from_deep, from_main, from_top}
use Rattle.gm_graph_cache.specs.Sayings.{FileSays, Requires, Run, Says, answered, faulty, sound, unaskable, wrong_path}
use Rattle.gm_graph_cache.proofs.Sayings.{file_same}
use Rattle.gm_graph_select.specs.declared.step.Edge.{Edge}
use Rattle.gm_graph_select.specs.declared.step.Step.{Step}
use Rattle.gm_graph_select.specs.declared.step.Step.TheVariants.{Main as FromMain, Of}
use Rattle.gm_graph_select.specs.Graph.{edge, edge_cmp}
use Rattle.gm_graph_select.proofs.Ascending.{member_head, no_member, one_member}
use Rattle.gomod_laws.specs.ExampleRuns.{ThreeEdgesLead, edges, low_one, mid_ten, top_file, top_name, top_one, with_top}
use Rattle.gomod_laws.proofs.WrittenLists.{each_of, pairs_of}
use Rattle.gomod_laws.proofs.ExampleFiles.{files_are_read}

-- ---- what the module of the answered file requires, and no other

-- the path and the version of a module's own file
abbrev own : Name → ModuleVersion
own (mod_file path version) = (path, version)
own (folder_file text) = ([], [])
own (list_file path) = (path, [])

-- a module that says something has a file that says it
pub says_file : {run : Run} {x : ModuleVersion} {said : Result Dependency Class} → Says run x said → (file : Dependency) → said ≡ Ok file
    → FileSays run (file_of run.main x) said
says_file (faulty is) file same = absurd (cc same)
says_file (wrong_path other is right) file same = absurd (cc same)
says_file (sound is right) file same = is

module _ (requirements : List ModuleVersion) where
  abbrev run : Run
  run = with_top requirements

  top_says : Says run top_one (Ok top_file)
  unfolding is_fetchable
  top_says = sound (answered _ refl refl files_are_read.required) refl

  file_is_top : (name : Name) {said : Result Dependency Class} → FileSays run name said → (file : Dependency) → said ≡ Ok file → name ≡ top_name
  file_is_top name (unaskable isnt) file same = absurd (cc same)
  file_is_top name (answered reply may at is) file same = names_equal _ _ (cond_some _ _ _ at).0

  top_requires : Requires run top_one mid_ten
  top_requires = (top_file, top_says, member_head _ [])

  requires_is : (x y : ModuleVersion) → Requires run x y → (x ≡ top_one) × (y ≡ mid_ten)
  requires_is x y (file, says, there) =
      let is : x ≡ top_one = ap own (file_is_top _ (says_file says _ refl) _ refl) in
      let same = file_same (rw is at says) top_says in
      (is, sym (one_member _ y (rw same at there)))

-- ---- the edges

abbrev top_run : Run
top_run = with_top (top_one ∷ low_one ∷ [])

abbrev HasEdge : Step → ModuleVersion → Type 0
HasEdge s y = Contains edges (edge s y)

edge_member : (s : Step) (y : ModuleVersion) → IsEdge top_run s y → HasEdge s y
edge_member FromMain y top = each_of (HasEdge FromMain) (top_one ∷ low_one ∷ []) ((1, omega arith, refl), ((0, omega arith, refl), tt)) y top
edge_member (Of x) y (opens, requires) =
    let (from, to) = requires_is _ x y requires in
    rw from (subst (HasEdge (Of top_one)) (sym to) (2, omega arith, refl))

abbrev Leads : Edge → Type 0
Leads one = IsEdge top_run one.from one.to

top_is_top : IsTop top_run top_one
top_is_top = member_head _ (low_one ∷ [])

member_leads : (one : Edge) → Contains edges one → Leads one
member_leads = each_of Leads edges ((1, omega arith, refl), (top_is_top, ((inl top_is_top, top_requires (top_one ∷ low_one ∷ [])), tt)))

edges_are : AreEdges top_run edges
edges_are = record {
  ascending = pairs_of (λ (a b : Edge). edge_cmp a b ≡ Less) edges ((refl, (refl, tt)), ((refl, tt), (tt, tt)));
  each = λ one. (member_leads _, edge_member _ one.to);
}

-- ---- a main module that requires nothing opens nothing

none_at_top : (run : Run) → run.main.requirements ≡ [] → (x : ModuleVersion) → IsTop run x → ⊥
none_at_top run none x top = no_member x (rw none at top)

pub none_opened : {run : Run} → run.main.requirements ≡ [] → (x : ModuleVersion) → IsOpened run x → ⊥
none_opened {run} none x (inl top) = none_at_top run none x top
none_opened {run} none x (inr (from_main unpruned top)) = none_at_top run none x top
none_opened {run} none y (inr (from_top {x = x} file top says unpruned there)) = none_at_top run none x top
none_opened none y (inr (from_deep {x = x} deep requires)) = none_opened none x (inr deep)

pub none_leads : {run : Run} → run.main.requirements ≡ [] → (x : ModuleVersion) → IsVertex run x → ⊥
none_leads {run} none x (FromMain, top) = none_at_top run none x top
none_leads none x (Of y, (opens, requires)) = none_opened none y opens

pub three_edges_lead : ThreeEdgesLead
three_edges_lead = record {
  are = edges_are;
  by_source = refl;
  idle_requires = top_requires [];
  not_unopened = λ leads. none_opened refl _ leads.0;
}
