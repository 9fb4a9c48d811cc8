-- The laws of module graphs hold.
use Rattle.std.proofs.Common.{◌≡◌, ◌↔◌, false, inl, inr}
use Rattle.std.specs.Cmp.{IsTotalOrder, on_total}
use Rattle.gm_name.specs.ModuleVersion.{ModuleVersion, pair_cmp, pair_total}
use Rattle.gm_file.specs.Main.{is_pruned_by}
use Rattle.gm_graph_select.specs.declared.step.Step.{Step}
use Rattle.gm_graph_select.specs.declared.step.Step.TheVariants.{Main as FromMain, Of}
use Rattle.gm_graph_select.specs.Graph.{among, edge}
use Rattle.gm_graph_select.specs.Private.EdgeOrder.{edge_total}
use Rattle.gm_graph_select.proofs.Ascending as ascending
use Rattle.gm_graph_select.proofs.Lawful as lawful
use Rattle.gm_graph_select.proofs.Same.{AreSame, same_back, same_build_list}
use Rattle.gm_graph.specs.declared.fault.Fault.{Fault}
use Rattle.gm_graph.specs.Run.{IsDeep, IsEdge, IsOpened, IsVertex, from_deep, from_main, from_top}
use Rattle.gm_graph_cache.specs.Sayings.{Run}
use Rattle.gomod_laws.specs.GraphLaws.{EarlierSayingsStay, FirstAnswersSaySomething, IsTransitivelyRequired, ModulesSayOneThing, OneAnswer, RowsAreRequired, RowsSatisfyRequirements, UnprunedIsPlain, required, further}
use Rattle.gm_graph_cache.proofs.Sayings.{answer_stays, one_said, says_more}

pub rows_are_required : RowsAreRequired
rows_are_required run asked loaded is x right there = (lawful.row_selected is.rows x right there).is_end

pub rows_satisfy : RowsSatisfyRequirements
rows_satisfy run asked loaded is from y to other =
    let same : AreSame (among loaded.edges) (IsEdge run) = λ s z. is.edges.each (edge s z) in
    lawful.rows_satisfy _ _ loaded.edges loaded.rows (same_build_list (IsEdge run) (among loaded.edges) (same_back _ _ same) is.rows)
    y (from, (same from y).1 to) other

module _ (run : Run) (unpruned : is_pruned_by run.main.go ≡ false) where
  deep_reached : {x : ModuleVersion} → IsDeep run x → IsTransitivelyRequired run x
  deep_reached (from_main p t) = required t
  deep_reached (from_top file t says u c) = further (required t) (file, says, c)
  deep_reached (from_deep d r) = further (deep_reached d) r

  reached_deep : {x : ModuleVersion} → IsTransitivelyRequired run x → IsDeep run x
  reached_deep (required t) = from_main unpruned t
  reached_deep (further h r) = from_deep (reached_deep h) r

  opened_reached : (x : ModuleVersion) → IsOpened run x → IsTransitivelyRequired run x
  opened_reached x (inl t) = required t
  opened_reached x (inr d) = deep_reached d

  vertex_reached : (x : ModuleVersion) (from : Step) → IsEdge run from x
      → IsTransitivelyRequired run x
  vertex_reached x FromMain e = required e
  vertex_reached x (Of y) e = further (opened_reached y e.0) e.1

  reached_vertex : {x : ModuleVersion} → IsTransitivelyRequired run x → IsVertex run x
  reached_vertex (required t) = (FromMain, t)
  reached_vertex (further {x} h r) = (Of x, (inr (reached_deep h), r))

pub unpruned_is_plain : UnprunedIsPlain
unpruned_is_plain run unpruned x = (
  ((λ h. opened_reached run unpruned x h), (λ h. inr (reached_deep run unpruned h))),
  ((λ h. vertex_reached run unpruned x h.0 h.1), (λ h. reached_vertex run unpruned h)),
)

both : {A B C : Type 0} → A ↔ B → C ↔ B → A ↔ C
both f g = ((λ a. g.1 (f.0 a)), (λ c. f.1 (g.0 c)))

pub faults_total : IsTotalOrder (λ (a b : Fault). pair_cmp a.vertex b.vertex)
faults_total = on_total (λ (f : Fault). f.vertex) pair_total

pub one_answer : OneAnswer
one_answer run asked a b is other = (
  ascending.same_lists faults_total a.faults b.faults is.faults.ascending other.faults.ascending (λ z. both (is.faults.each z) (other.faults.each z)),
  ascending.same_lists edge_total a.edges b.edges is.edges.ascending other.edges.ascending (λ z. both (is.edges.each z) (other.edges.each z)),
  lawful.same_build_lists is.rows other.rows,
)

-- ---- what modules say

pub modules_say_one_thing : ModulesSayOneThing
modules_say_one_thing run x a b one other = one_said one other

pub earlier_sayings_stay : EarlierSayingsStay
earlier_sayings_stay main sums pairs more x said says = says_more main sums pairs more x said says

pub first_answers_say_something : FirstAnswersSaySomething
first_answers_say_something main sums pairs more read name reply is = read name reply (answer_stays pairs more name reply is)
