-- The text of a graph determines its edges, and that of a chain its steps.
use Rattle.std.proofs.Common.{◌≡◌, ◌≢◌, ℕ, false, List, codes, ap, ap₂, append_assoc, arith, refl, sym, subst}
use Rattle.gm_name.specs.Path.{IsPath, is_byte_of_path}
use Rattle.gm_version.specs.Version.{is_byte_of_version}
use Rattle.gm_name.specs.ModuleVersion.{ModuleVersion}
use Rattle.gm_syntax_words.specs.Lines.{HasNoLineFeed}
use Rattle.gm_graph_select.specs.declared.step.Edge.{Edge}
use Rattle.gm_graph_select.specs.declared.step.Step.{Step}
use Rattle.gm_graph_select.specs.declared.step.Step.TheVariants.{Main, Of}
use Rattle.gm_graph_select.specs.Graph.{edge}
use Rattle.gomod_texts.specs.ChainQuery.{chain_text}
use Rattle.gomod_texts.specs.GraphQuery.{edge_text, graph_text}
use Rattle.gomod_texts.specs.LineParts.{step_text, vertex_text}
use Rattle.gomod_texts.specs.PrintedLines.{HasLines, IsProperEdge, IsProperStep, LineIsOfOne, LineSaysOne, TextSaysAll}
use Rattle.gomod_run.proofs.ListLines.{Lacks, both_lack, cut_at, found_line, has_it, lines_are, path_lacks, plain, text_says, version_lacks}

-- ---- steps

-- a byte that is not the one between path and version, and that neither of them has
pub record IsApart (c : ℕ) : Type 0 where
  pub at : 64 ≢ c
  pub path : is_byte_of_path c ≡ false
  pub version : is_byte_of_version c ≡ false

pub vertex_lacks : (c : ℕ) → IsApart c → (x : ModuleVersion) → IsProperStep (Of x) → Lacks c (vertex_text x)
vertex_lacks c is x proper =
    both_lack c _ _ (both_lack c _ _ (path_lacks c is.path _ proper.0) (is.at, tt)) (version_lacks c is.version _ proper.1)

blank_is_apart : IsApart 32
blank_is_apart = record { at = λ e. omega (arith, e); path = refl; version = refl }

pub feed_is_apart : IsApart 10
feed_is_apart = record { at = λ e. omega (arith, e); path = refl; version = refl }

pub says_vertex : (x y : ModuleVersion) → IsProperStep (Of x) → IsProperStep (Of y) → vertex_text x ≡ vertex_text y → x ≡ y
says_vertex x y p q e =
    let (path, version) = cut_at _ _ _ _ _ (path_lacks _ refl _ p.0) (path_lacks _ refl _ q.0) (simp append_assoc at e) in
    ap₂ (λ (p v : List ℕ). (p, v)) path version

module _ (main : List ℕ) (is_path : IsPath main) where
  step_lacks : (c : ℕ) → IsApart c → (step : Step) → IsProperStep step → Lacks c (step_text main step)
  step_lacks c is Main proper = path_lacks c is.path _ is_path
  step_lacks c is (Of x) proper = vertex_lacks c is x proper

  main_is_no_vertex : (x : ModuleVersion) → main ≡ vertex_text x → ⊥
  main_is_no_vertex x e = has_it _ _ _ (subst (Lacks 64) (simp append_assoc at e) (path_lacks _ refl _ is_path))

  pub says_step : LineSaysOne Step IsProperStep (step_text main)
  says_step Main Main p q e = refl
  says_step Main (Of y) p q e = absurd (main_is_no_vertex y e)
  says_step (Of x) Main p q e = absurd (main_is_no_vertex x (sym e))
  says_step (Of x) (Of y) p q e = ap Of (says_vertex x y p q e)

  edge_has_no_feed : (one : Edge) → IsProperEdge one → HasNoLineFeed (edge_text main one)
  edge_has_no_feed one proper =
      both_lack 10 _ _ (both_lack 10 _ _ (step_lacks 10 feed_is_apart _ proper.0) (plain (codes " ") refl))
      (vertex_lacks 10 feed_is_apart _ proper.1)

  pub says_edge : LineSaysOne Edge IsProperEdge (edge_text main)
  says_edge one other p q e =
      let (from, to) = cut_at 32 _ _ _ _
      (step_lacks _ blank_is_apart _ p.0) (step_lacks _ blank_is_apart _ q.0)
      (rw (append_assoc _, append_assoc (step_text main other.from)) at e) in
      ap₂ edge (says_step one.from other.from p.0 q.0 from) (says_vertex _ _ p.1 q.1 to)

pub graph_has_lines : (main : List ℕ) → IsPath main → HasLines Edge IsProperEdge (edge_text main) (graph_text main)
graph_has_lines main is = lines_are (edge_text main) (edge_has_no_feed _ is)

pub text_says_edges : (main : List ℕ) → IsPath main → TextSaysAll Edge IsProperEdge (graph_text main)
text_says_edges main is = text_says _ (graph_text main) (graph_has_lines _ is) (says_edge main is)

pub line_is_of_an_edge : (main : List ℕ) → IsPath main → LineIsOfOne Edge IsProperEdge (edge_text main) (graph_text main)
line_is_of_an_edge main is = found_line (edge_text main) (graph_text main) (graph_has_lines _ is) (says_edge main is)

pub chain_has_lines : (main : List ℕ) → IsPath main → HasLines Step IsProperStep (step_text main) (chain_text main)
chain_has_lines main is = lines_are (step_text _) (step_lacks _ is _ feed_is_apart)

pub text_says_steps : (main : List ℕ) → IsPath main → TextSaysAll Step IsProperStep (chain_text main)
text_says_steps main is = text_says _ (chain_text main) (chain_has_lines _ is) (says_step main is)

pub line_is_of_a_step : (main : List ℕ) → IsPath main → LineIsOfOne Step IsProperStep (step_text main) (chain_text main)
line_is_of_a_step main is = found_line (step_text _) (chain_text main) (chain_has_lines _ is) (says_step main is)
