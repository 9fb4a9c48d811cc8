-- What the laws of two runs of queries conclude is false of pairs of outputs that contradict them.
use Rattle.std.proofs.Common.{◌≡◌, ◌∙◌, ◌∷◌, ◌++◌, ℕ, true, List, [], None, Contains, ap, append_assoc, arith, codes, drop, length, length-append, map, refl, subst, sym}
use Rattle.std.specs.Ordering.{is_gt}
use Rattle.std.proofs.Math.Seq.{drop_at}
use Rattle.std.proofs.lemmas.Bool.{false≢true}
use Rattle.std.proofs.lemmas.List.{append_cancel_right}
use Rattle.gm_version.specs.Version.{version_cmp}
use Rattle.gm_name.specs.ModuleVersion.{ModuleVersion}
use Rattle.gm_file.specs.Main.{Main}
use Rattle.gm_graph_select.specs.declared.step.Edge.{Edge}
use Rattle.gm_graph_select.specs.declared.step.Step.TheVariants.{Main as FromMain, Of}
use Rattle.gm_graph_select.specs.BuildList.{HasEntryFor, path_of}
use Rattle.gm_graph.specs.Entries.{Entry}
use Rattle.gm_graph_select.proofs.Ascending.{member_head, one_member}
use Rattle.gomod_texts.specs.Queries.{Given}
use Rattle.gomod_texts.specs.Outcome.{Outcome, text_outcome}
use Rattle.gomod_texts.specs.GraphQuery.{edge_text}
use Rattle.gomod_run.proofs.ListLines.{heads}
use Rattle.gomod_laws.specs.CounterAdditions.{ChainIsByNoLine, ChainIsToAnother, LineIsLost, RowIsLower, ShowA, UnlistedIsShown}
use Rattle.gomod_laws.specs.RowLaws.{IsExplained, AreChained, further, here, text_of}
use Rattle.gomod_laws.proofs.Contradicted.{edge_to, edges_known, only_row, row_at, row_inside, rows_known}
use Rattle.gomod_laws.proofs.KnownVersions.{one_one, one_one_is, one_one_is_above, one_zero, one_zero_is, versions_differ}
use Rattle.gomod_laws.proofs.ShownTexts.{same_text}

-- ---- additions

pub row_is_lower : RowIsLower
row_is_lower run later first second (rows, others, shows, also, kept) =
    let (y, its, among, same, high) = kept (codes "a.b", one_one) None (row_inside _ _ _ one_one_is _ shows) in
    let is = only_row _ _ _ one_zero_is _ also y _ among in
    let low : is_gt (version_cmp one_one y.1) ≡ true =
    rw is (ap is_gt one_one_is_above) in
    false≢true (sym high ∙ low)

pub line_is_lost : LineIsLost
line_is_lost run later first second (edges, others, shows, also, kept) =
    let there = kept (edge_to one_zero) (rw (edges_known _ _ _ one_zero_is _ shows) (member_head (edge_to one_zero) [])) in
    let same = one_member _ _ (rw (edges_known _ _ _ one_one_is _ also) at there) in
    versions_differ (sym (ap (λ (one : Edge). one.to.1) same))

-- ---- a chain that takes no line of a graph

abbrev the_line : List ℕ
the_line = codes "m a.b@v1.0.0"

abbrev Ways : List ℕ → List (List ℕ) → Type 0
Ways last lines = AreChained (the_line ∷ []) (codes "m") last lines

ends_in_digit : (front : List ℕ) → the_line ≡ front ++ codes "m" → ⊥
ends_in_digit front e =
    let whole : 12 ≡ length (front ++ codes "m") = ap (λ t. length t) e in
    let parts = length-append front (codes "m") in
    let size : length front ≡ 11 = omega (arith, whole, parts) in
    let behind : drop 11 the_line ≡ codes "m" = ap (drop 11) e ∙ drop_at _ _ 11 size in
    let digit = heads _ _ _ _ behind in omega (arith, digit)

-- no line leads to m
way_to_m : {last : List ℕ} {lines : List (List ℕ)} → Ways last lines → last ≡ codes "m" → lines ≡ codes "m" ∷ []
way_to_m here is = refl
way_to_m {lines} (further {last = before} {lines = others} next leads there) is =
    let text =
    one_member _ _ there ∙ ap (λ t. (before ++ codes " ") ++ t) is in
    absurd (ends_in_digit _ text)

-- and one to a.b v1.0.0
way_to_a : {last : List ℕ} {lines : List (List ℕ)} → Ways last lines → last ≡ codes "a.b@v1.0.0" → lines ≡ codes "m" ∷ codes "a.b@v1.0.0" ∷ []
way_to_a here is = let first = heads _ _ _ _ is in absurd (omega (arith, first))
way_to_a {lines} (further {last = before} {lines = others} next leads there) is =
    let text =
    one_member _ _ there ∙ ap (λ t. (before ++ codes " ") ++ t) is
    ∙ append_assoc before _ _ in
    let own : before ≡ codes "m" = sym (append_cancel_right _ before _ text) in
    ap (λ ls. ls ++ next ∷ []) (way_to_m leads own)
    ∙ ap (λ t. codes "m" ∷ t ∷ []) is

module _ (rows : List Entry) (edges : List Edge) (main : Main) (list_run graph_run : Given)
    (show : ShowA rows edges main list_run graph_run) where
  -- a chain for a.b is the only way
  chain_is : (chain : Outcome) → IsExplained main.path rows (map (edge_text main.path) edges) (codes "a.b") chain
      → chain ≡ text_outcome (codes "m\na.b@v1.0.0\n")
  chain_is chain law =
      let own = (rows_known _ _ _ one_zero_is _ show.in_list).0 in
      let are = edges_known _ _ _ one_zero_is _ show.in_graph in
      let (lines, leads, says) = law.row (row_at one_zero) (row_inside _ _ _ one_zero_is _ show.in_list) refl in
      let way : AreChained (map (edge_text main.path) (edge_to one_zero ∷ [])) main.path (codes "a.b@v1.0.0") lines =
      rw are at leads in
      let by_line : Ways (codes "a.b@v1.0.0") lines =
      subst (λ (m : List ℕ). AreChained (map (edge_text m) (edge_to one_zero ∷ [])) m (codes "a.b@v1.0.0") lines) own way in
      says ∙ ap (λ (ls : List (List ℕ)). text_outcome (text_of ls)) (way_to_a by_line refl)

  no_row_of_b : (row : Entry) → Contains rows row → path_of main.path row.0 ≡ codes "b.c" → ⊥
  no_row_of_b (FromMain, right) there is =
      let letter : 109 ≡ 98 = heads _ _ _ _ (sym (rows_known _ _ _ one_zero_is _ show.in_list).0 ∙ is) in omega (arith, letter)
  no_row_of_b (Of x, right) there is =
      let own = only_row _ _ _ one_zero_is _ show.in_list x _ there in
      let letter : 97 ≡ 98 = heads _ _ _ _ (sym (ap (λ (y : ModuleVersion). y.0) own) ∙ is) in omega (arith, letter)

letters_differ : (rest more : List ℕ) → codes "m\nb.c" ++ rest ≡ codes "m\na.b" ++ more → ⊥
letters_differ rest more e = let letter = heads _ _ _ _ (ap (drop 2) e) in omega (arith, letter)

pub chain_is_by_no_line : ChainIsByNoLine
chain_is_by_no_line rows edges main list_run graph_run show law =
    letters_differ _ _ (same_text _ _ (chain_is _ _ _ list_run graph_run show _ law))

pub chain_is_to_another : ChainIsToAnother
chain_is_to_another rows edges main list_run graph_run show law =
    letters_differ _ _ (same_text _ _ (chain_is _ _ _ list_run graph_run show _ law))

pub unlisted_is_shown : UnlistedIsShown
unlisted_is_shown rows edges main list_run graph_run show law =
    let none : ¬ (HasEntryFor main.path rows (codes "b.c")) = λ has. no_row_of_b _ edges _ list_run graph_run show _ has.1 has.2 in
    let code : 0 ≡ 1 = ap (λ o. o.status) (law.unlisted none) in omega (arith, code)
