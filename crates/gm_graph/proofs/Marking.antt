-- The marks of vertices in a worklist.
use Rattle.std.proofs.Common.{◌≡◌, ◌≢◌, ◌↔◌, ◌+◌, ◌<◌, ◌||◌, ◌++◌, ◌∷◌, ◌∙◌, [], ℕ, Bool, true, false, List, Contains, ap, arith, get_or, inl, if◌then◌else◌, inr, length, length-append, map, refl, sym}
use Rattle.std.specs.List.{IsDistinct}
use Rattle.std.proofs.lemmas.Bool.{cases_eq, false≢true, or_cases, or_left, or_right}
use Rattle.std.proofs.lemmas.List.Elements.{All-contains, All-nil, All-push, Contains-append_left, Contains-push, Contains-push_cases}
use Rattle.std.proofs.lemmas.List.{map-append}
use Rattle.gm_name.specs.ModuleVersion.{ModuleVersion, module_at, pair_eq}
use Rattle.gm_graph_select.proofs.RankedLists.{from_mapped, in_mapped}
use Rattle.gm_graph_files.specs.declared.depth.Depth.{Depth}
use Rattle.gm_graph_files.specs.declared.depth.Depth.TheVariants.{Deep, Top}
use Rattle.gm_graph_files.specs.declared.depth.Turn.{Turn}
use Rattle.gm_graph_files.specs.Turns.{turn, same_depth}
use Rattle.gm_graph.specs.Private.Turns.{AddsAll, AreTurnsOf, OverflowsWith}
use Rattle.gm_graph.specs.declared.worklist.Worklist.{Worklist}
use Rattle.gm_graph.specs.declared.worklist.NumberedTurn.{NumberedTurn}
use Rattle.gm_graph.specs.declared.marks.Marks.{Marks}
use Rattle.gm_graph.specs.Private.Worklists.{IsWorklist, turn_of, turns_of}
use Rattle.gm_graph.specs.Private.Marks.{is_marked, no_marks}
use Rattle.gm_graph.proofs.Adding.{adds_one, more_turn, new_turn, no_turns, only_one, overflow_one}
use Rattle.gm_graph.proofs.Growing.{IsOneBelow}
use Rattle.gm_graph_cache.proofs.NumberedModules.{number_same}
use Rattle.gm_graph.proofs.Sameness.{exact_depth, same_depth-refl}

unmarked : (d : Depth) → is_marked no_marks d ≡ false
unmarked Top = refl
unmarked Deep = refl

-- the empty worklist
pub no_worklist : (modules : List ModuleVersion) (made : Worklist) → IsDistinct pair_eq modules
    → made.marks.items ≡ [] → made.turns.items ≡ [] → made.opened ≡ 0 → IsWorklist modules made
no_worklist modules made distinct marks turns opened = record {
  distinct = distinct;
  turned = rw turns (All-nil _);
  marks = rw (marks, turns) (λ one. (
    (λ h. absurd (omega (arith, h.1))),
    (λ e. absurd (false≢true (sym (unmarked one.depth) ∙ e))),
  ));
  opened = [];
  turns = rw turns no_turns;
  counted = opened;
}

any_true : (marks : Marks) (d : Depth) → is_marked marks d ≡ true → (marks.top || marks.deep) ≡ true
any_true marks Top h = or_left marks.top marks.deep h
any_true marks Deep h = or_right marks.top marks.deep h

-- ---- one more turn

-- The vertex with this number has these marks.
module _ {modules : List ModuleVersion} {old : Worklist} {number : ℕ} {marks : Marks} (depth : Depth)
    (is : IsWorklist modules old) (below : number < length modules) (at : marks ≡ get_or old.marks.items number no_marks) where
  abbrev vertex : ModuleVersion
  vertex = module_at modules number

  abbrev turns : List Turn
  turns = turns_of modules old

  abbrev one : NumberedTurn
  one = record { number = number; depth = depth }

  -- The vertex has a turn exactly if it has a mark.
  has_turn : (d : Depth) → is_marked marks d ≡ true → Contains turns (turn vertex d)
  has_turn d h = in_mapped (turn_of modules) old.turns.items _ ((is.marks (record { number = number; depth = d })).1 (rw at at h))

  has_mark : (d : Depth) → Contains turns (turn vertex d) → is_marked marks d ≡ true
  has_mark d h =
      let (other, there, e) = from_mapped (turn_of modules) old.turns.items (turn vertex d) h in
      let within = All-contains (IsOneBelow (length modules)) old.turns.items other is.turned there in
      let same = number_same modules is.distinct other.number number within below (ap (λ (t : Turn). t.vertex) e) in
      rw at (rw (same, ap (λ (t : Turn). t.depth) e) at ((is.marks other).0 there))

  known : (marks.top || marks.deep) ≡ true → Contains is.opened vertex
  known h = elim (or_cases marks.top marks.deep h) [
    | inl top ↦ (is.turns.each vertex).1 (Top, has_turn Top top)
    | inr deep ↦ (is.turns.each vertex).1 (Deep, has_turn Deep deep)
  ]

  unknown : (marks.top || marks.deep) ≡ false → Contains is.opened vertex → ⊥
  unknown h there =
      let has = (is.turns.each vertex).0 there in
      false≢true (sym h ∙ any_true marks has.0 (has_mark has.0 has.1))

  -- a turn that the worklist has
  pub adds_marked : true ≡ is_marked marks depth → (y : ModuleVersion) → Contains (vertex ∷ []) y → Contains turns (turn y depth)
  adds_marked h y is_it = rw⁻¹ (only_one is_it) (has_turn depth (sym h))

  opened_more : (b : Bool) → (marks.top || marks.deep) ≡ b → false ≡ is_marked marks depth
      → (vertices : List ModuleVersion) × AreTurnsOf vertices (turns ++ turn vertex depth ∷ [])
      × ((if b then old.opened else old.opened + 1) ≡ length vertices)
  opened_more true any fresh = (is.opened, more_turn vertex depth is.turns (λ h. false≢true (fresh ∙ has_mark depth h)) (known any), is.counted)
  opened_more false none fresh = (
    is.opened ++ vertex ∷ [],
    new_turn vertex depth is.turns (λ h. false≢true (fresh ∙ has_mark depth h)) (unknown none),
    omega (arith, is.counted, length-append is.opened (vertex ∷ [])),
  )

  pub too_many : (n : ℕ) → false ≡ is_marked marks depth → n ≡ (if marks.top || marks.deep then old.opened else old.opened + 1)
      → 65536 < n → OverflowsWith turns (vertex ∷ [])
  too_many n fresh counts many =
      let (vertices, are, counted) = opened_more (marks.top || marks.deep) refl fresh in
      overflow_one turns vertex depth are (rw (counts ∙ counted) at many)

  module _ (new : Worklist) (more : Marks) (put : get_or new.marks.items number no_marks ≡ more)
      (others : (n : ℕ) → n ≢ number → get_or new.marks.items n no_marks ≡ get_or old.marks.items n no_marks)
      (with' : (d : Depth) → is_marked more d ≡ (same_depth d depth || is_marked marks d)) where
    its_mark : (d : Depth) → Contains (old.turns.items ++ one ∷ []) (record { number = number; depth = d }) ↔ (is_marked more d ≡ true)
    its_mark d = rw (with' d, at) (
      (λ h. elim (Contains-push_cases old.turns.items one _ h) [
        | inl there ↦ or_right (same_depth d depth) _ ((is.marks _).0 there)
        | inr e ↦ or_left (same_depth d depth) _ (rw (ap (λ (o : NumberedTurn). o.depth) e) (same_depth-refl d))
      ]),
      (λ h. elim (or_cases (same_depth d depth) _ h) [
        | inl same ↦ rw (exact_depth d depth same) (Contains-push old.turns.items one)
        | inr marked ↦ Contains-append_left old.turns.items (one ∷ []) _ ((is.marks _).1 marked)
      ]),
    )

    marks_with : (next : NumberedTurn) → Contains (old.turns.items ++ one ∷ []) next
        ↔ (is_marked (get_or new.marks.items next.number no_marks) next.depth ≡ true)
    marks_with next = elim (cases_eq next.number number) [
      | inl same ↦ rw same (rw put (its_mark next.depth))
      | inr other ↦ rw (others next.number other) (
        (λ h. elim (Contains-push_cases old.turns.items one next h) [
          | inl there ↦ (is.marks next).0 there
          | inr e ↦ absurd (other (sym (ap (λ (o : NumberedTurn). o.number) e)))
        ]),
        (λ h. Contains-append_left old.turns.items (one ∷ []) next ((is.marks next).1 h)),
      )
    ]

    -- a new turn, and its mark
    pub worklist_with : new.turns.items ≡ old.turns.items ++ one ∷ [] → false ≡ is_marked marks depth
        → new.opened ≡ (if marks.top || marks.deep then old.opened else old.opened + 1) → IsWorklist modules new
    worklist_with turned fresh counts =
        let (list, are, counted) = opened_more (marks.top || marks.deep) refl fresh in
        record {
          distinct = is.distinct;
          turned = rw turned (All-push (IsOneBelow (length modules)) old.turns.items one is.turned below);
          marks = rw turned marks_with;
          opened = list;
          turns = rw (turned, map-append) are;
          counted = counts ∙ counted;
        }

  pub adds_with : {items : List NumberedTurn} → items ≡ old.turns.items ++ one ∷ [] → AddsAll turns (map (turn_of modules) items) (vertex ∷ []) depth
  adds_with turned = adds_one (ap (map (turn_of modules)) turned ∙ map-append (turn_of modules) old.turns.items (one ∷ []))
