-- Turns that are there, and one more turn, of a known vertex or a new one.
use Rattle.std.proofs.Common.{◌≡◌, ◌<◌, true, List, [], ◌∷◌, ◌++◌, length, Contains, ap, append-nil, inl, inr, arith, refl, suc, sym, zero}
use Rattle.std.specs.Cmp.{IsEquivalence}
use Rattle.std.specs.Prelude.{Bool}
use Rattle.std.specs.List.{IsDistinct}
use Rattle.std.proofs.lemmas.Bool.{false_from_ne_true}
use Rattle.std.proofs.lemmas.Map.Keys.{IsDistinct-push}
use Rattle.std.proofs.lemmas.Map.Views.{Contains-from_any}
use Rattle.std.proofs.lemmas.List.Elements.{Contains-append_left, Contains-push, Contains-push_cases}
use Rattle.gm_name.specs.ModuleVersion.{ModuleVersion}
use Rattle.gm_name.specs.Private.ModuleVersion.{pair-same, pairs-equivalence}
use Rattle.gm_graph_files.specs.declared.depth.Turn.{Turn}
use Rattle.gm_graph_files.specs.declared.depth.Depth.{Depth}
use Rattle.gm_graph_files.specs.Turns.{turn}
use Rattle.gm_graph.specs.Private.Turns.{AreTurnsOf, AddsAll, OverflowsWith}
use Rattle.gm_graph.proofs.Sameness.{exact_turn, turns_equivalence}

-- ---- what is added

-- The turns are there already.
pub adds_there : (turns : List Turn) (xs : List ModuleVersion) (d : Depth)
    → ((y : ModuleVersion) → Contains xs y → Contains turns (turn y d)) → AddsAll turns turns xs d
adds_there turns xs d each = record { extends = ([], sym (append-nil turns)); each = each; only = λ one h. inl h }

-- There is nothing to add.
pub adds_none : (turns : List Turn) (d : Depth) → AddsAll turns turns [] d
adds_none turns d = adds_there turns [] d (λ y none. absurd (omega (arith, none.1)))

pub only_one : {y z : ModuleVersion} → Contains (y ∷ []) z → y ≡ z
only_one (zero, below, e) = e
only_one (suc k, below, e) = absurd (omega arith)

-- A turn was added.
pub adds_one : {old new : List Turn} {y : ModuleVersion} {d : Depth} → new ≡ old ++ turn y d ∷ [] → AddsAll old new (y ∷ []) d
adds_one {old} {new} {y} {d} more = record {
  extends = (turn y d ∷ [], more);
  each = λ z h. rw more (rw⁻¹ (only_one h) (Contains-push old (turn y d)));
  only = λ one h. elim (Contains-push_cases old (turn y d) one (rw⁻¹ more h)) [
    | inl there ↦ inl there
    | inr e ↦ inr (y, (0, omega arith, refl), sym e)
  ];
}

-- ---- whose turns they are

pub no_turns : AreTurnsOf [] []
unfolding IsDistinct
no_turns = record {
  vertices_once = tt;
  turns_once = tt;
  each = λ x. (λ h. absurd (omega (arith, h.1)), λ h. absurd (omega (arith, h.1.1)));
}

-- one that is not among them
push_new : {T : Type 0} {same : T → T → Bool} → IsEquivalence same → ((a b : T) → same a b ≡ true → a ≡ b) → (xs : List T) (x : T)
    → IsDistinct same xs → (Contains xs x → ⊥) → IsDistinct same (xs ++ x ∷ [])
push_new equivalence exact xs x once fresh = IsDistinct-push equivalence xs x once
    (false_from_ne_true _ (λ e. fresh (Contains-from_any exact x xs e)))

module _ {vertices : List ModuleVersion} {turns : List Turn} (x : ModuleVersion) (d : Depth) (old : AreTurnsOf vertices turns) where
  -- a turn of a known vertex
  pub more_turn : (Contains turns (turn x d) → ⊥) → Contains vertices x → AreTurnsOf vertices (turns ++ turn x d ∷ [])
  more_turn fresh known = record {
    vertices_once = old.vertices_once;
    turns_once = push_new turns_equivalence exact_turn turns (turn x d) old.turns_once fresh;
    each = λ y. (
      (λ h. let one = (old.each y).0 h in (one.0, Contains-append_left turns (turn x d ∷ []) _ one.1)),
      (λ has. elim (Contains-push_cases turns (turn x d) (turn y has.0) has.1) [
        | inl there ↦ (old.each y).1 (has.0, there)
        | inr e ↦ rw (ap (λ (t : Turn). t.vertex) e) at known
      ]),
    );
  }

  -- a turn of a new vertex
  pub new_turn : (Contains turns (turn x d) → ⊥) → (Contains vertices x → ⊥) → AreTurnsOf (vertices ++ x ∷ []) (turns ++ turn x d ∷ [])
  new_turn fresh unknown = record {
    vertices_once = push_new pairs-equivalence pair-same vertices x old.vertices_once unknown;
    turns_once = push_new turns_equivalence exact_turn turns (turn x d) old.turns_once fresh;
    each = λ y. (
      (λ h. elim (Contains-push_cases vertices x y h) [
        | inl there ↦ (let one = (old.each y).0 there in (one.0, Contains-append_left turns (turn x d ∷ []) _ one.1))
        | inr e ↦ (d, rw⁻¹ e (Contains-push turns (turn x d)))
      ]),
      (λ has. elim (Contains-push_cases turns (turn x d) (turn y has.0) has.1) [
        | inl there ↦ Contains-append_left vertices (x ∷ []) y ((old.each y).1 (has.0, there))
        | inr e ↦ rw⁻¹ (ap (λ (t : Turn). t.vertex) e) (Contains-push vertices x)
      ]),
    );
  }

-- With one more turn there are too many vertices.
pub overflow_one : {vertices : List ModuleVersion} (turns : List Turn) (x : ModuleVersion) (d : Depth)
    → AreTurnsOf vertices (turns ++ turn x d ∷ []) → 65536 < length vertices → OverflowsWith turns (x ∷ [])
overflow_one {vertices} turns x d are many = (
  vertices,
  many,
  are.vertices_once,
  (λ y h.
      let has = (are.each y).0 h in
      elim (Contains-push_cases turns (turn x d) (turn y has.0) has.1) [
        | inl there ↦ inl (has.0, there)
        | inr e ↦ inr (0, omega arith, ap (λ (t : Turn). t.vertex) e)
      ]),
)

-- the same after some were added
pub overflow_later : {turns more : List Turn} {d : Depth} {xs : List ModuleVersion} (ys zs : List ModuleVersion) → AddsAll turns more xs d
    → ((y : ModuleVersion) → Contains xs y → Contains zs y) → ((y : ModuleVersion) → Contains ys y → Contains zs y)
    → OverflowsWith more ys → OverflowsWith turns zs
overflow_later ys zs adds in_xs in_ys (all, long, once, each) = (
  all,
  long,
  once,
  (λ y h. elim (each y h) [
    | inl one ↦ elim (adds.only (turn y one.0) one.1) [
      | inl old ↦ inl (one.0, old)
      | inr found ↦ inr (rw (ap (λ (t : Turn). t.vertex) found.2) (in_xs found.0 found.1))
    ]
    | inr new ↦ inr (in_ys y new)
  ]),
)
