-- Vertices and turns that compare as the same are equal.
use Rattle.std.proofs.Common.{◌≡◌, ◌≤◌, Bool, true, List, Contains, ap₂, length, refl}
use Rattle.std.specs.Bool.{Decides}
use Rattle.std.specs.Cmp.{IsEquivalence, decided}
use Rattle.std.proofs.lemmas.Bool.{and_parts}
use Rattle.std.specs.Cmp.Derive.{both_true}
use Rattle.gm_name.specs.ModuleVersion.{ModuleVersion, pair_eq}
use Rattle.gm_name.specs.Private.ModuleVersion.{pair-same, pair-self}
use Rattle.gm_graph_files.specs.declared.depth.Turn.{Turn}
use Rattle.gm_graph_files.specs.declared.depth.Depth.{Depth}
use Rattle.gm_graph_files.specs.declared.depth.Depth.TheVariants.{Top, Deep}
use Rattle.gm_graph_files.specs.Turns.{same_turn, same_depth, turn}
use Rattle.std.specs.List.{IsDistinct}
use Rattle.std.proofs.lemmas.Map.Made.{length-le_from_is_member, is_member-Decides}

pub exact_depth : (a b : Depth) → same_depth a b ≡ true → a ≡ b
exact_depth Top Top h = refl
exact_depth Top Deep h = cc
exact_depth Deep Top h = cc
exact_depth Deep Deep h = refl

pub same_depth-refl : (a : Depth) → same_depth a a ≡ true
same_depth-refl Top = refl
same_depth-refl Deep = refl

pub exact_turn : (a b : Turn) → same_turn a b ≡ true → a ≡ b
exact_turn a b h =
    let (vertex, depth) = and_parts (pair_eq a.vertex b.vertex) (same_depth a.depth b.depth) h in
    ap₂ (λ (x : ModuleVersion) (d : Depth). turn x d) (pair-same a.vertex b.vertex vertex) (exact_depth a.depth b.depth depth)

pub same_turn-Decides : (a b : Turn) → Decides (same_turn a b) (a ≡ b)
same_turn-Decides a b = (
  exact_turn a b,
  λ e. rw⁻¹ e (both_true (pair-self a.vertex) (same_depth-refl a.depth)),
)

pub turns_equivalence : IsEquivalence same_turn
turns_equivalence = decided same_turn same_turn-Decides

-- Distinct elements that are all in a list are at most as many as it has.
pub at_most_as_many : {T : Type 0} {same : T → T → Bool} → ((a b : T) → Decides (same a b) (a ≡ b)) → (xs ys : List T) → IsDistinct same xs
    → ((x : T) → Contains xs x → Contains ys x) → length xs ≤ length ys
at_most_as_many {same} exact xs ys once inside = length-le_from_is_member (decided same exact) xs ys once
    (λ q h. (is_member-Decides exact ys q).1 (inside q ((is_member-Decides exact xs q).0 h)))
