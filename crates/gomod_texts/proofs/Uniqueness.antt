-- The versions of a list, and the latest of them.
use Rattle.std.proofs.Common.{◌≡◌, ◌∙◌, ℕ, Bool, true, false, List, [], ap, inl, inr, sym}
use Rattle.std.specs.Ordering.{is_gt, ordering_reverse}
use Rattle.std.proofs.lemmas.Bool.{false≢true}
use Rattle.std.proofs.lemmas.Map.Keys.{Less-from_sorted}
use Rattle.gm_version.specs.Version.{version_cmp}
use Rattle.gm_version.specs.VersionOrder.{version_total, version-anti}
use Rattle.gm_graph_select.specs.Order.{IsAscending}
use Rattle.gm_graph_select.proofs.Ascending.{no_member, same_lists}
use Rattle.gm_graph_select.proofs.Greatest.{gt_false}
use Rattle.gm_store.specs.Latest.{IsGreatest, IsLatest}
use Rattle.gm_store.specs.Listed.{AreListed}

listed_ascend : (path text : List ℕ) (versions : List (List ℕ)) → AreListed path text versions → IsAscending version_cmp versions
listed_ascend path text versions are i j d lt below = Less-from_sorted _ _ i j d are.ascending lt below

pub listed_once : (path text : List ℕ) (one other : List (List ℕ)) → AreListed path text one → AreListed path text other → one ≡ other
listed_once path text one other a b = same_lists version_total _ other (listed_ascend _ _ _ a) (listed_ascend _ _ _ b)
    (λ k. ((λ inside. (b.members k).1 ((a.members k).0 inside)), (λ inside. (a.members k).1 ((b.members k).0 inside))))

-- ---- the latest version

-- two versions are the same if neither is greater
pub same_version : (v w : List ℕ) → is_gt (version_cmp v w) ≡ false → is_gt (version_cmp w v) ≡ false → v ≡ w
same_version v w low high = elim (gt_false _ low) [
  | inl less ↦ absurd (false≢true (sym high ∙ ap is_gt (version_total.antisymm w v ∙ ap ordering_reverse less)))
  | inr same ↦ version-anti v w same
]

greatest_once : (only : Bool) (versions : List (List ℕ)) (v w : List ℕ) → IsGreatest only versions v → IsGreatest only versions w → v ≡ w
greatest_once only versions v w a b = same_version v w (b.greatest v a.listed a.counted) (a.greatest w b.listed b.counted)

pub latest_once : (versions : List (List ℕ)) (v w : List ℕ) → IsLatest versions v → IsLatest versions w → v ≡ w
latest_once versions v w (inl a) (inl b) = greatest_once _ _ v w a b
latest_once versions v w (inl a) (inr b) = absurd (cc (a.counted, b.0 v a.listed))
latest_once versions v w (inr a) (inl b) = absurd (cc (b.counted, a.0 w b.listed))
latest_once versions v w (inr a) (inr b) = greatest_once _ _ v w a.1 b.1

-- without versions there is no latest one
pub none_latest : (v : List ℕ) → ¬ (IsLatest [] v)
none_latest v (inl a) = no_member v a.listed
none_latest v (inr a) = no_member v a.1.listed
