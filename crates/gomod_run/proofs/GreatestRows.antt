-- Rows that meet the plain description of a build list are the build list.
use Rattle.std.proofs.Common.{◌≡◌, ◌∙◌, ℕ, List, [], ◌∷◌, map, Contains, ap, ap₂, sym, refl, subst, inl, inr}
use Rattle.std.specs.Cmp.Lexicographic.{nat_list_cmp_total}
use Rattle.std.specs.declared.cmp.Ordering.TheVariants.{Less}
use Rattle.gm_name.specs.ModuleVersion.{ModuleVersion}
use Rattle.gm_file.specs.Main.{replacement_in}
use Rattle.gm_graph_select.specs.BuildList.{IsBuildList, IsSelected, entry_of, main_entry, path_cmp}
use Rattle.gm_graph_select.specs.Order.{IsAscending}
use Rattle.gm_graph_select.proofs.Ascending.{less_itself, member_cases, no_member, pairs_head, pairs_tail}
use Rattle.gm_graph.specs.Run.{IsEdge}
use Rattle.gm_graph_cache.specs.Sayings.{Run, run_of}
use Rattle.gomod_texts.specs.QueryLaws.{AreGreatest, BuildListIsListed}
use Rattle.gomod_texts.specs.Queries.{no_fault}
use Rattle.gomod_texts.specs.ListQuery.{no_path}
use Rattle.gomod_texts.proofs.Uniqueness.{same_version}

abbrev IsBelow : ModuleVersion → ModuleVersion → Type 0
IsBelow x y = path_cmp x y ≡ Less

other_path : (x y : ModuleVersion) → IsBelow x y → x.0 ≡ y.0 → ⊥
other_path x y below same = less_itself nat_list_cmp_total x.0 (rw (← same) at below)

-- a path occurs at most once in an ascending list
one_member : (xs : List ModuleVersion) → IsAscending path_cmp xs → (x y : ModuleVersion) → Contains xs x → Contains xs y → x.0 ≡ y.0 → x ≡ y
one_member [] up x y in_x in_y same = absurd (no_member x in_x)
one_member (z ∷ xs) up x y in_x in_y same = elim (member_cases z x xs in_x) [
  | inl a ↦ elim (member_cases z y xs in_y) [
    | inl b ↦ sym a ∙ b
    | inr b ↦ absurd (other_path z y (pairs_head IsBelow z y xs up b) (ap (λ (v : ModuleVersion). v.0) a ∙ same))
  ]
  | inr a ↦ elim (member_cases z y xs in_y) [
    | inl b ↦ absurd (other_path z x (pairs_head IsBelow z x xs up a) (ap (λ v. v.0) b ∙ sym same))
    | inr b ↦ one_member xs (pairs_tail IsBelow z xs up) x y a b same
  ]
]

module _ (run : Run) (selected : List ModuleVersion) (are : AreGreatest run selected) where
  is_selected : (x : ModuleVersion) → Contains selected x → IsSelected run.main.path (IsEdge run) x
  is_selected x there = record {
    not_main = are.not_main x there;
    is_end = are.required x there;
    greatest = λ y end same.
        let (z, inside, path, high) = are.satisfied y end (λ e. are.not_main x there (sym same ∙ e)) in
        rw (one_member _ are.ascending z x inside there (path ∙ same)) at high;
  }

  is_row : (x : ModuleVersion) → IsSelected run.main.path (IsEdge run) x → Contains selected x
  is_row x is =
      let (z, inside, path, high) = are.satisfied x is.is_end is.not_main in
      let same : z ≡ x = ap₂ (λ (p v : List ℕ). (p, v)) path (same_version _ _ (is.greatest z (are.required z inside) path) high) in
      subst (Contains selected) same inside

  pub as_build_list : IsBuildList run.main.path (replacement_in run.main) (IsEdge run) (main_entry ∷ map (entry_of (replacement_in run.main)) selected)
  as_build_list = record { selected = selected; entries_are = refl; ascending = are.ascending; each = λ x. (is_selected x, is_row x) }

pub build_list_is_listed : BuildListIsListed
build_list_is_listed run main table selected found greatest =
    no_fault _ _ found (
      main_entry ∷ map (entry_of (replacement_in main)) selected,
      as_build_list (run_of _ _ _) selected greatest,
      no_path refl refl,
    )
