-- The worlds of the table: three computations for each.
use Rattle.std.proofs.Common.{◌≡◌, ℕ, List, [], ◌∷◌, None, Some, Ok, codes, refl}
use Rattle.std.specs.Fmt.{digits}
use Rattle.std.specs.List.{AllByRecursion}
use Rattle.page.specs.Files.{main_in}
use Rattle.page.specs.Files.TableFiles.{World, a, b, exclude_worlds, go_worlds, main_bytes, order_worlds, path_worlds, replace_worlds}
use Rattle.page.specs.Outcome.{Outcome}
use Rattle.page.specs.Path.{is_fetchable}
use Rattle.page.specs.Worlds.{printing, reporting}
use Rattle.page.specs.Worlds.Table.{ByBEnds, ExcludesAreTold, GoVersionsAreTold, Holds, OrdersAreTold, ReplacesAreTold, TextsAreTold, answers_of, by_b, ending_as, world_by_b}
use Rattle.page.proofs.Checked.{ending, ends_so, failures}

-- The main file says so, nothing is wrong with the run, and this is how it ends: each is computed.
abbrev IsTold : World → Type 0
IsTold w = (main_in (main_bytes w.main) ≡ Ok w.main) × (failures w.main None (answers_of w) ≡ [])
    × (ending w.main None (answers_of w) None None ≡ ending_as w.ends)

all_hold : (ws : List World) → AllByRecursion IsTold ws → AllByRecursion Holds ws
all_hold [] are = tt
all_hold (w ∷ ws) are =
    let (is_main, none, is) = are.0 in
    (ends_so (main_bytes w.main) None w.main None (answers_of w) is_main tt none None None (ending_as w.ends) is, all_hold ws are.1)

pub go_versions_are_told : GoVersionsAreTold
unfolding is_fetchable digits
go_versions_are_told = all_hold go_worlds (
  (refl, refl, refl),
  ((refl, refl, refl), ((refl, refl, refl), ((refl, refl, refl), ((refl, refl, refl), ((refl, refl, refl), ((refl, refl, refl), ((refl, refl, refl), ((refl, refl, refl), tt)))))))),
)

pub orders_are_told : OrdersAreTold
unfolding is_fetchable digits
orders_are_told = all_hold order_worlds (
  (refl, refl, refl),
  ((refl, refl, refl), ((refl, refl, refl), ((refl, refl, refl), ((refl, refl, refl), ((refl, refl, refl), ((refl, refl, refl), ((refl, refl, refl), ((refl, refl, refl), ((refl, refl, refl), tt))))))))),
)

pub excludes_are_told : ExcludesAreTold
unfolding is_fetchable digits
excludes_are_told = all_hold exclude_worlds (
  (refl, refl, refl),
  ((refl, refl, refl), ((refl, refl, refl), ((refl, refl, refl), ((refl, refl, refl), ((refl, refl, refl), ((refl, refl, refl), ((refl, refl, refl), ((refl, refl, refl), tt)))))))),
)

pub replaces_are_told : ReplacesAreTold
unfolding is_fetchable digits
replaces_are_told = all_hold replace_worlds (
  (refl, refl, refl),
  ((refl, refl, refl), ((refl, refl, refl), ((refl, refl, refl), ((refl, refl, refl), ((refl, refl, refl), ((refl, refl, refl), ((refl, refl, refl), ((refl, refl, refl), ((refl, refl, refl), ((refl, refl, refl), ((refl, refl, refl), ((refl, refl, refl), ((refl, refl, refl), ((refl, refl, refl), ((refl, refl, refl), ((refl, refl, refl), ((refl, refl, refl), ((refl, refl, refl), ((refl, refl, refl), tt))))))))))))))))))),
)

by_b_ends : (path : List ℕ) (outcome : Outcome) → ending by_b None (answers_of world_by_b) (Some path) None ≡ outcome → ByBEnds path outcome
unfolding is_fetchable digits
by_b_ends path outcome = ends_so (main_bytes by_b) None by_b None (answers_of world_by_b) refl tt refl (Some path) None outcome

pub texts_are_told : TextsAreTold
unfolding is_fetchable digits
texts_are_told = record {
  worlds = all_hold path_worlds (
    (refl, refl, refl),
    ((refl, refl, refl), ((refl, refl, refl), ((refl, refl, refl), ((refl, refl, refl), ((refl, refl, refl), ((refl, refl, refl), ((refl, refl, refl), tt))))))),
  );
  rows = refl;
  faults = refl;
  replaced = by_b_ends a.0 (printing []) refl;
  arrow = by_b_ends b.0 (reporting (codes "b.org: NotListed\n")) refl;
  begins = by_b_ends (codes "a.or") (reporting (codes "a.or: NotListed\n")) refl;
}
