-- The worlds in which a list is printed.
use Rattle.std.proofs.Common.{[], None, Some, codes, refl}
use Rattle.page.specs.Files.{main_file, main_text, old_file, old_text}
use Rattle.page.specs.Files.RowFiles.{alone_file, alone_text, both_file, both_text, ends_file, ends_text, excluding_file, excluding_text, folders_file, folders_text, forking_file, forking_text, later_file, later_text, one_file, one_text, replacing_file, replacing_text, two_file, two_text}
use Rattle.page.specs.Path.{is_fetchable}
use Rattle.page.specs.Worlds.{PrunedIsListed, UnprunedIsListed, printing, pruned_answers, pruned_text, reporting, unpruned_answers, unpruned_text}
use Rattle.page.specs.Worlds.Rows.{DeepIsOpened, EachPartCounts, ExcludedIsLeftOut, FolderIsListed, FoldersAreListed, ForkIsListed, GreaterVersionIsListed, LaterGoIsListed, MainAloneIsListed, OwnPathIsLeftOut, TopIsOpenedDeeply, UnopenedIsListed, both_ways_answers, deep_answers, excluded_answers, folder_answers, folders_answers, fork_answers, go_answers, own_answers, parts_answers, parts_text, unopened_answers, versions_answers}
use Rattle.page.proofs.Checked.{ends_so}

pub unpruned_is_listed : UnprunedIsListed
unfolding is_fetchable
unpruned_is_listed = ends_so old_text None old_file None unpruned_answers refl tt refl None None
    (printing unpruned_text) refl

pub main_alone_is_listed : MainAloneIsListed
unfolding is_fetchable
main_alone_is_listed = record {
  whole = ends_so alone_text None alone_file None [] refl tt refl None None (printing (codes "example.com/m\n")) refl;
  after = ends_so alone_text None alone_file None [] refl tt refl (Some (codes "example.com/m")) None (printing []) refl;
}

pub greater_version_is_listed : GreaterVersionIsListed
unfolding is_fetchable
greater_version_is_listed = ends_so both_text None both_file None versions_answers refl tt refl None None
    (printing (codes "example.com/m\nexample.com/a v1.0.0\nexample.com/b v1.0.0\nexample.com/c v1.10.0\n")) refl

pub unopened_is_listed : UnopenedIsListed
unfolding is_fetchable
unopened_is_listed = ends_so one_text None one_file None unopened_answers refl tt refl None None
    (printing (codes "example.com/m\nexample.com/a v1.0.0\nexample.com/c v1.0.0\n")) refl

pub deep_is_opened : DeepIsOpened
unfolding is_fetchable
deep_is_opened = ends_so one_text None one_file None deep_answers refl tt refl None None
    (printing (codes "example.com/m\nexample.com/a v1.0.0\nexample.com/c v1.0.0\nexample.com/d v1.0.0\n")) refl

pub top_is_opened_deeply : TopIsOpenedDeeply
unfolding is_fetchable
top_is_opened_deeply = ends_so two_text None two_file None both_ways_answers refl tt refl None None
    (printing (codes "example.com/m\nexample.com/a v1.0.0\nexample.com/b v1.0.0\nexample.com/c v1.0.0\nexample.com/d v1.0.0\n")) refl

pub excluded_is_left_out : ExcludedIsLeftOut
unfolding is_fetchable
excluded_is_left_out = ends_so excluding_text None excluding_file None excluded_answers refl tt refl None None
    (printing (codes "example.com/m\nexample.com/a v1.0.0\n")) refl

pub folder_is_listed : FolderIsListed
unfolding is_fetchable
folder_is_listed = ends_so replacing_text None replacing_file None folder_answers refl tt refl None None
    (printing (codes "example.com/m\nlocal v0.0.0 => ../local\n")) refl

pub fork_is_listed : ForkIsListed
unfolding is_fetchable
fork_is_listed = ends_so forking_text None forking_file None fork_answers refl tt refl None None
    (printing (codes "example.com/m\nexample.com/a v1.0.0 => example.com/fork v1.1.0\nexample.com/fork v1.1.0\n")) refl

pub later_go_is_listed : LaterGoIsListed
unfolding is_fetchable
later_go_is_listed = ends_so later_text None later_file None go_answers refl tt refl None None
    (printing (codes "example.com/m\nexample.com/a v1.0.0\nexample.com/b v1.0.0\nexample.com/c v1.0.0\nexample.com/d v1.0.0\n")) refl

pub each_part_counts : EachPartCounts
unfolding is_fetchable
each_part_counts = ends_so two_text None two_file None parts_answers refl tt refl None None (printing parts_text) refl

pub folders_are_listed : FoldersAreListed
unfolding is_fetchable
folders_are_listed = ends_so folders_text None folders_file None folders_answers refl tt refl None None
    (printing (codes "example.com/m\nexample.com/a v1.0.0 => ../a\nexample.com/b v1.0.0 => ../b\n")) refl

pub own_path_is_left_out : OwnPathIsLeftOut
unfolding is_fetchable
own_path_is_left_out = record {
  all = ends_so ends_text None ends_file None own_answers refl tt refl None None
      (printing (codes "example.com/m\nexample.com/a v1.0.0\nexample.com/k v1.0.0\nexample.com/z v1.0.0\n")) refl;
  after_main = ends_so ends_text None ends_file None own_answers refl tt refl (Some (codes "example.com/m")) None
      (printing (codes "example.com/a v1.0.0\nexample.com/k v1.0.0\nexample.com/z v1.0.0\n")) refl;
  after_third = ends_so ends_text None ends_file None own_answers refl tt refl (Some (codes "example.com/k")) None
      (printing (codes "example.com/z v1.0.0\n")) refl;
  after_last = ends_so ends_text None ends_file None own_answers refl tt refl (Some (codes "example.com/z")) None
      (printing []) refl;
  limited = ends_so ends_text None ends_file None own_answers refl tt refl None (Some 2)
      (printing (codes "example.com/m\nexample.com/a v1.0.0\n")) refl;
  three = ends_so ends_text None ends_file None own_answers refl tt refl None (Some 3)
      (printing (codes "example.com/m\nexample.com/a v1.0.0\nexample.com/k v1.0.0\n")) refl;
  more = ends_so ends_text None ends_file None own_answers refl tt refl None (Some 9)
      (printing (codes "example.com/m\nexample.com/a v1.0.0\nexample.com/k v1.0.0\nexample.com/z v1.0.0\n")) refl;
  none = ends_so ends_text None ends_file None own_answers refl tt refl None (Some 0) (printing []) refl;
  both = ends_so ends_text None ends_file None own_answers refl tt refl (Some (codes "example.com/m")) (Some 1)
      (printing (codes "example.com/a v1.0.0\n")) refl;
}

pub pruned_is_listed : PrunedIsListed
unfolding is_fetchable
pruned_is_listed = record {
  whole = ends_so main_text None main_file None pruned_answers refl tt refl None None (printing pruned_text) refl;
  limited = ends_so main_text None main_file None pruned_answers refl tt refl None (Some 2)
      (printing (codes "m\nend.org v1.0.0\n")) refl;
  after = ends_so main_text None main_file None pruned_answers refl tt refl (Some (codes "low.org")) None
      (printing (codes "mid.org v1.10.0 => ./mid\ntop.org v1.0.0\n")) refl;
  unlisted = ends_so main_text None main_file None pruned_answers refl tt refl (Some (codes "b.org")) None
      (reporting (codes "b.org: NotListed\n")) refl;
}
