use Rattle.std.proofs.Common.{◌≡◌, ◌∙◌, cond, length, None, Some, ap, subst, sym}
use Rattle.std.specs.BTreeMap as map
use Rattle.std.specs.Ordering.{is_eq}
use Rattle.gm_name_table.specs.Buckets.{PutsIn}
use Rattle.gm_name.specs.ModuleVersion.{ModuleVersion, pair_cmp}
use Rattle.gm_name_table.specs.TagIndex.{place_under}
use Rattle.gm_name_table.specs.Index.{pair_tag}
use Rattle.gm_name_table.proofs.Indexes.{added-first, added-other, has-place}
use Rattle.gm_name_table.proofs.index.Index.add.Goals as goal

pub returns-in_ok-put-in-None-clause-ok : goal.returns-in_ok-put-in-None-clause-ok
returns-in_ok-put-in-None-clause-ok c =
    let old = c.args.self.now in
    added-first old.first c.put.new.self old.others c.args.pairs.now c.args.pair.now c.requires.indexed c.requires.absent
    (subst (λ t. place_under old.first t ≡ None) c.requires.tag (sym c.requires.first ∙ c.in-None.is))
    (subst (λ t. PutsIn place_under old.first c.put.new.self t (length c.args.pairs.now)) c.requires.tag c.in_ok-put-in-None.ensures.put)

pub returns-in_ok-insert-in-Some-clause-ok : goal.returns-in_ok-insert-in-Some-clause-ok
returns-in_ok-insert-in-Some-clause-ok c =
    let old = c.args.self.now in
    added-other old.first old.others c.insert.new.self c.args.pairs.now c.args.pair.now c.requires.indexed c.requires.absent
    (has-place (place_under old.first (pair_tag c.args.pair.now)) c.in-Some.field-0
    (ap (place_under old.first) (sym c.requires.tag) ∙ sym c.requires.first ∙ c.in-Some.is))
    (subst (λ key. (p : ModuleVersion)
    → map.get pair_cmp c.insert.new.self p ≡ cond (is_eq (pair_cmp key p)) (Some (length c.args.pairs.now)) (map.get pair_cmp old.others p))
    c.in_ok-copy-in-Some.ensures c.in_ok-insert-in-Some.ensures.updates.0)
