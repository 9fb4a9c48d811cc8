use Rattle.std.proofs.Common.{rules}
use Rattle.gm_store.proofs.Inside.{list_below}
use Rattle.gm_store.proofs.folders.relative_path.push_list_file.Goals as goal

pub returns-clause-inside : goal.returns-clause-inside
returns-clause-inside c =
    let inside = list_below c.args.path.now c.as_str-path.ensures.path in search (rules, inside)
