use Rattle.std.proofs.Common.{rules}
use Rattle.gm_store.proofs.Inside.{mod_below}
use Rattle.gm_store.proofs.folders.relative_path.push_mod_file.Goals as goal

pub returns-clause-inside : goal.returns-clause-inside
returns-clause-inside c =
    let inside = mod_below c.args.path.now c.args.version.now c.as_str-path.ensures.path c.as_str-version.ensures.version in search (rules, inside)
