use Rattle.gm_name.proofs.NameTests.{fit-tested}
use Rattle.gm_file.proofs.replacements.copied_pair.Goals as goal

pub unreachable-requires : goal.unreachable-requires
unreachable-requires c =
    absurd (c.in-None.ensures.none (rw (c.in_ok-path.ensures, c.in_ok-copy.ensures) ((fit-tested c.args.path.now c.args.version.now).0 c.requires)))
