use Rattle.gm_file.proofs.Sets.{set-with}
use Rattle.gm_file.proofs.exclusions.Exclusions.add.Goals as goal

pub returns-clause-set : goal.returns-clause-set
returns-clause-set c = λ q.
    rw (c.in_ok-push.ensures.items, ← c.in_ok-copy.ensures)
    (set-with c.args.self.now.set c.insert.new.self c.args.self.now.lines.items c.in_ok-copy.field-0 c.requires
    c.in_ok-insert.ensures.updates q)
