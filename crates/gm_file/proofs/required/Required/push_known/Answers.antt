use Rattle.gm_file.proofs.ListEnds.{grown_if_known}
use Rattle.gm_file.proofs.required.Required.push_known.Goals as goal
use Rattle.gm_file.proofs.required.Required.push_known.Goals.{in-Own, in-End+in_ok-push_known-in-End}

pub invariant_of-self-2 : goal.invariant_of-self-2
invariant_of-self-2 c = elim c.match-self.branch [
  | in-Own w ↦ rw w.self-inside-is c.self.invariant
  | in-End+in_ok-push_known-in-End w ↦
      let here = w.in-End in
      let pushed = w.in_ok-push_known-in-End in
      rw w.self-inside-is
      (grown_if_known here.before.value here.list w.push_known.new.self (c.args.path.now, c.args.version.now) pushed.field-0
      (rw here.is at c.self.invariant) pushed.ensures.pushed pushed.ensures.unknown)
]
