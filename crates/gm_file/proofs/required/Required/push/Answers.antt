use Rattle.gm_file.proofs.ListEnds.{grown_if_pushed}
use Rattle.gm_file.proofs.required.Required.push.Goals as goal
use Rattle.gm_file.proofs.required.Required.push.Goals.{in-Own+in_ok-push-in-Own, in-End}

pub invariant_of-self-2 : goal.invariant_of-self-2
invariant_of-self-2 c = elim c.match-self.branch [
  | in-Own+in_ok-push-in-Own w ↦ rw w.self-inside-is tt
  | in-End w ↦
      let here = w.in-End in
      let pushed = w.push-in-End in
      rw w.self-inside-is
      (grown_if_pushed here.before.value here.list pushed.new.self c.args.pair pushed.result
      (rw here.is at c.self.invariant) pushed.ensures.ok pushed.ensures.err)
]
