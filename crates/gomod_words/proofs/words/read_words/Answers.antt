use Rattle.std.proofs.Common.{◌≡◌, [], map, subst, sym, true}
use Rattle.clap.specs.Faults.{fault_of}
use Rattle.clap.specs.Kinds.{HasKind}
use Rattle.clap.specs.Simple.{App}
use Rattle.clap.specs.Takes.{takes}
use Rattle.clap.specs.Values.{kind_of}
use Rattle.clap.specs.declared.error.kind.ErrorKind.TheVariants.{OutOfMemory}
use Rattle.gomod_words.proofs.Faults.{entries_faults, entries_known, entries_read, of_gomod, parser_fault, read_fault}
use Rattle.gomod_words.proofs.words.read_words.Goals as goal

pub returns-in-Ok-clause-read : goal.returns-in-Ok-clause-read
returns-in-Ok-clause-read c =
    let words = map (λ word. word.now) c.args.words.now in
    let is = c.in_ok-command.ensures in
    let same = entries_known _ words c.in-Ok.matches is c.in-Ok.ensures.matches in
    entries_read words _ (sym c.in_default.ensures) (of_gomod _ (λ app. fault_of app words ≡ []) is c.in-Ok.ensures.kinds)
    (rw same at c.read_shown.ensures.read)

pub returns-in-Ok-clause-fault : goal.returns-in-Ok-clause-fault
returns-in-Ok-clause-fault c =
    let words = map (λ word. word.now) c.args.words.now in
    let is = c.in_ok-command.ensures in
    let same = entries_known _ words c.in-Ok.matches is c.in-Ok.ensures.matches in
    entries_faults words _ (sym c.in_default.ensures) (of_gomod _ (λ app. fault_of app words ≡ []) is c.in-Ok.ensures.kinds)
    (rw same at c.read_shown.ensures.fault) c.read_shown.ensures.usage

pub returns-in-Err-clause-fault : goal.returns-in-Err-clause-fault
returns-in-Err-clause-fault c =
    let words = map (λ word. word.now) c.args.words.now in
    let is = c.in_ok-command.ensures in
    let error = c.in-Err.error in
    read_fault words c.fault_of.result (sym c.in_default.ensures)
    (parser_fault words error c.fault_of.result (of_gomod _ (λ app. HasKind (fault_of app words) error) is c.in-Err.ensures.kinds)
    (subst (λ (app : App). takes app words ≡ true → kind_of error ≡ OutOfMemory) is c.in-Err.ensures.passes) c.fault_of.ensures.fault)
    c.fault_of.ensures.usage
