use Rattle.gomod_run.proofs.CommandRuns.{served_ends}
use Rattle.gomod_run.proofs.command.run_command.Goals as goal

pub returns-in-Some : goal.returns-in-Some
returns-in-Some g c =
    rw (← c.take-proxy.ensures.value, c.in-Some.is)
    (served_ends _ c.over_folders-served.result c.ended.result c.over_folders-served.ensures
    c.ended.ensures.status c.ended.ensures.no_report c.ended.ensures.written)

pub returns : goal.returns
returns g c =
    rw (← c.take-proxy.ensures.value, c.in-None.is)
    (served_ends _ c.over_memory-served.result c.ended-in-None.result c.over_memory-served.ensures
    c.ended-in-None.ensures.status c.ended-in-None.ensures.no_report c.ended-in-None.ensures.written)
