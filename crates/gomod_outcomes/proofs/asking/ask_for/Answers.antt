use Rattle.gm_store_parts.specs.Asked.{name_of}
use Rattle.gm_store_parts.proofs.Serving.{request_served}
use Rattle.gomod_outcomes.proofs.asking.ask_for.Goals as goal

pub returns-in-Ok-clause-served : goal.returns-in-Ok-clause-served
returns-in-Ok-clause-served g c =
    request_served _ _ (g.F.Asks.state c.args.files.now) (g.F.Asks.state c.ask.new.self) (name_of c.args.name) c.ask.result c.ask.ensures

pub returns-clause-served : goal.returns-clause-served
returns-clause-served g c =
    request_served _ _ (g.F.Asks.state c.args.files.now) (g.F.Asks.state c.ask.new.self) (name_of c.args.name) c.ask.result c.ask.ensures
