use Rattle.std.proofs.Common.{◌≡◌, ◌∙◌, Some, ap, option_map, sym}
use Rattle.gomod_run.specs.Program.{versions_path}
use Rattle.gomod_run.proofs.stores.memory_of.Goals as goal

pub returns-in_ok-store_of-in-Some-clause-held : goal.returns-in_ok-store_of-in-Some-clause-held
returns-in_ok-store_of-in-Some-clause-held g c =
    let known : versions_path c.args.command.now ≡ Some c.in-Some.path.now = sym c.versions_path.ensures ∙ ap (option_map (λ path. path.now)) c.in-Some.is in
    rw known (Some c.in_ok-list-in-Some.list, c.in_ok-list-in-Some.ensures, c.in_ok-store_of-in-Some.ensures.held)
