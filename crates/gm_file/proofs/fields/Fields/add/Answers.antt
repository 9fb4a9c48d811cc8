use Rattle.std.proofs.Common.{refl}
use Rattle.std.proofs.lemmas.List.{map-append}
use Rattle.gm_file.specs.Faults.{directive_kinds}
use Rattle.gm_file.specs.VerbViews.{mode_view}
use Rattle.gm_file.specs.Views.{interval_view, replace_view}
use Rattle.gm_file.proofs.Adding.{excludes-found, exclusion-added, replaces-found, replacing-added}
use Rattle.gm_file.proofs.Saying.{say-interval, say-kept, say-requirement}
use Rattle.gm_file.proofs.fields.Fields.add.Goals as goal

pub returns-in-Module-clause-added : goal.returns-in-Module-clause-added
returns-in-Module-clause-added c = rw c.in-Module.is (c.add_module.ensures.added (mode_view c.args.mode))

pub returns-in_ok-push-in-Require-clause-added : goal.returns-in_ok-push-in-Require-clause-added
unfolding directive_kinds
returns-in_ok-push-in-Require-clause-added c = λ ds holds.
    let early = rw c.in-Require.is at c.requires.early in
    rw (c.in-Require.is, c.in_ok-push-in-Require.ensures.items) (say-requirement holds c.in-Require.pair, early)

pub returns-in-Exclude-clause-found : goal.returns-in-Exclude-clause-found
returns-in-Exclude-clause-found c =
    excludes-found c.args.self.now c.add.new.self c.add.result c.requires.found c.add.ensures.set

pub returns-in-Exclude-clause-added : goal.returns-in-Exclude-clause-added
returns-in-Exclude-clause-added c =
    let early = rw c.in-Exclude.is at c.requires.early in
    rw c.in-Exclude.is
    (exclusion-added (mode_view c.args.mode) c.args.self.now c.add.new.self c.in-Exclude.pair c.add.result early
    c.add.ensures.lines c.add.ensures.memory)

pub returns-in-Replace-clause-found : goal.returns-in-Replace-clause-found
returns-in-Replace-clause-found c =
    replaces-found c.args.self.now c.add-in-Replace.new.self c.add-in-Replace.result c.requires.found c.add-in-Replace.ensures.indexed

pub returns-in-Replace-clause-added : goal.returns-in-Replace-clause-added
returns-in-Replace-clause-added c =
    let early = rw c.in-Replace.is at c.requires.early in
    rw c.in-Replace.is
    (replacing-added (mode_view c.args.mode) c.args.self.now c.add-in-Replace.new.self (replace_view c.in-Replace.replace) c.add-in-Replace.result early
    c.add-in-Replace.ensures.lines c.add-in-Replace.ensures.conflict)

pub returns-in_ok-push-in-Retract-clause-added : goal.returns-in_ok-push-in-Retract-clause-added
unfolding directive_kinds
returns-in_ok-push-in-Retract-clause-added c = λ ds holds.
    let early = rw c.in-Retract.is at c.requires.early in
    rw (c.in-Retract.is, c.in_ok-push-in-Retract.ensures.items, map-append interval_view) (say-interval holds (interval_view c.in-Retract.interval), early)

pub returns-in-Kept-clause-added : goal.returns-in-Kept-clause-added
unfolding directive_kinds
returns-in-Kept-clause-added c = λ ds holds. rw c.in-Kept.is (say-kept holds, refl)
