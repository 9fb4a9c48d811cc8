use Rattle.std.proofs.Common.{Err, Ok, ap, inl}
use Rattle.gm_graph.proofs.AddFaults.{add_too_many}
use Rattle.gm_graph.proofs.FoundFiles.{file_noted}
use Rattle.gm_graph_cache.specs.Lent.{lent_table}
use Rattle.gm_graph.proofs.Adding.{adds_none}
use Rattle.gm_graph_cache.specs.Cached.{table_in}
use Rattle.gm_graph.proofs.FollowedFiles.{followed_more}
use Rattle.gm_graph.proofs.TurnEnds.{LeadsOn}
use Rattle.gm_graph.proofs.visiting.add_requirements.Goals as goal
use Rattle.gm_graph.proofs.visiting.add_requirements.Goals.{then-leads+in_ok-follow, else-leads}

pub returns-in_err-follow-clause-too_many : goal.returns-in_err-follow-clause-too_many
returns-in_err-follow-clause-too_many c = λ e.
    let many = add_too_many c.from_residual.result c.in_err-follow.field-0.0 c.from_residual.ensures.1 e in
    (c.if-leads.true, c.in_err-follow.ensures.too_many (ap Err many))

pub returns-clause-adds : goal.returns-clause-adds
returns-clause-adds c = λ cache run visited ready below is.
    let required = c.args.required in
    let one = c.args.one in
    let old = c.args.worklist.now in
    let marks = c.args.followed.now in
    let more = c.record_file.new.self in
    let noted = c.in_ok-record_file.ensures in
    let leads : LeadsOn (lent_table required.list) required old c.if-leads.worklist marks c.if-leads.followed = elim c.if-leads.branch [
      | then-leads+in_ok-follow w ↦ rw (w.worklist-is, w.followed-is) (record {
        worklist_is = w.in_ok-follow.ensures.worklist;
        adds = rw w.if-leads.true w.in_ok-follow.ensures.adds;
        files = w.in_ok-follow.ensures.files;
        followed = λ by. w.in_ok-follow.ensures.adds.each;
      })
      | else-leads w ↦ rw (w.worklist-is, w.followed-is) (record {
        worklist_is = c.requires.worklist;
        adds = rw w.if-leads.false (adds_none _ _);
        files = λ f was. inl was;
        followed = c.requires.followed;
      })
    ] in
    let (sound, same, file, says, leads_on, list) = is in
    let here : LeadsOn (table_in cache) required old c.if-leads.worklist marks c.if-leads.followed = rw⁻¹ same leads in
    record {
      ready = record {
        worklist_is = here.worklist_is;
        followed = followed_more cache run _ _ marks c.if-leads.followed _ one.depth required is here.adds.extends ready.followed here.files here.followed;
        found = file_noted c.args.findings.now more one.number required.file noted.put noted.others c.record_file.ensures.faults cache run
            visited one.depth ready.found below sound;
      };
      follows = record { said = Ok file; says = says; adds = rw⁻¹ (leads_on, list) here.adds };
    }
