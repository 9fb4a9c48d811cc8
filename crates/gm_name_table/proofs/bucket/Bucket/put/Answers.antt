use Rattle.gm_name_table.proofs.Slots.{put-empty}
use Rattle.gm_name_table.proofs.bucket.Bucket.put.Goals as goal

pub returns-in-Some-clause-put : goal.returns-in-Some-clause-put
returns-in-Some-clause-put c = λ _.
    put-empty c.args.self.now.slots c.in-Some.at c.args.tag c.args.place c.some.result
    c.in-Some.ensures c.requires.free c.some.ensures
