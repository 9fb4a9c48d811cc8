use Rattle.gm_file.proofs.replacements.insert_copy.Goals as goal

pub returns-clause-inserted : goal.returns-clause-inserted
returns-clause-inserted g c = (c.in_ok-copy.field-0, c.in_ok-copy.ensures, c.in_ok-insert.ensures.updates)
