-- The requests that only proofs read.
use Rattle.std.specs.Prelude.{List, map}
use Rattle.gm_store_parts.specs.Asked.{Name, Reply, name_of, reply_of}
use Rattle.gm_store_parts.specs.declared.files.Answer.{Answer}
use Rattle.gm_store_parts.specs.declared.files.AskFault.{AskFault}
use Rattle.gm_store_parts.specs.declared.files.FileName.{FileName}
use Rattle.gm_store_parts.specs.declared.files.history.History.{History}

-- the requested names with their answers, in order
abbrev pub asked_in : History FileName Answer → List (Name × Reply)
asked_in history = map (λ one. (name_of one.0, reply_of one.1)) history.items

-- the names of the requests that were refused, in order
abbrev pub refusals_in : History FileName AskFault → List Name
refusals_in history = map (λ one. name_of one.0) history.items
