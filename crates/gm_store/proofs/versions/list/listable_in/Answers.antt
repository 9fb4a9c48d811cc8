use Rattle.std.proofs.lemmas.Str.{IsUtf8-from_ascii}
use Rattle.gm_store.proofs.Bytes.{IsAscii-version}
use Rattle.gm_store.proofs.versions.list.listable_in.Goals as goal

pub returns-in-Err-clause-none : goal.returns-in-Err-clause-none
returns-in-Err-clause-none c = λ listable. c.in-Err.ensures.cases.0 (IsUtf8-from_ascii _ (IsAscii-version _ listable.canonical))
