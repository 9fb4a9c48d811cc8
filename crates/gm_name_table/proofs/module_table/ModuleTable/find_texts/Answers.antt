use Rattle.std.proofs.Common.{◌∙◌, Ok, Some, ap, length, refl, subst, sym}
use Rattle.std.proofs.lemmas.Option.{slice_get_read}
use Rattle.std.specs.Prelude.{slice_get}
use Rattle.gm_name_table.specs.Pairs.{PairReading}
use Rattle.gm_name_table.proofs.module_table.ModuleTable.find_texts.Goals as goal

pub returns-then-is_pair_of-clause-read : goal.returns-then-is_pair_of-clause-read
returns-then-is_pair_of-clause-read c =
    let read = c.is_pair_of.ensures c.if-is_pair_of.true in
    subst (λ pair. PairReading c.args.path.now c.args.version.now (Ok pair)) read.0 read

pub returns-then-is_pair_of-clause-number : goal.returns-then-is_pair_of-clause-number
returns-then-is_pair_of-clause-number c =
    let pairs = c.deref.result.now in
    let number = c.in_ok-number.number in
    let found = c.in_ok-there.ensures.lookup in
    ap (λ pairs. slice_get pairs number) (sym (c.deref.ensures.value ∙ c.self.view_is))
    ∙ slice_get_read pairs (length pairs) number c.in_ok-there.there.now refl found.3.0 found.1
    ∙ ap Some (c.is_pair_of.ensures c.if-is_pair_of.true).0
