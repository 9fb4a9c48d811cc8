use Rattle.std.proofs.Common.{◌≡◌, ◌∙◌, ℕ, Option, Some, ap, arith, length, refl, sym, true≢false}
use Rattle.std.specs.Cmp.Lexicographic.{bytes_decides}
use Rattle.std.specs.Prelude.{not, slice_get}
use Rattle.std.proofs.lemmas.List.{length-map}
use Rattle.std.proofs.lemmas.Option.{none-some, slice_get_read}
use Rattle.gm_name.specs.ModuleVersion.{module_at}
use Rattle.gm_name_table.specs.Listed.{modules_of}
use Rattle.gm_graph_files.specs.declared.summary.Kept.{Kept}
use Rattle.gm_graph_files.specs.declared.summary.Kept.TheVariants.{Valid}
use Rattle.gm_graph_files.specs.KeptFiles.{IsWithinList}
use Rattle.gm_graph_files.proofs.SharedLists.{none_if, same_numbers}
use Rattle.gm_graph_files.proofs.list_index.list_at.Goals.{In-Valid}
use Rattle.gm_graph_files.proofs.list_index.list_at.Goals as goal

there : (c : In-Valid) → slice_get c.args.files.now c.args.place ≡ Some (Valid c.in-Valid.summary)
there c =
    let files = c.args.files.now in
    let found = c.in_ok-summary.ensures.lookup in
    slice_get_read files (length files) c.args.place c.in_ok-summary.field-0.now refl found.3.0 found.1
    ∙ ap (λ (kept : Kept). Some kept) c.in-Valid.is

within : (c : In-Valid) → IsWithinList (modules_of c.args.modules.now) c.in-Valid.summary.list.span
within c = c.requires c.args.place c.in-Valid.summary (there c)

pub numbers-requires-clause-order : goal.numbers-requires-clause-order
numbers-requires-clause-order c = (within (goal.at.numbers-requires-clause-order c).In-Valid).order

pub numbers-requires-clause-within : goal.numbers-requires-clause-within
numbers-requires-clause-within c =
    let list = c.args.modules.now in
    omega (arith, (within (goal.at.numbers-requires-clause-within c).In-Valid).within, length-map list.numbers (module_at list.modules))

pub returns-else-ne-clause-same : goal.returns-else-ne-clause-same
returns-else-ne-clause-same c =
    let summary = c.in-Valid.summary in
    record {
      file = summary.file;
      place = c.args.place;
      shared = refl;
      there = there (goal.at.returns-else-ne-clause-same c).In-Valid
          ∙ ap (λ (o : Option ℕ). Some (Valid (record { file = summary.file; list = record { span = summary.list.span; same_as = o } })))
          (none_if summary.list.same_as c.if-is_none.ensures);
      has = sym c.numbers.ensures.numbers ∙ same_numbers c.numbers.result.now c.args.numbers.now c.if-ne.ensures;
    }

pub returns-else-ne-clause-none : goal.returns-else-ne-clause-none
returns-else-ne-clause-none c = λ e. absurd (none-some _ (sym e))

pub returns-then-ne-clause-none : goal.returns-then-ne-clause-none
returns-then-ne-clause-none c = λ _ _.
    rw (there (goal.at.returns-then-ne-clause-none c).In-Valid, c.if-is_none.ensures)
    (λ is. true≢false (c.if-ne.ensures ∙ ap not ((bytes_decides _ _).1 (c.numbers.ensures.numbers ∙ is))))
