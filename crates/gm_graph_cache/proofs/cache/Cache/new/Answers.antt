use Rattle.std.proofs.Common.{◌∙◌, [], arith, refl}
use Rattle.std.proofs.lemmas.List.{length-map, take_all}
use Rattle.gm_name.specs.ModuleVersion.{module_at}
use Rattle.gm_name_table.specs.Listed.{modules_of}
use Rattle.gm_graph_cache.proofs.HeldFiles.{none_holds}
use Rattle.gm_graph_cache.proofs.cache.Cache.new.Goals as goal

pub invariant_of-result : goal.invariant_of-result
invariant_of-result c =
    let list = c.add_first.new.modules in
    let files = c.in_ok-files.ensures in
    let len = c.len-first.ensures.len in
    record {
      consistent = record {
        holds_some = ∣ ([], none_holds files.none) ∣₁;
        first_within = omega (arith, len);
        first_are = take_all _ (modules_of list) (omega (arith, len, length-map list.numbers (module_at list.modules)))
            ∙ c.in_ok-add_first.ensures ∙ rw c.new-modules.ensures.numbers refl;
        places_within = omega (arith, files.places);
        notes = files.notes list.modules;
        in_order = rw files.files (omega (arith, len));
        listed = λ place one there. absurd (cc (rw files.files at there));
      };
      notes = rw files.files (λ place long. absurd (omega (arith, long)));
    }

pub returns-clause-knows : goal.returns-clause-knows
returns-clause-knows c = none_holds c.in_ok-files.ensures.none
