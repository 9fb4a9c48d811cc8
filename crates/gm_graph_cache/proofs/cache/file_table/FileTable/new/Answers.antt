use Rattle.std.proofs.Common.{◌≡◌, ◌∙◌, ℕ, Bool, false, true, cond, List, [], ◌∷◌, None, Option, Some, ap, refl, sym}
use Rattle.std.specs.List.{All}
use Rattle.std.specs.Map.{lookup, values_of}
use Rattle.std.specs.Option.{option_map}
use Rattle.std.proofs.lemmas.List.Elements.{All-head, All-tail}
use Rattle.std.proofs.lemmas.Option.{same_Some}
use Rattle.std.proofs.lemmas.List.{take_all}
use Rattle.std.proofs.lemmas.Map.Views.{All-values-insert_entry}
use Rattle.gm_store_parts.specs.contracts.files.FileNameOrd.TheImpl.{cmp-value}
use Rattle.gm_name_table.specs.OptionalPlaces.{no_place, place_in}
use Rattle.gm_name_table.specs.declared.place.OptionalPlace.{OptionalPlace}
use Rattle.gm_graph_cache.proofs.Replacements.{has_replacing, one_more_line}
use Rattle.gm_graph_cache.proofs.cache.file_table.FileTable.new.Goals as goal

none_found : {K : Type 0} (entries : List (K × OptionalPlace)) (test : K → Bool) (place : Option ℕ)
    → All (λ held. held ≡ no_place) (values_of entries) → option_map place_in (lookup test entries) ≡ Some place → None ≡ place
none_found [] test place nowhere = λ e. absurd (cc e)
none_found (entry ∷ entries) test place nowhere =
    elim (test entry.0) as (λ b. option_map place_in (cond b (Some entry.1) (lookup test entries)) ≡ Some place → None ≡ place) [
      | true ↦ λ e. ap place_in (sym (All-head (λ (held : OptionalPlace). held ≡ no_place) entry.1 (values_of entries) nowhere))
          ∙ same_Some (place_in entry.1) place e
      | false ↦ none_found entries test place (All-tail (λ (held : OptionalPlace). held ≡ no_place) entry.1 (values_of entries) nowhere)
    ]

pub loop-replace-preserved : goal.loop-replace-preserved
loop-replace-preserved c = record {
  nowhere = rw c.in_ok-insert.ensures.entries
      (All-values-insert_entry cmp-value.it _ _ (λ place. place ≡ no_place) _ c.loop-replace.invariant.nowhere c.none.ensures);
  named = rw c.in_ok-insert.ensures.entries
      (one_more_line _ _ _ _ _ _ c.loop-replace-test.true c.replace-item.is c.in_ok-right_name.ensures c.loop-replace.invariant.named);
}

pub returns-clause-notes : goal.returns-clause-notes
returns-clause-notes c = λ modules.
    let entries = c.loop-replace.replacing.entries in
    record {
      has_replacing = has_replacing c.args.main.now entries c.replaces-replace-items.result.now c.replaces-replace-items.ensures
          (rw (take_all c.loop-replace.replace-index c.replaces-replace-items.result.now c.loop-replace-test.false) at c.loop-replace.invariant.named);
      modules_noted = λ number place e. absurd (cc (rw c.new-places.ensures.items at e));
      replacing_noted = λ name place e. rw c.new-names.ensures (none_found entries _ place c.loop-replace.invariant.nowhere e);
      others_noted = λ name unnoted none. rw c.new-names.ensures refl;
    }
