use Rattle.std.proofs.Common.{◌≡◌, ◌∙◌, ◌+◌, ◌++◌, ◌∷◌, [], true, cond, length, nat_eq, Some, ap, arith, length-append, subst, sym}
use Rattle.std.specs.Prelude.{if◌then◌else◌, slice_get}
use Rattle.std.specs.Result.{is_ok}
use Rattle.std.specs.Option.{option_and_then}
use Rattle.gm_name_table.specs.TagIndex.{place_under}
use Rattle.gm_name_table.specs.Private.Tags.{ArePlacesBelow}
use Rattle.gm_name_table.proofs.KeptPlaces.{one_more_place, put_value, same_places}
use Rattle.std.proofs.lemmas.Result.{err_from_is_err_and}
use Rattle.gm_name_table.proofs.kept_names.KeptNames.keep_new.Goals as goal

pub returns-clause-keeps : goal.returns-clause-keeps
returns-clause-keeps g c = λ t.
    let old = c.args.self.now in
    let grown : c.push.new.self.items ≡ old.names.items ++ c.args.name ∷ [] =
    c.in_ok-push.ensures.items ∙ ap (◌++ c.args.name ∷ []) c.in_ok-reserve.ensures.items in
    let place : c.len.result ≡ length old.names.items = c.len.ensures ∙ c.reserve.ensures.len ∙ old.names.ok.0 in
    let puts : place_under c.put.new.self t ≡ cond (nat_eq c.args.tag t) (Some (length old.names.items)) (place_under old.places t) =
    c.in_ok-put.ensures.put t ∙ ap (λ m. cond (nat_eq c.args.tag t) (Some m) (place_under old.places t)) place in
    ap (λ vs. option_and_then (slice_get vs) (place_under c.put.new.self t)) grown
    ∙ ap (option_and_then (slice_get (old.names.items ++ c.args.name ∷ []))) puts
    ∙ put_value old.names.items c.args.name (nat_eq c.args.tag t) (place_under old.places t) (λ place is. old.placed.below t place is)

pub returns-in_err-reserve-clause-err : goal.returns-in_err-reserve-clause-err
returns-in_err-reserve-clause-err g c =
    let old = c.args.self.now in
    let p = err_from_is_err_and c.from_residual.result c.from_residual.ensures.1 in
    rw p.1 (λ t. ap (λ vs. option_and_then (slice_get vs) (place_under old.places t)) c.in_err-reserve.ensures.items)

pub returns-in_err-put-clause-err : goal.returns-in_err-put-clause-err
returns-in_err-put-clause-err g c =
    let old = c.args.self.now in
    let p = err_from_is_err_and c.from_residual-in_err-put.result c.from_residual-in_err-put.ensures.1 in
    rw p.1 (λ t.
    ap (λ vs. option_and_then (slice_get vs) (place_under c.put.new.self t)) c.in_ok-reserve.ensures.items
    ∙ ap (option_and_then (slice_get old.names.items)) (c.in_err-put.ensures.err t))

pub invariant_of-self : goal.invariant_of-self
invariant_of-self g c =
    let old = c.args.self.now in
    record {
      placed = subst (λ names. ArePlacesBelow old.places (length names)) (sym c.in_err-reserve.ensures.items) old.placed;
    }

pub invariant_of-self-in-Break-branch-2 : goal.invariant_of-self-in-Break-branch-2
invariant_of-self-in-Break-branch-2 g c =
    let old = c.args.self.now in
    record {
      placed =
          subst (λ names. ArePlacesBelow c.put.new.self (length names)) (sym c.in_ok-reserve.ensures.items)
          (same_places old.places c.put.new.self (length old.names.items) c.in_err-put.ensures.err old.placed);
    }

pub invariant_of-self-2 : goal.invariant_of-self-2
invariant_of-self-2 g c =
    let old = c.args.self.now in
    let names = c.reserve.new.self.items in
    let pushed : is_ok c.push.result ≡ true = c.push.ensures.succeeds (omega (arith, c.in_ok-reserve.ensures.ok)) in
    let grown : c.push.new.self.items ≡ old.names.items ++ c.args.name ∷ [] =
    c.push.ensures.items ∙ ap (λ b. if b then names ++ c.args.name ∷ [] else names) pushed
    ∙ ap (◌++ c.args.name ∷ []) c.in_ok-reserve.ensures.items in
    let size : length old.names.items + 1 ≡ length c.push.new.self.items = omega (arith, ap length grown, length-append old.names.items (c.args.name ∷ [])) in
    let place : c.len.result ≡ length old.names.items = c.len.ensures ∙ c.reserve.ensures.len ∙ old.names.ok.0 in
    record {
      placed =
          subst (ArePlacesBelow c.put.new.self) size
          (one_more_place old.places c.put.new.self (length old.names.items) c.args.tag old.placed
          (λ t. c.in_ok-put.ensures.put t ∙ ap (λ m. cond (nat_eq c.args.tag t) (Some m) (place_under old.places t)) place));
    }
