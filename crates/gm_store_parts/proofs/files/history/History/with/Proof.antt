-- `with` makes the empty struct, with the pairs that its clause names.
use Rattle.std.proofs.Common.{[], ◌∷◌, ◌++◌, refl}
use Rattle.std.proofs.raw_atomic.Walks.{proved}
use mir.Val.{Val, vstruct, vcons, vnil}
use base.Fml.{Fml}
use types.Kit.{raw, ‵, ◌⊛◌, ◌$◌, ◌∵◌, !, qed, keep, split, move, fjoin, use0, suffices, done}
use types.Part.{agg}
use types.Run.{enter, returns, and_then, no_more}
use types.ByLocal.{alloc_all, pass_all, free_all, get, look_at, sets}
use mir.MapTy.{inst_fn}
use mir.Syntax.{a_type}
use denote.Builtin.{RefOf}
use denote.Exit.{yes}
use denote.Param.{layouts, param}
use denote.Ref.{shr_vals}
use denote.Shadow.{makes_shadow}
use denote.RattleType.{owns}
use denote.Signature.{Slot, plain, type_at, types_at}
use denote.Steps.{nothing}
use denote.Triple.Entry.{Res, alive}
use denote.Triple.Walked.{Stays, stay_dropped, Goes-dropped, walk_of, says, ends_at}
use Rattle.gm_store_parts.specs.contracts.files.history.History.with as f
use Rattle.gm_store_parts.specs.contracts.files.history.History as History
use Rattle.gm_store_parts.proofs.files.history.History.with.Statement.{statement}
use Rattle.gm_store_parts.proofs.files.history.History.with.Code as code

pub with_spec : {M : Type 1} → statement M
with_spec 𝓤 𝓛 𝓜 𝓡 wired A B LA LB =
    let ended = f.ended A B in let c = f.clauses A B 𝓛 𝓜.mem 𝓡.returns in
    let args = layouts (a_type ∷ a_type ∷ []) (A, (B, tt)) in
    -- the parameters: references, of which the function keeps none
    let history : Slot 5 = RefOf (0 ∷ []) tt (plain (λ _. History.the_row (param 0 A) (param 1 B))) (λ _. tt) in
    let first : Slot 5 = RefOf (1 ∷ []) tt (plain (λ _. param 0 A)) (λ _. tt) in
    let second : Slot 5 = RefOf (2 ∷ []) tt (plain (λ _. param 1 B)) (λ _. tt) in
    let stayed : Stays ended.signature.params ended.kept = (stay_dropped history yes, (stay_dropped first yes, (stay_dropped second yes, tt))) in
    let W = walk_of 𝓛 ended stayed c in
    proved 𝓛 ended stayed c 𝓜 𝓡
    (Goes-dropped 𝓛 5 history yes (λ κs x w. refl), (Goes-dropped 𝓛 5 first yes (λ κs x w. refl), (Goes-dropped 𝓛 5 second yes (λ κs x w. refl), tt)))
    (f.Key.name args) (inst_fn args code.function) (code.unfolded 𝓤 𝓛.H 𝓜 𝓡 wired (A, (B, tt)))
    (λ κs. (shr_vals, (shr_vals, (shr_vals, tt)))) (λ κs. (λ x vs is. is.0, (λ x vs is. is.0, (λ x vs is. is.0, tt)))) (λ κs qs bounds a n are.
    let y : W.Ghost = ((κs, qs, bounds, a, (shr_vals a.0, (shr_vals a.1.0, (shr_vals a.1.1.0, tt)))), tt) in
    let made : Res ended.signature κs = record { of = record {}; items = a.0.now.items ++ (a.1.0.now, a.1.1.0.now) ∷ [] } in
    let marked : Val = vstruct (vcons (vstruct vnil) vnil) in
    let owned : Fml = (type_at ended.signature.result κs).own_val made (marked ∷ []) in
    qed 𝓛 ((raw (alive 𝓛 ended.signature κs qs) ⊛ ‵ (owns (types_at ended.signature.params κs) a y.0.4)) ∷ raw ((c κs a).requires tt) ∷ []) ∵
    keep ! (0 ∷ []) $ split ! $ keep ! (0 ∷ []) $
    enter ! _ _ _ _ _ $ alloc_all ! (λ l. pass_all ! refl ((tt, tt), ((tt, tt), ((tt, tt), tt))) $
    sets ! (agg ! (no_more !)) refl (tt, tt) $ sets ! (agg ! (and_then ! (get ! refl) (no_more !))) refl (tt, (tt, tt)) $
    returns ! (look_at ! 0 refl) $ free_all ! refl $
    use0 𝓛 (‵ owned) (makes_shadow 𝓛 owned ((λ vss. (tt, ((λ uss. (tt, tt)), tt))), tt) (((vstruct vnil ∷ [], tt), (refl, ((tt, (refl, tt)), tt))), tt)) $
    suffices ! _ (ends_at 𝓛 ended stayed c y marked made (tt, (tt, (tt, tt))) (tt, (tt, (tt, tt)))) $ says ! refl $
    nothing ! $ nothing ! $ fjoin ! $ nothing ! $ fjoin ! $ nothing ! $ fjoin ! $ move ! (2 ∷ 0 ∷ 1 ∷ []) $ done !))
