-- `new` makes the empty struct, with the pairs that its clause names.
use Rattle.std.proofs.Common.{[], ◌∷◌, refl}
use Rattle.std.proofs.raw_atomic.Walks.{proved}
use mir.MapTy.{inst_fn}
use mir.Syntax.{a_type}
use mir.Val.{Val, vstruct, vcons, vnil}
use types.Kit.{raw, ‵, ◌⊛◌, ◌$◌, ◌∵◌, !, qed, keep, split, move, use0, suffices, done}
use types.Part.{agg}
use types.Run.{enter, returns, and_then, no_more}
use types.ByLocal.{alloc_all, pass_all, free_all, get, look_at, sets}
use base.Fml.{Fml}
use denote.Param.{layouts}
use denote.Shadow.{makes_shadow}
use denote.RattleType.{owns}
use denote.Signature.{type_at, types_at}
use denote.Steps.{nothing}
use denote.Triple.Entry.{Res, alive}
use denote.Triple.Walked.{walk_of, says, ends_at}
use Rattle.gm_store_parts.specs.contracts.files.history.History.new as f
use Rattle.gm_store_parts.proofs.files.history.History.new.Statement.{statement}
use Rattle.gm_store_parts.proofs.files.history.History.new.Code as code

pub new_spec : {M : Type 1} → statement M
new_spec 𝓤 𝓛 𝓜 𝓡 wired A B LA LB =
    let ended = f.ended A B in let c = f.clauses A B 𝓛 𝓜.mem 𝓡.returns in let W = walk_of 𝓛 ended tt c in
    let args = layouts (a_type ∷ a_type ∷ []) (A, (B, tt)) in
    proved 𝓛 ended tt c 𝓜 𝓡 tt (f.Key.name args) (inst_fn args code.function) (code.unfolded 𝓤 𝓛.H 𝓜 𝓡 wired (A, (B, tt)))
    (λ κs. tt) (λ κs. tt) (λ κs qs bounds a n are.
    let y : W.Ghost = ((κs, qs, bounds, tt, tt), tt) in let marked : Val = vstruct (vcons (vstruct vnil) vnil) in
    let made : Res ended.signature κs = record { of = record {}; items = [] } in
    let owned : Fml = (type_at ended.signature.result κs).own_val made (marked ∷ []) in
    qed 𝓛 ((raw (alive 𝓛 ended.signature κs qs) ⊛ ‵ (owns (types_at ended.signature.params κs) a y.0.4)) ∷ raw ((c κs a).requires tt) ∷ []) ∵
    keep ! (0 ∷ []) $ split ! $ keep ! (0 ∷ []) $
    enter ! _ _ _ _ _ $ alloc_all ! (λ l. pass_all ! refl tt $
    sets ! (agg ! (no_more !)) refl (tt, tt) $ sets ! (agg ! (and_then ! (get ! refl) (no_more !))) refl (tt, (tt, tt)) $
    returns ! (look_at ! 0 refl) $ free_all ! refl $
    use0 𝓛 (‵ owned) (makes_shadow 𝓛 owned ((λ vss. (tt, ((λ uss. (tt, tt)), tt))), tt) (((vstruct vnil ∷ [], tt), (refl, ((tt, (refl, tt)), tt))), tt)) $
    suffices ! _ (ends_at 𝓛 ended tt c y marked made tt tt) $ says ! refl $
    nothing ! $ move ! (2 ∷ 0 ∷ 1 ∷ []) $ done !))
