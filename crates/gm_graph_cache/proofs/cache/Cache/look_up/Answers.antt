use Rattle.std.proofs.Common.{◌≡◌, ◌∙◌, ap, sym}
use Rattle.gm_store_parts.specs.Asked.{name_of}
use Rattle.gm_graph_cache.specs.Cached.{main_in, module_numbered}
use Rattle.gm_graph_files.specs.Reading.{file_of, is_askable}
use Rattle.gm_graph_cache.proofs.OwnFiles.{nothing_kept, replacing_at}
use Rattle.gm_graph_cache.proofs.cache.Cache.look_up.Goals as goal
use Rattle.gm_graph_cache.proofs.cache.Cache.look_up.Goals.{In_ok-name}

-- the name is that of the vertex's file
named : (c : In_ok-name) → name_of c.in_ok-name.name ≡ file_of (main_in c.args.self.now) (module_numbered c.args.self.now c.args.number)
named c = c.in_ok-name.ensures ∙ ap (file_of (main_in c.args.self.now)) c.module.ensures.module

pub returns-in-Some : goal.returns-in-Some
returns-in-Some c = c.args.self.now.consistent.notes.modules_noted c.args.number c.in-Some.place (sym c.in-Some.ensures)

pub returns-then-not-is_askable : goal.returns-then-not-is_askable
returns-then-not-is_askable c =
    ap is_askable (sym (named (goal.at.returns-then-not-is_askable c).In_ok-name)) ∙ sym c.is_askable.ensures ∙ c.if-not-is_askable.true

pub returns-in-Some-replacing_place : goal.returns-in-Some-replacing_place
returns-in-Some-replacing_place c =
    replacing_at c.args.self.now _ (named (goal.at.returns-in-Some-replacing_place c).In_ok-name)
    (sym c.is_askable.ensures ∙ c.if-not-is_askable.false) (sym c.in-Some-replacing_place.ensures)

pub returns-in-None : goal.returns-in-None
returns-in-None c =
    let is = named (goal.at.returns-in-None c).In_ok-name in (
      (is, sym c.is_askable.ensures ∙ c.if-not-is_askable.false),
      nothing_kept c.args.self.now c.args.number _ c.module.ensures.distinct c.requires is (sym c.in_default.ensures) (sym c.in-None.ensures),
    )
