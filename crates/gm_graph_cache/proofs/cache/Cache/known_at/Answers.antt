use Rattle.std.proofs.Common.{None, Some, ap, arith, length, refl}
use Rattle.gm_graph_cache.specs.Cached.{LentSame, main_in, module_numbered, table_in}
use Rattle.gm_graph_cache.specs.Private.FileTable.{IsPlacedAt}
use Rattle.gm_graph_cache.specs.declared.cache.Cache.{Cache}
use Rattle.gm_graph_files.specs.Reading.{file_of}
use Rattle.gm_graph_cache.proofs.AskedFile.{asks_nothing}
use Rattle.gm_graph_cache.proofs.Keeping.{holds_itself, holds_noted}
use Rattle.gm_graph_cache.proofs.MakingKnown.{known_before, no_memory}
use Rattle.gm_graph_cache.proofs.OwnFiles.{consistent_noted, noted_again, placed_still}
use Rattle.gm_graph_cache.proofs.cache.Cache.known_at.Given.{Over}
use Rattle.gm_graph_cache.proofs.cache.Cache.known_at.Goals as goal
use Rattle.gm_graph_cache.proofs.cache.Cache.known_at.Goals.{In-Replacing}

lent_itself : {cache : Cache} → LentSame cache cache
lent_itself = record { main = refl; sums = refl; turns = refl }

-- ---- nothing is asked for

pub returns-in_err-found : goal.returns-in_err-found
returns-in_err-found g c = no_memory holds_itself lent_itself refl c.from_residual.result c.from_residual.ensures.1 asks_nothing

pub returns-in-Noted : goal.returns-in-Noted
returns-in-Noted g c = known_before holds_itself lent_itself refl (Some c.in-Noted.place) c.requires.knows (rw c.in-Noted.is at c.in_ok-found.ensures)

pub returns-in-NotFetchable : goal.returns-in-NotFetchable
returns-in-NotFetchable g c =
    known_before holds_itself lent_itself refl None c.requires.knows (rw c.in-NotFetchable.is at c.in_ok-found.ensures)

-- ---- the place of a replacement's file is noted

placed : (g : Over) (c : In-Replacing g)
    → IsPlacedAt (main_in c.args.self.now) c.args.self.now.files (module_numbered c.args.self.now c.args.number) c.in-Replacing.place
placed g c = rw c.in-Replacing.is at c.in_ok-found.ensures

pub note-requires : goal.note-requires
note-requires g c =
    let cache = c.args.self.now in
    let below = cache.files.within (file_of (main_in cache) (module_numbered cache c.args.number)) _ (placed g (goal.at.note-requires g c).In-Replacing).placed in
    omega (arith, below, cache.files.few)

pub invariant_of-self : goal.invariant_of-self
invariant_of-self g c =
    let cache = c.args.self.now in
    let others = c.note.ensures.others in
    record {
      consistent = consistent_noted cache c.note.new.self
          (c.note.ensures.within (length (table_in cache)) c.requires.vertex cache.consistent.places_within) others
          (noted_again cache c.note.new.self c.args.number c.in-Replacing.place c.note.result
          (placed g (goal.at.invariant_of-self g c).In-Replacing) others c.note.ensures.notes c.note.ensures.err);
      notes = rw others.files cache.notes;
    }

pub returns-in_err-note-in-Replacing : goal.returns-in_err-note-in-Replacing
returns-in_err-note-in-Replacing g c =
    let others = c.note.ensures.others in
    no_memory (holds_noted c.args.self.now _ refl refl others refl) (record { main = refl; sums = refl; turns = refl }) (ap length others.files)
    c.from_residual-in_err-note-in-Replacing.result c.from_residual-in_err-note-in-Replacing.ensures.1 asks_nothing

pub returns-in_ok-note-in-Replacing : goal.returns-in_ok-note-in-Replacing
returns-in_ok-note-in-Replacing g c =
    let others = c.note.ensures.others in
    known_before (holds_noted c.args.self.now _ refl refl others refl) (record { main = refl; sums = refl; turns = refl }) (ap length others.files)
    (Some c.in-Replacing.place) c.requires.knows (placed_still others (placed g (goal.at.returns-in_ok-note-in-Replacing g c).In-Replacing))

-- ---- the file is asked for

pub read_new-requires-clause-new : goal.read_new-requires-clause-new
read_new-requires-clause-new g c = rw c.in-New.is at c.in_ok-found.ensures
