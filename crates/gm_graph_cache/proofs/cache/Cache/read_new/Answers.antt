use Rattle.std.proofs.Common.{◌≡◌, ◌∙◌, ◌∷◌, [], ℕ, Err, Option, ap, arith, length, length-append, refl, sym}
use Rattle.gm_store_parts.proofs.NameOrder.{name_itself}
use Rattle.gm_store_parts.specs.Asked.{Name, name_of}
use Rattle.gm_store_parts.specs.Requests.{refused_for}
use Rattle.gm_graph_cache.specs.declared.cache.file_table.FileTable.{FileTable}
use Rattle.gm_graph_files.specs.declared.summary.Kept.{Kept}
use Rattle.gm_graph_cache.specs.Asking.{IsAskableFile}
use Rattle.gm_graph_cache.specs.Private.FileTable.{IsNewFile}
use Rattle.gm_graph_cache.specs.Cached.{main_in, table_in, module_numbered}
use Rattle.gm_graph_files.specs.Reading.{file_of, is_askable}
use Rattle.gm_graph_cache.proofs.AskedFile.{asks_by, asks_passed, asks_wider}
use Rattle.gm_graph_cache.proofs.NumberedModules.{number_below, number_stays}
use Rattle.gm_graph_cache.proofs.Keeping.{holds_after, holds_beside, holds_noted, says_later}
use Rattle.gm_graph_cache.proofs.MakingKnown.{no_memory}
use Rattle.gm_graph_cache.proofs.MoreAnswers.{knows_read, none_still, not_asked, sound_read}
use Rattle.gm_graph_cache.proofs.OwnFiles.{consistent_after, new_file, noted_after, placed_file}
use Rattle.gm_graph_cache.proofs.PuttingPlaces.{file_added}
use Rattle.gm_graph_cache.proofs.cache.Cache.read_new.Given.{Over}
use Rattle.gm_graph_cache.proofs.cache.Cache.read_new.Goals as goal
use Rattle.gm_graph_cache.proofs.cache.Cache.read_new.Goals.{After-add, After-read_file}

pub read_file-requires-clause-fresh : goal.read_file-requires-clause-fresh
read_file-requires-clause-fresh g c =
    not_asked c.args.self.now (g.F.Asks.state c.args.files.now).asked (name_of c.args.name) c.requires.knows c.requires.new.1

-- the file is a new one
new_here : (g : Over) (c : After-add g)
    → IsNewFile (main_in c.read_file.new.self) (table_in c.read_file.new.self) c.read_file.new.self.files c.args.number (name_of c.args.name)
new_here g c =
    let old = c.args.self.now in
    let mid = c.read_file.new.self in
    let number = c.args.number in
    let numbered = c.read_file.ensures.holds.numbered in
    new_file mid number (name_of c.args.name) (number_below (table_in old) (table_in mid) number numbered c.requires.vertex)
    (c.requires.new.0.0 ∙ ap (file_of (main_in old)) (sym (number_stays (table_in old) (table_in mid) number numbered c.requires.vertex))
    ∙ ap (λ m. file_of m (module_numbered mid number)) (sym c.read_file.ensures.lent.main))
    c.requires.new.0.1 (none_still old mid (name_of c.args.name) c.read_file.ensures.holds c.requires.new.1)

pub invariant_of-self : goal.invariant_of-self
invariant_of-self g c =
    let mid = c.read_file.new.self in
    let read = c.in-Ok.ensures.reading in
    let is = new_here g (goal.at.invariant_of-self g c).After-add in
    let within = c.add.ensures.within (length (table_in mid)) is.within mid.consistent.places_within in
    record {
      consistent = consistent_after mid c.add.new.self within (name_of c.args.name) c.args.number c.in-Ok.kept c.add.result c.add.ensures.adds c.add.ensures.others c.add.ensures.err is
          (read.0, rw (c.read_file.ensures.lent.main, c.read_file.ensures.lent.sums) read.2) c.in-Ok.ensures.order
          (rw c.read_file.ensures.files c.in-Ok.ensures.listed);
      notes = noted_after mid c.add.new.self within (name_of c.args.name) c.args.number c.in-Ok.kept c.add.result c.add.ensures.adds c.add.ensures.others
          (rw c.read_file.ensures.files c.in-Ok.ensures.next);
    }

-- the name that is asked for is that of the vertex's file
of_vertex : (g : Over) (c : After-read_file g) (name : Name) → name ≡ name_of c.args.name
    → IsAskableFile (main_in c.args.self.now) (module_numbered c.args.self.now c.args.number) name
of_vertex g c name is = (is ∙ c.requires.new.0.0, ap is_askable is ∙ c.requires.new.0.1)

-- ---- the file is kept

pub returns-in_ok-add-in-Ok : goal.returns-in_ok-add-in-Ok
returns-in_ok-add-in-Ok g c =
    let at = goal.at.returns-in_ok-add-in-Ok g c in
    let old = c.args.self.now in
    let mid = c.read_file.new.self in
    let earlier = (g.F.Asks.state c.args.files.now).asked in
    let pairs = (g.F.Asks.state c.read_file.new.files).asked in
    let name = name_of c.args.name in
    let kept = c.in-Ok.kept in
    let (reply, answered, reads) = c.in-Ok.ensures.reading in
    let holds = c.read_file.ensures.holds in
    let lent = c.read_file.ensures.lent in
    let adds = c.in_ok-add-in-Ok.ensures.adds in
    let puts = file_added mid.files c.add.new.self adds in
    let is = new_here g at.After-add in
    record {
      count = omega (
        arith,
        ap length adds.files,
        length-append mid.files.files.items (kept ∷ []),
        ap (λ (files : FileTable). length files.files.items) c.read_file.ensures.files,
      );
      known = (
        record {
          knows = knows_read old mid c.add.new.self earlier pairs name reply kept c.requires.knows holds c.requires.new.1 puts answered reads;
          main = lent.main;
          sums = lent.sums;
          numbered = holds.numbered;
          stays = says_later old mid earlier ((name, reply) ∷ []) pairs lent.main lent.sums answered;
          sound = sound_read old mid _ earlier pairs name reply kept holds (record { main = refl; sums = refl; turns = refl })
              c.requires.new.1 puts (kept ∷ [], adds.files) answered;
        },
        placed_file _ _ _ name _
            (is.named ∙ ap (file_of (main_in mid)) (number_stays (table_in old) (table_in mid) c.args.number holds.numbered c.requires.vertex))
            is.askable (adds.named name ∙ rw (name_itself name) refl),
      );
      lent = record { main = lent.main; sums = lent.sums; turns = lent.turns };
      err = tt;
      asks = asks_wider (of_vertex g at.After-read_file) c.in-Ok.ensures.asks;
      failed = λ e. absurd (cc e);
    }

-- ---- memory ran out when it was to be kept

pub returns-in_err-add-in-Ok : goal.returns-in_err-add-in-Ok
returns-in_err-add-in-Ok g c =
    let lent = c.read_file.ensures.lent in
    let others = c.in_err-add-in-Ok.ensures.others in
    no_memory (holds_after c.read_file.ensures.holds (holds_noted c.read_file.new.self _ refl refl others refl))
    (record { main = lent.main; sums = lent.sums; turns = lent.turns })
    (ap length others.files ∙ ap (λ (files : FileTable). length files.files.items) c.read_file.ensures.files)
    c.from_residual.result c.from_residual.ensures.1
    (asks_wider (of_vertex g (goal.at.returns-in_err-add-in-Ok g c).After-read_file) c.in-Ok.ensures.asks)

-- ---- the store or memory refused

pub returns-in-Err : goal.returns-in-Err
returns-in-Err g c =
    let lent = c.read_file.ensures.lent in
    record {
      count = omega (arith, ap (λ (files : FileTable). length files.files.items) c.read_file.ensures.files);
      known = tt;
      lent = record { main = lent.main; sums = lent.sums; turns = lent.turns };
      err = holds_after c.read_file.ensures.holds (holds_beside c.read_file.new.self _ refl refl refl refl);
      asks = asks_by (ap (λ (n : Name). refused_for {T = Option ℕ} n (Err c.in-Err.fault)) c.requires.new.0.0)
          (asks_passed Kept {T = Option ℕ} _ c.in-Err.fault (Err c.in-Err.fault) refl
          (asks_wider (of_vertex g (goal.at.returns-in-Err g c).After-read_file) c.in-Err.ensures.asks));
      failed = λ _. c.requires.new.0.0;
    }
