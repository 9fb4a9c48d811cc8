use Rattle.std.proofs.Common.{◌∙◌, ℕ, Option, ap, length, refl}
use Rattle.std.proofs.lemmas.List.{map_push}
use Rattle.gm_name_table.specs.Listed.{NumberedList, modules_of}
use Rattle.gm_graph_cache.specs.declared.cache.file_table.FileTable.{FileTable}
use Rattle.gm_graph_cache.specs.Cached.{HoldsSame, module_numbered, run_in}
use Rattle.gm_graph_cache.specs.Visits.{IsVisit}
use Rattle.gm_graph_files.specs.Summaries.{at_span}
use Rattle.gm_graph_cache.proofs.Caching.{has_visited}
use Rattle.gm_graph_cache.proofs.Lending.{place_said, span_at, visit_got}
use Rattle.gm_graph_cache.proofs.cache.Cache.visit.Goals as goal

pub lend_at-list-requires : goal.lend_at-list-requires
lend_at-list-requires g c =
    let mid = c.known_at.new.self in
    let pairs = (g.F.Asks.state c.known_at.new.files).asked in
    record {
      place = rw c.file.ensures
          (place_said mid pairs c.args.number c.args.depth c.verdict-verdict.result (c.verdict-verdict.ensures pairs c.in_ok-place.ensures.known.0.knows));
    }

pub returns : goal.returns
returns g c =
    let old = c.args.self.now in
    let mid = c.known_at.new.self in
    let end = c.lend_at-list.follows.lender-at-none in
    let has = c.lend_at-list.follows.holds-at-none in
    let number = c.args.number in
    let d = c.args.depth in
    let known = c.known_at.ensures in
    let made = c.in_ok-place.ensures.known.0 in
    let before = (g.F.Asks.state c.args.files.now).asked in
    let after = (g.F.Asks.state c.known_at.new.files).asked in
    let got : IsVisit mid (run_in mid after) (module_numbered mid number) d c.of.result =
    rw c.of.ensures (visit_got mid after number d c.verdict-verdict.result c.lend_at-list.result made.knows (c.verdict-verdict.ensures after made.knows)
    (c.lend_at-list.ensures.modules ∙ ap (λ (p : Option ℕ). at_span (modules_of mid.modules) (span_at mid p)) c.file.ensures)
    c.lend_at-list.ensures.table) in
    let table = ap (λ (list : NumberedList). list.modules) has.modules in
    let holds : HoldsSame mid end = record {
      main = has.holds.main;
      sums = has.holds.sums;
      held = has.holds.held;
      numbered = has.holds.numbered;
      sound = λ run x place at. has.holds.sound run x place
          (record { within = at.within; span = at.span; own = at.own; listed = at.listed; file = at.file; says = at.says });
    } in (
      (
        refl,
        λ _. tt,
        has_visited old mid end before after made holds table number d c.of.result c.requires.vertex
            known.count (ap (λ (files : FileTable). length files.files.items) has.files) known.lent.turns
            (has.turns ∙ rw (c.with-turns.ensures, map_push, c.module.ensures.module) refl)
            (rw table c.module.ensures.distinct) got,
      ),
      record {
        lends = (mid, made, c.module.ensures.distinct, got);
        asks = c.in_ok-place.ensures.asks;
        after = tt;
      },
    )
