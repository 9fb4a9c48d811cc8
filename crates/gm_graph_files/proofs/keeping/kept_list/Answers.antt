use Rattle.std.proofs.Common.{◌≡◌, ◌≤◌, ◌∙◌, arith, ap, length, refl, subst, sym}
use Rattle.std.proofs.lemmas.Bool.{false≢true}
use Rattle.std.proofs.lemmas.Option.{none-some}
use Rattle.gm_name_table.specs.Listed.{NumberedList, modules_of, part}
use Rattle.gm_graph_files.specs.Summaries.{at_span}
use Rattle.gm_graph_files.specs.NotedLists.{NotesAll}
use Rattle.gm_graph_files.specs.KeptLists.{own_lists}
use Rattle.gm_graph_files.specs.KeptFiles.{Grows, front_of}
use Rattle.gm_graph_files.specs.Private.Summaries.{kept_with}
use Rattle.gm_graph_files.proofs.KeptLists.{lists_beside, no_list_noted, one_more_noted}
use Rattle.gm_graph_files.proofs.SharedLists.{listed_after, cut_again, cut_is, cut_length, cut_same, end_part, ends_after, list_shared, own_within_list, rest_is}
use Rattle.gm_graph_files.proofs.keeping.kept_list.Goals.{After-leave_out, After-truncate, In_ok-leave_out}
use Rattle.gm_graph_files.proofs.keeping.kept_list.Goals as goal

-- ---- the excluded ones are taken out

notes_left : (c : After-leave_out) → NotesAll c.args.lists.now (own_lists c.leave_out.new.modules.numbers c.args.files.now)
notes_left c = subst (NotesAll c.args.lists.now)
    (sym (lists_beside c.args.modules.now c.leave_out.new.modules c.args.start c.args.files.now c.requires.listed c.leave_out.ensures.grows))
    c.requires.notes

ends : (c : In_ok-leave_out) → c.args.start ≤ length c.leave_out.new.modules.numbers
ends c = ends_after c.args.modules.now c.leave_out.new.modules c.args.start _ c.requires.start c.in_ok-leave_out.ensures.ok

pub returns-in_err-leave_out-clause-notes : goal.returns-in_err-leave_out-clause-notes
returns-in_err-leave_out-clause-notes c = notes_left (goal.at.returns-in_err-leave_out-clause-notes c).After-leave_out

pub find-requires-clause-within : goal.find-requires-clause-within
find-requires-clause-within c = λ place summary there.
    (listed_after c.args.modules.now c.args.start c.args.files.now c.requires.listed c.leave_out.ensures.grows place _ there).0

pub find-requires-clause-start : goal.find-requires-clause-start
find-requires-clause-start c = ends (goal.at.find-requires-clause-start c).In_ok-leave_out

pub find-requires-clause-notes : goal.find-requires-clause-notes
find-requires-clause-notes c = notes_left (goal.at.find-requires-clause-notes c).After-leave_out

-- ---- an earlier file has the same list

is_front : (c : After-truncate) → c.truncate.new.self ≡ front_of c.args.start c.leave_out.new.modules
is_front c = cut_is c.leave_out.new.modules c.args.start c.truncate.new.self c.truncate.ensures.modules c.truncate.ensures.numbers

grows_front : (c : After-truncate) → Grows (front_of c.args.start c.args.modules.now) c.truncate.new.self
grows_front c = subst (Grows (front_of c.args.start c.args.modules.now)) (sym (is_front c))
    (cut_again c.args.modules.now c.leave_out.new.modules c.args.start _ c.requires.start c.in_ok-leave_out.ensures.ok)

pub returns-in-Some-clause-has : goal.returns-in-Some-clause-has
returns-in-Some-clause-has c =
    let at = (goal.at.returns-in-Some-clause-has c).After-truncate in
    let old = c.args.modules.now in
    let mid = c.leave_out.new.modules in
    let has = rw c.in-Some.is at c.in_ok-same.ensures.same in
    ap (λ (list : NumberedList). at_span (modules_of list) c.in-Some.same.span) (is_front at)
    ∙ cut_same mid c.args.start c.in-Some.same.span
    (listed_after old c.args.start c.args.files.now c.requires.listed
    (cut_again old mid c.args.start _ c.requires.start c.in_ok-leave_out.ensures.ok) has.place _ has.there).0 has.has
    ∙ rest_is old mid c.args.start _ c.requires.start c.in_ok-leave_out.ensures.ok

pub returns-in-Some-clause-listed : goal.returns-in-Some-clause-listed
returns-in-Some-clause-listed c =
    let at = (goal.at.returns-in-Some-clause-listed c).After-truncate in
    let has = rw c.in-Some.is at c.in_ok-same.ensures.same in (
      (listed_after c.args.modules.now c.args.start c.args.files.now c.requires.listed (grows_front at) has.place _ has.there).0,
      λ place e. list_shared c.leave_out.new.modules c.args.files.now _ c.in-Some.same has place e,
    )

pub returns-in-Some-clause-order : goal.returns-in-Some-clause-order
returns-in-Some-clause-order c =
    let has = rw c.in-Some.is at c.in_ok-same.ensures.same in
    let below = ends (goal.at.returns-in-Some-clause-order c).In_ok-leave_out in
    rw has.shared (omega (arith, cut_length c.leave_out.new.modules c.args.start c.truncate.new.self below c.truncate.ensures.numbers))

pub returns-in-Some-clause-cut : goal.returns-in-Some-clause-cut
returns-in-Some-clause-cut c = λ _.
    let below = ends (goal.at.returns-in-Some-clause-cut c).In_ok-leave_out in
    omega (arith, cut_length c.leave_out.new.modules c.args.start c.truncate.new.self below c.truncate.ensures.numbers)

notes_front : (c : After-truncate) → NotesAll c.find.new.self (own_lists c.truncate.new.self.numbers c.args.files.now)
notes_front c = subst (NotesAll c.find.new.self)
    (lists_beside c.args.modules.now c.leave_out.new.modules c.args.start c.args.files.now c.requires.listed c.leave_out.ensures.grows
    ∙ sym (lists_beside c.args.modules.now c.truncate.new.self c.args.start c.args.files.now c.requires.listed (grows_front c)))
    c.find.ensures.notes

pub returns-in-Some-clause-notes : goal.returns-in-Some-clause-notes
returns-in-Some-clause-notes c = notes_front (goal.at.returns-in-Some-clause-notes c).After-truncate

pub returns-in-Some-clause-next : goal.returns-in-Some-clause-next
returns-in-Some-clause-next c = λ file.
    let has = rw c.in-Some.is at c.in_ok-same.ensures.same in
    no_list_noted c.find.new.self c.truncate.new.self.numbers c.args.files.now
    (notes_front (goal.at.returns-in-Some-clause-next c).After-truncate) (kept_with file c.in-Some.same) (rw has.shared refl)

pub returns-in-Some-clause-grows : goal.returns-in-Some-clause-grows
returns-in-Some-clause-grows c = grows_front (goal.at.returns-in-Some-clause-grows c).After-truncate

-- ---- the list is the file's own

pub returns-clause-has : goal.returns-clause-has
returns-clause-has c =
    let mid = c.leave_out.new.modules in
    ap (λ end. part c.args.start end (modules_of mid)) c.len-end.ensures.len ∙ end_part mid c.args.start
    ∙ rest_is c.args.modules.now mid c.args.start _ c.requires.start c.in_ok-leave_out.ensures.ok

pub returns-clause-listed : goal.returns-clause-listed
returns-clause-listed c =
    let mid = c.leave_out.new.modules in
    let below = ends (goal.at.returns-clause-listed c).In_ok-leave_out in
    (own_within_list mid c.args.start c.len-end.result below c.len-end.ensures.len, λ place e. absurd (none-some place e))

pub returns-clause-order : goal.returns-clause-order
returns-clause-order c =
    let below = ends (goal.at.returns-clause-order c).In_ok-leave_out in
    (omega arith, omega (arith, below, c.len-end.ensures.len), omega (arith, c.len-end.ensures.len))

pub returns-clause-cut : goal.returns-clause-cut
returns-clause-cut c = λ shared. absurd (false≢true shared)

pub returns-clause-next : goal.returns-clause-next
returns-clause-next c = λ file.
    one_more_noted c.find.new.self c.leave_out.new.modules.numbers c.args.files.now c.find.ensures.notes _
    (rw c.len-end.ensures.len (c.in_ok-same.ensures.next c.in_default.is))
