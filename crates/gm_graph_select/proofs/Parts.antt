-- Parts of a list of numbers that lie apart.
use Rattle.std.proofs.Common.{◌≡◌, ◌-◌, ◌+◌, ◌<◌, ◌≤◌, ◌∙◌, ℕ, List, [], ◌∷◌, ◌++◌, ap, ap₂, arith, drop, get_or, length, refl, set, sym, take}
use Rattle.std.specs.Prelude.{All}
use Rattle.std.specs.List.{AllZip, between}
use Rattle.std.proofs.lemmas.List.{drop-set-lt, drop_more, length-append, length-drop, length-set, length-take-le, map-append, take-take, take_all, take_more, take_more_set}
use Rattle.std.proofs.lemmas.List.Elements.{All-cons, All-nil, AllZip-push}
use Rattle.std.proofs.lemmas.Slice.{between-put_mid, between_is, drop-put_mid, take-put_mid_below}
use borrow.Rule.Slice.PartMut.{post_of, put_mid}
use Rattle.gm_graph_select.specs.declared.number_lists.Span.{Span}
use Rattle.gm_graph_select.specs.Private.Adjacency.{IsByRanks}
use Rattle.gm_graph_select.specs.Spans.{AreSpansApart, lists_at, part_at}
use Rattle.gm_graph_select.specs.Private.Spans.{IsPartByRanks}
use Rattle.gm_graph_select.proofs.Moving.{same_here, same_later}

-- ---- spans that lie apart

apart_order : (spans : List Span) (from to : ℕ) → AreSpansApart from spans to → from ≤ to
apart_order [] from to h = h
apart_order (span ∷ spans) from to (low, order, rest) = omega (arith, low, order, apart_order spans span.end to rest)

-- each of them
pub all_within : (spans : List Span) (from to : ℕ) → AreSpansApart from spans to → All (λ (span : Span). AreSpansApart 0 (span ∷ []) to) spans
all_within [] from to h = All-nil (λ (span : Span). AreSpansApart 0 (span ∷ []) to)
all_within (span ∷ spans) from to (low, order, rest) =
    All-cons (λ (one : Span). AreSpansApart 0 (one ∷ []) to) span spans (omega arith, order, apart_order spans span.end to rest)
    (all_within spans span.end to rest)

apart_further : (spans : List Span) (from to more : ℕ) → AreSpansApart from spans to → to ≤ more → AreSpansApart from spans more
apart_further [] from to more h le = omega (arith, h, le)
apart_further (span ∷ spans) from to more (low, order, rest) le = (low, order, apart_further spans span.end to more rest le)

apart_push : (spans : List Span) (span : Span) (from to : ℕ) → AreSpansApart from spans to → to ≤ span.start
    → span.start ≤ span.end → AreSpansApart from (spans ++ span ∷ []) span.end
apart_push [] span from to h le up = (omega (arith, h, le), up, omega arith)
apart_push (first ∷ spans) span from to (low, order, rest) le up = (low, order, apart_push spans span first.end to rest le up)

-- ---- parts that haven't changed

module _ (new old : List ℕ) where
  part_before : (span : Span) (place : ℕ) → span.end ≤ place → take place new ≡ take place old → part_at new span ≡ part_at old span
  part_before span place le same =
      between_is new span.start span.end
      ∙ ap (λ (xs : List ℕ). drop span.start xs)
      (sym (take-take span.end place new le) ∙ ap (λ (xs : List ℕ). take span.end xs) same ∙ take-take span.end place old le)
      ∙ sym (between_is old span.start span.end)

  lists_before : (spans : List Span) (from place : ℕ) → AreSpansApart from spans place → take place new ≡ take place old
      → lists_at new spans ≡ lists_at old spans
  lists_before [] from place h same = refl
  lists_before (span ∷ spans) from place (low, order, rest) same = ap₂ (λ (xs : List ℕ) (all : List (List ℕ)). xs ∷ all)
      (part_before span place (apart_order spans span.end place rest) same) (lists_before spans span.end place rest same)

  part_after : (span : Span) (place : ℕ) → place ≤ span.start → drop place new ≡ drop place old → part_at new span ≡ part_at old span
  part_after span place le same = ap (λ (xs : List ℕ). take (span.end - span.start) xs) (same_later new old place same span.start le)

-- ---- one more part by ranks

-- The parts before a place have ranks, and the numbers from the end of these on have not changed.
pub record AreRankedTo (ranks old : List ℕ) (spans : List Span) (now : List ℕ) (left : List Span) (place : ℕ) : Type 0 where
  pub size : length now ≡ length old
  pub count : length left ≡ length spans
  pub to_come : drop place left ≡ drop place spans
  pub end : ℕ
  pub done : AreSpansApart 0 (take place left) end
  pub ahead : AreSpansApart end (drop place spans) (length old)
  pub rest : drop end now ≡ drop end old
  pub zip : AllZip (IsByRanks ranks) (lists_at old (take place spans)) (lists_at now (take place left))

module _ {ranks old : List ℕ} {spans : List Span} {now : List ℕ} {left : List Span} {place : ℕ} (are : AreRankedTo ranks old spans now left place) where
  module _ (one : Span) (inside : place < length spans) (is : one ≡ get_or left place one) where
    here : one ≡ get_or spans place one
    here = is ∙ same_here left spans place are.to_come one (omega (arith, inside, are.count)) inside

    next : AreSpansApart are.end (one ∷ drop (place + 1) spans) (length old)
    next = rw (drop_more spans place one inside ∙ ap (λ (s : Span). s ∷ drop (place + 1) spans) (sym here)) at are.ahead

    pub within_now : AreSpansApart 0 (one ∷ []) (length now)
    within_now = (omega arith, next.1, omega (arith, are.size, apart_order (drop (place + 1) spans) one.end (length old) next.2))

    pub part_is : part_at now one ≡ part_at old (get_or spans place one)
    part_is = part_after now old one are.end next.0 are.rest ∙ ap (λ (s : Span). part_at old s) here

    -- One more part has ranks.
    pub one_ranked : (new : List ℕ) (given : Span) → IsPartByRanks ranks now one new given → AreRankedTo ranks old spans new (set left place given) (place + 1)
    one_ranked new given by = record {
      size = by.size ∙ are.size;
      count = length-set left place given ∙ are.count;
      to_come = drop-set-lt (place + 1) left place given (omega arith) ∙ same_later left spans place are.to_come (place + 1) (omega arith);
      end = one.end;
      done = rw front
          (apart_further (take place left ++ given ∷ []) 0 given.end one.end
          (apart_push (take place left) given 0 are.end are.done (omega (arith, by.inside.0, next.0)) by.inside.1)
          by.inside.2);
      ahead = next.2;
      rest = by.after ∙ same_later now old are.end are.rest one.end (omega (arith, next.0, next.1));
      zip = rw (ap (λ (all : List Span). lists_at new all) front ∙ new_lists)
          (rw old_lists
          (AllZip-push (IsByRanks ranks) (lists_at old (take place spans)) (lists_at now (take place left)) (part_at old one) (part_at new given) are.zip
          (rw⁻¹ (part_after now old one are.end next.0 are.rest) by.is)));
    }
      where
        front : take (place + 1) (set left place given) ≡ take place left ++ given ∷ []
        front = take_more_set left place given (omega (arith, inside, are.count))

        old_lists : lists_at old (take (place + 1) spans) ≡ lists_at old (take place spans) ++ part_at old one ∷ []
        old_lists = ap (λ (all : List Span). lists_at old all) (take_more spans place one inside ∙ ap (λ (s : Span). take place spans ++ s ∷ []) (sym here))
            ∙ map-append (part_at old) (take place spans) (one ∷ [])

        new_lists : lists_at new (take place left ++ given ∷ []) ≡ lists_at now (take place left) ++ part_at new given ∷ []
        new_lists = map-append (part_at new) (take place left) (given ∷ [])
            ∙ ap (λ (all : List (List ℕ)). all ++ part_at new given ∷ [])
            (lists_before new now (take place left) 0 one.start (apart_further (take place left) 0 are.end one.start are.done next.0) by.before)

  module _ (past : length spans ≤ place) where
    all_spans : take place spans ≡ spans
    all_spans = take_all place spans past

    all_left : take place left ≡ left
    all_left = take_all place left (omega (arith, past, are.count))

    -- All parts have ranks.
    pub all_ranked : AllZip (IsByRanks ranks) (lists_at old spans) (lists_at now left)
    all_ranked = rw⁻¹ all_spans
        (rw⁻¹ all_left are.zip)

    pub all_apart : AreSpansApart 0 left (length old)
    all_apart = apart_further left 0 are.end (length old) (rw⁻¹ all_left are.done)
        (apart_order (drop place spans) are.end (length old) are.ahead)

-- ---- the part at one span

module _ (ranks old : List ℕ) (span : Span) (part : List ℕ) (count : ℕ) where
  abbrev start : ℕ
  start = span.start

  abbrev width : ℕ
  width = span.end - span.start

  abbrev new : List ℕ
  new = put_mid start width old part

  module _ (within : AreSpansApart 0 (span ∷ []) (length old)) (size : length part ≡ width) (few : count ≤ width) where
    front : between start (start + count) new ≡ take count part
    front = ap (λ (n : ℕ). take n (drop start new)) (let same : start + count - start ≡ count = omega arith in same)
        ∙ sym (take-take count width (drop start new) few)
        ∙ ap (λ (xs : List ℕ). take count xs) (between-put_mid start width old part span.end (omega (arith, within.1, within.2)) size)

    new_size : length new ≡ length old
    new_size = omega (
      arith,
      length-append (take start old) (part ++ post_of start width old),
      length-append part (post_of start width old),
      length-take-le start old
          (omega (arith, within.1, within.2)),
      length-drop width (drop start old),
      length-drop start old,
      size,
      within.1,
      within.2,
    )

    -- The ranks are at the front of the part.
    pub part_ranked : IsByRanks ranks (part_at old span) (take count part) → IsPartByRanks ranks old span new (record { start = start; end = start + count })
    part_ranked by = record {
      start = refl;
      inside = (omega arith, omega arith, omega (arith, few, within.1));
      is = rw front by;
      size = new_size;
      before = take-put_mid_below start width old part start (omega arith) (omega (arith, within.1, within.2));
      after = drop-put_mid start width old part span.end (omega (arith, within.1)) (omega (arith, within.1, within.2)) size;
    }
