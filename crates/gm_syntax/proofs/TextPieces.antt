-- The lines of a text are its pieces between line feeds.
use Rattle.std.proofs.Common.{◌≡◌, ℕ, List, [], ◌∷◌, ◌++◌, refl, sym, ap, ◌∙◌, append_assoc, inl, inr}
use Rattle.std.specs.Prelude.{◌≢◌}
use Rattle.std.specs.List.{AllByRecursion, flat_map}
use Rattle.std.proofs.lemmas.Bool.{cases_eq}
use Rattle.std.proofs.lemmas.List.{append-nil}
use Rattle.gm_syntax_words.proofs.Members.{all_parts}
use Rattle.gm_syntax_words.specs.Lines.{put_first, lines_of, HasNoLineFeed}
use Rattle.gm_syntax.specs.Documents.{with_line_feed, ArePieces}
use Rattle.gm_syntax.proofs.Lines.{lines_nil, lines_cut, lines_more}
use Rattle.gm_syntax.proofs.Stable.{ended_line}

abbrev joined : List (List ℕ) → List ℕ
joined pieces = flat_map with_line_feed pieces

-- ---- pieces are the lines

ended_lines : (front : List (List ℕ)) (rest : List ℕ) → AllByRecursion HasNoLineFeed front
    → lines_of (joined front ++ rest) ≡ front ++ lines_of rest
ended_lines [] rest p = refl
ended_lines (t ∷ front) rest p =
    let whole : (with_line_feed t ++ joined front) ++ rest ≡ t ++ 10 ∷ (joined front ++ rest) =
    append_assoc (with_line_feed t) (joined front) rest ∙ append_assoc t (10 ∷ []) (joined front ++ rest) in
    ap lines_of whole ∙ ended_line t _ p.0 ∙ ap (λ ts. t ∷ ts) (ended_lines front rest p.1)

last_line : (last : List ℕ) → last ≢ [] → HasNoLineFeed last → lines_of last ≡ last ∷ []
last_line [] n p = absurd (n refl)
last_line (b ∷ []) n p = rw (lines_more b [] p.0, lines_nil) refl
last_line (b ∷ c ∷ last) n p =
    rw (lines_more b (c ∷ last) p.0, last_line (c ∷ last) (λ e. absurd cc) p.1) refl

pub pieces_lines : (text : List ℕ) (pieces : List (List ℕ)) → ArePieces text pieces → pieces ≡ lines_of text
pieces_lines text pieces h =
    elim h.joined [
      | inl e ↦ rw (← append-nil pieces, ← lines_nil, ← ended_lines pieces [] h.no_line_feed, append-nil (joined pieces), ← e) refl
      | inr s ↦
          let plain = all_parts HasNoLineFeed s.0 (s.1 ∷ []) (rw (← s.2) h.no_line_feed) in
          s.2 ∙ sym (rw (s.4, ended_lines s.0 s.1 plain.0, last_line s.1 s.3 plain.1.0) refl)
    ]

-- ---- the lines are pieces

cut_piece : (text : List ℕ) (pieces : List (List ℕ)) → ArePieces text pieces → ArePieces (10 ∷ text) ([] ∷ pieces)
cut_piece text pieces h = record {
  no_line_feed = (tt, h.no_line_feed);
  joined = elim h.joined [
    | inl e ↦ inl (rw e refl)
    | inr s ↦ inr ([] ∷ s.0, s.1, rw s.2 refl, s.3, rw s.4 refl)
  ];
}

not_empty : (b : ℕ) (t : List ℕ) → b ∷ t ≡ [] → ⊥
not_empty b t e = cc

no_split : (front : List (List ℕ)) (last : List ℕ) → [] ≡ front ++ last ∷ [] → ⊥
no_split [] last e = cc
no_split (t ∷ front) last e = cc

more_piece : (b : ℕ) (text : List ℕ) (pieces : List (List ℕ)) → b ≢ 10 → ArePieces text pieces
    → ArePieces (b ∷ text) (put_first b pieces)
more_piece b text [] n h = record {
  no_line_feed = ((n, tt), tt);
  joined = elim h.joined [
    | inl e ↦ inr ([], b ∷ [], refl, not_empty b [], rw e refl)
    | inr s ↦ absurd (no_split s.0 s.1 s.2)
  ];
}
more_piece b text (piece ∷ pieces) n h = record {
  no_line_feed = ((n, h.no_line_feed.0), h.no_line_feed.1);
  joined = elim h.joined [
    | inl e ↦ inl (rw e refl)
    | inr s ↦ inr (by_front s.0 s.1 s.2 s.3 s.4)
  ];
}
  where
    firsts : (t : List ℕ) (ts us : List (List ℕ)) → piece ∷ ts ≡ t ∷ us → piece ≡ t
    firsts t ts us e = cc

    others : (t : List ℕ) (ts us : List (List ℕ)) → piece ∷ ts ≡ t ∷ us → ts ≡ us
    others t ts us e = cc

    by_front : (front : List (List ℕ)) (last : List ℕ) → piece ∷ pieces ≡ front ++ last ∷ [] → last ≢ []
        → text ≡ joined front ++ last
        → (fronts : List (List ℕ)) × (end : List ℕ) × ((b ∷ piece) ∷ pieces ≡ fronts ++ end ∷ []) × (end ≢ []) × (b ∷ text ≡ joined fronts ++ end)
    by_front [] last parts filled e =
        let same : piece ≡ last = firsts last pieces [] parts in
        let none : pieces ≡ [] = others last pieces [] parts in (
          [],
          b ∷ last,
          ap (λ t. (b ∷ t) ∷ pieces) same ∙ ap (λ ts. (b ∷ last) ∷ ts) none,
          not_empty b last,
          ap (λ t. b ∷ t) e,
        )
    by_front (t ∷ front) last parts filled e =
        let same : piece ≡ t = firsts t pieces _ parts in
        let more : pieces ≡ front ++ last ∷ [] = others t pieces (front ++ last ∷ []) parts in (
          (b ∷ t) ∷ front,
          last,
          ap (λ x. (b ∷ x) ∷ pieces) same
              ∙ ap (λ ts. (b ∷ t) ∷ ts) more,
          filled,
          ap (λ x. b ∷ x) e,
        )

pub lines_pieces : (text : List ℕ) → ArePieces text (lines_of text)
lines_pieces [] =
    record { no_line_feed = rw lines_nil tt; joined = inl (rw lines_nil refl) }
lines_pieces (b ∷ bytes) =
    elim (cases_eq b 10) [
      | inl e ↦ rw (lines_cut b bytes e)
          (rw e
          (cut_piece bytes _ (lines_pieces bytes)))
      | inr n ↦ rw (lines_more b bytes n) (more_piece b bytes _ n (lines_pieces bytes))
    ]

pub pieces_are_lines : (text : List ℕ) (pieces : List (List ℕ)) → pieces ≡ lines_of text → ArePieces text pieces
pieces_are_lines text pieces e = rw e (lines_pieces text)
