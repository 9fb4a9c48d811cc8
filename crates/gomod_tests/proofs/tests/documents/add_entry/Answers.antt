use Rattle.std.proofs.Common.{◌≡◌, false, List, [], ◌∷◌, ◌++◌, None, insert, refl, ap, subst, sym, ◌∙◌, arith}
use Rattle.gm_syntax_words.specs.Tokens.{Placed, words_of}
use Rattle.gm_syntax.specs.Document.{Line, Entry, IsDocument, IsEntry}
use Rattle.gm_syntax.specs.LineViews.{plain, plain_lines}
use Rattle.gm_syntax.proofs.Edits.{map-insert}
use Rattle.gm_syntax.proofs.Changes.{entry_stands, level_line_goes_in_at}
use Rattle.gm_syntax.proofs.NewWords.{new_word_stands, new_word_no_mark}
use Rattle.gomod_tests.proofs.tests.documents.add_entry.Goals as goal

abbrev entry_of : List Placed → Line Placed
entry_of items = Entry items None

pub insert_line-requires-clause-document : goal.insert_line-requires-clause-document
insert_line-requires-clause-document c =
    let w : Placed = c.in_ok-word.word in
    let new = c.in_ok-word.ensures.is_new in
    let last = c.saturating_sub-last.result in
    let items : c.push.new.self.items ≡ w ∷ [] = c.in_ok-push.ensures.items ∙ ap (λ (l : List Placed). l ++ w ∷ []) c.new-words.ensures.items in
    let entry : IsEntry (words_of (w ∷ [])) None = record {
      are_words = ((new_word_stands c.args.value.now w c.requires new).0, tt);
      is_suffix = tt;
      filled = omega arith;
      opens_nothing = new_word_no_mark 40 c.args.value.now w new;
      closes_nothing = new_word_no_mark 41 c.args.value.now w new;
    } in
    let document : IsDocument (plain_lines c.args.doc.now) = c.lines.ensures.document in
    let put = level_line_goes_in_at (plain_lines c.args.doc.now) last (plain (entry_of (w ∷ []))) false document refl
    (entry_stands false (words_of (w ∷ [])) None entry) in
    subst IsDocument (sym (ap (λ (l : List Placed). plain_lines (insert c.args.doc.now last (entry_of l))) items
    ∙ map-insert plain c.args.doc.now last (entry_of (w ∷ [])))) put
