-- The layout of a document that was read is a document that reads as the same lines, but for blank ones.
use Rattle.std.proofs.Common.{◌≡◌, ◌≤◌, ℕ, List, [], ◌∷◌, length, map, Ok, IsUtf8, refl, ap, ◌∙◌}
use Rattle.gm_syntax_words.specs.Lines.{lines_of}
use Rattle.gm_syntax_words.specs.Tokens.{Placed}
use Rattle.gm_syntax_words.specs.Words.{Word}
use Rattle.gm_syntax.specs.Document.{Line, Blank, Comment, Open, Close, Entry, AreLines, ReadsLines, Whole, map_line, start}
use Rattle.gm_syntax.specs.Layout.{filled_lines, initial_state, layout}
use Rattle.gm_syntax.proofs.LayoutLines.{layout_lines}
use Rattle.gm_syntax.specs.LineViews.{plain, plain_lines}
use Rattle.gm_syntax.specs.Parsed.{IsParsedAs}
use Rattle.gm_syntax.proofs.OneText.{reading_parsed}
use Rattle.gm_syntax.proofs.Readings.{reading_of}
use Rattle.gm_syntax.proofs.Stable.{is_stable}
use Rattle.gm_file_edit.specs.NewWords.{unplaced_word}
use Rattle.gomod_texts.proofs.FolderNames.{read_document}

-- ---- lines whose words have no places

plain_words : (words : List Word) → map (λ t. t.word) (map unplaced_word words) ≡ words
plain_words [] = refl
plain_words (w ∷ words) = ap (λ ws. w ∷ ws) (plain_words _)

plain_line : (line : Line Word) → plain (map_line unplaced_word line) ≡ line
plain_line Blank = refl
plain_line (Comment text) = refl
plain_line (Open verb suffix) = refl
plain_line (Close suffix) = refl
plain_line (Entry words suffix) = ap (λ ws. Entry ws suffix) (plain_words _)

abbrev pub placeless : List (Line Word) → List (Line Placed)
placeless lines = map (λ line. map_line unplaced_word line) lines

pub plain_placeless : (lines : List (Line Word)) → plain_lines (placeless lines) ≡ lines
plain_placeless [] = refl
plain_placeless (line ∷ lines) =
    ap (λ l. l ∷ plain_lines (placeless lines)) (plain_line _) ∙ ap (λ ls. line ∷ ls) (plain_placeless _)

-- ---- the layout of a document

-- what is known of the reading of a layout
pub record IsLayoutRead (lines : List (Line Word)) : Type 0 where
  pub doc : List (Line Placed)
  pub parsed : IsParsedAs (layout lines) (Ok doc)
  pub same_filled : filled_lines (plain_lines doc) ≡ filled_lines lines
  pub same_layout : layout (plain_lines doc) ≡ layout lines

pub layout_read : (lines : List (Line Word)) → AreLines start lines → IsUtf8 (layout lines) → length (layout lines) ≤ 16777216 → IsLayoutRead lines
layout_read lines document utf8 short =
    let laid = layout_lines initial_state lines in
    let stable = is_stable _ document in
    let doc = placeless laid in
    let back = plain_placeless _ in
    let reads : ReadsLines start (lines_of (layout lines)) (plain_lines doc) Whole =
    rw back
    stable.reads in
    record {
      doc = doc;
      parsed = reading_parsed _ (Ok doc) ((short, utf8), reading_of _ _ _ reads);
      same_filled = ap filled_lines back ∙ stable.same_lines;
      same_layout = ap layout back ∙ stable.same_bytes;
    }

pub parsed_layout : (file : List ℕ) (doc : List (Line Placed)) → IsParsedAs file (Ok doc)
    → IsUtf8 (layout (plain_lines doc)) → length (layout (plain_lines doc)) ≤ 16777216 → IsLayoutRead (plain_lines doc)
parsed_layout file doc is utf8 short = layout_read _ (read_document _ _ is.1.reads) utf8 short
