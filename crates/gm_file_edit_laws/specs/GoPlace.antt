-- Where an operation puts a new go directive (go help mod edit).
use Rattle.std.specs.Prelude.{◌≡◌, ℕ, true, false, List, ◌∷◌, ◌++◌, Option, None, is_some}
use Rattle.std.specs.List.{list_all, list_any}
use Rattle.gm_syntax_words.specs.Tokens.{Placed}
use Rattle.gm_syntax.specs.Document.{Line, Close}
use Rattle.gm_file.specs.Directives.{block_after_lines}
use Rattle.gm_file.specs.Faults.{is_go, is_module}
use Rattle.gm_file_edit.specs.Edited.{lines_after, new_go}
use Rattle.gm_file_edit.specs.Edits.{Set, GoIs}
use Rattle.gm_file_edit.specs.Holding.{directive_at, is_loose, is_there, passes}
use Rattle.gm_file_edit_laws.specs.Laws.{directives_of}

-- the line holds a module directive, and no line before it does
pub record IsFirstModule (front : List (Line Placed)) (line : Line Placed) : Type 0 where
  pub none_earlier : is_there is_module None front ≡ false
  pub is_module_line : passes is_module (directive_at (block_after_lines None front) line) ≡ true

-- a new go directive goes after the first module directive, if that one is in no block
abbrev pub GoFollowsModule : Type 0
GoFollowsModule = (text : List ℕ) (front back : List (Line Placed)) (line : Line Placed) → IsFirstModule front line
    → list_any is_go (directives_of (front ++ line ∷ back)) ≡ false
    → is_some (block_after_lines None front) ≡ false
    → lines_after (Set (GoIs text)) (front ++ line ∷ back) ≡ front ++ line ∷ (new_go text ++ back)

-- a new go directive goes after the block of the first module directive, if that one is in a block
abbrev pub GoFollowsModuleBlock : Type 0
GoFollowsModuleBlock = (text : List ℕ) (front inner back : List (Line Placed)) (line : Line Placed)
    (last : Option (List ℕ)) → IsFirstModule front line
    → list_any is_go (directives_of (front ++ line ∷ (inner ++ Close last ∷ back))) ≡ false
    → is_some (block_after_lines None front) ≡ true → list_all is_loose inner ≡ true
    → lines_after (Set (GoIs text)) (front ++ line ∷ (inner ++ Close last ∷ back))
    ≡ front ++ line ∷ (inner ++ Close last ∷ (new_go text ++ back))
