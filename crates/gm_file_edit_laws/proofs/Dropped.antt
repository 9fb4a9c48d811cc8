-- A drop that targets nothing leaves all lines.
use Rattle.std.proofs.Common.{◌≡◌, Bool, true, false, List, [], ◌∷◌, Option, None, refl, sym, ap, ◌∙◌}
use Rattle.std.proofs.lemmas.Bool.{or_parts}
use Rattle.gm_syntax_words.specs.Tokens.{Placed}
use Rattle.gm_syntax.specs.Document.{Line}
use Rattle.gm_file.specs.Directives.{Directive, block_after_line}
use Rattle.gm_file_edit.specs.About.{about}
use Rattle.gm_file_edit.specs.Edited.{with_change, lines_after, put_in}
use Rattle.gm_file_edit.specs.Edits.{Edit, Set, Add, Drop}
use Rattle.gm_file_edit.specs.Kinds.{is_drop}
use Rattle.gm_file_edit.specs.Fates.{without_targets, dropping_from, remaining}
use Rattle.gm_file_edit.specs.Holding.{directive_at, passes, is_there}
use Rattle.gm_file_edit.proofs.Untouched.{all-lines-stay, all_stay, by-edited}

pub none-dropped-from : (test : Directive → Bool) (block : Option Placed) (lines : List (Line Placed))
    → is_there test block lines ≡ false → dropping_from test block lines ≡ all_stay lines
none-dropped-from test block [] e = refl
none-dropped-from test block (line ∷ lines) e =
    let parts = or_parts (passes test (directive_at block line)) (is_there test (block_after_line block line) lines) e in
    rw (parts.0, none-dropped-from test (block_after_line block line) lines parts.1)

pub none-dropped : (test : Directive → Bool) (lines : List (Line Placed)) → is_there test None lines ≡ false → without_targets test lines ≡ lines
none-dropped test lines e = ap remaining (none-dropped-from _ _ _ e) ∙ all-lines-stay lines

-- a drop
pub edited-drop : (edit : Edit) (lines : List (Line Placed)) → is_drop edit ≡ true → lines_after edit lines ≡ without_targets (about edit) lines
unfolding with_change put_in
edited-drop (Drop t) lines e = by-edited (λ ls. ls ≡ without_targets (about (Drop t)) lines) (Drop t) lines
    (λ there. refl) (λ none. sym (none-dropped _ _ none))
edited-drop (Set s) lines e = absurd cc
edited-drop (Add a) lines e = absurd cc
