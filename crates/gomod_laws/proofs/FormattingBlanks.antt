-- Blank lines say nothing: lines that are the same but for blank ones hold the same directives, and if the ones have
-- no fault, neither have the others.
use Rattle.std.proofs.Common.{◌≡◌, List, [], ◌∷◌, Option, None, refl, sym, ap, subst, ◌∙◌}
use Rattle.std.specs.List.{AllByRecursion, cons_option, filter_map, list_any}
use Rattle.std.specs.Prelude.{option_and_then, unwrap_or}
use Rattle.gm_syntax_words.specs.Words.{Word}
use Rattle.gm_syntax.specs.Document.{Line, Blank, Comment, Open, Close, Entry}
use Rattle.gm_syntax.specs.Layout.{filled_lines}
use Rattle.gm_file.specs.Directives.{Strict, Directive, directives, item_at, directive_said, with_blocks_from}
use Rattle.gm_file.specs.Faults.{fault_of, go_in, is_module}
use Rattle.gm_file.specs.Fields.{as_exclusion, as_go, as_module, as_replacing, as_requirement, first}
use Rattle.gm_file.specs.Pairwise.{IsRightAlone}
use Rattle.gm_file.proofs.Pairwise.{AreApart, apart-faultless, faultless-apart}
use Rattle.gm_file.specs.Main.{Main}

-- each line has no fault by itself
abbrev AreAlone : Option Word → List (Line Word) → Type 0
AreAlone block lines = AllByRecursion IsRightAlone (with_blocks_from block lines)

alone_filled : (block : Option Word) (lines : List (Line Word)) → AreAlone block lines → AreAlone block (filled_lines lines)
unfolding filled_lines item_at
alone_filled block [] are = tt
alone_filled block (Blank ∷ lines) are = alone_filled _ lines are.1
alone_filled block (Comment text ∷ lines) are = (are.0, alone_filled _ lines are.1)
alone_filled block (Open verb suffix ∷ lines) are = (are.0, alone_filled _ lines are.1)
alone_filled block (Close suffix ∷ lines) are = (are.0, alone_filled None lines are.1)
alone_filled block (Entry words suffix ∷ lines) are = (are.0, alone_filled _ lines are.1)

filled_alone : (block : Option Word) (lines : List (Line Word)) → AreAlone block (filled_lines lines) → AreAlone block lines
unfolding filled_lines item_at
filled_alone block [] are = tt
filled_alone block (Blank ∷ lines) are = (refl, filled_alone _ lines are)
filled_alone block (Comment text ∷ lines) are = (are.0, filled_alone _ lines are.1)
filled_alone block (Open verb suffix ∷ lines) are = (are.0, filled_alone _ lines are.1)
filled_alone block (Close suffix ∷ lines) are = (are.0, filled_alone None lines are.1)
filled_alone block (Entry words suffix ∷ lines) are = (are.0, filled_alone _ lines are.1)

said_filled : (block : Option Word) (lines : List (Line Word))
    → filter_map (directive_said Strict) (with_blocks_from block (filled_lines lines))
    ≡ filter_map (directive_said Strict) (with_blocks_from block lines)
unfolding filled_lines item_at
said_filled block [] = refl
said_filled block (Blank ∷ lines) = said_filled _ lines
said_filled block (Comment text ∷ lines) = said_filled _ lines
said_filled block (Open verb suffix ∷ lines) = said_filled _ lines
said_filled block (Close suffix ∷ lines) = said_filled None lines
said_filled block (Entry words suffix ∷ lines) = ap (cons_option (directive_said Strict (block, Entry words suffix))) (said_filled _ lines)

-- what these directives say as those of a main file
abbrev pub main_said : List Directive → Main
main_said ds = record {
  path = unwrap_or (first (filter_map as_module ds)) [];
  go = unwrap_or (option_and_then (go_in Strict) (first (filter_map as_go ds))) (1, 16);
  requirements = filter_map as_requirement ds;
  excludes = filter_map as_exclusion ds;
  replaces = filter_map as_replacing ds;
}

-- ---- lines that are the same but for blank ones

module _ (lines again : List (Line Word)) (same : filled_lines again ≡ filled_lines lines) where
  pub same_said : directives Strict again ≡ directives Strict lines
  same_said = sym (said_filled _ _) ∙ ap (λ (ls : List (Line Word)).
      filter_map (directive_said Strict) (with_blocks_from None ls)) same ∙ said_filled None lines

  pub no_fault_again : fault_of Strict lines ≡ None → fault_of Strict again ≡ None
  no_fault_again none =
      let are = faultless-apart _ none in
      apart-faultless _ (record {
        alone = filled_alone _ _ (subst (AreAlone None) (sym same) (alone_filled _ _ are.alone));
        apart = subst AreApart (sym same_said) are.apart;
        declared = ap (list_any is_module) same_said ∙ are.declared;
      })
