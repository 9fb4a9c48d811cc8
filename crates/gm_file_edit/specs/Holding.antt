-- The directive that a line of a file holds, whether a line holds one that passes a test, and whether it opens or
-- closes a block.
use Rattle.std.specs.Prelude.{◌||◌, Bool, false, List, [], ◌∷◌, Option, Some, None}
use Rattle.std.specs.Option.{option_map}
use Rattle.gm_syntax_words.specs.Tokens.{Placed}
use Rattle.gm_syntax.specs.Document.{Line, is_level}
use Rattle.gm_syntax.specs.LineViews.{plain}
use Rattle.gm_file.specs.Directives.{Strict, Directive, Item, block_after_line, item_at, directive_in}

-- what a line says, given the verb of the open block, if any
abbrev pub item_of : Option Placed → Line Placed → Item
item_of block line = item_at (option_map (λ t. t.word) block, plain line)

-- the directive that a line holds
abbrev pub directive_at : Option Placed → Line Placed → Option Directive
directive_at block line = directive_in Strict (item_of block line)

-- whether there is a directive that passes the test
abbrev pub passes : (Directive → Bool) → Option Directive → Bool
passes test None = false
passes test (Some d) = test d

-- whether a line holds a directive that passes the test, given the verb of the block, if any, that is open before them
abbrev pub is_there : (Directive → Bool) → Option Placed → List (Line Placed) → Bool
is_there test block [] = false
is_there test block (line ∷ lines) =
    passes test (directive_at block line) || is_there test (block_after_line block line) lines

-- whether a line neither opens nor closes a block
abbrev pub is_loose : Line Placed → Bool
is_loose line = is_level (plain line)
