-- A copy from crates/gm_file_edit/specs/Holding.antt, which tools/check/headline.py writes.
use Rattle.std.specs.Prelude.{◌||◌, Bool, false, List, [], ◌∷◌, Option, Some, None}
use Rattle.std.specs.Option.{option_map}
use Rattle.page_commands.specs.Tokens.{Placed}
use Rattle.page_commands.specs.Document.{Line}
use Rattle.page_commands.specs.LineViews.{plain}
use Rattle.page_commands.specs.Directives.{Strict, Directive, Item, block_after_line, item_at, directive_in}

-- what a line says, given the verb of the open block, if any
abbrev pub item_of : Option Placed → Line Placed → Item
item_of block line = item_at (option_map (λ t. t.word) block, plain line)

-- the directive that a line holds
abbrev pub directive_at : Option Placed → Line Placed → Option Directive
directive_at block line = directive_in Strict (item_of block line)

-- whether there is a directive that passes the test
abbrev pub passes : (Directive → Bool) → Option Directive → Bool
passes test None = false
passes test (Some d) = test d

-- whether a line holds a directive that passes the test, given the verb of the block, if any, that is open before them
abbrev pub is_there : (Directive → Bool) → Option Placed → List (Line Placed) → Bool
is_there test block [] = false
is_there test block (line ∷ lines) =
    passes test (directive_at block line) || is_there test (block_after_line block line) lines
