-- Lines of a main file: what `edit` says of single ones, and what single definitions do.
use Rattle.std.specs.Prelude.{◌≡◌, true, false, List, [], ◌∷◌, Some, None, filter, codes}
use Rattle.std.specs.List.{AllByRecursion}
use Rattle.page_commands.specs.Bare.{begins_arrow}
use Rattle.page_commands.specs.Directives.{Strict, is_of_arrow, verb_eq}
use Rattle.page_commands.specs.Document.{Blank, Close, Open, begins_close, ends_open}
use Rattle.page_commands.specs.Edits.{is_bracketed}
use Rattle.page_commands.specs.Fates.{Fate, empties, is_emptied, widened_from}
use Rattle.page_commands.specs.GmSyntaxWordsValues.{value_of_kind}
use Rattle.page_commands.specs.Misreading.{IsMisread}
use Rattle.page_commands.specs.NewWords.{made_word, unplaced_word}
use Rattle.page_commands.specs.Reports.{syntax_place}
use Rattle.page_commands.specs.Types.DirectiveKind.{BadGo}
use Rattle.page_commands.specs.Types.Kind.{Bare, Mark, Text}
use Rattle.page_commands.specs.Types.Misreading as misreading
use Rattle.page_commands.specs.Types.SyntaxFault as syntax
use Rattle.page_commands.specs.Types.Verb.{Verb, Exclude, Go, Module, Nothing, Replace, Require, Retract, Unknown}
use Rattle.page_commands.specs.Worlds.Edits.{Holds, World, after_module, kept, misread}

abbrev pub line_worlds : List World
line_worlds =
    -- the module path must be one, and a second module directive is one wherever the first stands
    misread (codes "module .m\n") (codes "1: BadPath")
    ∷ misread (codes "go 1.17\nmodule m\nmodule m\n") (codes "3: Repeated")
    -- an interval has its comma and its closing bracket
    ∷ misread (codes "module m\nretract [v1.0.0 x v1.1.0]\n") (codes "2: WrongArguments")
    ∷ misread (codes "module m\nretract [v1.0.0, v1.1.0)\n") (codes "2: WrongArguments")
    -- the version of a left side fits its path
    ∷ kept (codes "replace a.b/v2 v2.0.0 => ./x\n")
    -- a block that loses its last entry goes with its blank lines; a blank line alone is no entry that it loses
    ∷ after_module (codes "droprequire=a.b") (codes "require (\n\ta.b v1.0.0\n\n)\ngo 1.17\n") (codes "go 1.17\n")
    ∷ after_module (codes "droprequire=a.b") (codes "require (\n\n)\nrequire a.b v1.0.0\n") (codes "require (\n)\n")
    -- a folder that would begin a comment stands in quotes
    ∷ after_module (codes "replace=a.b=//x") [] (codes "\nreplace a.b => \"//x\"\n")
    ∷ []

abbrev pub LinesAreEdited : Type 0
LinesAreEdited = AllByRecursion Holds line_worlds

abbrev pub verbs : List Verb
verbs = Module ∷ Go ∷ Require ∷ Exclude ∷ Replace ∷ Retract ∷ Nothing ∷ Unknown ∷ []

-- a block with a blank line, none of whose lines has a mark
abbrev pub blank_block : List Fate
blank_block = Some (Open (made_word (codes "require")) None) ∷ Some Blank ∷ Some (Close None) ∷ []

pub record LinesAreTold : Type 0 where
  -- a file without a fault is not misread
  pub right : IsMisread Strict (codes "module m\n") 1 (misreading.Directive BadGo) → ⊥
  -- an arrow has bytes, and a bracket is a word
  pub arrows : filter begins_arrow ([] ∷ codes "=>" ∷ []) ≡ codes "=>" ∷ []
  pub closing : begins_close [] ≡ false
  pub opening : ends_open [] ≡ false
  -- no bare word and no string is an arrow, and the value of one is its spelling
  pub arrow_kinds : filter (λ kind. is_of_arrow kind (codes "=>")) (Bare ∷ Text ∷ Mark ∷ []) ≡ Mark ∷ []
  pub arrow_value : value_of_kind Mark (codes "=>") ≡ codes "=>"
  -- each verb is the same as itself
  pub same : filter (λ verb. verb_eq verb verb) verbs ≡ verbs
  -- two brackets with nothing in them are brackets
  pub brackets : is_bracketed (codes "[]") ≡ true
  -- memory that runs out is no fault of the bytes, and a word that an edit makes is on no line
  pub no_place : syntax_place syntax.NoMemory ≡ None
  pub no_line : (unplaced_word (made_word (codes "a")).word).line ≡ 0
  -- a block is emptied up to its closing, and not within another one
  pub unclosed : empties true [] ≡ false
  pub nested : is_emptied (Some false) None (None ∷ Some (Close None) ∷ []) ≡ false
  -- a mark stays, and a block that isn't emptied keeps a blank line at its start
  pub marked : widened_from None false (None ∷ []) ≡ None ∷ []
  pub blank : widened_from None false blank_block ≡ blank_block
