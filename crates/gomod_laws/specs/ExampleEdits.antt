-- Operations on small files, for the definition of what an edit leaves (go help mod edit).
use Rattle.std.specs.Prelude.{◌≡◌, ℕ, List, [], ◌∷◌, codes, Option, Some, None}
use Rattle.gm_syntax_words.specs.declared.word.Kind.TheVariants.{Bare}
use Rattle.gm_syntax_words.specs.Tokens.{Placed}
use Rattle.gm_syntax.specs.Document.{Line, Blank, Comment, Open, Close, Entry}
use Rattle.gm_file.specs.Directives.{pair}
use Rattle.gm_file_edit.specs.Edited.{lines_after}
use Rattle.gm_file_edit.specs.Edits.{Set, Add, Drop, GoIs, RequireAt, Exclude, AnyRequire}

-- a bare word without a place in a source
abbrev pub token : List ℕ → Placed
token text = record { word = record { kind = Bare; spelling = text }; line = 0; span = None }

abbrev pub names_m : Line Placed
names_m = Entry (token (codes "module") ∷ token (codes "m") ∷ []) None

-- a.org at a version, in a block
abbrev pub a_org : List ℕ → Line Placed
a_org version = Entry (token (codes "a.org") ∷ token version ∷ []) None

abbrev pub opening : List ℕ → Line Placed
opening verb = Open (token verb) None

-- a line that requires a.org at a version, with this comment
abbrev pub require_a_org : List ℕ → Option (List ℕ) → Line Placed
require_a_org version comment = Entry (token (codes "require") ∷ token (codes "a.org") ∷ token version ∷ []) comment

-- the block of the only requirement goes, with its blank line and the one after it
abbrev pub DropEmptiesABlock : Type 0
DropEmptiesABlock = lines_after (Drop (AnyRequire (codes "a.org")))
    (names_m ∷ Blank ∷ opening (codes "require") ∷ a_org (codes "v1.0.0") ∷ Blank ∷ Close None ∷ Blank
    ∷ Comment (codes "// end") ∷ [])
    ≡ names_m ∷ Blank ∷ Comment (codes "// end") ∷ []

-- a comment in the block keeps it
abbrev pub CommentKeepsABlock : Type 0
CommentKeepsABlock = lines_after (Drop (AnyRequire (codes "a.org")))
    (names_m ∷ opening (codes "require") ∷ Comment (codes "// kept") ∷ a_org (codes "v1.0.0") ∷ Close None
    ∷ Blank ∷ [])
    ≡ names_m ∷ opening (codes "require") ∷ Comment (codes "// kept") ∷ Close None ∷ Blank ∷ []

-- the first requirement gets the new version and keeps its comment, the later one goes with its block
abbrev pub SettingRewritesTheFirst : Type 0
SettingRewritesTheFirst = lines_after (Set (RequireAt (pair (codes "a.org") (codes "v1.1.0"))))
    (names_m ∷ require_a_org (codes "v1.0.0") (Some (codes "// kept")) ∷ opening (codes "require")
    ∷ a_org (codes "v1.2.0") ∷ Close None ∷ [])
    ≡ names_m ∷ require_a_org (codes "v1.1.0") (Some (codes "// kept")) ∷ []

-- a new exclusion goes after the last one, in its block
abbrev pub AdditionGoesIntoTheBlock : Type 0
AdditionGoesIntoTheBlock = lines_after (Add (Exclude (pair (codes "a.org") (codes "v1.1.0"))))
    (opening (codes "exclude") ∷ a_org (codes "v1.0.0") ∷ Close None ∷ names_m ∷ [])
    ≡ opening (codes "exclude") ∷ a_org (codes "v1.0.0") ∷ a_org (codes "v1.1.0") ∷ Close None ∷ names_m ∷ []

-- a new requirement goes to the end, after a blank line, if there is none
abbrev pub FirstRequirementIsLast : Type 0
FirstRequirementIsLast = lines_after (Set (RequireAt (pair (codes "a.org") (codes "v1.0.0")))) (names_m ∷ [])
    ≡ names_m ∷ Blank ∷ require_a_org (codes "v1.0.0") None ∷ []

-- a new go directive goes after the block of the module directive
abbrev pub GoGoesAfterTheBlock : Type 0
GoGoesAfterTheBlock = lines_after (Set (GoIs (codes "1.17")))
    (opening (codes "module") ∷ Entry (token (codes "m") ∷ []) None ∷ Close None ∷ Comment (codes "// end") ∷ [])
    ≡ opening (codes "module") ∷ Entry (token (codes "m") ∷ []) None ∷ Close None ∷ Blank
    ∷ Entry (token (codes "go") ∷ token (codes "1.17") ∷ []) None ∷ Comment (codes "// end") ∷ []
