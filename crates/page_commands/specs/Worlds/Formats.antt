-- How `fmt` ends: a file, and what is printed or reported.
use Rattle.std.specs.Prelude.{ℕ, List, [], ◌∷◌, codes}
use Rattle.std.specs.List.{AllByRecursion}
use Rattle.page_commands.specs.Fmt.{FmtEnds}
use Rattle.page_commands.specs.Outcome.{Outcome}
use Rattle.page_commands.specs.Worlds.{prints, reports}

abbrev pub World : Type 0
World = List ℕ × Outcome

abbrev pub Holds : World → Type 0
Holds w = FmtEnds w.0 w.1

abbrev pub laid : List ℕ → List ℕ → World
laid file text = (file, prints text)

abbrev pub faulty : List ℕ → List ℕ → World
faulty file report = (file, reports report)

abbrev pub lines_worlds : List World
lines_worlds =
    -- one space between words, none before them; one tab in a block, also if it has one entry
    laid (codes "  module   m  \nrequire (\n  a.b \t v1.0.0\n)\n") (codes "module m\nrequire (\n\ta.b v1.0.0\n)\n")
    -- directives are neither read nor ordered
    ∷ laid (codes "require b v1\nno such verb\nrequire a v1\nmodule\n")
    (codes "require b v1\nno such verb\nrequire a v1\nmodule\n")
    -- comments stay: those before a line are indented as it is, those after words have one space before them
    ∷ laid (codes "// top  \nmodule m//x \nrequire ( // open\n  // in\n a v1 // c\n)// close\n")
    (codes "// top\nmodule m //x\nrequire ( // open\n\t// in\n\ta v1 // c\n) // close\n")
    -- blank lines become one, and none stays at the ends of the file, after an opening or before a closing
    ∷ laid (codes "\n\nmodule m\n\n\n\ngo 1.17\n\n \n\t\n") (codes "module m\n\ngo 1.17\n")
    ∷ laid (codes "require (\n\n a v1\n\n\n b v1\n\n)\n\nmodule m\n")
    (codes "require (\n\ta v1\n\n\tb v1\n)\n\nmodule m\n")
    -- comments of their own are lines like others
    ∷ laid (codes "require (\n\n// c\n\n a v1\n\n// d\n\n)\n") (codes "require (\n\t// c\n\n\ta v1\n\n\t// d\n)\n")
    -- no blank line is added, and none goes before an opening or after a closing
    ∷ laid (codes "module m\nrequire (\n)\ngo 1.17\n\nrequire (\n)\n\n// x\n")
    (codes "module m\nrequire (\n)\ngo 1.17\n\nrequire (\n)\n\n// x\n")
    -- a last line without a line feed, carriage returns, and nothing
    ∷ laid (codes "module m") (codes "module m\n")
    ∷ laid (codes "module m\r\n\r\n") (codes "module m\n")
    ∷ laid [] []
    ∷ laid (codes " \n\n") []
    ∷ []

abbrev pub words_worlds : List World
words_worlds =
    -- no space after `(` and `[`, and none before `)`, `]` and `,`
    laid (codes "retract [ v1.0.0 , v1.1.0 ]\nexclude ( )\nx ,( y ) [ z ]w\n")
    (codes "retract [v1.0.0, v1.1.0]\nexclude ()\nx, (y) [z] w\n")
    -- strings keep their spelling, and their spaces
    ∷ laid (codes "module \"m\"\nreplace `a  b` => \"./x  \\\"\\\\\"\n")
    (codes "module \"m\"\nreplace `a  b` => \"./x  \\\"\\\\\"\n")
    -- `=>` begins a word, and is part of one that it doesn't begin
    ∷ laid (codes "replace a=>b =>c\n") (codes "replace a=>b => c\n")
    -- a carriage return is a blank; beside a string no blank is needed, nor in a string or a comment anything is wrong
    ∷ laid (codes "a\rb\n") (codes "a b\n")
    ∷ laid (codes "\"a\"\"b\"c\n") (codes "\"a\" \"b\" c\n")
    ∷ laid (codes "a \"// x /* y {\" `{ \\ \" // /*` // { /* \" `\n")
    (codes "a \"// x /* y {\" `{ \\ \" // /*` // { /* \" `\n")
    -- an opening needs no space; a word ends where a comment begins
    ∷ laid (codes "require(\nhttps://a.b v1\n)\n") (codes "require (\n\thttps: //a.b v1\n)\n")
    ∷ []

abbrev pub fault_worlds : List World
fault_worlds =
    -- a block that isn't closed is reported at its opening, and only if nothing else is wrong
    faulty (codes "module m\nrequire (\na v1\n") (codes "go.mod:2: OpenBlock\n")
    ∷ faulty (codes "require (\na {\n") (codes "go.mod:2: BadByte\n")
    -- the first faulty line counts, and on a line what is wrong with its bytes before its parentheses
    ∷ faulty (codes ")\n{\n") (codes "go.mod:1: StrayClose\n")
    ∷ faulty (codes ") {\n") (codes "go.mod:1: BadByte\n")
    ∷ faulty (codes "// c\n{\n") (codes "go.mod:2: BadByte\n")
    ∷ faulty (codes "a (\n)\n{\n") (codes "go.mod:3: BadByte\n")
    ∷ faulty (codes "require (\n) x\n") (codes "go.mod:2: StrayClose\n")
    ∷ faulty (codes "a (\nb (\n)\n") (codes "go.mod:2: NestedOpen\n")
    ∷ faulty (codes "a b (\n") (codes "go.mod:1: NestedOpen\n")
    ∷ faulty (codes "\"a\" (\n") (codes "go.mod:1: NestedOpen\n")
    ∷ faulty (codes "(\n") (codes "go.mod:1: NestedOpen\n")
    ∷ faulty (codes "a (\n(\n)\n") (codes "go.mod:2: NestedOpen\n")
    ∷ faulty (codes "module \"m\n") (codes "go.mod:1: OpenString\n")
    ∷ faulty (codes "module \"\\n\"\n") (codes "go.mod:1: BadEscape\n")
    ∷ faulty (codes "\nmodule m /* x */\n") (codes "go.mod:2: BlockComment\n")
    -- control bytes, a closing brace, and a quote after a byte of a word
    ∷ faulty (11 ∷ []) (codes "go.mod:1: BadByte\n")
    ∷ faulty (97 ∷ 127 ∷ []) (codes "go.mod:1: BadByte\n")
    ∷ faulty (codes "}\n") (codes "go.mod:1: BadByte\n")
    ∷ faulty (codes "module a\"b\"\n") (codes "go.mod:1: BadByte\n")
    ∷ faulty (codes "module a`b`\n") (codes "go.mod:1: BadByte\n")
    ∷ faulty (255 ∷ []) (codes "go.mod:0: NotUtf8\n")
    ∷ []

abbrev pub LinesAreLaidOut : Type 0
LinesAreLaidOut = AllByRecursion Holds lines_worlds

abbrev pub WordsAreLaidOut : Type 0
WordsAreLaidOut = AllByRecursion Holds words_worlds

abbrev pub SyntaxIsReported : Type 0
SyntaxIsReported = AllByRecursion Holds fault_worlds
