-- How `graph` and `chain` end: the edges of the module graph, in any order, for `chain` the build list and a path, and
-- what is printed or reported. The main module is m.
use Rattle.std.specs.Prelude.{ℕ, List, [], ◌∷◌, map, None, codes}
use Rattle.std.specs.List.{AllByRecursion}
use Rattle.page_commands.specs.ChainQuery.{PrintsChain}
use Rattle.page_commands.specs.GraphQuery.{PrintsGraph}
use Rattle.page_commands.specs.ModuleVersion.{ModuleVersion}
use Rattle.page_commands.specs.Outcome.{Outcome}
use Rattle.page_commands.specs.Runs.{Run}
use Rattle.page_commands.specs.Types.Step.{Main, Of, Step}
use Rattle.page_commands.specs.Worlds.{prints, reports}

-- ---- modules and edges

abbrev pub at : List ℕ → List ℕ → ModuleVersion
at path version = (path, version)

abbrev pub a : ModuleVersion
a = at (codes "a") (codes "v1.0.0")

abbrev pub a_nine : ModuleVersion
a_nine = at (codes "a") (codes "v1.9.0")

abbrev pub a_ten : ModuleVersion
a_ten = at (codes "a") (codes "v1.10.0")

abbrev pub a_dash : ModuleVersion
a_dash = at (codes "a-b") (codes "v1.0.0")

abbrev pub a_slash : ModuleVersion
a_slash = at (codes "a/b") (codes "v0.1.0")

abbrev pub b : ModuleVersion
b = at (codes "b") (codes "v1.0.0")

abbrev pub c : ModuleVersion
c = at (codes "c") (codes "v1.0.0")

abbrev pub c_one : ModuleVersion
c_one = at (codes "c") (codes "v1.1.0")

abbrev pub d : ModuleVersion
d = at (codes "d") (codes "v1.0.0")

abbrev pub e : ModuleVersion
e = at (codes "e") (codes "v1.0.0")

-- a module with the main module's path
abbrev pub own : ModuleVersion
own = at (codes "m") (codes "v1.0.0")

abbrev pub EdgePair : Type 0
EdgePair = Step × ModuleVersion

abbrev pub main_to : ModuleVersion → EdgePair
main_to y = (Main, y)

abbrev pub edge : ModuleVersion → ModuleVersion → EdgePair
edge x y = (Of x, y)

abbrev pub run_of : List EdgePair → List ModuleVersion → Run
run_of edges rows = record {
  main = record { path = codes "m"; go = (1, 17); requirements = []; excludes = []; replaces = [] };
  edges = edges;
  rows = (Main, None) ∷ map (λ x. (Of x, None)) rows;
}

-- ---- graph

abbrev pub GraphWorld : Type 0
GraphWorld = List EdgePair × List ℕ

abbrev pub GraphHolds : GraphWorld → Type 0
GraphHolds w = PrintsGraph (run_of w.0 []) (prints w.1)

abbrev pub graph : List EdgePair → List ℕ → GraphWorld
graph edges text = (edges, text)

abbrev pub graph_worlds : List GraphWorld
graph_worlds =
    graph [] []
    -- the main module's edges come first, whatever its path is; then by the step that is left, then by the vertex
    ∷ graph (edge a b ∷ main_to b ∷ main_to a ∷ []) (codes "m a@v1.0.0\nm b@v1.0.0\na@v1.0.0 b@v1.0.0\n")
    ∷ graph (edge b a ∷ edge a c ∷ main_to b ∷ []) (codes "m b@v1.0.0\na@v1.0.0 c@v1.0.0\nb@v1.0.0 a@v1.0.0\n")
    -- each edge has one line
    ∷ graph (main_to a ∷ edge a a ∷ main_to a ∷ []) (codes "m a@v1.0.0\na@v1.0.0 a@v1.0.0\n")
    -- versions are ordered by their numbers, on both sides
    ∷ graph (main_to a_ten ∷ main_to a_nine ∷ edge a_ten c ∷ edge a_nine c ∷ [])
    (codes "m a@v1.9.0\nm a@v1.10.0\na@v1.9.0 c@v1.0.0\na@v1.10.0 c@v1.0.0\n")
    -- both versions of a path are shown; paths are ordered by their bytes, a dash before a slash, and before versions
    ∷ graph (main_to a_slash ∷ main_to a_dash ∷ main_to a_nine ∷ [])
    (codes "m a@v1.9.0\nm a-b@v1.0.0\nm a/b@v0.1.0\n")
    ∷ graph (edge a_slash a ∷ edge a_dash c ∷ edge a_nine d ∷ [])
    (codes "a@v1.9.0 d@v1.0.0\na-b@v1.0.0 c@v1.0.0\na/b@v0.1.0 a@v1.0.0\n")
    -- a vertex with the main module's path is shown with its version
    ∷ graph (main_to own ∷ edge own a ∷ []) (codes "m m@v1.0.0\nm@v1.0.0 a@v1.0.0\n")
    ∷ []

-- ---- chain

abbrev pub ChainWorld : Type 0
ChainWorld = List EdgePair × List ModuleVersion × List ℕ × Outcome

abbrev pub ChainHolds : ChainWorld → Type 0
ChainHolds w = PrintsChain w.2 (run_of w.0 w.1) w.3

abbrev pub chain : List EdgePair → List ModuleVersion → List ℕ → Outcome → ChainWorld
chain edges rows path ends = (edges, rows, path, ends)

abbrev pub path_worlds : List ChainWorld
path_worlds =
    -- the main module alone, and one step, and more
    chain (main_to a ∷ []) (a ∷ []) (codes "m") (prints (codes "m\n"))
    ∷ chain (main_to a ∷ []) (a ∷ []) (codes "a") (prints (codes "m\na@v1.0.0\n"))
    ∷ chain (edge b c ∷ edge a b ∷ main_to a ∷ []) (a ∷ b ∷ c ∷ []) (codes "c")
    (prints (codes "m\na@v1.0.0\nb@v1.0.0\nc@v1.0.0\n"))
    -- no row has the path, though a row's path begins so, or an edge leads to a vertex with it
    ∷ chain (main_to a ∷ []) (a ∷ []) (codes "b") (reports (codes "b: NotListed\n"))
    ∷ chain (main_to a_slash ∷ []) (a_slash ∷ []) (codes "a") (reports (codes "a: NotListed\n"))
    ∷ chain (main_to b ∷ main_to a ∷ []) (a ∷ []) (codes "b") (reports (codes "b: NotListed\n"))
    -- the chain leads to the row's version, though another one is nearer, and through another one
    ∷ chain (main_to c ∷ main_to a ∷ edge a c_one ∷ []) (a ∷ c_one ∷ []) (codes "c")
    (prints (codes "m\na@v1.0.0\nc@v1.1.0\n"))
    ∷ chain (main_to c ∷ edge c c_one ∷ []) (c_one ∷ []) (codes "c") (prints (codes "m\nc@v1.0.0\nc@v1.1.0\n"))
    -- a vertex with the main module's path is a step like others
    ∷ chain (main_to own ∷ edge own a ∷ []) (a ∷ []) (codes "a") (prints (codes "m\nm@v1.0.0\na@v1.0.0\n"))
    ∷ []

abbrev pub level_worlds : List ChainWorld
level_worlds =
    -- no longer chain, through lesser steps: directly, and with one step for two
    chain (main_to a ∷ edge a c ∷ main_to c ∷ []) (a ∷ c ∷ []) (codes "c") (prints (codes "m\nc@v1.0.0\n"))
    ∷ chain (main_to b ∷ edge b a ∷ edge a c ∷ edge b c ∷ []) (a ∷ b ∷ c ∷ []) (codes "c")
    (prints (codes "m\nb@v1.0.0\nc@v1.0.0\n"))
    -- a step of the same level is no predecessor
    ∷ chain (main_to b ∷ edge b a ∷ edge b c ∷ edge a c ∷ edge c d ∷ []) (a ∷ b ∷ c ∷ d ∷ []) (codes "d")
    (prints (codes "m\nb@v1.0.0\nc@v1.0.0\nd@v1.0.0\n"))
    -- of two chains of one length that through the lesser step, by path, then by the numbers of the version
    ∷ chain (main_to b ∷ main_to a ∷ edge b c ∷ edge a c ∷ []) (a ∷ b ∷ c ∷ []) (codes "c")
    (prints (codes "m\na@v1.0.0\nc@v1.0.0\n"))
    ∷ chain (main_to a_ten ∷ main_to a_nine ∷ edge a_ten c ∷ edge a_nine c ∷ []) (a_ten ∷ c ∷ []) (codes "c")
    (prints (codes "m\na@v1.9.0\nc@v1.0.0\n"))
    -- the lesser step before the last one counts, not the one after the main module
    ∷ chain (main_to a ∷ main_to b ∷ edge a d ∷ edge b c ∷ edge c e ∷ edge d e ∷ []) (a ∷ b ∷ c ∷ d ∷ e ∷ [])
    (codes "e") (prints (codes "m\nb@v1.0.0\nc@v1.0.0\ne@v1.0.0\n"))
    -- edges back, and to itself
    ∷ chain (main_to a ∷ edge a a ∷ edge a b ∷ edge b a ∷ edge b c ∷ edge c b ∷ []) (a ∷ b ∷ c ∷ []) (codes "c")
    (prints (codes "m\na@v1.0.0\nb@v1.0.0\nc@v1.0.0\n"))
    -- edges of a step that nothing leads to, though it is lesser
    ∷ chain (main_to b ∷ edge a c ∷ edge b c ∷ []) (b ∷ c ∷ []) (codes "c") (prints (codes "m\nb@v1.0.0\nc@v1.0.0\n"))
    ∷ []

abbrev pub GraphsAreShown : Type 0
GraphsAreShown = AllByRecursion GraphHolds graph_worlds

abbrev pub ChainsAreShown : Type 0
ChainsAreShown = AllByRecursion ChainHolds path_worlds

abbrev pub LevelsAreLeast : Type 0
LevelsAreLeast = AllByRecursion ChainHolds level_worlds
