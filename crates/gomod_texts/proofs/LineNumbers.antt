-- The number of a faulty line is at most the number of bytes of its file.
use Rattle.std.proofs.Common.{◌≡◌, ◌+◌, ◌<◌, ◌≤◌, ℕ, List, [], ◌∷◌, ◌++◌, length, not, Option, Some, None, Ok, Contains, ap, arith, refl, inl, inr}
use Rattle.std.specs.List.{flat_map, list_all}
use Rattle.std.specs.Option.{option_or}
use Rattle.std.proofs.lemmas.Bool.{cases_eq}
use Rattle.std.proofs.lemmas.List.{length-append}
use Rattle.std.proofs.lemmas.List.Elements.{Contains-append_cases}
use Rattle.gm_syntax_words.specs.declared.fault.SyntaxKind.{SyntaxKind}
use Rattle.gm_syntax_words.specs.Words.{Word}
use Rattle.gm_syntax_words.specs.Lines.{lines_of, put_first}
use Rattle.gm_syntax_words.specs.Tokens.{Placed}
use Rattle.gm_syntax.specs.Document.{Blank, Faulty, Finish, Line, ReadsLines, Whole, after, start, Place}
use Rattle.gm_syntax.specs.LineViews.{plain_lines}
use Rattle.gm_syntax.specs.Parsed.{IsParsedAs}
use Rattle.gm_syntax.proofs.Lines.{lines_cut, lines_more, lines_nil}
use Rattle.gm_file.specs.Directives.{Lax, LineInBlock, Mode}
use Rattle.gm_file.specs.Faults.{Fault, fault_of, faults, faults_after, first_of, precedes, with_before_from}
use Rattle.gm_file.proofs.Snoc.{length-with_blocks}
use Rattle.gm_graph_select.proofs.RankedLists.{from_mapped}
use Rattle.gm_graph_select.proofs.Ascending.{no_member}
use Rattle.gm_file.specs.declared.misreading.Misreading.{Misreading}
use Rattle.gm_file.specs.declared.misreading.Misreading.TheVariants as misreading
use Rattle.gm_file.specs.Misreading.{IsMisread}
use Rattle.gomod_texts.proofs.FileNames.{found_among}

-- ---- lines of a text

put_few : (b : ℕ) (lines : List (List ℕ)) → length (put_first b lines) ≤ 1 + length lines
put_few b [] = omega arith
put_few b (line ∷ lines) = omega arith

lines_few : (text : List ℕ) → length (lines_of text) ≤ length text
lines_few [] = rw lines_nil (omega arith)
lines_few (b ∷ text) = elim (cases_eq b _) [
  | inl feed ↦ rw (lines_cut b _ feed) (omega (arith, lines_few text))
  | inr other ↦ rw (lines_more b _ other) (omega (arith, put_few b (lines_of text), lines_few text))
]

read_few : (at : Place) (texts : List (List ℕ)) (lines : List (Line Word)) (finish : Finish) → ReadsLines at texts lines finish → length lines ≤ length texts
read_few at texts [] finish reads = omega arith
read_few at [] (line ∷ lines) finish reads = absurd reads
read_few at (text ∷ texts) (line ∷ lines) finish (is, more) = let rest = read_few (after at line) _ lines _ more in omega (arith, rest)

-- ---- the line where reading stops

next_number : (at : Place) (line : Line Word) → at.opened < at.number
    → ((after at line).number ≡ at.number + 1) × ((after at line).opened < (after at line).number)
next_number at Blank below = (refl, omega (arith, below))
next_number at line below = (refl, omega (arith, below))

stops_below : (at : Place) (texts : List (List ℕ)) (lines : List (Line Word)) (number : ℕ) (kind : SyntaxKind)
    → at.opened < at.number → ReadsLines at texts lines (Faulty number kind)
    → number < at.number + length texts
stops_below at [] [] number kind below (inside, is, block) = omega (arith, below, is)
stops_below at (text ∷ texts) [] number kind below (is, has) = omega (arith, is)
stops_below at [] (line ∷ lines) number kind below reads = absurd reads
stops_below at (text ∷ texts) (line ∷ lines) number kind below (is, more) =
    let next = next_number at line below in
    let rest = stops_below (after at line) texts _ _ _ next.1 more in
    omega (arith, next.0, rest)

-- ---- the line of a directive

placed_few : (mode : Mode) (before seats : List (LineInBlock Word)) (one : Fault)
    → Contains (flat_map (faults_after mode) (with_before_from before seats)) one → one.0 ≤ length before + length seats
placed_few mode before [] one there = absurd (no_member _ there)
placed_few mode before (seat ∷ seats) one there =
    let next = before ++ seat ∷ [] in
    elim (Contains-append_cases _ (flat_map (faults_after mode) (with_before_from next seats)) one there) [
      | inl here ↦ (let (kind, inside, is) = from_mapped (λ kind. (length before + 1, kind))
          _ one here in
          omega (arith, ap (λ f. f.0) is))
      | inr later ↦ omega (arith, length-append before (seat ∷ []), placed_few _ next seats one later)
    ]

some_first : (o : Option Fault) (one : Fault) → option_or o None ≡ Some one → o ≡ Some one
some_first None one e = absurd (cc e)
some_first (Some other) one e = e

lax_few : (lines : List (Line Word)) (one : Fault) → fault_of Lax lines ≡ Some one → one.0 ≤ length lines
unfolding fault_of faults
lax_few lines one is =
    let found = faults Lax _ in
    let among = found_among (λ a. list_all (λ b. not (precedes b a)) found) _ _ (some_first (first_of found) one is) in
    omega (arith, placed_few Lax [] _ one among, length-with_blocks None lines)

-- ---- a file

document_few : (content : List ℕ) (doc : List (Line Placed)) → IsParsedAs content (Ok doc) → length (plain_lines doc) ≤ 16777216
document_few content doc (text, only) =
    let read = read_few start (lines_of content) _ Whole only.reads in
    omega (arith, read, lines_few content, text.0)

-- the number of a line where a file is misread
pub misread_few : (content : List ℕ) (number : ℕ) (kind : Misreading) → IsMisread Lax content number kind → number ≤ 16777216
misread_few content number misreading.TooMany is = omega (arith, is.0)
misread_few content number misreading.NotUtf8 is = omega (arith, is.0)
misread_few content number (misreading.Syntax kind) (text, lines, only) =
    let stops = stops_below _ (lines_of content) _ _ _ (omega arith) only.reads in
    omega (arith, stops, lines_few content, text.0)
misread_few content number (misreading.Directive kind) (doc, parsed, is) =
    let few = lax_few _ (number, kind) is in
    omega (arith, few, document_few _ doc parsed)
