-- The bytes of small files are read as what they say.
use Rattle.std.proofs.Common.{◌≡◌, ◌∷◌, ℕ, true, List, [], None, Some, Ok, arith, codes, length, refl}
use Rattle.std.specs.Prelude.{◌==◌, if◌then◌else◌, map, nat_lt}
use Rattle.std.specs.Str.{bytes_eq}
use Rattle.std.proofs.lemmas.Str.{IsUtf8-nil}
use Rattle.gm_name.specs.Element.{has_outer_dot, is_dotted_name, is_element, is_reserved, is_shortened, stem}
use Rattle.gm_name.specs.Names.{does_fit, is_path, is_version}
use Rattle.gm_name.proofs.NameTests.{path-tested, version-tested}
use Rattle.gm_syntax_words.specs.Lines.{lines_of}
use Rattle.gm_syntax_words.specs.Tokens.{Placed}
use Rattle.gm_syntax.specs.Document.{Line, ReadsLines, Whole, start}
use Rattle.gm_syntax.specs.Layout.{layout_from}
use Rattle.gm_syntax.proofs.LayoutLines.{layout_lines}
use Rattle.gm_syntax.specs.LineViews.{plain_lines}
use Rattle.gm_syntax.specs.Parsed.{IsParsedAs}
use Rattle.gm_syntax.proofs.OneText.{reading_parsed}
use Rattle.gm_syntax.proofs.Readings.{reading_of}
use Rattle.gm_file.specs.declared.fault.DirectiveKind.TheVariants.{NoModule}
use Rattle.gm_file.specs.declared.misreading.Misreading.TheVariants as misreading
use Rattle.gm_file.specs.Directives.{Lax, Strict, directive_of, item_at}
use Rattle.gm_file.specs.Faults.{directive_kinds, fault_of, faults}
use Rattle.gm_file.specs.Fields.{dependency_of}
use Rattle.gm_file.specs.GoVersions.{first_number, lax_go, lax_go_text, small_number}
use Rattle.gm_file.specs.Main.{main_of}
use Rattle.gm_file.specs.Misreading.{IsMisread}
use Rattle.gomod_laws.specs.ExampleRuns.{FilesAreRead, alone, folder_says, folder_text, main_requiring, requiring, saying, top_file, top_one, top_text}
use Rattle.gomod_laws.proofs.Contradicted.{m_is_path}
use Rattle.gomod_laws.proofs.ExampleLines.{laid_parsed, line}
use Rattle.gomod_laws.proofs.FormattingRead.{placeless}
use Rattle.gomod_laws.proofs.KnownVersions.{Parts, one_one_is, one_one_parts, one_ten_is, one_ten_parts, one_zero_is, one_zero_parts}

-- ---- the documents

abbrev doc : List (List (List ℕ)) → List (Line Placed)
doc texts = placeless (map line texts)

abbrev declaring : List ℕ → List (List ℕ)
declaring path = codes "module" ∷ path ∷ []

abbrev going : List ℕ → List (List ℕ)
going version = codes "go" ∷ version ∷ []

abbrev requires : List ℕ → List ℕ → List (List ℕ)
requires path version = codes "require" ∷ path ∷ version ∷ []

abbrev alone_lines : List (List (List ℕ))
alone_lines = declaring (codes "m") ∷ []

abbrev requiring_lines : List (List (List ℕ))
requiring_lines = declaring (codes "m") ∷ requires (codes "top.org") (codes "v1.0.0") ∷ []

abbrev top_lines : List (List (List ℕ))
top_lines = declaring (codes "top.org") ∷ going (codes "1.16")
    ∷ requires (codes "mid.org") (codes "v1.10.0") ∷ requires (codes "low.org") (codes "v1.1.0") ∷ []

abbrev folder_lines : List (List (List ℕ))
folder_lines = going (codes "1.17") ∷ []

alone_parsed : IsParsedAs alone (Ok (doc alone_lines))
unfolding layout_from layout_lines
alone_parsed = laid_parsed alone alone_lines refl refl refl (omega arith) refl

requiring_parsed : IsParsedAs requiring (Ok (doc requiring_lines))
unfolding layout_from layout_lines
requiring_parsed = laid_parsed requiring requiring_lines refl refl refl (omega arith) refl

top_parsed : IsParsedAs top_text (Ok (doc top_lines))
unfolding layout_from layout_lines
top_parsed = laid_parsed top_text top_lines refl refl refl (omega arith) refl

folder_parsed : IsParsedAs folder_text (Ok (doc folder_lines))
unfolding layout_from layout_lines
folder_parsed = laid_parsed folder_text folder_lines refl refl refl (omega arith) refl

-- ---- names

m_path : is_path (codes "m") ≡ true
m_path = (path-tested _).1 m_is_path

top_path : is_path (codes "top.org") ≡ true
unfolding is_path is_element is_dotted_name has_outer_dot is_reserved stem is_shortened
top_path = refl

mid_path : is_path (codes "mid.org") ≡ true
unfolding is_path is_element is_dotted_name has_outer_dot is_reserved stem is_shortened
mid_path = refl

low_path : is_path (codes "low.org") ≡ true
unfolding is_path is_element is_dotted_name has_outer_dot is_reserved stem is_shortened
low_path = refl

one_zero_version : is_version (codes "v1.0.0") ≡ true
one_zero_version = (version-tested _).1 one_zero_is

one_one_version : is_version (codes "v1.1.0") ≡ true
one_one_version = (version-tested _).1 one_one_is

one_ten_version : is_version (codes "v1.10.0") ≡ true
one_ten_version = (version-tested _).1 one_ten_is

-- a version of these parts fits a path without a suffix
fits_plain : {parts : Parts} (minor : ℕ) → parts ≡ (1, minor, 0, [], [])
    → (if nat_lt parts.0 2 then length parts.4 == 0 else bytes_eq parts.4 (codes "incompatible")) ≡ true
fits_plain minor is = rw is refl

one_zero_fits_top : does_fit (codes "top.org") (codes "v1.0.0") ≡ true
unfolding does_fit
one_zero_fits_top = fits_plain 0 one_zero_parts

one_ten_fits_mid : does_fit (codes "mid.org") (codes "v1.10.0") ≡ true
unfolding does_fit
one_ten_fits_mid = fits_plain _ one_ten_parts

one_one_fits_low : does_fit (codes "low.org") (codes "v1.1.0") ≡ true
unfolding does_fit
one_one_fits_low = fits_plain 1 one_one_parts

-- ---- what the files say

alone_has_no_fault : fault_of Strict (plain_lines (doc alone_lines)) ≡ None
unfolding fault_of faults item_at directive_of directive_kinds
alone_has_no_fault = rw m_path refl

requiring_has_no_fault : fault_of Strict (plain_lines (doc requiring_lines)) ≡ None
unfolding fault_of faults item_at directive_of directive_kinds
requiring_has_no_fault = rw (m_path, top_path, one_zero_version, one_zero_fits_top) refl

requiring_has_no_lax_fault : fault_of Lax (plain_lines (doc requiring_lines)) ≡ None
unfolding fault_of faults item_at directive_of directive_kinds
requiring_has_no_lax_fault = rw (m_path, top_path, one_zero_version, one_zero_fits_top) refl

top_has_no_fault : fault_of Lax (plain_lines (doc top_lines)) ≡ None
unfolding fault_of faults item_at directive_of directive_kinds lax_go lax_go_text first_number small_number
top_has_no_fault = rw (top_path, mid_path, low_path, one_one_version, one_ten_version, one_ten_fits_mid, one_one_fits_low) refl

folder_has_no_fault : fault_of Lax (plain_lines (doc folder_lines)) ≡ None
unfolding fault_of faults item_at directive_of directive_kinds lax_go lax_go_text first_number small_number
folder_has_no_fault = refl

alone_says : main_of (doc alone_lines) ≡ main_requiring []
unfolding item_at directive_of
alone_says = refl

requiring_says : main_of (doc requiring_lines) ≡ main_requiring (top_one ∷ [])
unfolding item_at directive_of
requiring_says = refl

requiring_says_as_module : dependency_of (plain_lines (doc requiring_lines)) ≡ saying (Some (codes "m")) (1, 16) (top_one ∷ [])
unfolding item_at directive_of
requiring_says_as_module = refl

top_says : dependency_of (plain_lines (doc top_lines)) ≡ top_file
unfolding item_at directive_of lax_go lax_go_text first_number small_number
top_says = refl

folder_is : dependency_of (plain_lines (doc folder_lines)) ≡ folder_says
unfolding item_at directive_of lax_go lax_go_text first_number small_number
folder_is = refl

pub files_are_read : FilesAreRead
files_are_read = record {
  one = (doc alone_lines, (alone_parsed, alone_has_no_fault), alone_says);
  two = (doc requiring_lines, (requiring_parsed, requiring_has_no_fault), requiring_says);
  answered = (doc requiring_lines, requiring_parsed, requiring_has_no_lax_fault, requiring_says_as_module);
  required = (doc top_lines, top_parsed, top_has_no_fault, top_says);
  undeclared = (doc folder_lines, folder_parsed, folder_has_no_fault, folder_is);
}

-- ---- the empty file

empty_reads : ReadsLines start (lines_of []) [] Whole
unfolding lines_of
empty_reads = refl

empty_parsed : IsParsedAs [] (Ok [])
empty_parsed = reading_parsed [] (Ok []) ((omega arith, IsUtf8-nil), reading_of [] [] _ empty_reads)

empty_has_none : fault_of Strict [] ≡ Some (0, NoModule)
unfolding fault_of faults
empty_has_none = refl

pub empty_is_malformed : IsMisread Strict [] 0 (misreading.Directive NoModule)
empty_is_malformed = ([], empty_parsed, empty_has_none)
