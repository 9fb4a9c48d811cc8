-- A valid main module's file and a valid go.sum say one thing.
use Rattle.std.proofs.Common.{◌≡◌, ◌∙◌, ℕ, List, Option, Some, None, Result, Ok, sym, ap, refl, subst}
use Rattle.gm_syntax_words.specs.Tokens.{Placed}
use Rattle.gm_syntax.specs.Document.{Line, Whole}
use Rattle.gm_syntax.specs.LineViews.{plain_lines}
use Rattle.gm_syntax.specs.Parsed.{IsParsedAs}
use Rattle.gm_file.specs.Fields.{Dependency}
use Rattle.gm_store_parts.specs.Asked.{Name, Reply, mod_file, folder_file, list_file, bytes, absent, too_long}
use Rattle.gm_store_sums.specs.Hash.{file_hash}
use Rattle.gm_store_sums.specs.Sums.{ReadsAs, SaysOfHash, Sums}
use Rattle.gm_store_sums.specs.declared.sum_table.Sum.{Sum}
use Rattle.gm_store_sums.specs.declared.sum_table.Sum.TheVariants.{Good, Unlisted, Differs}
use Rattle.gm_file.specs.Main.{Main, IsMainFile, main_of}
use Rattle.gm_graph_files.specs.Reading.{IsFileReading, IsReadUnless, class_of_sum, sum_fault}
use Rattle.gm_graph_files.specs.declared.class.Class.{Class}
use Rattle.gomod_texts.specs.Queries.{AreSums}

-- ---- the main module's file

pub same_lines : (content : List ℕ) (a b : List (Line Placed)) → IsParsedAs content (Ok a) → IsParsedAs content (Ok b) → plain_lines a ≡ plain_lines b
same_lines content a b is other = (other.1.only (plain_lines a) Whole is.1.reads).0

-- a file has exactly one meaning
pub one_main : (content : List ℕ) (a b : Main) → IsMainFile content a → IsMainFile content b → a ≡ b
one_main content a b (lines, (is, sound), says) (others, (other, whole), tells) =
    let same = same_lines _ _ _ is other in
    let mains : main_of lines ≡ main_of others = rw same refl in sym says ∙ mains ∙ tells

-- ---- the go.sum

-- a text says exactly one thing about a hash
pub one_says : (text path version hash : List ℕ) (a b : Sum) → SaysOfHash text path version hash a → SaysOfHash text path version hash b → a ≡ b
one_says text path version hash Unlisted Unlisted is other = refl
one_says text path version hash Unlisted Differs is other = absurd (is other.0 other.1)
one_says text path version hash Unlisted Good is other = absurd (is hash other.0)
one_says text path version hash Differs Unlisted is other = absurd (other is.0 is.1)
one_says text path version hash Differs Differs is other = refl
one_says text path version hash Differs Good is other = absurd (is.2 (other.1 is.0 is.1))
one_says text path version hash Good Unlisted is other = absurd (other hash is.0)
one_says text path version hash Good Differs is other = absurd (other.2 (is.1 other.0 other.1))
one_says text path version hash Good Good is other = refl

-- for every file, the tables find the same fault with its bytes
abbrev pub FindSame : Option Sums → Option Sums → Type 0
FindSame a b = (name : Name) (content : List ℕ) → sum_fault a name content ≡ sum_fault b name content

same_found : (text : List ℕ) (a b : Sums) → ReadsAs a text → ReadsAs b text → FindSame (Some a) (Some b)
same_found text a b is other (mod_file path version) content =
    let hash = file_hash content in
    ap class_of_sum (one_says _ _ _ _ _ _
    (is path version hash) (other path version hash))
same_found text a b is other (folder_file folder) content = refl
same_found text a b is other (list_file path) content = refl

pub one_finding : (sums : Option (List ℕ)) (a b : Option Sums) → AreSums sums a → AreSums sums b → FindSame a b
one_finding None None None is other = λ name content. refl
one_finding None None (Some b) is other = absurd other
one_finding None (Some a) b is other = absurd is
one_finding (Some text) None b is other = absurd is
one_finding (Some text) (Some a) None is other = absurd other
one_finding (Some text) (Some a) (Some b) is other = same_found _ a b is.2 other.2

-- ---- what the files of modules say is the same with either of these tables

pub read_alike : (a b : Option Sums) → FindSame a b → (name : Name) (reply : Reply) (said : Result Dependency Class)
    → IsFileReading a name reply said → IsFileReading b name reply said
read_alike a b same name absent said is = is
read_alike a b same name too_long said is = is
read_alike a b same name (bytes content) said is = subst (λ o. IsReadUnless o content said) (same name content) is
