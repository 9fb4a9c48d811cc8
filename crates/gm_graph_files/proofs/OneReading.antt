-- A reply has one meaning.
use Rattle.std.proofs.Common.{◌≡◌, ◌∙◌, ◌≤◌, ℕ, List, length, Option, Some, None, Result, Ok, Err, sym, ap, refl}
use Rattle.gm_syntax_words.specs.Words.{Word}
use Rattle.gm_syntax.specs.Document.{Line, Finish, Whole, Faulty}
use Rattle.gm_syntax.specs.LineViews.{plain_lines}
use Rattle.gm_syntax.specs.Parsed.{IsText}
use Rattle.gm_syntax.specs.Reader.{IsOnlyText}
use Rattle.std.specs.Str.{IsUtf8}
use Rattle.gm_file.specs.Directives.{Lax, VersionInterval}
use Rattle.gm_file.specs.Faults.{Fault, fault_of}
use Rattle.gm_file.specs.Fields.{Dependency, dependency_of, lax_retracts_of}
use Rattle.gm_store_parts.specs.Asked.{Name, Reply, bytes, absent, too_long}
use Rattle.gm_store_sums.specs.Sums.{Sums}
use Rattle.gm_graph_files.specs.declared.class.Class.{Class}
use Rattle.gm_graph_files.specs.declared.class.Class.TheVariants.{NotFetchable, Missing, TooLong, NoSum, SumDiffers, Malformed, WrongPath}
use Rattle.gm_file.specs.declared.misreading.Misreading.TheVariants as misreading
use Rattle.gm_graph_files.specs.Reading.{AreRetractedBy, IsContentReading, IsFileReading, IsReadUnless, sum_fault}

-- what bytes are: not text, or lines that end in a given state
data Seen : Type 0 where
  Garbled : Seen
  Ended : List (Line Word) → Finish → Seen

abbrev IsSeen : List ℕ → Seen → Type 0
IsSeen content Garbled = (length content ≤ 16777216) × ¬ IsUtf8 content
IsSeen content (Ended lines finish) = IsText content × IsOnlyText content lines finish

abbrev unless_faulty : List (Line Word) → Option Fault → Result Dependency Class
unless_faulty lines None = Ok (dependency_of lines)
unless_faulty lines (Some fault) = Err (Malformed fault.0 (misreading.Directive fault.1))

abbrev reading_of : Seen → Result Dependency Class
reading_of Garbled = Err (Malformed 0 misreading.NotUtf8)
reading_of (Ended lines Whole) = unless_faulty lines (fault_of Lax lines)
reading_of (Ended lines (Faulty line kind)) = Err (Malformed line (misreading.Syntax kind))

abbrev Seeing : List ℕ → Result Dependency Class → Type 0
Seeing content reading = (seen : Seen) × IsSeen content seen × (reading_of seen ≡ reading)

seeing : (content : List ℕ) (reading : Result Dependency Class) → IsContentReading content reading → Seeing content reading
seeing content (Ok file) is = (Ended (plain_lines is.0) Whole, is.1, ap (unless_faulty (plain_lines is.0)) is.2 ∙ ap (λ (f : Dependency). Ok f) is.3)
seeing content (Err (Malformed line misreading.TooMany)) is = absurd is
seeing content (Err (Malformed line misreading.NotUtf8)) is = (Garbled, is.1, ap (λ (n : ℕ). Err (Malformed n misreading.NotUtf8)) (sym is.0))
seeing content (Err (Malformed line (misreading.Syntax kind))) is = (Ended is.1 (Faulty line kind), (is.0, is.2), refl)
seeing content (Err (Malformed line (misreading.Directive kind))) is = (Ended (plain_lines is.0) Whole, is.1, ap (unless_faulty (plain_lines is.0)) is.2)
seeing content (Err NotFetchable) is = absurd is
seeing content (Err Missing) is = absurd is
seeing content (Err TooLong) is = absurd is
seeing content (Err NoSum) is = absurd is
seeing content (Err SumDiffers) is = absurd is
seeing content (Err WrongPath) is = absurd is

one_seen : (content : List ℕ) (a b : Seen) → IsSeen content a → IsSeen content b → a ≡ b
one_seen content Garbled Garbled is other = refl
one_seen content Garbled (Ended lines finish) is other = absurd (is.1 other.0.1)
one_seen content (Ended lines finish) Garbled is other = absurd (other.1 is.0.1)
one_seen content (Ended lines finish) (Ended others end) is other =
    let same = is.1.only others end other.1.reads in
    rw (same.0, same.1) refl

one_content : (content : List ℕ) (a b : Result Dependency Class) → IsContentReading content a → IsContentReading content b → a ≡ b
one_content content a b is other =
    let s = seeing content a is in
    let t = seeing content b other in
    sym s.2 ∙ ap reading_of (one_seen content s.0 t.0 s.1 t.1) ∙ t.2

one_unless : (o : Option Class) (content : List ℕ) (a b : Result Dependency Class) → IsReadUnless o content a → IsReadUnless o content b → a ≡ b
one_unless None content a b is other = one_content content a b is other
one_unless (Some class) content a b is other = is ∙ sym other

pub one_reading : (sums : Option Sums) (name : Name) (reply : Reply) (a b : Result Dependency Class)
    → IsFileReading sums name reply a → IsFileReading sums name reply b → a ≡ b
one_reading sums name absent a b is other = is ∙ sym other
one_reading sums name too_long a b is other = is ∙ sym other
one_reading sums name (bytes content) a b is other = one_unless (sum_fault sums name content) content a b is other

pub one_retracted : (reply : Reply) (a b : List VersionInterval) → AreRetractedBy reply a → AreRetractedBy reply b → a ≡ b
one_retracted absent a b is other = absurd is
one_retracted too_long a b is other = absurd is
one_retracted (bytes content) a b is other =
    let same : plain_lines is.0 ≡ plain_lines other.0 = sym (is.1.1.only (plain_lines other.0) Whole other.1.1.reads).0 in
    sym is.2 ∙ ap lax_retracts_of same ∙ other.2
