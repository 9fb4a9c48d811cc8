-- What is reported of bytes that are misread.
use Rattle.std.proofs.Common.{ℕ, List, Err, inl, inr, refl}
use Rattle.gm_syntax_words.specs.declared.fault.SyntaxFault.{SyntaxFault}
use Rattle.gm_syntax_words.specs.declared.fault.SyntaxFault.TheVariants as syntax
use Rattle.gm_syntax.specs.Parsed.{IsFaultOrNoMemory, IsParsedAs}
use Rattle.gm_file.specs.BytesFaults.{fault_by_syntax}
use Rattle.gm_file.specs.declared.misreading.Misreading.TheVariants as misreading
use Rattle.gomod_texts.specs.FromFaults.{report_by_bytes}
use Rattle.gomod_texts.specs.Outcome.{OrNoMemory, report_outcome}
use Rattle.gomod_outcomes.specs.Fmt.{FmtEnds, bad_syntax}

-- the outcome of `fmt` over bytes that are not a document
fmt_broken : (bytes : List ℕ) (fault : SyntaxFault) → IsParsedAs bytes (Err fault) → FmtEnds bytes (report_outcome (report_by_bytes (fault_by_syntax fault)))
fmt_broken bytes syntax.NoMemory parsed = absurd parsed
fmt_broken bytes syntax.TooMany parsed = bad_syntax syntax.TooMany _ parsed refl refl
fmt_broken bytes syntax.NotUtf8 parsed = bad_syntax syntax.NotUtf8 _ parsed refl refl
fmt_broken bytes (syntax.Syntax number kind) parsed = bad_syntax (syntax.Syntax number kind) _ parsed refl refl

-- the same, or that memory ran out
pub fmt_misread : (bytes : List ℕ) (fault : SyntaxFault) → IsFaultOrNoMemory bytes fault
    → OrNoMemory (FmtEnds bytes) (report_outcome (report_by_bytes (fault_by_syntax fault)))
fmt_misread bytes fault (inl parsed) = inl (fmt_broken bytes fault parsed)
fmt_misread bytes fault (inr none) = inr (rw none)
