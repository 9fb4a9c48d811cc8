-- Facts about how the program ends.
use Rattle.std.proofs.Common.{◌≡◌, ◌∙◌, ◌∷◌, ℕ, Bor, List, Option, ap, codes, inl, inr, map, Global, String, refl}
use Rattle.std.proofs.Math.Logic.{⊎_map}
use Rattle.std.proofs.lemmas.Str.{IsUtf8-nil}
use Rattle.std.specs.String.{string_bytes}
use Rattle.gm_store_parts.specs.Openings.{Opening}
use Rattle.gomod_words.proofs.GivenWords.{all_readable}
use Rattle.gomod_words.specs.Given.{AreGiven, IsUnreadableWords}
use Rattle.gomod_words.specs.declared.usage.UsageFault.{UsageFault}
use Rattle.gomod_words.specs.declared.usage.UsageFault.TheVariants.{NoMemory, Line}
use Rattle.gomod_texts.specs.Outcome.{Outcome, out_of_memory}
use Rattle.gomod_run.specs.Program.{IsProgramOutcome, IsProgramStatus, IsWordsOutcome, usage_outcome, usage_error}
use Rattle.gomod_run.specs.Written.{EndsAsStated, IsWritten}
use Rattle.gm_store_parts.specs.Taken.{SinkState}

-- an end may be stated more widely: if each outcome of the one kind is of the other, so is the end
pub ends_weaken : {one other : Outcome → Type 0} {out out' report report' : SinkState} {status : ℕ}
    → ((outcome : Outcome) → one outcome → other outcome) → EndsAsStated one out out' report report' status → EndsAsStated other out out' report report' status
ends_weaken wider ends =
    record { outcome = ends.outcome; as_stated = ⊎_map (wider ends.outcome) (λ memory. memory) ends.as_stated; utf8 = ends.utf8; written = ends.written }

module _ (may_open : List ℕ → Opening → Type 0) (may_take : Opening → Type 0) (given : Option (List (List ℕ)))
    {out out' report report' : SinkState} {status : ℕ} where
  -- an end of the program's name and the given words, as a slice of texts, is an end of the program
  pub program_ends : (texts slice : List (Bor (List ℕ))) (words lent : List (String Global))
      → AreGiven given (map string_bytes words) → map (λ text. text.now) texts ≡ codes "gomod" ∷ map string_bytes lent
      → EndsAsStated (IsWordsOutcome may_open may_take (map (λ text. text.now) slice)) out out' report report' status → lent ≡ words → slice ≡ texts
      → EndsAsStated (IsProgramOutcome may_open may_take given) out out' report report' status
  program_ends texts slice words lent are is ends whole same =
      ends_weaken (λ outcome (stated : IsWordsOutcome may_open may_take (map (λ text. text.now) slice) outcome).
      (map string_bytes words, are, rw all_readable (rw (same, is, whole) at stated))) ends

  -- an end that reports the first word which is not UTF-8 is an end of the program
  pub unreadable_ends : (fault : UsageFault) → IsUnreadableWords given fault
      → IsWritten (usage_outcome fault) out out' report report' status → EndsAsStated (IsProgramOutcome may_open may_take given) out out' report report' status
  unreadable_ends NoMemory is written = record { outcome = out_of_memory; as_stated = inr refl; utf8 = IsUtf8-nil; written = written }
  unreadable_ends (Line text) (word, (words, are, unreadable), shown) written =
      let outcome = usage_error (string_bytes text) in
      record { outcome = outcome; as_stated = inl (words, are, rw unreadable (ap usage_error shown)); utf8 = IsUtf8-nil; written = written }
  unreadable_ends fault is written = absurd is

  -- the exit status is that of the program's end
  pub program_status : EndsAsStated (IsProgramOutcome may_open may_take given) out out' report report' status
      → IsProgramStatus may_open may_take given status
  program_status ends = elim ends.written [
    | inl whole ↦ elim ends.as_stated [
      | inl stated ↦ inl (ends.outcome, stated, whole.1)
      | inr memory ↦ inr (whole.1 ∙ ap (λ (outcome : Outcome). outcome.status) memory)
    ]
    | inr part ↦ inr part.1
  ]
