-- Runs as the laws of a go.sum see them: commands whose run with one go.sum, or none, is one with another.
use Rattle.std.proofs.Common.{◌≡◌, ℕ, List, Option, refl, true}
use Rattle.gm_store_parts.specs.Asked.{Name, Reply}
use Rattle.gomod_texts.specs.Outcome.{Outcome}
use Rattle.gomod_texts.specs.QueryLaws.{AnswerAlike}
use Rattle.gomod_words.specs.declared.usage.Command.{Command}
use Rattle.gomod_words.specs.declared.usage.Command.TheVariants.{Fmt, Edit, Versions}
use Rattle.gomod_outcomes.specs.Runs.{is_query}
use Rattle.gomod_laws.proofs.RunsOnce.{one_for_stores}
use Rattle.gomod_laws.specs.Shown.{run_over}
use Rattle.gomod_laws.proofs.Ended.{Ends}

-- The outcome with one go.sum is that with another over a store that answers alike, if it is for queries. The other
-- commands read no go.sum.
pub by_query : (command : Command) (main : List ℕ) (sums next : Option (List ℕ)) (asked others : List (Name × Reply)) (one other : Outcome)
    → AnswerAlike asked others → (is_query command ≡ true → one ≡ other) → Ends command main sums asked one
    → Ends command main next others other → one ≡ other
by_query command main sums next asked others one other alike query is be = by command query is be
  where
    unread : (c : Command) → Ends c main next asked one → Ends c main next others other → one ≡ other
    unread c runs also =
        one_for_stores c (run_over main next asked) (run_over main next others) one other
        (record { file = refl; sums = refl; answers = alike; failed = refl }) runs also

    by : (c : Command) → (is_query c ≡ true → one ≡ other) → Ends c main sums asked one → Ends c main next others other → one ≡ other
    by Fmt same runs also = unread Fmt runs also
    by (Edit operations) same runs also = unread (Edit operations) runs also
    by (Versions path all) same runs also = unread (Versions path all) runs also
    by c same runs also = same refl
