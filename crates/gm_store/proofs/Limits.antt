-- Answers of at most 16 MiB.
use Rattle.std.proofs.Common.{◌≡◌, Option, Some, None, IfSome, subst, sym}
use Rattle.gm_store_parts.specs.Asked.{IsWithinLimit, Reply, reply_of}
use Rattle.gm_store_parts.specs.declared.files.Answer.{Answer}

-- an answer that stands for a reply is as long as that reply
pub same_limit : (answer : Option Answer) (reply : Reply) → IfSome answer (λ answer. reply_of answer ≡ reply)
    → IsWithinLimit reply → IfSome answer (λ answer. IsWithinLimit (reply_of answer))
same_limit None reply e h = tt
same_limit (Some answer) reply e h = subst IsWithinLimit (sym e) h
