-- Words that ask for a command have no fault.
use Rattle.std.proofs.Common.{◌≡◌, List, [], Option, Some, None, subst, inl, inr, refl}
use Rattle.clap.specs.Walk.{Row, Text}
use Rattle.clap.specs.Kinds.{Kinds, IsAmong}
use Rattle.clap.specs.declared.error.kind.ErrorKind.{ErrorKind}
use Rattle.gomod_words.specs.Usage.{AskFor, HasBadPath, HasBadProxy, IsFaultBy, IsFaultOf, IsMeant, IsReadFault}
use Rattle.gomod_words.specs.declared.table.CommandName.{CommandName}
use Rattle.gomod_words.specs.declared.usage.Command.{Command}
use Rattle.gomod_words.specs.declared.usage.Places.{Places}
use Rattle.gomod_words.specs.declared.usage.UsageFault.{UsageFault}
use Rattle.gomod_words.specs.declared.usage.UsageFault.TheVariants.{NoMemory, Help, Version, Line, BadPath, BadProxy}
use Rattle.gomod_words.proofs.EntriesFaults.{both_proxies, some_path}

no_bad_path : (entry : Option (CommandName × List Row)) (command : Command) (places : Places) (text : Text) → IsMeant entry command places
    → HasBadPath entry text → ⊥
no_bad_path None command places text meant bad = bad
no_bad_path (Some entry) command places text meant bad = bad.1 (some_path _ _ meant.1 bad.0)

no_bad_proxy : (entry : Option (CommandName × List Row)) (command : Command) (places : Places) (text : Text) → IsMeant entry command places
    → HasBadProxy entry text → ⊥
no_bad_proxy None command places text meant bad = bad
no_bad_proxy (Some entry) command places text meant bad = both_proxies _ _ meant.2.0 bad.2.0 bad.2.1

-- no kind of error applies to accepted words
none_among : (kind : ErrorKind) (kinds : Kinds) → kinds ≡ [] → IsAmong kind kinds → ⊥
none_among kind kinds none among = subst (IsAmong kind) none among

only_memory : (words : List Text) (command : Command) (places : Places) (fault : UsageFault) → AskFor words command places → IsReadFault words fault
    → fault ≡ NoMemory
only_memory words command places NoMemory asked known = refl
only_memory words command places (Help text) asked known = absurd (none_among _ _ asked.taken known.0)
only_memory words command places (Version text) asked known = absurd (none_among _ _ asked.taken known.0)
only_memory words command places (Line text) asked (inl refused) = absurd (none_among _ _ asked.taken refused.4)
only_memory words command places (Line text) asked (inr unmeant) = absurd (unmeant.1 (inl (command, places, asked.meant)))
only_memory words command places (BadPath text) asked known =
    absurd (no_bad_path _ _ places _ asked.meant known.1)
only_memory words command places (BadProxy text) asked known =
    absurd (no_bad_proxy _ command places _ asked.meant known.1)

pub faultless : (words : List Text) (command : Command) (places : Places) (fault : UsageFault) → AskFor words command places → IsFaultOf words fault
    → fault ≡ NoMemory
faultless words command places fault asked known =
    only_memory _ _ places _ asked (subst (λ o. IsFaultBy o words fault) asked.undashed known).0
