-- What single words ask for.
use Rattle.std.proofs.Common.{◌≡◌, ◌∷◌, ◌∙◌, List, [], None, codes, true, sym, subst, inl, inr, refl}
use Rattle.clap.specs.Walk.{Text}
use Rattle.clap.specs.Faults.{fault_of}
use Rattle.clap.specs.Kinds.{Kinds, IsAmong}
use Rattle.clap.specs.declared.error.kind.ErrorKind.{ErrorKind}
use Rattle.clap.specs.declared.error.kind.ErrorKind.TheVariants.{DisplayHelpOnMissingArgumentOrSubcommand, DisplayVersion}
use Rattle.clap.proofs.OnLiterals.{clap_on_literals}
use Rattle.gomod_words.specs.Dashed.{dashed_in}
use Rattle.gomod_words.specs.Laws.{AreUsageError, AskForVersion, HaveOnly}
use Rattle.gomod_words.specs.Table.{gomod_app}
use Rattle.gomod_words.specs.Usage.{IsFaultBy, IsReadFault, IsVersionLine, is_line_or_memory}
use Rattle.gomod_words.specs.declared.usage.UsageFault.{UsageFault}
use Rattle.gomod_words.specs.declared.usage.UsageFault.TheVariants.{NoMemory, Help, Version, Line, BadPath, BadProxy}

-- the kind of error of `gomod` alone
abbrev no_words : ErrorKind
no_words = DisplayHelpOnMissingArgumentOrSubcommand

long_fault : (program : Text) → fault_of gomod_app (program ∷ codes "--version" ∷ []) ≡ DisplayVersion ∷ []
unfolding clap_on_literals
long_fault program = refl

short_fault : (program : Text) → fault_of gomod_app (program ∷ codes "-V" ∷ []) ≡ DisplayVersion ∷ []
unfolding clap_on_literals
short_fault program = refl

no_words_fault : (program : Text) → fault_of gomod_app (program ∷ []) ≡ no_words ∷ []
unfolding clap_on_literals
no_words_fault program = refl

-- a kind among one kind is that kind
only_kind : (kind one : ErrorKind) (kinds : Kinds) → kinds ≡ one ∷ [] → IsAmong kind kinds → kind ≡ one
only_kind kind one kinds is among = elim (subst (IsAmong kind) is among) [
  | inl same ↦ same
  | inr none ↦ absurd none
]

-- the parser finds nothing wrong with the words
not_taken : (kind : ErrorKind) (kinds : Kinds) → kinds ≡ kind ∷ [] → kinds ≡ [] → ⊥
not_taken kind kinds is taken = let none : [] ≡ kind ∷ [] = sym taken ∙ is in cc none

version_only : (words : List Text) → fault_of gomod_app words ≡ DisplayVersion ∷ [] → (fault : UsageFault) → IsReadFault words fault → IsVersionLine fault
version_only words is NoMemory known = tt
version_only words is (Help text) known = let same = only_kind _ _ _ is known.0 in cc same
version_only words is (Version text) known = known.2
version_only words is (Line text) (inl refused) = absurd (refused.3 (only_kind _ _ _ is refused.4))
version_only words is (Line text) (inr accepted) = absurd (not_taken _ _ is accepted.0)
version_only words is (BadPath text) known = absurd (not_taken _ _ is known.0)
version_only words is (BadProxy text) known = absurd (not_taken _ _ is known.0)

error_only : (words : List Text) → fault_of gomod_app words ≡ no_words ∷ [] → (fault : UsageFault) → IsReadFault words fault → is_line_or_memory fault ≡ true
error_only words is NoMemory known = refl
error_only words is (Help text) known = let same = only_kind _ _ _ is known.0 in cc same
error_only words is (Version text) known = let same = only_kind _ _ _ is known.0 in cc same
error_only words is (Line text) known = refl
error_only words is (BadPath text) known = absurd (not_taken _ _ is known.0)
error_only words is (BadProxy text) known = absurd (not_taken _ _ is known.0)

-- words at which the parser finds one kind of error have the faults of that kind alone
alone : (words : List Text) (kind : ErrorKind) (is : UsageFault → Type 0) → fault_of gomod_app words ≡ kind ∷ []
    → ((fault : UsageFault) → IsReadFault words fault → is fault) → dashed_in words ≡ None → HaveOnly is words
alone words kind is found only undashed = (
  λ command places asked. not_taken _ _ found asked.taken,
  λ fault known. only fault (subst (λ o. IsFaultBy o words fault) undashed known).0,
)

pub version_by_long : (program : Text) → AskForVersion (program ∷ codes "--version" ∷ [])
version_by_long program =
    let words = program ∷ codes "--version" ∷ [] in
    let is = long_fault program in alone _ _ _ is (version_only words is) refl

pub version_by_short : (program : Text) → AskForVersion (program ∷ codes "-V" ∷ [])
version_by_short program =
    let words = program ∷ codes "-V" ∷ [] in
    let is = short_fault program in alone _ _ _ is (version_only words is) refl

pub error_without_words : (program : Text) → AreUsageError (program ∷ [])
error_without_words program =
    let words = program ∷ [] in
    let is = no_words_fault program in alone _ _ (λ fault. is_line_or_memory fault ≡ true) is (error_only words is) refl
