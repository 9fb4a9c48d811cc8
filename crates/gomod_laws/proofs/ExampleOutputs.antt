-- What becomes of small outputs, and of files that are read.
use Rattle.std.proofs.Common.{rules, ◌≡◌, ◌⊎◌, ◌∙◌, ◌∷◌, ◌<◌, ℕ, Bool, List, [], None, Some, Result, ap, arith, codes, drop, false, inl, inr, length, min, refl, subst, sym, take, take_all, true}
use Rattle.std.proofs.lemmas.List.{length-take}
use Rattle.std.specs.Global.{Vec}
use Rattle.std.proofs.lemmas.Str.{IsUtf8-nil, is_utf8-from_IsUtf8}
use Rattle.std.specs.Str.{chars, is_utf8}
use Rattle.gm_store_parts.specs.Openings.{IsReadFrom, MayRead, opened}
use Rattle.gm_store_parts.specs.Taken.{SinkState}
use Rattle.gm_store_parts.specs.declared.reading.ReadFault.{ReadFault}
use Rattle.gomod_texts.specs.Outcome.{Outcome, failure_outcome, out_of_memory, text_outcome}
use Rattle.gomod_run.proofs.Answered.{nothing_is_printed, version_is_printed}
use Rattle.gomod_run.specs.Program.{IsOutcomeUnless, IsUnread, any_input, anything, usage_error}
use Rattle.gomod_words.specs.Given.{first_unreadable}
use Rattle.gomod_words.specs.Usage.{unreadable_text, version_line}
use Rattle.gomod_run.specs.Written.{EndsAsStated, IsWritten}
use Rattle.gomod_run.proofs.ListLines.{heads}
use Rattle.gomod_laws.proofs.ExampleLines.{ascii_utf8}
use Rattle.gomod_laws.specs.ExampleOutputs.{EndIsStated, EndsBy, FileIsRead, InputIsHeld, InputIsUnread, PrintsText, WithInput, WordsAreGiven, also_unreadable, empty, version_flag, other, text, unreadable, with_no_memory, with_text}

-- ---- a run ends

module _ (out report : SinkState) (status : ℕ) where
  -- a run that writes neither the one outcome nor the report that memory ran out does not end as stated
  not_ended : ¬ (IsWritten (text_outcome text) empty out empty report status) → ¬ (IsWritten out_of_memory empty out empty report status)
      → EndsAsStated PrintsText empty out empty report status → ⊥
  not_ended not_printed not_memory ends = elim ends.as_stated [
    | inl same ↦ not_printed (rw same at ends.written)
    | inr same ↦ not_memory (rw same at ends.written)
  ]

prints : IsWritten (text_outcome text) empty with_text empty empty 0
prints = search rules

tells : IsWritten out_of_memory empty empty empty with_no_memory 3
tells = search rules

pub end_is_stated : EndIsStated
end_is_stated = record {
  prints = record { outcome = text_outcome text; as_stated = inl refl; utf8 = ascii_utf8 refl; written = prints };
  no_memory = record { outcome = out_of_memory; as_stated = inr refl; utf8 = IsUtf8-nil; written = tells };
  other_text = λ status. not_ended _ _ status (search rules) (search rules);
  reports = λ status. not_ended _ _ status (search rules) (search rules);
  nothing = λ status. not_ended _ _ status (search rules) (search rules);
  done_without_memory = not_ended _ _ 0 (search rules) (search rules);
}

-- ---- a file is read

limit_of : {bytes : List ℕ} → length bytes < 10 → take 16777217 bytes ≡ bytes
limit_of short = take_all 16777217 _ (omega (arith, short))

not_given : {bytes known : List ℕ} → length known < 10 → ¬ (bytes ≡ known) → ¬ (bytes ≡ take 16777217 known)
not_given short differ is = differ (is ∙ limit_of short)

other_differs : {bytes : List ℕ} → bytes ≡ other → ¬ (bytes ≡ text)
other_differs own same = search rules

cut_differs : {bytes : List ℕ} → bytes ≡ codes "m" → ¬ (bytes ≡ text)
cut_differs own same = search rules

too_many : (all bytes : List ℕ) → 16777217 < length all → bytes ≡ all → ¬ (bytes ≡ take 16777217 all)
too_many all bytes many own is =
    let lengths : length all ≡ min 16777217 (length all) = ap length (sym own ∙ is) ∙ length-take _ _ in
    omega (arith, many, lengths)

pub file_is_read : FileIsRead
file_is_read = record {
  given = λ bytes is. is ∙ sym (limit_of (omega arith));
  another = λ bytes is. not_given (omega arith) (other_differs is);
  cut = λ bytes is. not_given (omega arith) (cut_differs is);
  too_many = λ all bytes many is. too_many _ _ many is;
  fails = refl;
  unfailing = search rules;
  out_of_memory = tt;
  not_found = search rules;
  no_memory = refl;
  not_opened = λ kind bytes none. none;
  not_memory = search rules;
  not_device = search rules;
}

-- ---- standard input

-- what reading it came to if it was taken
read_of : {may_fail : Bool} {read : Result (Vec ℕ) ReadFault} → MayRead (WithInput may_fail (codes "-")) read → IsReadFrom (opened (Some text) may_fail) read
read_of (opening, inl (dash, is), comes) = rw is at comes
read_of (opening, inr (isnt, any), comes) = absurd (isnt refl)

unfailing : ¬ (IsUnread (WithInput false) (Some (codes "-")) (failure_outcome (codes "gomod: cannot read -\n")))
unfailing unread = let wrong = read_of unread.0 in cc wrong

no_memory_line : ¬ (out_of_memory ≡ failure_outcome (codes "gomod: cannot read -\n"))
no_memory_line same = search rules

other_line : ¬ (failure_outcome (codes "gomod: cannot read m\n") ≡ failure_outcome (codes "gomod: cannot read -\n"))
other_line same = search rules

pub input_is_unread : InputIsUnread
input_is_unread = record {
  device = ((opened (Some _) true, inl (refl, refl), refl), refl);
  no_memory = λ unread. no_memory_line unread.1;
  unfailing = unfailing;
  other_name = λ unread. other_line unread.1;
  other_status = λ unread. let is : 1 ≡ 3 = ap (λ o. o.status) unread.1 in omega (arith, is);
  prints = λ unread. let is : 0 ≡ 3 = ap (λ o. o.status) unread.1 in omega (arith, is);
}

pub input_is_held : InputIsHeld
input_is_held = record {
  given = λ list is. (opened (Some _) false, inl (refl, refl), is ∙ sym (limit_of (omega arith)));
  another = λ list is read. not_given (omega arith) (other_differs is) (read_of read);
  cut = λ list is read. not_given (omega arith) (cut_differs is) (read_of read);
  nothing = λ never. never;
  unnamed = λ list never. never;
  held = λ list. refl;
  other_list = λ list. refl;
  other_file = λ list. refl;
  empty = λ list. refl;
}

-- ---- the words

-- ASCII is UTF-8, and a byte 255 is not
version_readable : first_unreadable (version_flag ∷ []) ≡ None
version_readable = rw (is_utf8-from_IsUtf8 _ (ascii_utf8 refl)) refl

byte_unreadable : (words : List (List ℕ)) → first_unreadable (unreadable ∷ words) ≡ Some unreadable
unfolding is_utf8 chars
byte_unreadable words = refl

-- what the known words end in
ends_by : (words : List (List ℕ)) (outcome : Outcome) → EndsBy words outcome → IsOutcomeUnless anything any_input words (first_unreadable words) outcome
ends_by words outcome (given, same, ends) = rw same at ends

version_ends : (outcome : Outcome) → EndsBy (version_flag ∷ []) outcome → (outcome ≡ text_outcome version_line) ⊎ (outcome ≡ out_of_memory)
version_ends outcome ends = version_is_printed _ _ _ (inl refl)
    (subst (λ found. IsOutcomeUnless anything any_input (version_flag ∷ []) found outcome)
    version_readable (ends_by _ _ ends))

not_dropped : (outcome : Outcome) → outcome.status ≡ 2 → ¬ (EndsBy (version_flag ∷ []) outcome)
not_dropped outcome usage ends = elim (version_ends _ ends) [
  | inl is ↦ let wrong : 2 ≡ 0 = sym usage ∙ ap (λ o. o.status) is in omega (arith, wrong)
  | inr is ↦ let wrong : 2 ≡ 3 = sym usage ∙ ap (λ o. o.status) is in omega (arith, wrong)
]

not_made_up : (line : List ℕ) → ¬ (line ≡ []) → ¬ (EndsBy [] (text_outcome line))
not_made_up line some ends = elim (nothing_is_printed _ _ (ends_by _ _ ends)) [
  | inl none ↦ some none.0
  | inr is ↦ let wrong : 0 ≡ 3 = ap (λ o. o.status) is in omega (arith, wrong)
]

shown_status : {words : List (List ℕ)} {word : List ℕ} {outcome : Outcome} → first_unreadable words ≡ Some word
    → EndsBy words outcome → outcome ≡ usage_error (unreadable_text word)
shown_status {words} {outcome} first ends = subst (λ found.
    IsOutcomeUnless anything any_input words found outcome) first (ends_by _ _ ends)

not_passed_over : ¬ (EndsBy (unreadable ∷ version_flag ∷ []) (text_outcome version_line))
not_passed_over ends =
    let wrong : 0 ≡ 2 = ap (λ o. o.status) (shown_status
    (byte_unreadable (version_flag ∷ [])) ends) in omega (arith, wrong)

unreadable_shown : IsOutcomeUnless anything any_input (unreadable ∷ version_flag ∷ [])
    (first_unreadable (unreadable ∷ version_flag ∷ [])) (usage_error (unreadable_text unreadable))
unreadable_shown = rw (byte_unreadable _) refl

-- their reports differ in a digit of the byte
not_last : ¬ (EndsBy (unreadable ∷ also_unreadable ∷ []) (usage_error (unreadable_text also_unreadable)))
unfolding lib.Utf8.encode
not_last ends =
    let same = shown_status
    (byte_unreadable (also_unreadable ∷ [])) ends in
    let digit = heads _ _ _ _ (ap (λ o. drop 20 o.report) same) in omega (arith, digit)

pub words_are_given : WordsAreGiven
words_are_given = record {
  version = version_ends;
  dropped = not_dropped;
  made_up = not_made_up;
  shown = (unreadable ∷ version_flag ∷ [], refl, unreadable_shown);
  passed_over = not_passed_over;
  not_last = not_last;
}
