-- The lines after an operation are a document without a fault.
use Rattle.std.proofs.Common.{◌≡◌, ℕ, true, false, List, Some, None, refl, ◌∙◌, arith, inl, inr}
use Rattle.std.specs.Prelude.{IfSome}
use Rattle.std.specs.Str.{bytes_eq}
use Rattle.std.proofs.lemmas.Bool.{cases_Bool}
use Rattle.std.proofs.lemmas.Slice.Eq.{bytes_eq-Decides}
use Rattle.gm_syntax_words.specs.declared.word.Punct.TheVariants.{Comma, LeftBracket, RightBracket}
use Rattle.gm_syntax_words.specs.Bytes.{is_bad, is_blank, is_bracket_or_comma, is_quote, is_word_byte}
use Rattle.gm_syntax_words.specs.Bare.{bare_len, can_be_bare, new_word}
use Rattle.gm_syntax_words.specs.Lines.{HasNoLineFeed}
use Rattle.gm_syntax_words.specs.Tokens.{Placed, words_of}
use Rattle.gm_syntax_words.proofs.Marks.{mark_stands}
use Rattle.gm_syntax.specs.Document.{Line, Entry, IsValidLine, IsDocument}
use Rattle.gm_syntax.specs.LineViews.{plain, plain_lines}
use Rattle.gm_syntax.proofs.NewWords.{no_mark}
use Rattle.gm_syntax.proofs.Changes.{entry_stands}
use Rattle.gm_name.specs.ModuleVersion.{ModuleVersion}
use Rattle.gm_file.specs.declared.verb.Verb.TheVariants.{Module as ForModule, Require as ForRequire, Exclude as ForExclude, Retract as ForRetract}
use Rattle.gm_file.specs.Directives.{Strict, VersionInterval, Directive, DeclaresGo, Requires, Excludes, Replaces, Retracts, directive_of, main_verb, verb_eq}
use Rattle.gm_file.specs.Faults.{fault_of}
use Rattle.gm_file_edit.specs.Edits.{Edit, Target, Set, ModuleIs, GoIs, RequireAt, Drop, AnyRequire, Add, Exclude, ReplaceWith, Retract}
use Rattle.gm_operation.specs.Operations.{has_byte}
use Rattle.gm_file_edit.specs.About.{about}
use Rattle.gm_file_edit.specs.Edited.{with_change, lines_after, put_in}
use Rattle.gm_file_edit.specs.Kinds.{directive_set, is_fit}
use Rattle.gm_file_edit.specs.Holding.{is_there}
use Rattle.gm_file_edit.specs.NewWords.{interval_words, pair_words, single}
use Rattle.gm_file_edit.specs.Renewing.{made_new}
use Rattle.gm_file_edit.specs.Sound.{AreVersions, IsPairOfNames, IsSoundEdit}
use Rattle.gm_file_edit.proofs.Insertions.{IsAddition, IsNewTo, into-sound, by-put, entry_put, there-is}
use Rattle.gm_file_edit.proofs.Filters.{fewer-any}
use Rattle.gm_file_edit.proofs.Drops.{dropped-sound, renewed-sound}
use Rattle.gm_file_edit.proofs.NoLineFeeds.{byte-feed, go-feed, path-feed, version-feed}
use Rattle.gm_file_edit.proofs.Made.{AreArguments, begins-path, made-stands, made-value, one-are, open-behind}
use Rattle.gm_file_edit.proofs.Renewals.{go-says, put_by, renewal, replace-are, replace-says, wanted}
use Rattle.gm_file_edit.proofs.Pairs.{IsSound, document-sound, held_from, sound-document}
use Rattle.gm_file_edit.specs.Private.Keys.{target_of_edit}
use Rattle.gm_file_edit.proofs.Targets.{about-module}
use Rattle.gm_file_edit.proofs.Untouched.{by-edited}

-- ---- new entries

entry-inside : {arguments : List Placed} → AreArguments arguments → IsValidLine true (plain (Entry arguments None))
entry-inside {arguments} are = entry_stands _ _ None (record {
  are_words = are.words;
  is_suffix = tt;
  filled = are.filled;
  opens_nothing = are.opens_nothing;
  closes_nothing = are.closes_nothing;
})

entry-alone : (text : List ℕ) {arguments : List Placed} → HasNoLineFeed text → AreArguments arguments → IsValidLine false (plain (single text arguments))
entry-alone text {arguments} plain_text are = entry_stands _ _ None (record {
  are_words = (made-stands _ plain_text, are.words);
  is_suffix = tt;
  filled = omega arith;
  opens_nothing = open-behind (new_word text) _ are.filled ∙ are.opens_nothing;
  closes_nothing = no_mark 41 _;
})

addition : (verb : List ℕ) {arguments : List Placed} {new : Directive} → has_byte 10 verb ≡ false
    → main_verb (new_word verb).spelling ≡ main_verb verb → AreArguments arguments
    → directive_of (main_verb verb) (words_of arguments) ≡ Some new → IsAddition verb arguments new
addition verb {arguments} feed written are says =
    record {
      inside = entry-inside are;
      alone =
          entry-alone _ (byte-feed _ feed) are;
      written = written;
      filled = are.no_block;
      says = says;
    }

pair-are : (p : ModuleVersion) → IsPairOfNames p → AreArguments (pair_words p)
pair-are p names = begins-path _ _ (path-feed _ names.0) (made-stands _ (version-feed _ names.1), tt)
    (no_mark 40 _) (rw (no_mark 40 _) refl)

require-says : (p : ModuleVersion) → IsPairOfNames p → directive_of ForRequire (words_of (pair_words p)) ≡ Some (Requires p)
unfolding directive_of
require-says p names = rw (made-value _ (path-feed _ names.0), made-value _ (version-feed _ names.1))

exclude-says : (p : ModuleVersion) → IsPairOfNames p → directive_of ForExclude (words_of (pair_words p)) ≡ Some (Excludes p)
unfolding directive_of
exclude-says p names = rw (made-value _ (path-feed _ names.0), made-value _ (version-feed _ names.1))

ends-are : (ends : VersionInterval) → AreVersions ends → AreArguments (interval_words ends)
ends-are ends are =
    let low = version-feed ends.0 are.0 in
    let high = version-feed ends.1 are.1 in
    elim (cases_Bool (bytes_eq ends.0 ends.1)) [
      | inl same ↦ rw same (one-are ends.0 low)
      | inr apart ↦ rw apart (record {
        words = (mark_stands LeftBracket, (made-stands ends.0 low, (mark_stands Comma, (made-stands ends.1 high, (mark_stands RightBracket, tt)))));
        filled = omega arith;
        opens_nothing = refl;
        closes_nothing = refl;
        no_block = refl;
      })
    ]

ends-says : (ends : VersionInterval) → AreVersions ends → directive_of ForRetract (words_of (interval_words ends)) ≡ Some (Retracts ends)
unfolding directive_of
ends-says ends are =
    let low = made-value _ (version-feed _ are.0) in
    let high = made-value _ (version-feed _ are.1) in
    elim (cases_Bool _) [
      | inl same ↦ let is : ends.0 ≡ ends.1 = (bytes_eq-Decides _ _).0 same in rw (same, low, is)
      | inr apart ↦ rw (apart, low, high)
    ]

-- the new entry of an operation says what it sets or adds
pub record Says (edit : Edit) (entry : List ℕ × List Placed) : Type 0 where
  pub new : Directive
  pub put : put_by edit ≡ Some new
  pub is : IsAddition entry.0 entry.1 new

entry-says : (edit : Edit) → IsSoundEdit edit → IfSome (entry_put edit) (Says edit)
unfolding can_be_bare bare_len is_word_byte is_blank is_bracket_or_comma is_quote is_bad
entry-says (Set (ModuleIs path)) good = tt
entry-says (Set (GoIs text)) good = let plain = go-feed _ good in
    record {
      new = DeclaresGo text;
      put = refl;
      is = addition _ refl refl (one-are _ plain) (go-says _ plain);
    }
entry-says (Set (RequireAt p)) good = record {
  new = Requires p;
  put = refl;
  is = addition _ refl refl (pair-are _ good) (require-says _ good);
}
entry-says (Set (ReplaceWith r)) good =
    record {
      new = Replaces r;
      put = refl;
      is = addition _ refl refl (replace-are _ good.0 good.1) (replace-says _ good.0 good.1);
    }
entry-says (Add (Exclude p)) good = record {
  new = Excludes p;
  put = refl;
  is = addition _ refl refl (pair-are _ good) (exclude-says _ good);
}
entry-says (Add (Retract ends)) good = record {
  new = Retracts ends;
  put = refl;
  is =
      addition _ refl refl (ends-are _ good) (ends-says _ good);
}
entry-says (Drop t) good = tt

pub says : (edit : Edit) (entry : List ℕ × List Placed) → entry_put edit ≡ Some entry → IsSoundEdit edit → Says edit entry
says edit entry e good = rw e at (entry-says _ good)

-- ---- the lines after an operation

changed-sound : (edit : Edit) {lines : List (Line Placed)} → IsSoundEdit edit → is_fit edit ≡ true
    → is_there (about edit) None lines ≡ true → IsSound lines → IsSound (with_change edit lines)
unfolding with_change
changed-sound (Set s) {lines} good fit there sound = renewed-sound (about (Set s)) lines sound (directive_set s) (made_new (Set s)) (renewal s good fit) there
changed-sound (Add a) good fit there sound = sound
changed-sound (Drop t) {lines} good fit there sound = dropped-sound (about (Drop t)) lines sound (λ d e. about-module (Drop t) d e ∙ no-module t)
  where
    no-module : (t : Target) → verb_eq ForModule (target_of_edit (Drop t)).0 ≡ false
    no-module (AnyRequire path) = refl
    no-module t = refl

-- what an operation puts in is new to lines of which it targets none
put-new : (edit : Edit) (new : Directive) (lines : List (Line Placed)) → put_by edit ≡ Some new → IsSoundEdit edit
    → is_fit edit ≡ true → is_there (about edit) None lines ≡ false → IsNewTo (held_from None lines) new
put-new edit new lines put good fit none =
    let by = wanted edit new put good fit in
    (by.kinds, fewer-any _ _ by.mild _ (rw (there-is _ None _) at none))

put-sound : (lines : List (Line Placed)) → IsSound lines → (edit : Edit) → IsSoundEdit edit → is_fit edit ≡ true
    → is_there (about edit) None lines ≡ false → IsSound (put_in edit lines)
put-sound lines sound = by-put (λ edit after. IsSoundEdit edit → is_fit edit ≡ true
    → is_there (about edit) None lines ≡ false → IsSound after) lines (λ path good fit none. sound)
    (λ edit entry after is put good fit none.
    let by = says _ _ is good in
    into-sound by.is (put-new _ _ _ by.put good fit none) sound put) (λ t good fit none. sound)

pub edited-sound : (edit : Edit) (lines : List (Line Placed)) → IsSoundEdit edit → is_fit edit ≡ true → IsSound lines → IsSound (lines_after edit lines)
edited-sound edit lines good fit sound = by-edited IsSound edit lines
    (λ there. changed-sound edit good fit there sound) (λ none. put-sound lines sound edit good fit none)

pub edited-document : (edit : Edit) (lines : List (Line Placed)) → IsSoundEdit edit → is_fit edit ≡ true
    → IsDocument (plain_lines lines) → fault_of Strict (plain_lines lines) ≡ None
    → IsDocument (plain_lines (lines_after edit lines)) × (fault_of Strict (plain_lines (lines_after edit lines)) ≡ None)
edited-document edit lines good fit document none = sound-document
    (edited-sound edit lines good fit (document-sound lines document none))
