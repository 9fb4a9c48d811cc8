-- No operation removes, adds or moves a comment line.
use Rattle.std.proofs.Common.{◌≡◌, ℕ, ◌||◌, Bool, true, false, List, [], ◌∷◌, ◌++◌, Option, Some, None, refl, sym, ◌∙◌, inl, inr}
use Rattle.std.specs.Prelude.{filter}
use Rattle.std.proofs.lemmas.Bool.{cases_Bool}
use Rattle.std.proofs.lemmas.List.Elements.{filter-append}
use Rattle.gm_syntax_words.specs.Tokens.{Placed}
use Rattle.gm_syntax.specs.Document.{Line, Blank, Comment, Open, Close, Entry}
use Rattle.gm_file.specs.Directives.{Directive, block_after_line, item_at}
use Rattle.gm_file_edit.specs.Edits.{Edit, Set, Setting, ModuleIs, GoIs, RequireAt, ReplaceWith, Add, Drop}
use Rattle.gm_file_edit.specs.About.{about}
use Rattle.gm_file_edit.specs.Edited.{with_change, lines_after, put_in}
use Rattle.gm_file_edit_laws.specs.EditLaws.{is_comment_line}
use Rattle.gm_file_edit.specs.Fates.{Fate, without_targets, dropping_from, is_emptied, is_in_gone, kept_lines, remaining, with_renewal, renewing_from, widened_from}
use Rattle.gm_file_edit.specs.Holding.{directive_at, passes}
use Rattle.gm_file_edit.specs.NewWords.{entry_at}
use Rattle.gm_file_edit.specs.Renewing.{made_new}
use Rattle.gm_file_edit.proofs.Filters.{filter-none}
use Rattle.gm_file_edit.proofs.Insertions.{IsPutInto, by-put, gap_lines}
use Rattle.gm_file_edit.proofs.Untouched.{by-edited}

abbrev comments : List (Line Placed) → List (Line Placed)
comments lines = filter is_comment_line lines

-- ---- the lines that remain

left-comments : (block : Option Bool) (behind : Bool) (fates : List Fate)
    → comments (kept_lines (widened_from block behind fates)) ≡ comments (kept_lines fates)
left-comments block behind [] = refl
left-comments block behind (None ∷ fates) = left-comments block behind fates
left-comments block behind (Some Blank ∷ fates) = elim (cases_Bool (is_in_gone block || behind)) [
  | inl gone ↦ rw gone (left-comments block false fates)
  | inr stays ↦ rw stays (left-comments block false fates)
]
left-comments block behind (Some (Comment text) ∷ fates) = rw (left-comments block false fates)
left-comments block behind (Some (Open verb suffix) ∷ fates) = elim (cases_Bool (is_emptied block suffix fates)) [
  | inl gone ↦ rw gone (left-comments (Some true) false fates)
  | inr stays ↦ rw stays (left-comments (Some false) false fates)
]
left-comments block behind (Some (Close suffix) ∷ fates) = elim (cases_Bool (is_in_gone block)) [
  | inl gone ↦ rw gone (left-comments None true fates)
  | inr stays ↦ rw stays (left-comments None false fates)
]
left-comments block behind (Some (Entry words suffix) ∷ fates) = left-comments block false fates

remaining-comments : (fates : List Fate) → comments (remaining fates) ≡ comments (kept_lines fates)
unfolding remaining
remaining-comments fates = left-comments None false fates

-- ---- the lines without the targeted entries

-- the rewritten form of an entry is no comment line
abbrev RewritesEntries : (Option Placed → Line Placed → Line Placed) → Type 0
RewritesEntries new = (block : Option Placed) (words : List Placed) (suffix : Option (List ℕ)) → is_comment_line (new block (Entry words suffix)) ≡ false

-- a line that holds a directive is no comment line, and neither is its rewritten form
no-comment : (test : Directive → Bool) (new : Option Placed → Line Placed → Line Placed) → RewritesEntries new
    → (block : Option Placed) (line : Line Placed) → passes test (directive_at block line) ≡ true
    → (is_comment_line line ≡ false) × (is_comment_line (new block line) ≡ false)
unfolding item_at
no-comment test new rewrites block Blank hit = absurd cc
no-comment test new rewrites block (Comment text) hit = absurd cc
no-comment test new rewrites block (Open verb suffix) hit = absurd cc
no-comment test new rewrites block (Close suffix) hit = absurd cc
no-comment test new rewrites block (Entry words suffix) hit = (refl, rewrites block words suffix)

behind-same : (line : Line Placed) (xs ys : List (Line Placed)) → comments xs ≡ comments ys → comments (line ∷ xs) ≡ comments (line ∷ ys)
behind-same line xs ys e = rw e

dropping-comments : (test : Directive → Bool) (block : Option Placed) (lines : List (Line Placed))
    → comments (kept_lines (dropping_from test block lines)) ≡ comments lines
dropping-comments test block [] = refl
dropping-comments test block (line ∷ lines) =
    let rest = dropping-comments test (block_after_line block line) lines in
    elim (cases_Bool (passes test (directive_at block line))) [
      | inl hit ↦ rw hit (rest ∙ sym (filter-none _ _ lines (no-comment _ (λ b l. l) (λ b words suffix. refl) _ _ hit).0))
      | inr miss ↦ rw miss (behind-same line (kept_lines (dropping_from test (block_after_line block line) lines)) lines rest)
    ]

renewing-comments : (test : Directive → Bool) (new : Option Placed → Line Placed → Line Placed) → RewritesEntries new
    → (block : Option Placed) (lines : List (Line Placed))
    → comments (kept_lines (renewing_from test new block lines)) ≡ comments lines
renewing-comments test new rewrites block [] = refl
renewing-comments test new rewrites block (line ∷ lines) =
    let behind = block_after_line block line in
    elim (cases_Bool (passes test (directive_at block line))) [
      | inl hit ↦
          let none = no-comment _ new rewrites _ _ hit in
          rw hit (filter-none _ _ (kept_lines (dropping_from test behind lines)) none.1
          ∙ dropping-comments test behind lines ∙ sym (filter-none _ _ lines none.0))
      | inr miss ↦ rw miss (behind-same line (kept_lines (renewing_from test new behind lines)) lines (renewing-comments test new rewrites behind lines))
    ]

dropped-comments : (test : Directive → Bool) (lines : List (Line Placed)) → comments (without_targets test lines) ≡ comments lines
dropped-comments test lines = remaining-comments (dropping_from test None lines) ∙ dropping-comments test None lines

renewed-comments : (test : Directive → Bool) (new : Option Placed → Line Placed → Line Placed) → RewritesEntries new
    → (lines : List (Line Placed)) → comments (with_renewal test new lines) ≡ comments lines
renewed-comments test new rewrites lines = remaining-comments (renewing_from test new None lines) ∙ renewing-comments test _ rewrites None lines

-- ---- the lines with new entries

-- a blank line and an entry are no comment lines
gap-comments : (gap inside : Bool) (verb : List ℕ) (arguments : List Placed) (lines : List (Line Placed))
    → comments (gap_lines gap ++ entry_at inside verb arguments ∷ lines) ≡ comments lines
gap-comments true true verb arguments lines = refl
gap-comments true false verb arguments lines = refl
gap-comments false true verb arguments lines = refl
gap-comments false false verb arguments lines = refl

into-comments : {verb : List ℕ} {arguments : List Placed} {lines after : List (Line Placed)}
    → IsPutInto verb arguments lines after → comments after ≡ comments lines
into-comments {verb} {arguments} put = rw (
  put.is,
  put.was,
  filter-append is_comment_line put.front (gap_lines put.gap ++ entry_at put.inside verb arguments ∷ put.back),
  filter-append is_comment_line put.front put.back,
  gap-comments put.gap put.inside verb arguments put.back,
)

-- ---- the lines after an operation

changed-comments : (edit : Edit) (lines : List (Line Placed)) → comments (with_change edit lines) ≡ comments lines
unfolding with_change
changed-comments (Set s) lines = renewed-comments (about (Set s)) _ (rewritten s) lines
  where
    rewritten : (s : Setting) → RewritesEntries (made_new (Set s))
    rewritten (ModuleIs path) block words suffix = refl
    rewritten (GoIs text) block words suffix = refl
    rewritten (RequireAt p) block words suffix = refl
    rewritten (ReplaceWith r) block words suffix = refl
changed-comments (Add a) lines = refl
changed-comments (Drop t) lines = dropped-comments (about (Drop t)) lines

put-comments : (edit : Edit) (lines : List (Line Placed)) → comments (put_in edit lines) ≡ comments lines
put-comments edit lines = by-put (λ other after. comments after ≡ comments lines) lines (λ path. refl)
    (λ other entry after is put. into-comments put) (λ t. refl) edit

pub pass-comments : (edit : Edit) (lines : List (Line Placed)) → filter is_comment_line (lines_after edit lines) ≡ filter is_comment_line lines
pass-comments edit lines = by-edited (λ after. comments after ≡ comments lines) edit lines
    (λ there. changed-comments edit lines) (λ none. put-comments edit lines)
