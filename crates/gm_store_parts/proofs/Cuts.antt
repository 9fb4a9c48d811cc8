-- Parsing a proxy list character by character.
use Rattle.std.proofs.Common.{◌≡◌, ◌<◌, ◌≤◌, ◌+◌, ◌/◌, ◌%◌, ℕ, true, false, not, List, [], ◌∷◌, ◌++◌, length, map, ap, ◌∙◌, sym, refl, inl, inr, arith, append_assoc, append-nil, length-append, map-id, Global, String}
use Rattle.std.proofs.lemmas.Bool.{cases_lt, le-ltb, lt-ltb, not-true}
use Rattle.std.proofs.lemmas.Bool.Decides.{nat_tests}
use Rattle.std.proofs.lemmas.List.Elements.{filter-append}
use Rattle.std.specs.Cmp.{first_so, second_so}
use Rattle.std.proofs.lemmas.List.{map-append}
use Rattle.std.proofs.lemmas.Str.{encode_ascii, encodes-append, encodes-chars}
use Rattle.std.specs.Char.{encode_utf8}
use Rattle.std.specs.List.{filter, list_all, slice_split}
use Rattle.std.specs.Prelude.{encode_utf8_all}
use Rattle.std.specs.Str.{IsUtf8, chars}
use Rattle.std.specs.String.{string_bytes}
use Rattle.gm_store_parts.specs.Private.Cutting.{IsParsedPrefix}
use Rattle.gm_store_parts.specs.Proxies.{is_proxy_mark, mark_at_byte}
use Rattle.gm_store_parts.specs.declared.fallback.proxy_list.Mark.{Mark}
use Rattle.gm_store_parts.proofs.Splits.{glue, glue-last, split-append, split_plain}

high : (b : ℕ) → 128 ≤ b → not (is_proxy_mark b) ≡ true
high b le = grind (arith, nat_tests)

no_mark : (c : ℕ) → is_proxy_mark c ≡ false → list_all (λ b. not (is_proxy_mark b)) (encode_utf8 c) ≡ true
unfolding encode_utf8
no_mark c apart = elim (cases_lt c 128) [
  | inl one ↦ rw (lt-ltb c 128 one, apart) refl
  | inr more ↦ elim (cases_lt c 2048) [
    | inl two ↦ rw (le-ltb c 128 more, lt-ltb c 2048 two, high (192 + c / 64) (omega arith), high (128 + c % 64) (omega arith)) refl
    | inr more2 ↦ elim (cases_lt c 65536) [
      | inl three ↦ rw (
        le-ltb c 128 more,
        le-ltb c 2048 more2,
        lt-ltb c 65536 three,
        high (224 + c / 4096) (omega arith),
        high (128 + c / 64 % 64) (omega arith),
        high (128 + c % 64) (omega arith),
      ) refl
      | inr four ↦ rw (
        le-ltb c 128 more,
        le-ltb c 2048 more2,
        le-ltb c 65536 four,
        high (240 + c / 262144) (omega arith),
        high (128 + c / 4096 % 64) (omega arith),
        high (128 + c / 64 % 64) (omega arith),
        high (128 + c % 64) (omega arith),
      ) refl
    ]
  ]
]

filter_plain : (xs : List ℕ) → list_all (λ b. not (is_proxy_mark b)) xs ≡ true → filter is_proxy_mark xs ≡ []
filter_plain [] e = refl
filter_plain (x ∷ xs) e = rw (not-true (is_proxy_mark x)
    (first_so (not (is_proxy_mark x)) (list_all (λ b. not (is_proxy_mark b)) xs) e))
    (filter_plain xs (second_so (not (is_proxy_mark x)) (list_all (λ b. not (is_proxy_mark b)) xs) e))

filter-joined : (xs ys : List ℕ) → filter is_proxy_mark (xs ++ ys) ≡ filter is_proxy_mark xs ++ filter is_proxy_mark ys
filter-joined xs ys = filter-append is_proxy_mark xs ys

small_mark : (c : ℕ) → is_proxy_mark c ≡ true → c < 128
small_mark c e = grind (arith, nat_tests)

-- one more character, not a mark: it is appended to the folder in progress
pub push_plain : (text : List ℕ) (folders : List (String Global)) (marks : List Mark) (folder next : String Global) (c : ℕ)
    → is_proxy_mark c ≡ false → string_bytes next ≡ string_bytes folder ++ encode_utf8 c
    → IsParsedPrefix text folders marks folder → IsParsedPrefix (text ++ encode_utf8 c) folders marks next
push_plain text folders marks folder next c plain grown cut =
    let none = no_mark c plain in
    record {
      folders_so_far = split-append is_proxy_mark text (encode_utf8 c)
          ∙ ap (glue (slice_split is_proxy_mark text)) (split_plain is_proxy_mark (encode_utf8 c) none)
          ∙ ap (λ fs. glue fs (encode_utf8 c ∷ [])) cut.folders_so_far
          ∙ glue-last (map string_bytes folders) (string_bytes folder) (encode_utf8 c) []
          ∙ ap (λ last. map string_bytes folders ++ last ∷ []) (sym grown);
      marks_so_far = ap (map mark_at_byte) (filter-joined text (encode_utf8 c)
          ∙ ap (λ more. filter is_proxy_mark text ++ more) (filter_plain (encode_utf8 c) none)
          ∙ append-nil (filter is_proxy_mark text)) ∙ cut.marks_so_far;
      between = cut.between;
    }

split_mark : (c : ℕ) → is_proxy_mark c ≡ true → slice_split is_proxy_mark (c ∷ []) ≡ [] ∷ [] ∷ []
split_mark c e = rw e refl

filter_mark : (c : ℕ) → is_proxy_mark c ≡ true → filter is_proxy_mark (c ∷ []) ≡ c ∷ []
filter_mark c e = rw e refl

-- one more character, a mark: it ends the folder in progress
pub push_mark : (text : List ℕ) (folders ended : List (String Global)) (marks more : List Mark) (folder next : String Global) (c : ℕ)
    → is_proxy_mark c ≡ true → ended ≡ folders ++ folder ∷ [] → more ≡ marks ++ mark_at_byte c ∷ []
    → string_bytes next ≡ [] → IsParsedPrefix text folders marks folder
    → IsParsedPrefix (text ++ encode_utf8 c) ended more next
push_mark text folders ended marks more folder next c mark end grown empty cut =
    let one : encode_utf8 c ≡ c ∷ [] = encode_ascii c (small_mark c mark) in
    record {
      folders_so_far = split-append is_proxy_mark text (encode_utf8 c)
          ∙ ap (λ cs. glue (slice_split is_proxy_mark text) (slice_split is_proxy_mark cs)) one
          ∙ ap (glue (slice_split is_proxy_mark text)) (split_mark c mark)
          ∙ ap (λ fs. glue fs ([] ∷ [] ∷ [])) cut.folders_so_far
          ∙ glue-last (map string_bytes folders) (string_bytes folder) [] ([] ∷ [])
          ∙ ap (λ last. map string_bytes folders ++ last ∷ [] ∷ []) (append-nil (string_bytes folder))
          ∙ sym (append_assoc (map string_bytes folders) (string_bytes folder ∷ []) ([] ∷ []))
          ∙ ap (λ fs. fs ++ [] ∷ []) (sym (ap (map string_bytes) end ∙ map-append string_bytes folders (folder ∷ [])))
          ∙ ap (λ last. map string_bytes ended ++ last ∷ []) (sym empty);
      marks_so_far = ap (map mark_at_byte) (ap (λ cs. filter is_proxy_mark (text ++ cs)) one
          ∙ filter-joined text (c ∷ []) ∙ ap (λ more. filter is_proxy_mark text ++ more) (filter_mark c mark))
          ∙ map-append mark_at_byte (filter is_proxy_mark text) (c ∷ []) ∙ ap (λ ms. ms ++ mark_at_byte c ∷ []) cut.marks_so_far ∙ sym grown;
      between = ap length end ∙ length-append folders (folder ∷ []) ∙ ap (λ n. n + 1) cut.between
          ∙ sym (length-append marks (mark_at_byte c ∷ [])) ∙ sym (ap length grown);
    }

-- the encoding of characters, with one more character
pub cut_more : (cs : List ℕ) (c : ℕ) → encode_utf8_all (cs ++ c ∷ []) ≡ encode_utf8_all cs ++ encode_utf8 c
cut_more cs c = encodes-append cs (c ∷ []) ∙ ap (λ (t : List ℕ). encode_utf8_all cs ++ t) (append-nil (encode_utf8 c))

-- after all characters, their encoding is the whole text
pub cut_whole : (text cs : List ℕ) → map (λ x. x) cs ≡ chars text → IsUtf8 text → encode_utf8_all cs ≡ text
cut_whole text cs all utf8 = ap encode_utf8_all (sym (map-id cs) ∙ all) ∙ encodes-chars text utf8
