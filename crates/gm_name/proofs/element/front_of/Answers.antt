use Rattle.std.proofs.Common.{◌≡◌, ◌+◌, ◌<◌, ◌^◌, ℕ, List, length, ◌∙◌, ap, take, drop, arith, rules}
use Rattle.std.proofs.lemmas.List.Sums.{prefix_len-le-length}
use Rattle.std.specs.List.{prefix_len}
use Rattle.gm_name.specs.Element.{is_path_byte}
use Rattle.gm_name.specs.Private.Texts.{is_stem_byte}
use Rattle.gm_name.proofs.Fronts.{front-len, front-stem}
use Rattle.gm_name.proofs.element.front_of.Goals as goal

-- the sum of the two counts
end-len : (text after : List ℕ) (m j : ℕ) → m ≡ prefix_len is_stem_byte text → after ≡ drop m text → j ≡ prefix_len is_path_byte after
    → m + j ≡ prefix_len is_path_byte text
end-len text after m j e f g = rw (g, f, e) (front-len text)

pub split_at-requires : goal.split_at-requires
split_at-requires c = rw c.stem_len-stem_end.ensures (prefix_len-le-length is_stem_byte c.args.text.now)

pub overflow_add-end : goal.overflow_add-end
overflow_add-end c =
    let end = end-len c.args.text.now _ _ _ c.stem_len-stem_end.ensures c.split_at.ensures.back c.path_bytes_len.ensures in
    let small : length c.args.text.now < 2 ^ 64 = search rules in
    omega (arith, end, small, prefix_len-le-length is_path_byte c.args.text.now)

pub split_at-requires-2 : goal.split_at-requires-2
split_at-requires-2 c =
    let end = end-len c.args.text.now _ _ _ c.stem_len-stem_end.ensures c.split_at.ensures.back c.path_bytes_len.ensures in
    rw end (prefix_len-le-length is_path_byte c.args.text.now)

pub returns-clause-bytes : goal.returns-clause-bytes
returns-clause-bytes c =
    let end = end-len c.args.text.now _ _ _ c.stem_len-stem_end.ensures c.split_at.ensures.back c.path_bytes_len.ensures in
    c.split_at-2.ensures.front ∙ ap (λ n. take n c.args.text.now) end

pub returns-clause-stem : goal.returns-clause-stem
returns-clause-stem c =
    let end = end-len c.args.text.now _ _ _ c.stem_len-stem_end.ensures c.split_at.ensures.back c.path_bytes_len.ensures in
    let bytes = c.split_at-2.ensures.front ∙ ap (λ n. take n c.args.text.now) end in
    let front = c.split_at.ensures.front ∙ ap (λ n. take n c.args.text.now) c.stem_len-stem_end.ensures in
    rw bytes (front ∙ front-stem c.args.text.now)

pub returns-clause-rest : goal.returns-clause-rest
returns-clause-rest c =
    let end = end-len c.args.text.now _ _ _ c.stem_len-stem_end.ensures c.split_at.ensures.back c.path_bytes_len.ensures in
    c.split_at-2.ensures.back ∙ ap (λ n. drop n c.args.text.now) end
