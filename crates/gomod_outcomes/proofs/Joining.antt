-- The path and the versions on one line, one after the other.
use Rattle.std.proofs.Common.{◌≡◌, ◌<◌, ◌+◌, ◌∙◌, ℕ, Bor, List, [], ◌∷◌, ◌++◌, add-one, ap, append_assoc, get_or, length, map, refl, sym, take, take-suc}
use Rattle.std.proofs.lemmas.List.{map-append}
use Rattle.std.specs.List.{join_with_byte}

-- one more piece is added after the byte
join_with_byte-push : (c : ℕ) (x : List ℕ) (xs : List (List ℕ)) (y : List ℕ)
    → join_with_byte c (x ∷ (xs ++ y ∷ [])) ≡ join_with_byte c (x ∷ xs) ++ c ∷ y
join_with_byte-push c x [] y = refl
join_with_byte-push c x (z ∷ xs) y =
    ap (λ t. x ++ c ∷ t) (join_with_byte-push c z xs y) ∙ sym (append_assoc x _ _)

-- and one more version
pub one_version_more : (path : List ℕ) (versions : List (Bor (List ℕ))) (i : ℕ) (d : Bor (List ℕ)) → i < length versions
    → join_with_byte 32 (path ∷ map (λ version. version.now) (take (i + 1) versions))
    ≡ join_with_byte 32 (path ∷ map (λ version. version.now) (take i versions)) ++ 32 ∷ (get_or versions i d).now
one_version_more path versions i d less =
    let now = λ (version : Bor (List ℕ)). version.now in
    ap (λ texts. join_with_byte 32 (path ∷ texts))
    (ap (λ n. map now (take n versions)) (add-one i) ∙ ap (map now) (take-suc _ i d less)
    ∙ map-append _ _ (get_or versions i d ∷ []))
    ∙ join_with_byte-push 32 _ _ _
