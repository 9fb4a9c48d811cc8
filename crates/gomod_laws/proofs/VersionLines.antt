-- The line that `versions` prints says which versions it shows.
use Rattle.std.proofs.Common.{◌≡◌, ◌∙◌, ◌∷◌, ◌++◌, ℕ, List, [], Contains, ap, ap₂, append_assoc, append-nil, arith, codes, inl, inr, refl, sym}
use Rattle.std.specs.List.{join_with_byte}
use Rattle.std.proofs.lemmas.List.{append_cancel_left}
use Rattle.gm_version.specs.Version.{IsVersion}
use Rattle.gm_graph_select.proofs.Ascending.{member_head, member_tail}
use Rattle.gomod_run.proofs.ListLines.{version_has_no_blank, heads, tails}
use Rattle.gomod_outcomes.specs.Versions.{versions_line}
use Rattle.gomod_laws.specs.VersionLaws.{LineSaysVersions}
use Rattle.gomod_laws.proofs.PrintedRow.{IsStop, IsWhole, cut_whole}
use Rattle.gm_file_edit.proofs.NoLineFeeds.{version-plain}

-- the versions, each after a blank
abbrev spaced : List (List ℕ) → List ℕ
spaced [] = []
spaced (version ∷ versions) = 32 ∷ (version ++ spaced versions)

joined : (path : List ℕ) (versions : List (List ℕ)) → join_with_byte 32 (path ∷ versions) ≡ path ++ spaced versions
joined path [] = sym (append-nil _)
joined path (version ∷ versions) = ap (λ text. path ++ (32 ∷ text)) (joined _ versions)

-- they end where the line ends
abbrev ended : List (List ℕ) → List ℕ
ended versions = spaced versions ++ (10 ∷ [])

line_is : (path : List ℕ) (versions : List (List ℕ)) → versions_line path versions ≡ path ++ ended versions
line_is path versions = ap (λ text. text ++ codes "\n") (joined _ _) ∙ append_assoc _ _ (10 ∷ [])

stops : (versions : List (List ℕ)) → IsStop (ended versions)
stops [] = (10, [], refl, inr refl)
stops (version ∷ versions) = (32, (version ++ spaced versions) ++ (10 ∷ []), refl, inl refl)

whole : (version : List ℕ) → IsVersion version → IsWhole version
whole version is = (version_has_no_blank _ is, version-plain _ is)

abbrev AreVersions : List (List ℕ) → Type 0
AreVersions versions = (version : List ℕ) → Contains versions version → IsVersion version

same_versions : (versions others : List (List ℕ)) → AreVersions versions → AreVersions others → ended versions ≡ ended others → versions ≡ others
same_versions [] [] p q e = refl
same_versions [] (other ∷ others) p q e = let wrong = heads _ _ _ _ e in absurd (omega (arith, wrong))
same_versions (version ∷ versions) [] p q e = let wrong = heads _ _ _ _ e in absurd (omega (arith, wrong))
same_versions (version ∷ versions) (other ∷ others) p q e =
    let inner : version ++ ended versions ≡ other ++ ended others =
    sym (append_assoc version _ _) ∙ tails _ _ _ _ e ∙ append_assoc other _ _ in
    let same = cut_whole _ _ _ _
    (whole _ (p version (member_head version versions))) (whole _ (q other (member_head other others))) (stops versions) (stops others) inner in
    let rest =
    append_cancel_left other _ _ (ap (λ v. v ++ ended versions) (sym same) ∙ inner) in
    ap₂ (λ (v : List ℕ) (vs : List (List ℕ)). v ∷ vs) same
    (same_versions _ _ (λ v there. p v (member_tail version v _ there)) (λ v there. q v (member_tail other v _ there)) rest)

pub line_says_versions : LineSaysVersions
line_says_versions path versions others p q e =
    same_versions _ _ p q (append_cancel_left _ _ _ (sym (line_is _ _) ∙ e ∙ line_is path _))
