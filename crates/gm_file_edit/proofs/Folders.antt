-- What begins with a module path is no folder.
use Rattle.std.proofs.Common.{◌≡◌, ℕ, ◌==◌, ◌&&◌, not, nat_lt, Bool, true, false, List, [], ◌∷◌, ◌++◌, append-nil, length, refl, arith}
use Rattle.std.specs.Prelude.{◌<◌}
use Rattle.std.specs.List.{join_with_byte, list_all}
use Rattle.std.proofs.lemmas.Bool.Decides.{nat_tests}
use Rattle.gm_name.specs.Element.{has_outer_dot, is_dotted_name, is_element, is_path_byte, is_reserved, stem}
use Rattle.gm_name.specs.Names.{is_path}
use Rattle.gm_name.specs.Path.{IsPath}
use Rattle.gm_name.proofs.Logic.{or-left}
use Rattle.gm_name.proofs.NameTests.{and_both, not_true, path-tested}
use Rattle.gm_name.proofs.Paths.{path_byte-no_slash}
use Rattle.gm_file.specs.Values.{is_folder_path}

-- the text starts with a byte that is neither a dot nor a slash
record BeginsAside (text : List ℕ) : Type 0 where
  pub byte : ℕ
  pub rest : List ℕ
  pub is : text ≡ byte ∷ rest
  pub no_dot : (byte == 46) ≡ false
  pub no_slash : (byte == 47) ≡ false

element-begins : (e : List ℕ) → is_element e ≡ true → BeginsAside e
unfolding is_element is_dotted_name has_outer_dot
element-begins [] h = absurd cc
element-begins (b ∷ e) h =
    let named : Bool = is_dotted_name (b ∷ e) && not (is_reserved (stem (b ∷ e))) in
    let outer = and_both _ _ h in
    let inner = and_both _ _ outer.0 in
    let front : Bool = nat_lt 0 (length (b ∷ e)) && list_all is_path_byte (b ∷ e) in
    let parts = and_both _ _ inner.0 in
    let bytes = and_both _ _ parts.0 in
    let byte = and_both _ _ bytes.1 in
    record { byte = b; rest = e; is = refl; no_dot = or-left _ _ (not_true (has_outer_dot (b ∷ e)) parts.1); no_slash = path_byte-no_slash _ byte.0 }

more-begins : {text : List ℕ} (more : List ℕ) → BeginsAside text → BeginsAside (text ++ more)
more-begins more b =
    record { byte = b.byte; rest = b.rest ++ more; is = rw b.is; no_dot = b.no_dot; no_slash = b.no_slash }

joined-begins : (es : List (List ℕ)) → 0 < length es → list_all is_element es ≡ true → BeginsAside (join_with_byte 47 es)
joined-begins [] some all = absurd (omega arith)
joined-begins (e ∷ []) some all = element-begins _ (and_both _ _ all).0
joined-begins (e ∷ f ∷ es) some all = more-begins _ (element-begins _ (and_both _ _ all).0)

aside-no-folder : (b : ℕ) (rest : List ℕ) → (b == 46) ≡ false → (b == 47) ≡ false → is_folder_path (b ∷ rest) ≡ false
unfolding is_folder_path
aside-no-folder b rest dot slash =
    let other_dot : (46 == b) ≡ false = grind (arith, nat_tests) in
    let other_slash : (47 == b) ≡ false = grind (arith, nat_tests) in
    rw (dot, other_dot, other_slash)

pub begins-no-folder : (path more : List ℕ) → IsPath path → is_folder_path (path ++ more) ≡ false
begins-no-folder path more is =
    let first : BeginsAside path = rw is.joined (joined-begins is.elements is.some is.each) in
    let b = more-begins more first in
    rw b.is (aside-no-folder b.byte b.rest b.no_dot b.no_slash)

pub path-no-folder : (text : List ℕ) → is_path text ≡ true → is_folder_path text ≡ false
path-no-folder text h = rw (append-nil text) at (begins-no-folder _ [] ((path-tested _).0 h))
