-- Lines as their pieces.
use Rattle.std.proofs.Common.{◌≡◌, ◌++◌, ℕ, List, [], append_assoc, append-nil, codes, refl}
use Rattle.gm_graph_files.specs.ClassWords.{class_word}
use Rattle.gm_graph_files.specs.declared.class.Class.{Class}
use Rattle.gm_graph_files.specs.declared.class.Class.TheVariants.{Malformed}
use Rattle.gm_file.specs.declared.misreading.Misreading.{Misreading}
use Rattle.gomod_texts.specs.Reports.{class_text}
use Rattle.gomod_texts.specs.LineParts.{line, vertex_text}

-- ---- pieces of a line

pub two_pieces : (a b : List ℕ) → line (a ++ b) ≡ line (a ++ (b ++ []))
two_pieces a b = simp append-nil

-- a module after other text
pub module_last : (a p v : List ℕ) → line (a ++ vertex_text (p, v)) ≡ line (a ++ (p ++ (codes "@" ++ (v ++ []))))
module_last a p v = regroup a p (codes "@") v where
  regroup : (a p s v : List ℕ) → line (a ++ ((p ++ s) ++ v)) ≡ line (a ++ (p ++ (s ++ (v ++ []))))
  regroup a p s v = simp (append_assoc, append-nil)

-- a module before a word
pub module_first : (p v w : List ℕ) → line (vertex_text (p, v) ++ codes ": " ++ w)
    ≡ line (p ++ (codes "@" ++ (v ++ (codes ": " ++ (w ++ [])))))
module_first p v w = regroup p (codes "@") v (codes ": ") w where
  regroup : (p s v c w : List ℕ) → line ((((p ++ s) ++ v) ++ c) ++ w) ≡ line (p ++ (s ++ (v ++ (c ++ (w ++ [])))))
  regroup p s v c w = simp (append_assoc, append-nil)

-- a module before its malformed line
pub module_malformed : (p v n w : List ℕ)
    → line (vertex_text (p, v) ++ codes ": " ++ (codes "Malformed " ++ n ++ codes " " ++ w))
    ≡ line (p ++ (codes "@" ++ (v ++ (codes ": Malformed " ++ (n ++ (codes " " ++ (w ++ [])))))))
module_malformed p v n w = regroup p (codes "@") v (codes ": ") (codes "Malformed ") n (codes " ") w where
  regroup : (p s v c m n t w : List ℕ) → line ((((p ++ s) ++ v) ++ c) ++ (((m ++ n) ++ t) ++ w))
      ≡ line (p ++ (s ++ (v ++ ((c ++ m) ++ (n ++ (t ++ (w ++ [])))))))
  regroup p s v c m n t w = simp (append_assoc, append-nil)

-- ---- the text of a class

-- a class without a line is its word
pub class_alone : (class : Class) → ((number : ℕ) (kind : Misreading) → class ≡ Malformed number kind → ⊥)
    → class_text class ≡ class_word class
class_alone (Malformed number kind) other = absurd (other number kind refl)
class_alone class other = refl
