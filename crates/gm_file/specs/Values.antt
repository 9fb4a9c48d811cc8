-- The values of the words of an entry, and which of them are folders.
use Rattle.std.specs.Prelude.{ℕ, ◌||◌, nat_eq, Bool, List, codes, Option, Some, None}
use Rattle.std.specs.List.{starts_with}
use Rattle.std.specs.Str.{bytes_eq}
use Rattle.gm_syntax_words.specs.Words.{Word}
use Rattle.gm_syntax_words.specs.declared.word.Kind.{Kind}
use Rattle.gm_syntax_words.specs.declared.word.Kind.TheVariants.{Mark}
use Rattle.gm_syntax_words.specs.Values.{value_of_kind}

-- f of both values, if there are both
abbrev pub both : {A B C : Type 0} → (A → B → C) → Option A → Option B → Option C
both f None other = None
both f (Some a) None = None
both f (Some a) (Some b) = Some (f a b)

-- the value of an argument of this kind and spelling
abbrev pub argument_of_kind : Kind → List ℕ → Option (List ℕ)
argument_of_kind Mark text = None
argument_of_kind kind text = Some (value_of_kind kind text)

-- the value of a word that is an argument: punctuation is not
abbrev pub argument : Word → Option (List ℕ)
argument w = argument_of_kind w.kind w.spelling

-- a text is a folder: `.`, `..`, or one that begins with `./`, `../` or `/`
unfoldable pub is_folder_path : List ℕ → Bool
is_folder_path text = bytes_eq text (codes ".") || bytes_eq text (codes "..") || starts_with nat_eq text (codes "./")
    || starts_with nat_eq text (codes "../") || starts_with nat_eq text (codes "/")
