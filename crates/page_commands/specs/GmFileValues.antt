-- A copy from crates/gm_file/specs/Values.antt, which tools/check/headline.py writes.
use Rattle.std.specs.Prelude.{ℕ, ◌||◌, nat_eq, Bool, List, codes, Option, Some, None}
use Rattle.std.specs.List.{starts_with}
use Rattle.std.specs.Str.{bytes_eq}
use Rattle.page_commands.specs.Words.{Word}
use Rattle.page_commands.specs.Types.Kind.{Kind, Mark}
use Rattle.page_commands.specs.GmSyntaxWordsValues.{value_of_kind}

-- f of both values, if there are both
abbrev pub both : {A B C : Type 0} → (A → B → C) → Option A → Option B → Option C
both f None other = None
both f (Some a) None = None
both f (Some a) (Some b) = Some (f a b)

-- the value of an argument of this kind and spelling
abbrev pub argument_of_kind : Kind → List ℕ → Option (List ℕ)
argument_of_kind Mark text = None
argument_of_kind kind text = Some (value_of_kind kind text)

-- the value of a word that is an argument: punctuation is not
abbrev pub argument : Word → Option (List ℕ)
argument w = argument_of_kind w.kind w.spelling

-- a text is a folder: `.`, `..`, or one that begins with `./`, `../` or `/`
unfoldable pub is_folder_path : List ℕ → Bool
is_folder_path text = bytes_eq text (codes ".") || bytes_eq text (codes "..") || starts_with nat_eq text (codes "./")
    || starts_with nat_eq text (codes "../") || starts_with nat_eq text (codes "/")
