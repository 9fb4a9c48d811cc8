-- The files of the replacements that the main file names.
use Rattle.std.proofs.Common.{◌≡◌, ◌+◌, ◌<◌, ℕ, Bool, true, false, cond, List, [], ◌∷◌, Option, Some, None, get_or, length, take, refl, subst, sym}
use Rattle.std.specs.BTreeMap.{insert_entry}
use Rattle.std.specs.List.{All, find}
use Rattle.std.specs.Map.{lookup}
use Rattle.std.specs.Option.{IfSome, IsSome, option_map, option_or}
use Rattle.std.proofs.lemmas.List.Elements.{All-head, All-more, All-tail, All-weaker}
use Rattle.gm_name.specs.ModuleVersion.{ModuleVersion}
use Rattle.gm_name_table.specs.OptionalPlaces.{place_in}
use Rattle.gm_name_table.specs.declared.place.OptionalPlace.{OptionalPlace}
use Rattle.gm_file.specs.Directives.{Left, Replacing, Right, left_with, left_without}
use Rattle.gm_file.specs.Faults.{is_same_left}
use Rattle.gm_file.specs.Fields.{right_for}
use Rattle.gm_file.specs.Views.{replace_view, replace_views, right_view}
use Rattle.gm_file.specs.declared.replace.Replace.{Replace}
use Rattle.gm_store_parts.proofs.NameOrder.{held_inserted, same_from_equal}
use Rattle.gm_store_parts.specs.Asked.{Name, name_of, same_name}
use Rattle.gm_store_parts.specs.contracts.files.FileNameOrd.TheImpl.{cmp-value}
use Rattle.gm_store_parts.specs.declared.files.FileName.{FileName}
use Rattle.gm_file.specs.Main.{Main, replacement_in}
use Rattle.gm_graph_files.specs.Reading.{file_named, file_of}

-- A place is noted for the file of a name.
abbrev pub HasName : List (FileName × OptionalPlace) → Name → Type 0
HasName entries name = IsSome (option_map place_in (lookup (λ file. same_name name (name_of file)) entries))

-- A place is noted for the file of this replacement, whatever it replaces.
abbrev pub HasRight : List (FileName × OptionalPlace) → Right → Type 0
HasRight entries right = (x : ModuleVersion) → HasName entries (file_named x (Some right))

-- A place is noted for the file of a `replace` line.
abbrev pub HasLine : List (FileName × OptionalPlace) → Replace → Type 0
HasLine entries line = HasRight entries (right_view line.right)

-- ---- one more name

-- What was found is found still, if one place more is put.
some_still : (b : Bool) (r : Option OptionalPlace) (place : OptionalPlace) → IsSome (option_map place_in r)
    → IsSome (option_map place_in (cond b (Some place) r))
some_still true r place some = refl
some_still false r place some = some

has_still : (entries : List (FileName × OptionalPlace)) (key : FileName) (place : OptionalPlace) (name : Name) → HasName entries name
    → HasName (insert_entry cmp-value.it entries key place) name
has_still entries key place name has =
    rw (held_inserted entries key place name) (some_still _ _ place has)

has_itself : (entries : List (FileName × OptionalPlace)) (key : FileName) (place : OptionalPlace) (name : Name) → name_of key ≡ name
    → HasName (insert_entry cmp-value.it entries key place) name
has_itself entries key place name is =
    rw (held_inserted entries key place name) (rw (same_from_equal name (name_of key) (sym is)) refl)

pub one_more_line : (entries : List (FileName × OptionalPlace)) (lines : List Replace) (i : ℕ) (line : Replace) (key : FileName) (place : OptionalPlace)
    → i < length lines → line ≡ get_or lines i line → ((x : ModuleVersion) → name_of key ≡ file_named x (Some (right_view line.right)))
    → All (HasLine entries) (take i lines) → All (HasLine (insert_entry cmp-value.it entries key place)) (take (i + 1) lines)
one_more_line entries lines i line key place within is named all =
    let more = insert_entry cmp-value.it entries key place in
    All-more (HasLine more) lines i line within
    (All-weaker (HasLine entries) (HasLine more) (λ other has x. has_still entries key place (file_named x (Some (right_view other.right))) (has x))
    (take i lines) all)
    (subst (HasLine more) is (λ x. has_itself entries key place (file_named x (Some (right_view line.right))) (named x)))

-- ---- what replaces a module is the right side of one of the lines

found_right : (P : Right → Type 0) (lines : List Replace) (left : Left) → All (λ line. P (right_view line.right)) lines
    → IfSome (right_for (replace_views lines) left) P
found_right P [] left all = tt
found_right P (line ∷ lines) left all =
    elim (is_same_left left (replace_view line).0) as (λ b. IfSome (option_map (λ (r : Replacing). r.1) (cond b (Some (replace_view line))
    (find (λ (r : Replacing). is_same_left left r.0) (replace_views lines)))) P) [
      | true ↦ All-head (λ (l : Replace). P (right_view l.right)) line lines all
      | false ↦ found_right P lines left (All-tail (λ (l : Replace). P (right_view l.right)) line lines all)
    ]

either : (P : Right → Type 0) (a b : Option Right) → IfSome a P → IfSome b P → IfSome (option_or a b) P
either P None b one two = two
either P (Some right) b one two = one

named : (entries : List (FileName × OptionalPlace)) (x : ModuleVersion) (o : Option Right) → IfSome o (HasRight entries) → IsSome o
    → HasName entries (file_named x o)
named entries x None has some = absurd (cc some)
named entries x (Some right) has some = has x

pub has_replacing : (main : Main) (entries : List (FileName × OptionalPlace)) (lines : List Replace) → replace_views lines ≡ main.replaces
    → All (HasLine entries) lines → (x : ModuleVersion) → IsSome (replacement_in main x) → HasName entries (file_of main x)
has_replacing main entries lines is all x =
    rw (sym is) (named entries x _ (either (HasRight entries) _ _
    (found_right (HasRight entries) lines (left_with x.0 x.1) all) (found_right (HasRight entries) lines (left_without x.0) all)))
