-- What the faults of the readers of a command say of its entries.
use Rattle.std.proofs.Common.{◌≡◌, ◌∙◌, List, Result, Ok, Err, IfErr, IfSome, Option, Some, None, ap, true, false, sym, subst, inl, inr}
use Rattle.std.specs.Prelude.{is_some, option_map}
use Rattle.std.specs.Option.{option_map_or}
use Rattle.std.specs.Result.{IsErrAnd}
use Rattle.std.specs.String.{string_bytes}
use Rattle.clap.specs.Walk.{Row, Text}
use Rattle.gm_name.specs.Path.{IsPath}
use Rattle.gm_store_parts.specs.Proxies.{folders_in, folders_of}
use Rattle.gm_store_parts.specs.declared.fallback.proxy_list.ProxyList.{ProxyList}
use Rattle.gomod_words.specs.Usage.{ArePlaces, AreRecognized, HasBadPath, HasBadProxy, HasFiles, IsCommand, IsOneFile, given, is_proxy, path_text, proxy_text}
use Rattle.gomod_words.specs.Private.Usage.{IsEntriesFault, IsFaultWith, LacksPlaces}
use Rattle.gomod_words.specs.declared.table.Argument.TheVariants.{Proxy}
use Rattle.gomod_words.specs.declared.table.CommandName.{CommandName}
use Rattle.gomod_words.specs.declared.usage.Command.{Command}
use Rattle.gomod_words.specs.declared.usage.Places.{Places}
use Rattle.gomod_words.specs.declared.usage.UsageFault.{UsageFault}
use Rattle.gomod_words.specs.declared.usage.UsageFault.TheVariants.{NoMemory, Help, Version, Line, BadPath, BadProxy}

-- a fault that `?` passes on, which says of the entries what each kind of it does
pub passed : {T : Type 0} (name : CommandName) (rows : List Row) (line : Type 0) (path proxy : Text → Type 0) (result : Result T UsageFault)
    (fault : UsageFault) → IsErrAnd result (λ f. f ≡ fault) → IsFaultWith line path proxy fault → (line → ¬ (AreRecognized (Some (name, rows))))
    → ((text : Text) → path text → HasBadPath (Some (name, rows)) text) → ((text : Text) → proxy text → HasBadProxy (Some (name, rows)) text)
    → IfErr result (IsEntriesFault (Some (name, rows)))
passed name rows line path proxy (Ok value) fault is known by_line by_path by_proxy = tt
passed name rows line path proxy (Err f) fault is known by_line by_path by_proxy =
    entries_fault f (subst (IsFaultWith line path proxy) (sym is) known)
  where
    entries_fault : (f : UsageFault) → IsFaultWith line path proxy f → IsEntriesFault (Some (name, rows)) f
    entries_fault NoMemory known = tt
    entries_fault (Help text) known = known
    entries_fault (Version text) known = known
    entries_fault (Line text) known = by_line known
    entries_fault (BadPath text) known = by_path (string_bytes text) known
    entries_fault (BadProxy text) known = by_proxy (string_bytes text) known

-- a text that is given, where one that is given is a path
pub some_path : (value : Option Text) (text : Text) → IfSome value IsPath → value ≡ Some text → IsPath text
some_path (Some path) text valid is = let same : path ≡ text = cc is in subst IsPath same valid
some_path None text valid is = cc is

-- a valid value is none that is invalid
pub both_proxies : (value : Option Text) (text : Text) → option_map_or is_proxy value true ≡ true → value ≡ Some text → is_proxy text ≡ false → ⊥
both_proxies value text valid is invalid =
    let never : true ≡ false = sym (subst (λ v. option_map_or is_proxy v true ≡ true) is valid) ∙ invalid in cc never

no_proxy : (proxy : Option ProxyList) → option_map folders_in proxy ≡ None → is_some proxy ≡ true → ⊥
no_proxy None none some = cc some
no_proxy (Some list) none some = cc none

-- entries that stand for no command, where no path is looked at, have no meaning
pub unasked : (name : CommandName) (rows : List Row) → ((command : Command) → ¬ (IsCommand name rows command)) → path_text name rows ≡ None
    → ¬ (AreRecognized (Some (name, rows)))
unasked name rows asks path (inl (command, places, meant)) = asks command meant.0
unasked name rows asks path (inr (inl bad)) = let never : None ≡ Some bad.0 = sym path ∙ bad.1.0 in cc never
unasked name rows asks path (inr (inr bad)) = asks bad.1.1.0 bad.1.1.1

-- nor have entries without the one file of a command
pub unfiled : (name : CommandName) (rows : List Row) (file : Option Text) → ((places : Places) → HasFiles name rows places → IsOneFile file places)
    → path_text name rows ≡ None → proxy_text name rows ≡ None → file ≡ None → ¬ (AreRecognized (Some (name, rows)))
unfiled name rows file files path proxy none (inl (command, places, meant)) =
    let never : None ≡ Some (string_bytes places.main) = sym none ∙ (files places meant.3).0 in cc never
unfiled name rows file files path proxy none (inr (inl bad)) = let never : None ≡ Some bad.0 = sym path ∙ bad.1.0 in cc never
unfiled name rows file files path proxy none (inr (inr bad)) = let never : None ≡ Some bad.0 = sym proxy ∙ bad.1.2.0 in cc never

-- entries of a query that lack its places have no meaning, if its path is valid
pub lacking : (name : CommandName) (rows : List Row) → ((places : Places) → HasFiles name rows places → ArePlaces rows places)
    → proxy_text name rows ≡ given Proxy rows → IfSome (path_text name rows) IsPath → LacksPlaces rows → ¬ (AreRecognized (Some (name, rows)))
lacking name rows files same valid (inl none) (inl (command, places, meant)) =
    no_proxy _ (meant.2.1 ∙ ap (option_map folders_of) (same ∙ none)) (files places meant.3).0
lacking name rows files same valid (inr twice) (inl (command, places, meant)) =
    let never : true ≡ false = sym twice.1 ∙ (files places meant.3).3 in cc never
lacking name rows files same valid lacks (inr (inl bad)) = bad.1.1 (some_path _ _ valid bad.1.0)
lacking name rows files same valid (inl none) (inr (inr bad)) = let never : None ≡ Some bad.0 = sym none ∙ sym same ∙ bad.1.2.0 in cc never
lacking name rows files same valid (inr twice) (inr (inr bad)) = both_proxies _ _ twice.0 (sym same ∙ bad.1.2.0) bad.1.2.1
