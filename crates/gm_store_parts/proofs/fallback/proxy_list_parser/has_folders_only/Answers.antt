use Rattle.std.proofs.Common.{◌∙◌, sym, rules}
use Rattle.std.proofs.lemmas.Iterator.{YieldsList-from_slice}
use Rattle.std.proofs.lemmas.Iterator.Search.{all_from_yields_List}
use Rattle.std.proofs.lemmas.List.Folds.{list_all-map}
use Rattle.std.specs.String.{string_bytes}
use Rattle.gm_store_parts.specs.Proxies.{is_folder}
use Rattle.gm_store_parts.proofs.fallback.proxy_list_parser.has_folders_only.Goals as goal
use borrow.Author.Tests.{tests}

pub returns : goal.returns
returns c =
    all_from_yields_List (λ folder. is_folder (string_bytes folder)) _ _ _ c.all.ensures.ran
    (YieldsList-from_slice c.args.folders.now c.iter.ensures.rest)
    (λ x b q k. search (rules, tests))
    ∙ sym (list_all-map is_folder string_bytes c.args.folders.now)
