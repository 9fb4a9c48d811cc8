use Rattle.gm_store.proofs.Listing.{found_none, found_some, passes_word, pushes_word}
use Rattle.gm_store.proofs.versions.list.push_listable.Goals as goal

pub returns-in_ok-push : goal.returns-in_ok-push
returns-in_ok-push c = λ words holds.
    pushes_word words c.args.versions.now.items c.push.new.self.items c.args.path.now c.first_word.result.now _ c.in-Some.version c.first_word.ensures
    (found_some _ _ c.in_ok-version.field-0 _ c.in-Some.is c.in_ok-version.ensures.some) c.in_ok-push.ensures.items holds

pub returns-in_default : goal.returns-in_default
returns-in_default c = λ words holds.
    passes_word words c.args.versions.now.items c.args.path.now c.first_word.result.now _ c.first_word.ensures
    (found_none _ _ c.in_ok-version.field-0 c.in_default.is c.in_ok-version.ensures.none) holds
