use Rattle.std.proofs.Common.{◌≡◌, ◌∙◌, ◌∷◌, ◌++◌, [], ℕ, List, ap, length, map, refl, reverse}
use Rattle.std.proofs.lemmas.List.{reverse-append}
use Rattle.gm_store_parts.specs.Asked.{name_of}
use Rattle.gm_store_parts.specs.declared.files.FileName.{FileName}
use Rattle.gm_store_parts.specs.declared.files.history.History.{History}
use Rattle.gm_graph_cache.specs.FileNames.{places_named}
use Rattle.gm_graph_cache.proofs.cache.file_table.FileTable.add.Goals as goal

names_are : (old : History FileName ℕ) (one : FileName × ℕ) {made mid : List (FileName × ℕ)}
    → made ≡ mid ++ one ∷ [] → mid ≡ old.items → map (λ of. (name_of of.0, of.1)) (reverse made) ≡ (name_of one.0, one.1) ∷ places_named old
names_are old one made same = rw (made, same, reverse-append old.items (one ∷ [])) refl

pub returns-clause-adds : goal.returns-clause-adds
returns-clause-adds c =
    let reached = c.reach.ensures.others in
    let puts = c.put_replacing.ensures in
    record {
      last = c.len.ensures ∙ c.reach.new.self.files.ok.0 ∙ ap length reached.files;
      files = rw (puts.files, c.set.ensures.others.files, c.in_ok-push.ensures.items, reached.files) refl;
      named = λ other. rw (names_are _ _ c.with-self.ensures (puts.names ∙ c.set.ensures.others.names ∙ reached.names)) refl;
      noted = λ number. rw puts.places (rw (c.reach.ensures.noted number) at (c.set.ensures.notes number));
      replacing = λ other. rw (c.set.ensures.others.replacing, reached.replacing) at (puts.puts other);
    }
