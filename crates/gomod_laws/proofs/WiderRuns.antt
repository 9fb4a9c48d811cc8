-- A run prints if one that opens no fewer modules does: one over another main file, or over another store.
use Rattle.std.proofs.Common.{◌≡◌, ◌∙◌, ◌∷◌, [], Option, Err, arith, subst, sym}
use Rattle.gm_name.specs.ModuleVersion.{ModuleVersion}
use Rattle.gm_store_sums.specs.Sums.{Sums}
use Rattle.gm_graph.proofs.RunLemmas.{ReplaceAlike, SayAlike, SaysToo, says_too, settled_answers}
use Rattle.gm_file.specs.Main.{Main, IsMainFile}
use Rattle.gm_graph_select.proofs.Ascending.{member_head, no_member}
use Rattle.gm_graph.specs.declared.fault.Fault.{Fault}
use Rattle.gm_graph.specs.Run.{AreTooMany, IsFault, IsOpened}
use Rattle.gm_graph_cache.specs.Sayings.{Run, run_of}
use Rattle.gomod_texts.specs.QueryLaws.{AnswerAlike}
use Rattle.gomod_texts.specs.Queries.{AreFound, AreSums, Given, Prints, QueryEnds, bad_main, bad_sums, device, faulty, no_fault, too_many}
use Rattle.gomod_texts.specs.Outcome.{Outcome}
use Rattle.gomod_texts.proofs.OneRead.{one_finding, one_main, read_alike}
use Rattle.gomod_laws.proofs.FilesOnce.{misread_or_main, misread_or_sums}
use Rattle.gomod_laws.proofs.PrintedRuns.{PrintsOver}

module _ (run next : Given) (first second : Main) (table : Option Sums) (found : AreFound next second table [])
    (says : IsMainFile run.file first) (sums : run.sums ≡ next.sums)
    (alike : AnswerAlike run.answers.asked next.answers.asked) (same : ReplaceAlike first second) where
  -- the first run by what its go.sum says, and the second
  abbrev pub narrow : Option Sums → Run
  narrow t = run_of first t run.answers.asked

  abbrev pub wide : Run
  wide = run_of second table next.answers.asked

  pub narrow_says : (t : Option Sums) → AreSums run.sums t → SaysToo (narrow t) wide
  narrow_says t are = says_too (narrow t) wide same say_alike (settled_answers _ _ _ found.settled)
    where
      say_alike : SayAlike (narrow t) wide
      say_alike name x y one other said reads =
          read_alike t _ (one_finding _ t _ (rw sums at are) found.read.sums) _ y _ (rw (alike name x y one other) at reads)

  -- the second opens what the first opens
  abbrev pub OpensAsMuch : Type 0
  OpensAsMuch = (t : Option Sums) → SaysToo (narrow t) wide → (x : ModuleVersion) → IsOpened (narrow t) x → IsOpened wide x

  module _ (opens : OpensAsMuch) (sound : run.answers.failed ≡ []) (prints : Prints) (outcome : Outcome) where
    not_many : (t : Option Sums) → AreSums run.sums t → AreTooMany (narrow t) → ⊥
    not_many t are (xs, long, opened) =
        let few = found.settled.few xs (record {
          once = opened.once;
          each =
              λ x there. opens t (narrow_says t are) x (opened.each x there);
        }) in
        omega (arith, long, few)

    not_faulty : (t : Option Sums) → AreSums run.sums t → (one : Fault) → IsFault (narrow t) one → ⊥
    not_faulty t are one (is, has) =
        let says_it = narrow_says t are in
        let too = opens t says_it one.vertex is in
        no_member _ ((found.faults_are.each one).1 (too, says_it one.vertex too (Err one.class) has))

    pub prints_too : QueryEnds prints run outcome → PrintsOver prints run first outcome
    prints_too (bad_main place misread none text) = absurd (misread_or_main _ _ _ misread says)
    prints_too (bad_sums main report is misread none text) = absurd (misread_or_sums _ _ _ (rw sums at misread) found.read.sums)
    prints_too (device main t name are due one text) = absurd (let names : name ∷ [] ≡ [] = sym one ∙ sound in cc names)
    prints_too (too_many main t are read many none text) =
        absurd (not_many t are.sums (rw (one_main run.file _ _ are.main_file says) at many))
    prints_too (faulty main t one others is text) =
        let fault = (is.faults_are.each one).0 (member_head one others) in
        absurd (not_faulty t is.read.sums _ (subst (λ (m : Main). IsFault (run_of m t run.answers.asked) one)
        (one_main _ _ _ is.read.main_file says) fault))
    prints_too (no_fault main t is shows) =
        subst (λ (m : Main). PrintsOver prints run m outcome) (one_main run.file main first is.read.main_file says) (t, is, shows)
