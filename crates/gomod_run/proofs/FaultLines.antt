-- The text of a report determines its faults.
use Rattle.std.proofs.Common.{codes, ap₂, append_assoc, arith, refl}
use Rattle.gm_syntax_words.specs.Lines.{HasNoLineFeed}
use Rattle.gm_graph.specs.declared.fault.Fault.{Fault}
use Rattle.gm_graph.specs.Private.Gathering.{fault}
use Rattle.gomod_texts.specs.PrintedLines.{HasLines, IsProperFault, LineIsOfOne, LineSaysOne, TextSaysAll, fault_text}
use Rattle.gomod_texts.specs.Reports.{faults_text}
use Rattle.gomod_texts.specs.LineParts.{vertex_text}
use Rattle.gomod_run.proofs.ClassWords.{class_has_no_feed, says_class}
use Rattle.gomod_run.proofs.GraphLines.{IsApart, feed_is_apart, says_vertex, vertex_lacks}
use Rattle.gomod_run.proofs.ListLines.{both_lack, cut_at, found_line, lines_are, plain, text_says}

colon_is_apart : IsApart 58
colon_is_apart = record { at = λ e. omega (arith, e); path = refl; version = refl }

fault_has_no_feed : (one : Fault) → IsProperFault one → HasNoLineFeed (fault_text one)
fault_has_no_feed one proper =
    both_lack 10 _ _ (both_lack 10 _ _ (vertex_lacks 10 feed_is_apart _ (proper.0, proper.1)) (plain (codes ": ") refl))
    (class_has_no_feed _ proper.2)

pub says_fault : LineSaysOne Fault IsProperFault fault_text
says_fault one other p q e =
    let (vertex, class) = cut_at 58 (vertex_text one.vertex) (vertex_text other.vertex) _ _
    (vertex_lacks _ colon_is_apart _ (p.0, p.1)) (vertex_lacks _ colon_is_apart _ (q.0, q.1))
    (rw (append_assoc (vertex_text one.vertex), append_assoc (vertex_text other.vertex)) at e) in
    ap₂ fault (says_vertex _ _ (p.0, p.1) (q.0, q.1) vertex) (says_class _ _ p.2 q.2 (cc class))

pub report_has_lines : HasLines Fault IsProperFault fault_text faults_text
report_has_lines = lines_are fault_text fault_has_no_feed

pub text_says_faults : TextSaysAll Fault IsProperFault faults_text
text_says_faults = text_says _ faults_text report_has_lines says_fault

pub line_is_of_a_fault : LineIsOfOne Fault IsProperFault fault_text faults_text
line_is_of_a_fault = found_line fault_text faults_text report_has_lines says_fault
