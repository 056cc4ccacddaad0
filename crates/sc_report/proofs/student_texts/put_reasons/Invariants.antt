-- The lines so far are those of the student's first rows, by whichever matching the endings were made.
use Rattle.std.proofs.Common.{◌≡◌, ◌*◌, ◌+◌, ◌++◌, ◌≤◌, flat_map, length, take}
use Rattle.sc_papers.specs.Matching.{Matching}
use Rattle.sc_reasons.specs.Cutoff.{rows_in_order}
use Rattle.sc_reasons.specs.Entrants.{Holds}
use Rattle.sc_reasons.specs.Reason.{reasons_of}
use Rattle.sc_report.specs.Endings.{HaveEndings}
use Rattle.sc_report.specs.ReasonText.{reason_line}
use Rattle.sc_report.proofs.student_texts.put_reasons.Given as goal

abbrev pub invariant-loop-choice : goal.invariant-loop-choice
invariant-loop-choice l = record {
  text : (a : Matching) → HaveEndings (rows_in_order l.papers a) l.endings → Holds a l.entrant
      → take l.end l.over ≡ take l.at l.initial.over ++ flat_map reason_line (take l.choice-index (reasons_of l.papers a l.entrant.student));
  room : length l.over ≡ length l.initial.over;
  end : l.end ≤ l.at + 32 * l.choice-index;
  low : l.choice-index ≤ 20;
}
