-- The lines so far are those of the first students, by whichever matching the endings were made.
use Rattle.std.proofs.Common.{◌≡◌, ◌++◌, ◌≤◌, codes, length, take, true, All}
use Rattle.std.specs.Prelude.{flat_map}
use Rattle.sc_papers.specs.Matching.{Matching}
use Rattle.sc_reasons.specs.Cutoff.{rows_in_order}
use Rattle.sc_reasons.specs.Entrants.{Holds}
use Rattle.sc_reasons.specs.Reason.{reasons_of}
use Rattle.sc_report.specs.Pages.{text_so_far}
use Rattle.sc_report.specs.ReasonText.{reason_line}
use Rattle.sc_report.specs.Text.{assignment_line}
use Rattle.sc_report.proofs.student_texts.student_texts.Given as goal

abbrev pub invariant-loop-entrant : goal.invariant-loop-entrant
invariant-loop-entrant l = record {
  assignment : (a : Matching) → l.rows ≡ rows_in_order l.papers a → All (Holds a) l.entrants
      → text_so_far l.assignment ++ take l.placed_end l.placed ≡ codes "student,school\n" ++ flat_map (λ entrant. assignment_line a entrant.student) (take l.entrant-index l.entrants);
  reasons : l.with_reasons ≡ true → (a : Matching) → l.rows ≡ rows_in_order l.papers a → All (Holds a) l.entrants
      → text_so_far l.reasons ++ take l.told_end l.told ≡ codes "student,school,reason\n" ++ flat_map (λ entrant. flat_map reason_line (reasons_of l.papers a entrant.student)) (take l.entrant-index l.entrants);
  placed_room : length l.placed ≡ 1920;
  told_room : length l.told ≡ 1920;
  placed_low : l.placed_end ≤ 1280;
  told_low : l.told_end ≤ 1280;
}
