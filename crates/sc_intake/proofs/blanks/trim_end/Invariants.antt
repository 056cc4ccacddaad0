-- The bytes passed are blanks: without them the rest trims as the whole does.
use Rattle.std.proofs.Common.{◌≡◌, ◌≤◌, length, reverse, take}
use Rattle.sc_intake.specs.Blanks.{is_blank, trim_start}
use Rattle.sc_intake.proofs.blanks.trim_end.Given as goal

abbrev pub invariant-back : goal.invariant-back
invariant-back l = record {
  within : l.end ≤ length l.text;
  rest : trim_start (is_blank l.blanks) (reverse (take l.end l.text)) ≡ trim_start (is_blank l.blanks) (reverse l.text);
}

abbrev pub decreases-back : goal.decreases-back
decreases-back l = l.end
