use Rattle.std.proofs.Common.{◌≡◌, ◌==◌, [], length}
use Rattle.std.specs.List.{slice_split}
use Rattle.sc_lines.specs.Reading.{schools_after, words_left}
use Rattle.sc_lines.proofs.numbers.schools.Given as goal

abbrev pub invariant-words : goal.invariant-words
invariant-words l = schools_after [] (slice_split (λ c. c == 32) l.text) ≡ schools_after l.schools.items (words_left l.left)

abbrev pub decreases-words : goal.decreases-words
decreases-words l = length (words_left l.left)
