-- The line of each key so far was added.
use Rattle.std.proofs.Common.{◌≡◌, ◌++◌, take}
use Rattle.std.specs.List.{enumerate_from}
use Rattle.std.specs.Prelude.{flat_map}
use Rattle.sc_notices.specs.AdmissionsText.{place_line}
use Rattle.sc_notices.proofs.admissions.push_list.Given as goal

abbrev pub invariant-loop-rank : goal.invariant-loop-rank
invariant-loop-rank l = l.text.items ≡ l.initial.text.items ++ flat_map (λ place. place_line l.status l.school place.0 place.1) (take l.rank (enumerate_from 0 l.keys))
