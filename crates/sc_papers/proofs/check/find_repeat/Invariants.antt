use Rattle.std.proofs.Common.{◌≡◌, [], take, drop}
use Rattle.sc_papers.specs.Verdict.{first_repeat}
use Rattle.sc_papers.proofs.check.find_repeat.Given as goal

abbrev pub invariant-loop-place : goal.invariant-loop-place
invariant-loop-place l = first_repeat [] l.list ≡ first_repeat (take l.place l.list) (drop l.place l.list)
