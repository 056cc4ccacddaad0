use Rattle.std.proofs.Common.{inl, inr, subst, Contains, arith}
use Rattle.std.proofs.lemmas.List.Elements.{Contains-push_cases}
use Rattle.std.proofs.lemmas.Map.Entries.{length-keys_of}
use Rattle.sc_region.proofs.candidates.spread_positions.Goals as goal

pub step-preserved : goal.step-preserved
step-preserved c p among = elim (Contains-push_cases c.step.positions.items c.step.position p (subst (λ xs. Contains xs p) c.in_ok-push.ensures.items among)) [
  | inl earlier ↦ c.step.invariant p earlier
  | inr same ↦ omega (arith, same, c.step-test.true)
]

pub returns : goal.returns
returns c p among = omega (arith, c.step.invariant p among, c.students_len-students.ensures.count, length-keys_of c.args.papers.now.students)
