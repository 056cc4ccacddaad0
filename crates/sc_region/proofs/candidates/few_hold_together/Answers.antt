use Rattle.std.proofs.Common.{◌≡◌, subst, ℕ, List, arith}
use Rattle.std.specs.Prelude.{slice_index}
use Rattle.sc_region.proofs.candidates.few_hold_together.Goals as goal

pub hold_together-requires-clause-schools : goal.hold_together-requires-clause-schools
hold_together-requires-clause-schools c at among = omega (arith, c.requires.schools at among, c.in_ok-groups.ensures.one_each)

pub returns : goal.returns
returns c held = record {
  few = c.args.few.now;
  within = c.requires.within;
  together = λ at among.
      let start = c.args.start in
      subst (λ (gs : List ℕ). slice_index gs at ≡ slice_index gs start) c.in_ok-groups.ensures.joined (c.hold_together.ensures held at among);
}
