use Rattle.std.proofs.Common.{ap, subst, ◌∙◌}
use Rattle.sc_papers.specs.Market.{students_of}
use Rattle.sc_repair.specs.Changed.{standing_of}
use Rattle.sc_repair.specs.Standing.{IsCertified}
use Rattle.sc_repair.proofs.clearing.Clearing.resume.Goals as goal

certified : (c : goal.In-Ok) → IsCertified (standing_of c.args.papers c.in-Ok.placed.places c.in-Ok.placed.segments c.in-Ok.placed.proposals)
certified c = subst (λ m. IsCertified (standing_of m c.in-Ok.placed.places c.in-Ok.placed.segments c.in-Ok.placed.proposals)) c.deref.ensures c.in-Ok.ensures.certified

pub invariant_of-settlement : goal.invariant_of-settlement
invariant_of-settlement c = record {
  certified = certified c;
  theirs = c.in-Ok.ensures.theirs ∙ ap students_of c.deref.ensures;
  ledgers = tt;
  districts = tt;
}

pub returns-clause-certified : goal.returns-clause-certified
returns-clause-certified c = certified c

pub returns-clause-optimal : goal.returns-clause-optimal
returns-clause-optimal c = (certified c).optimal
