use Rattle.sc_papers.specs.Assignment.{assigned}
use Rattle.sc_tallies.proofs.Tallying.{tallies-length}
use Rattle.sc_papers.proofs.Students.{choice-known}
use Rattle.sc_audit.proofs.Tallying.{least-is_over, least-is_none}
use Rattle.sc_audit.proofs.checker.judge.Goals as goal

pub least_over-requires : goal.least_over-requires
least_over-requires c = tallies-length c.args.papers.now (assigned c.args.assignment.now) c.args.tallies.now c.requires.tallies

pub returns-in-Some : goal.returns-in-Some
returns-in-Some c = (
  c.requires.matching,
  least-is_over c.args.papers.now (assigned c.args.assignment.now) (λ i s given. choice-known c.args.papers.now c.students_len.ensures.well_formed i s (c.requires.matching i s given)) c.in-Some.school (c.in-Some.ensures (assigned c.args.assignment.now) c.requires.tallies),
)

pub returns-in-Some-first_block : goal.returns-in-Some-first_block
returns-in-Some-first_block c = (
  c.requires.matching,
  least-is_none c.args.papers.now (assigned c.args.assignment.now) (λ i s given. choice-known c.args.papers.now c.students_len.ensures.well_formed i s (c.requires.matching i s given)) (c.in_default.ensures (assigned c.args.assignment.now) c.requires.tallies),
  c.in-Some-first_block.ensures.block,
)

pub returns-in-None : goal.returns-in-None
returns-in-None c = record {
  matching = c.requires.matching;
  within_seats = least-is_none c.args.papers.now (assigned c.args.assignment.now) (λ i s given. choice-known c.args.papers.now c.students_len.ensures.well_formed i s (c.requires.matching i s given)) (c.in_default.ensures (assigned c.args.assignment.now) c.requires.tallies);
  unblocked = c.in-None.ensures.none;
}
