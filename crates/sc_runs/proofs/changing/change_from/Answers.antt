use Rattle.std.proofs.Common.{refl, rules, Err, Ok}
use Rattle.sc_repair.specs.Standing.{matching_of}
use Rattle.sc_report.specs.Watched.{device_of}
use Rattle.sc_notices.specs.ChangesText.{changes_text}
use Rattle.sc_steps.specs.Steps.{papers_held}
use Rattle.sc_runs.specs.Steps.{IsChangeFrom}
use Rattle.sc_runs.proofs.Changes.{told-standing}
use Rattle.sc_runs.proofs.changing.change_from.Goals as goal

pub returns-in-Ok : goal.returns-in-Ok
returns-in-Ok g c = record {
  bytes = λ m a are hold.
      told-standing (IsChangeFrom m a) (papers_held c.args.seed.now c.args.texts) c.args.journal.now c.in_ok-clearing.clearing.standing.papers c.in_ok-clearing.tail
      (changes_text m a c.in_ok-clearing.clearing.standing.papers (matching_of c.in_ok-clearing.clearing.standing))
      (g.W.Write.contents (device_of c.args.out.now)) (g.W.Write.contents (device_of c.write_changes.new.out))
      c.in_ok-clearing.ensures.stands (matching_of c.in_ok-clearing.clearing.standing, c.in_ok-clearing.ensures.certified.optimal, refl)
      (Ok tt) (c.in-Ok.ensures.bytes m a are hold);
  failed = search rules;
}

pub returns : goal.returns
returns g c = record {
  bytes = λ m a are hold.
      told-standing (IsChangeFrom m a) (papers_held c.args.seed.now c.args.texts) c.args.journal.now c.in_ok-clearing.clearing.standing.papers c.in_ok-clearing.tail
      (changes_text m a c.in_ok-clearing.clearing.standing.papers (matching_of c.in_ok-clearing.clearing.standing))
      (g.W.Write.contents (device_of c.args.out.now)) (g.W.Write.contents (device_of c.write_changes.new.out))
      c.in_ok-clearing.ensures.stands (matching_of c.in_ok-clearing.clearing.standing, c.in_ok-clearing.ensures.certified.optimal, refl)
      (Err c.in-Err.fault) (c.in-Err.ensures.bytes m a are hold);
  failed = search rules;
}
