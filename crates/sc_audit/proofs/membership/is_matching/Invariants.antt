use Rattle.sc_audit.proofs.Listing.{ListedFirst}
use Rattle.sc_audit.proofs.membership.is_matching.Given as goal

abbrev pub invariant-loop-position : goal.invariant-loop-position
invariant-loop-position l = ListedFirst l.papers l.assignment l.position
