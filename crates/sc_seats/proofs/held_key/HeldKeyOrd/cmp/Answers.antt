use Rattle.std.proofs.Common.{arith}
use Rattle.std.proofs.lemmas.Bool.Decides.{nat_tests}
use Rattle.sc_seats.proofs.held_key.HeldKeyOrd.cmp.Goals as goal

pub returns-in_default : goal.returns-in_default
returns-in_default c =
    rw (← c.self.view_is, ← c.other.view_is) (grind (arith, nat_tests, c.cmp.ensures, c.self.invariant, c.other.invariant, c.in_default.not-Equal))
