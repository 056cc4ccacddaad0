use Rattle.std.proofs.Common.{◌≡◌, ℕ, ◌+◌, ◌-◌, get_or, length}
use Rattle.sc_papers.specs.declared.school_positions.TheConstants.{NO_POSITION}
use Rattle.sc_papers.proofs.school_positions.make_room.Given as goal

abbrev pub invariant-loop-by_number : goal.invariant-loop-by_number
invariant-loop-by_number l = (k : ℕ) → get_or l.by_number.items k NO_POSITION ≡ get_or l.fn.by_number.items k NO_POSITION

abbrev pub decreases-loop-by_number : goal.decreases-loop-by_number
decreases-loop-by_number l = l.number + 1 - length l.by_number.items
