use Rattle.std.proofs.Common.{◌≡◌, refl, ◌∙◌, Ok, arith}
use Rattle.std.specs.List.{range_with_len}
use Rattle.std.proofs.lemmas.Iterator.{items_from_collect, YieldsList-from_range}
use Rattle.sc_repair.proofs.InOrder.{first-made}
use Rattle.sc_repair.proofs.turns.Turns.first.Goals as goal

pub returns : goal.returns
returns c =
    let turns : c.in_ok-turns.turns.items ≡ range_with_len 0 c.args.count =
    items_from_collect {E = Unit {0}} (Ok c.in_ok-turns.turns) c.in_ok-turns.ensures.ran (YieldsList-from_range 0 c.args.count c.args.count refl (omega arith)) in
    (λ u. record { positions = c.in_ok-positions.ensures u; turns = turns u }) ∙ first-made c.args.count
