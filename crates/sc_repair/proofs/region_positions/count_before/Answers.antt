use Rattle.std.proofs.Common.{arith}
use Rattle.sc_repair.proofs.Rising.{rising-less, rising-most, search-finds, search-parts}
use Rattle.sc_repair.proofs.region_positions.count_before.Goals as goal

pub returns-in-Ok-clause-before : goal.returns-in-Ok-clause-before
returns-in-Ok-clause-before c = λ k few.
    let (low, is) = search-finds c.args.positions.now c.args.from c.in-Ok.count c.requires c.in-Ok.ensures.position in
    omega (arith, rising-less c.args.positions.now k c.in-Ok.count c.requires few low, is)

pub returns-in-Ok-clause-rest : goal.returns-in-Ok-clause-rest
returns-in-Ok-clause-rest c = λ k past within.
    let (low, is) = search-finds c.args.positions.now c.args.from c.in-Ok.count c.requires c.in-Ok.ensures.position in
    omega (arith, rising-most c.args.positions.now c.requires c.in-Ok.count k past within, is)

pub returns-in-Err-clause-before : goal.returns-in-Err-clause-before
returns-in-Err-clause-before c = (search-parts c.args.positions.now c.args.from c.in-Err.count c.requires c.in-Err.ensures.position).1

pub returns-in-Err-clause-rest : goal.returns-in-Err-clause-rest
returns-in-Err-clause-rest c = λ k past within.
    let (fits, before, after) = search-parts c.args.positions.now c.args.from c.in-Err.count c.requires c.in-Err.ensures.position in
    omega (arith, after k past within)
