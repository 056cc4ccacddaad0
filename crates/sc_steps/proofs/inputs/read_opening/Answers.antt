use Rattle.std.proofs.Common.{refl}
use Rattle.sc_intake.specs.declared.fault.Source.TheVariants as input
use Rattle.sc_steps.specs.Inputs.{turn_of}
use Rattle.sc_steps.proofs.Reading.{EndsAmong-third, TakesWithin-opening, TakesWithin-untouched}
use Rattle.sc_steps.proofs.inputs.read_opening.Goals as goal

pub returns-in-Err-clause-limit : goal.returns-in-Err-clause-limit
returns-in-Err-clause-limit g c =
    let old = c.args.opening.now in
    let roster = turn_of g.R.Read.remaining input.Roster old.roster old.roster in
    let lists = turn_of g.R.Read.remaining input.Lists old.lists old.lists in
    TakesWithin-opening (turn_of g.R.Read.remaining input.Schools old.schools c.read_input.new.from) roster lists
    c.in-Err.ensures.limit (TakesWithin-untouched roster (refl, refl)) (TakesWithin-untouched lists (refl, refl))

pub returns-in-Err-read_input-clause-limit : goal.returns-in-Err-read_input-clause-limit
returns-in-Err-read_input-clause-limit g c =
    let old = c.args.opening.now in
    let lists = turn_of g.R.Read.remaining input.Lists old.lists old.lists in
    TakesWithin-opening (turn_of g.R.Read.remaining input.Schools old.schools c.read_input.new.from)
    (turn_of g.R.Read.remaining input.Roster old.roster c.read_input-2.new.from) lists
    c.in-Ok.ensures.limit c.in-Err-read_input.ensures.limit (TakesWithin-untouched lists (refl, refl))

pub returns-in-Err-read_input-2-clause-ended : goal.returns-in-Err-read_input-2-clause-ended
returns-in-Err-read_input-2-clause-ended g c =
    let old = c.args.opening.now in
    EndsAmong-third (turn_of g.R.Read.remaining input.Schools old.schools c.read_input.new.from)
    (turn_of g.R.Read.remaining input.Roster old.roster c.read_input-2.new.from)
    (turn_of g.R.Read.remaining input.Lists old.lists c.read_input-3.new.from)
    c.in-Ok.schools.items c.in-Ok-read_input.roster.items c.in-Err-read_input-2.fault
    c.in-Ok.ensures.read c.in-Ok-read_input.ensures.read c.in-Err-read_input-2.ensures.ended

pub returns-in-Err-read_input-2-clause-limit : goal.returns-in-Err-read_input-2-clause-limit
returns-in-Err-read_input-2-clause-limit g c =
    let old = c.args.opening.now in
    TakesWithin-opening (turn_of g.R.Read.remaining input.Schools old.schools c.read_input.new.from)
    (turn_of g.R.Read.remaining input.Roster old.roster c.read_input-2.new.from)
    (turn_of g.R.Read.remaining input.Lists old.lists c.read_input-3.new.from)
    c.in-Ok.ensures.limit c.in-Ok-read_input.ensures.limit c.in-Err-read_input-2.ensures.limit

pub returns-clause-limit : goal.returns-clause-limit
returns-clause-limit g c =
    let old = c.args.opening.now in
    TakesWithin-opening (turn_of g.R.Read.remaining input.Schools old.schools c.read_input.new.from)
    (turn_of g.R.Read.remaining input.Roster old.roster c.read_input-2.new.from)
    (turn_of g.R.Read.remaining input.Lists old.lists c.read_input-3.new.from)
    c.in-Ok.ensures.limit c.in-Ok-read_input.ensures.limit c.in-Ok-read_input-2.ensures.limit
