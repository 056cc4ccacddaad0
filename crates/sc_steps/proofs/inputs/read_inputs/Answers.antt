use Rattle.std.proofs.Common.{refl}
use Rattle.sc_steps.specs.Inputs.{in_order, opening_turns, turn_of}
use Rattle.sc_steps.proofs.Reading.{EndsAmong-last, EndsAmong-opening}
use Rattle.sc_steps.proofs.Reading.{AreRead-more, TakesWithin-more, TakesWithin-untouched}
use Rattle.sc_steps.proofs.inputs.read_inputs.Goals as goal
use Rattle.sc_steps.specs.Steps.{texts_of}

pub returns-in-Err-clause-ended : goal.returns-in-Err-clause-ended
returns-in-Err-clause-ended g c =
    let opening = opening_turns g.R.Read.remaining c.args.opening.now c.read_opening.new.opening in
    let last = turn_of g.R.Read.remaining c.args.source c.args.last.now c.args.last.now in
    EndsAmong-opening opening last c.in-Err.fault c.in-Err.ensures.ended (refl, refl)

pub returns-in-Err-clause-limit : goal.returns-in-Err-clause-limit
returns-in-Err-clause-limit g c =
    let opening = opening_turns g.R.Read.remaining c.args.opening.now c.read_opening.new.opening in
    let last = turn_of g.R.Read.remaining c.args.source c.args.last.now c.args.last.now in
    TakesWithin-more opening last c.in-Err.ensures.limit (TakesWithin-untouched last (refl, refl))

pub returns-in-Err-read_input-clause-ended : goal.returns-in-Err-read_input-clause-ended
returns-in-Err-read_input-clause-ended g c =
    let opening = opening_turns g.R.Read.remaining c.args.opening.now c.read_opening.new.opening in
    let last = turn_of g.R.Read.remaining c.args.source c.args.last.now c.read_input.new.from in
    EndsAmong-last opening last (in_order (texts_of c.in-Ok.opening)) c.in-Err-read_input.fault c.in-Ok.ensures.read c.in-Err-read_input.ensures.ended

pub returns-in-Err-read_input-clause-limit : goal.returns-in-Err-read_input-clause-limit
returns-in-Err-read_input-clause-limit g c =
    let opening = opening_turns g.R.Read.remaining c.args.opening.now c.read_opening.new.opening in
    let last = turn_of g.R.Read.remaining c.args.source c.args.last.now c.read_input.new.from in
    TakesWithin-more opening last c.in-Ok.ensures.limit c.in-Err-read_input.ensures.limit

pub returns-in-Ok-read_input-clause-read : goal.returns-in-Ok-read_input-clause-read
returns-in-Ok-read_input-clause-read g c =
    let opening = opening_turns g.R.Read.remaining c.args.opening.now c.read_opening.new.opening in
    let last = turn_of g.R.Read.remaining c.args.source c.args.last.now c.read_input.new.from in
    AreRead-more opening last (in_order (texts_of c.in-Ok.opening)) c.in-Ok-read_input.last.items c.in-Ok.ensures.read c.in-Ok-read_input.ensures.read

pub returns-in-Ok-read_input-clause-limit : goal.returns-in-Ok-read_input-clause-limit
returns-in-Ok-read_input-clause-limit g c =
    let opening = opening_turns g.R.Read.remaining c.args.opening.now c.read_opening.new.opening in
    let last = turn_of g.R.Read.remaining c.args.source c.args.last.now c.read_input.new.from in
    TakesWithin-more opening last c.in-Ok.ensures.limit c.in-Ok-read_input.ensures.limit
