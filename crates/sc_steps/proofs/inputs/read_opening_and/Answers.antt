use Rattle.std.proofs.lemmas.List.Elements.{All-append}
use Rattle.sc_steps.specs.Inputs.{in_order, opening_turns, turns_if_any, TakesWithin}
use Rattle.sc_steps.proofs.Reading.{EndsAmong-first, EndsAmong-later}
use Rattle.sc_steps.proofs.Reading.{any-untouched, TakesWithin-later}
use Rattle.sc_steps.proofs.inputs.read_opening_and.Goals as goal
use Rattle.sc_steps.specs.Steps.{texts_of}

pub returns-in-Err-clause-ended : goal.returns-in-Err-clause-ended
returns-in-Err-clause-ended g c =
    EndsAmong-first (opening_turns g.R.Read.remaining c.args.opening.now c.read_opening.new.opening) (turns_if_any g.R.Read.remaining c.args.source c.args.last.now c.args.last.now)
    c.in-Err.fault c.in-Err.ensures.ended (any-untouched g.R.Read.remaining c.args.source c.args.last.now)

pub returns-in-Err-clause-limit : goal.returns-in-Err-clause-limit
returns-in-Err-clause-limit g c =
    TakesWithin-later (opening_turns g.R.Read.remaining c.args.opening.now c.read_opening.new.opening) (turns_if_any g.R.Read.remaining c.args.source c.args.last.now c.args.last.now)
    c.in-Err.ensures.limit (any-untouched g.R.Read.remaining c.args.source c.args.last.now)

pub returns-in-Err-read_if_any-clause-ended : goal.returns-in-Err-read_if_any-clause-ended
returns-in-Err-read_if_any-clause-ended g c =
    EndsAmong-later (opening_turns g.R.Read.remaining c.args.opening.now c.read_opening.new.opening) (turns_if_any g.R.Read.remaining c.args.source c.args.last.now c.read_if_any.new.from)
    (in_order (texts_of c.in-Ok.opening)) c.in-Err-read_if_any.fault c.in-Ok.ensures.read c.in-Err-read_if_any.ensures.ended

pub returns-in-Err-read_if_any-clause-limit : goal.returns-in-Err-read_if_any-clause-limit
returns-in-Err-read_if_any-clause-limit g c =
    All-append TakesWithin (opening_turns g.R.Read.remaining c.args.opening.now c.read_opening.new.opening) (turns_if_any g.R.Read.remaining c.args.source c.args.last.now c.read_if_any.new.from)
    c.in-Ok.ensures.limit c.in-Err-read_if_any.ensures.limit

pub returns-in-Ok-read_if_any-clause-limit : goal.returns-in-Ok-read_if_any-clause-limit
returns-in-Ok-read_if_any-clause-limit g c =
    All-append TakesWithin (opening_turns g.R.Read.remaining c.args.opening.now c.read_opening.new.opening) (turns_if_any g.R.Read.remaining c.args.source c.args.last.now c.read_if_any.new.from)
    c.in-Ok.ensures.limit c.in-Ok-read_if_any.ensures.limit
