use Rattle.std.proofs.Common.{◌++◌, ◌∷◌, []}
use Rattle.sc_intake.specs.declared.fault.Source.TheVariants as input
use Rattle.sc_report.specs.Watched.{device_of}
use Rattle.sc_steps.specs.Inputs.{opening_turns, turn_of}
use Rattle.sc_steps.specs.Opening.{opening_in}
use Rattle.sc_steps.specs.Steps.{texts_of}
use Rattle.sc_runs.proofs.Calls.{is-reading, RunsFiles-read}
use Rattle.sc_runs.proofs.running.run.Goals as goal

pub run_read-requires : goal.run_read-requires
run_read-requires g c = (_, is-reading _ c.read_kept-read.result c.read_kept-read.ensures)

pub returns-clause-writes : goal.returns-clause-writes
returns-clause-writes g c =
    let turns = opening_turns g.R.Read.remaining c.args.inputs.now.opening c.read_inputs.new.opening ++ turn_of g.R.Read.remaining input.Script c.args.inputs.now.script c.read_inputs.new.last ∷ [] in
    let texts = texts_of c.in-Ok.texts.opening in
    RunsFiles-read c.args.seed.now turns texts c.in-Ok.texts.last.items c.as_slice.result.now
    (record { journal = g.J.Write.contents (device_of c.args.journal.now); output = g.W.Write.contents (device_of c.args.out.now) })
    (record { journal = g.J.Write.contents (device_of c.run_read.new.journal); output = g.W.Write.contents (device_of c.run_read.new.out) }) c.run_read.result
    c.in-Ok.ensures.read c.as_slice.ensures.value
    (c.run_read.ensures.writes (opening_in c.args.seed.now texts) (is-reading (opening_in c.args.seed.now texts) c.read_kept-read.result c.read_kept-read.ensures))
