use Rattle.std.proofs.Common.{◌++◌, ◌∷◌, []}
use Rattle.sc_intake.specs.declared.fault.Source.TheVariants as input
use Rattle.sc_report.specs.Watched.{device_of}
use Rattle.sc_steps.specs.Inputs.{opening_turns, turn_of}
use Rattle.sc_steps.specs.Steps.{texts_of}
use Rattle.sc_runs.proofs.Calls.{AuditsFiles-read}
use Rattle.sc_runs.proofs.auditing.audit_files.Goals as goal

pub returns-clause-verdict : goal.returns-clause-verdict
returns-clause-verdict g c =
    let turns = opening_turns g.R.Read.remaining c.args.opening.now c.read_inputs.new.opening ++ turn_of g.R.Read.remaining input.Log c.args.log.now c.read_inputs.new.last ∷ [] in
    AuditsFiles-read c.args.seed.now turns (texts_of c.in-Ok.texts.opening) c.in-Ok.texts.last.items
    c.as_slice.result.now
    (g.W.Write.contents (device_of c.args.out.now)) (g.W.Write.contents (device_of c.audit_texts.new.out)) c.audit_texts.result
    c.in-Ok.ensures.read
    c.as_slice.ensures.value c.audit_texts.ensures.bytes
