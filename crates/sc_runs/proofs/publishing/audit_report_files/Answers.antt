use Rattle.std.proofs.Common.{◌++◌, ◌∷◌, []}
use Rattle.sc_intake.specs.declared.fault.Source.TheVariants as input
use Rattle.sc_report.specs.Watched.{device_of}
use Rattle.sc_steps.specs.Inputs.{opening_turns, turn_of}
use Rattle.sc_steps.specs.Steps.{texts_of}
use Rattle.sc_runs.proofs.Findings.{AuditsReport-read}
use Rattle.sc_runs.proofs.publishing.audit_report_files.Goals as goal

pub returns-clause-finding : goal.returns-clause-finding
returns-clause-finding g c =
    let turns = opening_turns g.R.Read.remaining c.args.opening.now c.read_inputs.new.opening ++ turn_of g.R.Read.remaining input.Log c.args.log.now c.read_inputs.new.last ∷ [] in
    let report = turn_of g.R.Read.remaining input.Report c.args.report.now c.audit_texts.new.report in
    AuditsReport-read c.args.seed.now turns report (texts_of c.in-Ok.texts.opening) c.in-Ok.texts.last.items
    c.as_slice.result.now
    (g.W.Write.contents (device_of c.args.out.now)) (g.W.Write.contents (device_of c.audit_texts.new.out)) c.audit_texts.result
    c.in-Ok.ensures.read
    c.as_slice.ensures.value c.audit_texts.ensures.bytes
