use Rattle.std.proofs.Common.{◌++◌}
use Rattle.sc_intake.specs.declared.fault.Source.TheVariants as input
use Rattle.sc_checks.specs.Representation.{names_view}
use Rattle.sc_report.specs.Watched.{device_of, has_failed}
use Rattle.sc_steps.specs.Inputs.{opening_turns, turns_if_any}
use Rattle.sc_steps.specs.Steps.{texts_of}
use Rattle.sc_runs.specs.declared.checking.Checked.{Checked}
use Rattle.sc_runs.proofs.Checks.{ChecksFiles-read}
use Rattle.sc_runs.proofs.Standings.{unfailed-unread}
use Rattle.sc_runs.proofs.checking.check_files.Goals as goal

pub returns-in-Err-clause-failed : goal.returns-in-Err-clause-failed
returns-in-Err-clause-failed g c =
    unfailed-unread Checked (has_failed c.args.out.now)
    (opening_turns g.R.Read.remaining c.args.opening.now c.read_opening_and.new.opening ++ turns_if_any g.R.Read.remaining input.Script c.args.script.now c.read_opening_and.new.last)
    c.in-Err.fault c.in-Err.ensures.ended

pub returns-clause-checked : goal.returns-clause-checked
returns-clause-checked g c =
    ChecksFiles-read (names_view c.args.names.now)
    (opening_turns g.R.Read.remaining c.args.opening.now c.read_opening_and.new.opening) (turns_if_any g.R.Read.remaining input.Script c.args.script.now c.read_opening_and.new.last)
    (texts_of c.in-Ok.texts.opening) c.in-Ok.texts.last.items
    c.as_slices.result.schools.now c.as_slices.result.roster.now c.as_slices.result.lists.now c.as_slice.result.now
    (g.W.Write.contents (device_of c.args.out.now)) (g.W.Write.contents (device_of c.check_texts.new.out)) c.check_texts.result
    c.in-Ok.ensures.read c.in-Ok.ensures.last (record { schools_same = c.as_slices.ensures.schools; roster_same = c.as_slices.ensures.roster; lists_same = c.as_slices.ensures.lists })
    c.as_slice.ensures.value c.check_texts.ensures.bytes
