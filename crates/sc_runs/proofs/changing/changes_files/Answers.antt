use Rattle.std.proofs.Common.{◌++◌, ◌∷◌, []}
use Rattle.sc_intake.specs.declared.fault.Source.TheVariants as input
use Rattle.sc_report.specs.Watched.{device_of}
use Rattle.sc_steps.specs.Inputs.{opening_turns, turn_of}
use Rattle.sc_steps.specs.Steps.{texts_of}
use Rattle.sc_runs.proofs.Changes.{ChangesFiles-read}
use Rattle.sc_runs.proofs.changing.changes_files.Goals as goal

pub returns-clause-change : goal.returns-clause-change
returns-clause-change g c =
    let turns = opening_turns g.R.Read.remaining c.args.opening.now c.read_inputs.new.opening ++ turn_of g.R.Read.remaining input.Journal c.args.journal.now c.read_inputs.new.last ∷ [] in
    ChangesFiles-read c.args.since c.args.seed.now turns (texts_of c.in-Ok.texts.opening) c.in-Ok.texts.last.items
    c.as_slices.result.schools.now c.as_slices.result.roster.now c.as_slices.result.lists.now c.as_slice.result.now
    (g.W.Write.contents (device_of c.args.out.now)) (g.W.Write.contents (device_of c.change_texts.new.out)) c.change_texts.result
    c.in-Ok.ensures.read (record { schools_same = c.as_slices.ensures.schools; roster_same = c.as_slices.ensures.roster; lists_same = c.as_slices.ensures.lists })
    c.as_slice.ensures.value c.change_texts.ensures.bytes
