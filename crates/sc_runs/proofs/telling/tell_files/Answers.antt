use Rattle.std.proofs.Common.{◌++◌, rules}
use Rattle.sc_journal.specs.declared.journal.Tail.{Tail}
use Rattle.sc_report.specs.Watched.{device_of, has_failed}
use Rattle.sc_steps.specs.Inputs.{opening_turns}
use Rattle.sc_steps.specs.Steps.{texts_of}
use Rattle.sc_runs.specs.Standing.{journal_turns, WritesOfStanding}
use Rattle.sc_runs.proofs.Standings.{TellsFiles-read, unfailed-unread}
use Rattle.sc_runs.proofs.telling.tell_files.Goals as goal
use Rattle.sc_runs.specs.Steps.{IsStandingText}

pub returns-in-Err-clause-told : goal.returns-in-Err-clause-told
returns-in-Err-clause-told g c = record {
  bytes = search rules;
  failed =
      unfailed-unread Tail (has_failed c.args.out.now)
      (opening_turns g.R.Read.remaining c.args.opening.now c.read_opening_and.new.opening ++ journal_turns g.R.Read.remaining c.args.journal.now c.read_opening_and.new.last)
      c.in-Err.fault c.in-Err.ensures.ended;
}

pub returns-clause-told : goal.returns-clause-told
returns-clause-told g c = record {
  bytes =
      TellsFiles-read (WritesOfStanding (IsStandingText c.args.which)) c.args.seed.now
      (opening_turns g.R.Read.remaining c.args.opening.now c.read_opening_and.new.opening) (journal_turns g.R.Read.remaining c.args.journal.now c.read_opening_and.new.last)
      (texts_of c.in-Ok.texts.opening) c.in-Ok.texts.last.items
      c.as_slices.result.schools.now c.as_slices.result.roster.now c.as_slices.result.lists.now c.as_slice.result.now
      (g.W.Write.contents (device_of c.args.out.now)) (g.W.Write.contents (device_of c.tell_texts.new.out)) c.tell_texts.result
      c.in-Ok.ensures.read c.in-Ok.ensures.last (record { schools_same = c.as_slices.ensures.schools; roster_same = c.as_slices.ensures.roster; lists_same = c.as_slices.ensures.lists })
      c.as_slice.ensures.value c.tell_texts.ensures.bytes;
  failed = c.tell_texts.ensures.failed;
}
