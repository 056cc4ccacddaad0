use Rattle.std.proofs.Common.{◌≡◌, ◌≢◌, ℕ, List, Option, None, Some, Result, false, Ok, Err, ap, subst, sym, ◌∙◌}
use Rattle.std.specs.Option.{option_copied}
use Rattle.sc_report.specs.Watched.{device_of}
use Rattle.sc_steps.specs.Failing.{is_journal_fault}
use Rattle.sc_steps.specs.Opening.{papers_in}
use Rattle.sc_steps.specs.declared.fault.RunFault.{RunFault}
use Rattle.sc_steps.specs.declared.fault.RunFault.TheVariants.{Read, Intake, Journal, WriteOut, WriteJournal, OutOfMemory}
use Rattle.sc_steps.proofs.Openings.{Keeps-refl}
use Rattle.sc_runs.specs.Bundle.{bundle_of, sections_of}
use Rattle.sc_runs.specs.BundleRun.{EndsBundle, RunsSections, WritesWith}
use Rattle.sc_runs.specs.Steps.{ending_of}
use Rattle.sc_runs.specs.declared.ending.Ending.TheVariants.{Fault}
use Rattle.sc_runs.proofs.Calls.{is-reading}
use Rattle.sc_runs.proofs.bundle_run.run_text.Goals as goal

-- a run that no journal ended does not end as one
not-by_journal : (fault : RunFault) → is_journal_fault {A = Unit {0}} (Err fault) ≡ false → Fault fault ≢ Fault WriteJournal
not-by_journal (Read source) is = λ same. cc
not-by_journal (Intake fault) is = λ same. cc
not-by_journal (Journal fault) is = λ same. cc
not-by_journal WriteOut is = λ same. cc
not-by_journal WriteJournal is = λ same. cc
not-by_journal OutOfMemory is = λ same. cc

-- sections that were run under their seed end the bundle so
ends-bundle : (text : List ℕ) (old new : Option (List ℕ)) (done : Result (Unit {0}) RunFault) → RunsSections text old new done → EndsBundle text old new (ending_of done)
ends-bundle text old new (Ok end) runs = runs
ends-bundle text old new (Err fault) runs = runs

-- no journal ended what no journal failed in
no-journal : (done : Result (Unit {0}) RunFault) → is_journal_fault done ≡ false → ending_of done ≢ Fault WriteJournal
no-journal (Ok end) is = λ same. cc
no-journal (Err fault) is = not-by_journal fault is

pub returns-in-Err-clause-ending : goal.returns-in-Err-clause-ending
returns-in-Err-clause-ending g c =
    (sections_of c.in-Some.bundle, ap bundle_of (sym c.as_slice.ensures.value) ∙ sym c.in-Some.ensures, sym c.in-Err.ensures, Keeps-refl _)

pub returns-in-Some-script-clause-ending : goal.returns-in-Some-script-clause-ending
returns-in-Some-script-clause-ending g c =
    let sections = sections_of c.in-Some.bundle in
    let script : sections.script ≡ Some c.in-Some-script.script.now = ap option_copied c.in-Some-script.is in
    let texts = c.opening_of-opening.ensures in
    let old = g.W.Write.contents (device_of c.args.out.now) in
    let new = g.W.Write.contents (device_of c.run_read-done.new.out) in
    subst (EndsBundle c.args.text.items old new) (sym c.ending_of.ensures)
    (ends-bundle c.args.text.items old new c.run_read-done.result (record {
      sections = sections;
      seed = c.in-Ok.seed;
      split = ap bundle_of (sym c.as_slice.ensures.value) ∙ sym c.in-Some.ensures;
      seeded = sym c.in-Ok.ensures;
      written = subst (λ (script : Option (List ℕ)). WritesWith script (papers_in c.in-Ok.seed sections.schools sections.roster sections.lists) old new c.run_read-done.result) (sym script)
          (c.run_read-done.ensures.writes _ (rw (← texts.schools) (rw (← texts.roster) (rw (← texts.lists) (is-reading _ c.read_papers-read.result c.read_papers-read.ensures)))));
    }))

pub run_read-done-requires : goal.run_read-done-requires
run_read-done-requires g c = (_, is-reading _ c.read_papers-read.result c.read_papers-read.ensures)

pub report_read-requires : goal.report_read-requires
report_read-requires g c = (_, is-reading _ c.read_flat-read.result c.read_flat-read.ensures)

pub returns-clause-ending : goal.returns-clause-ending
returns-clause-ending g c =
    let sections = sections_of c.in-Some.bundle in
    let script : sections.script ≡ None = ap option_copied c.in_default-script.is in
    let texts = c.opening_of-opening.ensures in
    let old = g.W.Write.contents (device_of c.args.out.now) in
    let new = g.W.Write.contents (device_of c.report_read.new.out) in
    subst (EndsBundle c.args.text.items old new) (sym c.ending_of-2.ensures)
    (ends-bundle c.args.text.items old new c.report_read.result (record {
      sections = sections;
      seed = c.in-Ok.seed;
      split = ap bundle_of (sym c.as_slice.ensures.value) ∙ sym c.in-Some.ensures;
      seeded = sym c.in-Ok.ensures;
      written = subst (λ (script : Option (List ℕ)). WritesWith script (papers_in c.in-Ok.seed sections.schools sections.roster sections.lists) old new c.report_read.result) (sym script)
          (c.report_read.ensures.report.bytes _ (rw (← texts.schools) (rw (← texts.roster) (rw (← texts.lists) (is-reading _ c.read_flat-read.result c.read_flat-read.ensures)))));
    }))
