use Rattle.std.proofs.Common.{subst, rules, ◌∙◌, List}
use Rattle.sc_intake.specs.declared.fault.IntakeFault.{IntakeFault}
use Rattle.sc_checks.specs.Checks.{every_fault}
use Rattle.sc_checks.specs.FaultLines.{Files}
use Rattle.sc_report.specs.Watched.{device_of}
use Rattle.sc_runs.specs.Checking.{WritesFaults}
use Rattle.sc_runs.proofs.checking.check_texts.Goals as goal

pub returns-in-Ok : goal.returns-in-Ok
returns-in-Ok g c =
    let old = g.W.Write.contents (device_of c.args.out.now) in
    let new = g.W.Write.contents (device_of c.write_faults.new.out) in record {
      bytes = λ any.
          subst (λ (files : Files). WritesFaults files (every_fault any c.args.texts.schools.now c.args.texts.roster.now c.args.texts.lists.now c.args.script.now) old new c.write_faults.result)
          (c.new-lines.ensures.files ∙ c.files_of.ensures)
          (subst (λ (left : List IntakeFault). WritesFaults c.new-lines.result.files left old new c.write_faults.result)
          (c.new-lines.ensures.faults ∙ c.in-Ok.ensures any) c.write_faults.ensures.bytes);
      failed = search rules;
    }
