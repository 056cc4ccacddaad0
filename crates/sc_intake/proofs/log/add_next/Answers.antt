use Rattle.std.proofs.Common.{◌≡◌, ◌+◌, length, refl, ap, ◌∙◌, rules, ℕ, Ok}
use Rattle.sc_intake.specs.Fault.{fault_at}
use Rattle.sc_intake.specs.Log.{next_rejection, rejection_of}
use Rattle.sc_intake.specs.Rows.{added}
use Rattle.sc_intake.specs.Tidy.{TakesRejection}
use Rattle.sc_intake.specs.declared.fault.Source.TheVariants.{Log}
use Rattle.sc_intake.proofs.RowLemmas.{row-end, row-fault, row-step}
use Rattle.sc_intake.proofs.log.add_next.Goals as goal

pub returns-in-Ok-clause-added : goal.returns-in-Ok-clause-added
returns-in-Ok-clause-added c =
    let log = c.args.log.now.items in
    let left = c.args.records.now.left in
    let taken : TakesRejection left c.tidy_rejection.new.records.left c.in-Some.found = search rules in
    let pushed : added log (rejection_of taken.fields) ≡ Ok c.push.new.self.items = rw taken.reads (search rules) in
    row-step 1 Log next_rejection _ log c.push.new.self.items left c.tidy_rejection.new.records.left taken.fields refl taken.next pushed

pub returns-then-not-branch-clause-added : goal.returns-then-not-branch-clause-added
returns-then-not-branch-clause-added c =
    let last = rw c.if-not-branch.true at c.in_ok-advance.ensures in
    let same = rw c.in_default.ensures.unchanged at last in
    row-end 1 Log next_rejection _ c.args.log.now.items c.args.records.now.left refl same

pub returns-in-Ok-add_rejection-clause-added : goal.returns-in-Ok-add_rejection-clause-added
returns-in-Ok-add_rejection-clause-added c =
    let next = rw c.if-not-branch.false at c.in_ok-advance.ensures in
    let same = rw c.in_default.ensures.unchanged at next in
    row-step 1 Log next_rejection _ c.args.log.now.items c.add_rejection.new.log.items c.args.records.now.left c.advance.new.self.left c.advance.new.self.current
    refl same c.in-Ok-add_rejection.ensures

pub returns-in-Err-add_rejection-clause-added : goal.returns-in-Err-add_rejection-clause-added
returns-in-Err-add_rejection-clause-added c =
    let log = c.args.log.now.items in
    let next = rw c.if-not-branch.false at c.in_ok-advance.ensures in
    let same = rw c.in_default.ensures.unchanged at next in
    let size : c.len.result + 1 ≡ length log + 1 = search rules in
    row-fault 1 Log next_rejection _ log c.args.records.now.left c.advance.new.self.left c.advance.new.self.current c.in-Err-add_rejection.cause c.at.result
    refl same c.in-Err-add_rejection.ensures
    (c.at.ensures ∙ ap (λ (n : ℕ). fault_at Log n c.in-Err-add_rejection.cause) size)
