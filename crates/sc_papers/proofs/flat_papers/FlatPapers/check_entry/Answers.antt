use Rattle.std.proofs.Common.{ℕ, List, ap, sym, ◌∙◌}
use Rattle.sc_papers.specs.Verdict.{first_of, objections_to_enter, unless_refused}
use Rattle.sc_papers.proofs.EnteringAt.{failed-refusal}
use Rattle.sc_papers.proofs.flat_papers.FlatPapers.check_entry.Goals as goal

pub returns-in_err-check_enter-clause-refused : goal.returns-in_err-check_enter-clause-refused
returns-in_err-check_enter-clause-refused c =
    let m = c.args.self.now in
    let student = c.args.student.now in
    failed-refusal c.from_residual.result
    (first_of (objections_to_enter m c.args.number student.siblings student.choices student.continuing)) c.in_err-check_enter.field-0.0
    c.from_residual.ensures.1
    (sym c.in_err-check_enter.was ∙ c.check_enter.ensures
    ∙ ap (λ (siblings : List ℕ). unless_refused (first_of (objections_to_enter m c.args.number siblings c.as_slice-2.result.now student.continuing))) c.as_slice.ensures
    ∙ ap (λ (choices : List ℕ). unless_refused (first_of (objections_to_enter m c.args.number student.siblings choices student.continuing))) c.as_slice-2.ensures)
