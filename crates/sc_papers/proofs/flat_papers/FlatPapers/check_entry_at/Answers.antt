use Rattle.std.proofs.Common.{ℕ, List, ap, ◌∙◌}
use Rattle.sc_papers.specs.Entry.{objections_to_enter_at}
use Rattle.sc_papers.specs.Verdict.{first_of, unless_refused}
use Rattle.sc_papers.proofs.EnteringAt.{entry-tested}
use Rattle.sc_papers.proofs.flat_papers.FlatPapers.check_entry_at.Goals as goal

pub returns : goal.returns
returns c =
    let m = c.args.self.now in
    let student = c.args.student.now in
    let told = entry-tested m c.students_len.ensures.well_formed c.args.number student c.args.choices.now c.check_enter_at.result
    c.requires c.as_list.ensures.short c.as_list.ensures.once
    (c.check_enter_at.ensures
    ∙ ap (λ (siblings : List ℕ). unless_refused (first_of (objections_to_enter_at m c.args.number siblings c.as_list.result.now student.continuing))) c.as_slice.ensures
    ∙ ap (λ (list : List ℕ). unless_refused (first_of (objections_to_enter_at m c.args.number student.siblings list student.continuing))) c.as_list.ensures.list) in
    record { may = told.0; refused = told.1 }
