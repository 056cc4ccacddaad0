use Rattle.std.proofs.Common.{ap, sym, ◌∙◌}
use Rattle.std.specs.List.{slice_get}
use Rattle.std.proofs.lemmas.Option.{get_or_from_slice_get, none-some, slice_get-get_or}
use Rattle.sc_papers.proofs.Hands.{has-position, student-there}
use Rattle.sc_papers.proofs.Students.{choice-known}
use Rattle.sc_papers.specs.Market.{choices_of, is_school}
use Rattle.sc_region.specs.Groups.{first_choice}
use Rattle.sc_region.proofs.Joining.{choices-some, first-listed}
use Rattle.sc_region.proofs.reach.first_choice.Goals as goal

pub unreachable-requires : goal.unreachable-requires
unreachable-requires c = has-position c.args.papers.now c.args.student c.requires (sym c.in_default.is ∙ c.student_position.ensures)

pub unreachable-requires-in_default-choice_at : goal.unreachable-requires-in_default-choice_at
unreachable-requires-in_default-choice_at c =
    let m = c.args.papers.now in
    let i = c.args.student in
    let own = ap (choices_of m) (student-there m i c.in-Some.position (sym c.student_position.ensures ∙ c.in-Some.is)) in
    none-some (first_choice m i) (sym c.in_default-choice_at.is ∙ c.choice_at.ensures ∙ ap (λ list. slice_get list 0) own
    ∙ slice_get-get_or (choices_of m i) 0 0 (choices-some m c.students_len.ensures.well_formed i c.requires))

pub returns-clause-first : goal.returns-clause-first
returns-clause-first c =
    let m = c.args.papers.now in
    let i = c.args.student in
    let own = ap (choices_of m) (student-there m i c.in-Some.position (sym c.student_position.ensures ∙ c.in-Some.is)) in
    sym (get_or_from_slice_get (choices_of m i) 0 c.in-Some-choice_at.school 0 (ap (λ list. slice_get list 0) (sym own) ∙ sym c.choice_at.ensures ∙ c.in-Some-choice_at.is))

pub returns-clause-known : goal.returns-clause-known
returns-clause-known c =
    let m = c.args.papers.now in
    let i = c.args.student in
    let well = c.students_len.ensures.well_formed in
    ap (is_school m) (returns-clause-first c) ∙ choice-known m well i (first_choice m i) (first-listed m well i c.requires)
