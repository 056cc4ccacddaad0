use Rattle.std.proofs.Common.{◌≡◌, ◌∷◌, [], Ok, rules}
use Rattle.sc_intake.specs.Field.{as_school, as_student}
use Rattle.sc_intake.specs.Plain.{first_line}
use Rattle.sc_intake.specs.Tidy.{TakesNumber}
use Rattle.sc_intake.proofs.PlainCutting.{ended-unmarked}
use Rattle.sc_intake.proofs.TidyRows.{rejection-row}
use Rattle.sc_intake.proofs.tidy_rows.take_rejection.Goals as goal

pub returns-clause-rejection : goal.returns-clause-rejection
returns-clause-rejection c =
    let text = c.args.text.now in
    let n = c.in_ok-student.student in
    let k = c.in_ok-school.school in
    let after = c.in_ok-student.after.now in
    let more = c.in_ok-after_comma.field-0.now in
    let rest = c.in_ok-school.rest.now in
    let takes : TakesNumber text after n = search rules in
    let comma : after ≡ 44 ∷ more = search rules in
    let takes_school : TakesNumber more rest k = search rules in
    let ends : first_line rest ≡ [] = search rules in
    let ranged : as_student n ≡ Ok c.in-Ok.student = search rules in
    let school_ranged : as_school k ≡ Ok c.in-Ok-school.school = search rules in
    λ by_lines. rejection-row by_lines text after more rest n k c.in-Ok.student c.in-Ok-school.school takes comma takes_school ends ranged school_ranged

pub returns-clause-unmarked : goal.returns-clause-unmarked
returns-clause-unmarked c = ended-unmarked c.in_ok-school.rest.now (search rules)
