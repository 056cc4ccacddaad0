use Rattle.std.proofs.Common.{◌≡◌, ◌∷◌, [], Ok, refl, rules, arith}
use Rattle.sc_papers.specs.Market.{schools_of}
use Rattle.sc_papers.specs.Placed.{schools_at}
use Rattle.sc_intake.specs.Field.{as_student}
use Rattle.sc_intake.specs.Plain.{first_line}
use Rattle.sc_intake.specs.Tidy.{AreSchools, TakesField, TakesNumber}
use Rattle.sc_intake.proofs.PlainCutting.{ended-unmarked}
use Rattle.sc_intake.proofs.TidyRows.{list-row}
use Rattle.sc_intake.proofs.tidy_rows.take_placed.Goals as goal

pub returns-clause-row : goal.returns-clause-row
returns-clause-row c =
    let text = c.args.text.now in
    let n = c.in_ok-number.number in
    let after = c.in_ok-number.after.now in
    let more = c.in_ok-after_comma.field-0.now in
    let rest = c.in_ok-rest.rest.now in
    let choices = schools_at (schools_of c.args.papers.now) c.place_schools.new.placed in
    let takes : TakesNumber text after n = search rules in
    let comma : after ≡ 44 ∷ more = search rules in
    let field : TakesField more rest (AreSchools choices) = search rules in
    let ends : first_line rest ≡ [] = search rules in
    let student : as_student n ≡ Ok c.in-Ok.student = search rules in
    let width : c.args.width ≡ 2 = omega arith in
    rw width (λ by_lines row. record {
      list = record { row = row; student = c.in-Ok.student; choices = choices };
      takes = list-row by_lines row text after more rest n c.in-Ok.student choices takes comma field ends student;
      theirs = refl;
      chosen = refl;
    })

pub returns-clause-unmarked : goal.returns-clause-unmarked
returns-clause-unmarked c = ended-unmarked c.in_ok-rest.rest.now (search rules)
