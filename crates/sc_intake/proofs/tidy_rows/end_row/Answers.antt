use Rattle.std.proofs.Common.{◌≡◌, ◌∷◌, [], rules}
use Rattle.sc_intake.specs.Plain.{first_line}
use Rattle.sc_intake.specs.Tidy.{IsSchoolOrNone, TakesField}
use Rattle.sc_intake.proofs.TidyRows.{ends-long, ends-short}
use Rattle.sc_intake.proofs.tidy_rows.end_row.Goals as goal

pub returns-in-3 : goal.returns-in-3
returns-in-3 c =
    let text = c.args.text.now in
    let ends : first_line text ≡ [] = search rules in
    rw c.in-3.is (ends-short text ends)

pub returns-in-Some : goal.returns-in-Some
returns-in-Some c =
    let text = c.args.text.now in
    let more = c.in_ok-after_comma-in-4.field-0.now in
    let rest = c.in-Some.after.now in
    let comma : text ≡ 44 ∷ more = search rules in
    let takes : TakesField more rest (IsSchoolOrNone c.in-Some.continuing) = search rules in
    let ends : first_line rest ≡ [] = search rules in
    rw c.in-4.is (ends-long text more rest c.in-Some.continuing comma takes ends)
