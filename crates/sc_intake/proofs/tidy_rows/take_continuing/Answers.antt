use Rattle.std.proofs.Common.{◌≡◌, true, rules}
use Rattle.sc_papers.specs.declared.school_no.TheConstants.SchoolNo.{GREATEST as greatest_school}
use Rattle.sc_intake.specs.Field.{is_within}
use Rattle.sc_intake.specs.Tidy.{TakesNumber}
use Rattle.sc_intake.proofs.TidyRows.{no-school, one-school}
use Rattle.sc_intake.proofs.tidy_rows.take_continuing.Goals as goal

pub returns-in_ok-new-in-len1-up : goal.returns-in_ok-new-in-len1-up
returns-in_ok-new-in-len1-up c =
    let text = c.args.text.now in
    let after = c.in_ok-number-in-len1-up.after.now in
    let n = c.in_ok-number-in-len1-up.number in
    let takes : TakesNumber text after n = search rules in
    let school : is_within 1 greatest_school n ≡ true = search rules in
    let same : c.in_ok-new-in-len1-up.field-0 ≡ n = search rules in
    rw same (one-school text after n takes school)

pub returns-in_default : goal.returns-in_default
returns-in_default c = no-school c.args.text.now
