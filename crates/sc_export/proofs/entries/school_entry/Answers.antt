use Rattle.std.proofs.Common.{◌≡◌, ◌∙◌, sym, Some, None, rules}
use Rattle.sc_export.proofs.Standing.{entry-read, entry-there}
use Rattle.sc_export.proofs.entries.school_entry.Goals as goal

pub returns-in_err-school : goal.returns-in_err-school
returns-in_err-school c =
    let here : c.school_at.result ≡ Some c.in_ok-number.number = search rules in
    let none : c.school.result ≡ None = search rules in
    absurd (entry-there c.args.papers.now.schools c.args.position c.in_ok-number.number (sym c.school_at.ensures ∙ here) (sym c.school.ensures ∙ none))

pub returns : goal.returns
returns c =
    let here : c.school_at.result ≡ Some c.in_ok-number.number = search rules in
    let some : c.school.result ≡ Some c.in_ok-school.school = search rules in
    sym (entry-read c.args.papers.now.schools c.args.position c.in_ok-number.number c.school.result c.students_len.ensures.well_formed.schools_differ (sym c.school_at.ensures ∙ here) c.school.ensures c.in_ok-school.school some)
