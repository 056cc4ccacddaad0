use Rattle.std.proofs.Common.{◌≡◌, ◌∙◌, sym, subst, ap, Some, None, rules}
use Rattle.std.specs.Option.{option_and_then, option_copied}
use Rattle.sc_papers.specs.Market.{student_of}
use Rattle.sc_papers.specs.WellFormed.{WellFormed}
use Rattle.sc_export.proofs.Standing.{entry-read, entry-there}
use Rattle.sc_export.proofs.entries.student_entry.Goals as goal

pub returns-in_err-record : goal.returns-in_err-record
returns-in_err-record c =
    let here : c.student_at.result ≡ Some c.in_ok-number.number = search rules in
    let at = rw c.deref-2.ensures at (sym c.student_at.ensures ∙ here) in
    let none : c.record_at.result ≡ None = search rules in
    let found = ap option_copied none in
    let looked = c.record_at.ensures ∙ ap (option_and_then (student_of c.args.papers.now)) at in
    absurd (entry-there c.args.papers.now.students c.args.position c.in_ok-number.number at (sym looked ∙ found))

pub returns : goal.returns
returns c =
    let here : c.student_at.result ≡ Some c.in_ok-number.number = search rules in
    let at = rw c.deref-2.ensures at (sym c.student_at.ensures ∙ here) in
    let some : c.record_at.result ≡ Some c.in_ok-record.record = search rules in
    let looked = c.record_at.ensures ∙ ap (option_and_then (student_of c.args.papers.now)) at in
    sym (entry-read c.args.papers.now.students c.args.position c.in_ok-number.number (option_copied c.record_at.result) (subst WellFormed c.deref.ensures c.students_len.ensures.well_formed).students_differ at looked c.in_ok-record.record.now (ap option_copied some))
