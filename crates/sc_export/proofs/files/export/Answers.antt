use Rattle.std.proofs.Common.{◌≡◌, rules}
use Rattle.sc_export.specs.Files.{lists_text, roster_text, schools_text}
use Rattle.sc_export.proofs.Back.{read-back}
use Rattle.sc_export.proofs.files.export.Goals as goal

pub returns-clause-read_back : goal.returns-clause-read_back
returns-clause-read_back c =
    let m = c.args.papers.now in
    let schools : c.push_schools.new.text.items ≡ schools_text m = search rules in
    let roster : c.push_roster.new.text.items ≡ roster_text m = search rules in
    let lists : c.push_lists.new.text.items ≡ lists_text m = search rules in
    rw (schools, roster, lists) (read-back m (rw c.deref.ensures at c.students_len.ensures.well_formed) (rw c.deref.ensures at c.students_len.ensures.within_limits)
    (record { schools = rw c.deref-2.ensures at c.in_ok-push_schools.ensures.in_range; students = c.in_ok-push_roster.ensures.in_range }))
