use Rattle.std.proofs.Common.{◌≡◌, ◌==◌, sym, ◌∙◌, length}
use Rattle.std.proofs.lemmas.Bool.{and_parts, eqb-true, ltb-true}
use Rattle.std.proofs.lemmas.List.{get_or_default}
use Rattle.sc_ledgers.proofs.noting.is_at.Goals as goal

pub returns-in-Some : goal.returns-in-Some
returns-in-Some c same =
    let entry = c.in-Some.entry.now in
    let wanted = c.args.rejection in
    let (student, school) = and_parts (entry.student == wanted.student) (entry.school == wanted.school) (sym c.eq.ensures ∙ same) in
    let low = ltb-true c.args.at (length c.args.segment.now) (sym c.in-Some.ensures.lookup.0) in
    let is : entry ≡ wanted = λ t. record { student = eqb-true entry.student wanted.student student t; school = eqb-true entry.school wanted.school school t } in
    (c.args.at, low, get_or_default c.args.segment.now c.args.at wanted entry low ∙ sym c.in-Some.ensures.lookup.1 ∙ is)
