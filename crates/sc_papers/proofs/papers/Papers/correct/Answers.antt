use Rattle.std.proofs.Common.{ℕ, List, ◌∷◌, [], Option, ap, subst, sym, ◌∙◌}
use Rattle.sc_papers.specs.Market.{Market, continuing_of, siblings_of, zone_of}
use Rattle.sc_papers.specs.Verdict.{changed_student, first_of, objections_to_correct, too_long, twice_in, unknown_in, unknown_school, with_circumstances}
use Rattle.sc_papers.specs.WellFormed.{IsProper, IsShort}
use Rattle.sc_papers.specs.declared.records.Student.{Student}
use Rattle.sc_papers.proofs.Changing.{All-found, IsProper-corrected, IsShort-corrected}
use Rattle.sc_papers.proofs.Recorded.{changed-known, no-student, record-low, record-read, records-put}
use Rattle.sc_papers.proofs.TakingBack.{circumstances-found}
use Rattle.sc_papers.proofs.papers.Papers.correct.Goals as goal

pub unreachable-requires : goal.unreachable-requires
unreachable-requires c =
    let m = c.self.inside.flat in
    no-student m c.args.number
    (too_long c.args.siblings ∷ unknown_in m c.args.siblings ∷ unknown_school m c.args.continuing ∷ twice_in c.args.siblings ∷ []) c.in_default.ensures
    (ap (λ (n : Market). first_of (objections_to_correct n c.args.number c.args.siblings c.args.continuing)) c.self.view_is ∙ c.requires)

pub replace-record-requires : goal.replace-record-requires
replace-record-requires c = record-low c.self.inside.flat c.self.inside.records.items c.args.number c.in-Some.position c.self.invariant (sym c.in-Some.ensures)

pub put_student-requires-clause-proper : goal.put_student-requires-clause-proper
put_student-requires-clause-proper c =
    let m = c.self.inside.flat in
    let before = c.replace-record.result in
    let known = record-read m c.self.inside.records.items c.args.number c.in-Some.position before c.self.invariant (sym c.in-Some.ensures) c.replace-record.ensures.before in
    let allowed = ap (λ (n : Market). first_of (objections_to_correct n c.args.number c.args.siblings c.args.continuing)) c.self.view_is ∙ c.requires in
    subst (IsProper m) (sym c.replace_circumstances-before.ensures.new)
    (IsProper-corrected m c.args.number before c.args.zone c.args.siblings c.args.continuing allowed
    (All-found (IsProper m) c.args.number m.students before (sym known) c.students_len.ensures.well_formed.students_proper))

pub put_student-requires-clause-short : goal.put_student-requires-clause-short
put_student-requires-clause-short c =
    let m = c.self.inside.flat in
    let before = c.replace-record.result in
    let known = record-read m c.self.inside.records.items c.args.number c.in-Some.position before c.self.invariant (sym c.in-Some.ensures) c.replace-record.ensures.before in
    let allowed = ap (λ (n : Market). first_of (objections_to_correct n c.args.number c.args.siblings c.args.continuing)) c.self.view_is ∙ c.requires in
    subst IsShort (sym c.replace_circumstances-before.ensures.new)
    (IsShort-corrected m c.args.number before c.args.zone c.args.siblings c.args.continuing allowed
    (All-found IsShort c.args.number m.students before (sym known) c.students_len.ensures.within_limits.lists))

pub invariant_of-self : goal.invariant_of-self
invariant_of-self c =
    records-put c.self.inside.flat c.put_student.new.self c.self.inside.records.items c.replace-record.new.self.items c.replace.new.self.items c.args.number c.in-Some.position
    c.no_record.result c.replace_circumstances-before.new.student c.self.invariant (sym c.in-Some.ensures) c.replace-record.ensures.put c.replace.ensures.put c.put_student.ensures

pub returns-clause-new : goal.returns-clause-new
returns-clause-new c =
    let m = c.self.inside.flat in
    let before = c.replace-record.result in
    let known = record-read m c.self.inside.records.items c.args.number c.in-Some.position before c.self.invariant (sym c.in-Some.ensures) c.replace-record.ensures.before in
    c.put_student.ensures ∙ ap (λ (s : Student). changed_student m c.args.number (λ x. s)) c.replace_circumstances-before.ensures.new
    ∙ changed-known m c.args.number before (λ student. record student { zone = c.args.zone; siblings = c.args.siblings; continuing = c.args.continuing }) known
    ∙ ap (λ (n : Market). with_circumstances n c.args.number c.args.zone c.args.siblings c.args.continuing) c.self.view_is

pub returns-clause-old : goal.returns-clause-old
returns-clause-old c =
    let m = c.self.inside.flat in
    let before = c.replace-record.result in
    let known = record-read m c.self.inside.records.items c.args.number c.in-Some.position before c.self.invariant (sym c.in-Some.ensures) c.replace-record.ensures.before in
    c.replace_circumstances-before.ensures.old ∙ circumstances-found m c.args.number before (sym known)
    ∙ ap (λ (n : Market). let old : ℕ × List ℕ × Option ℕ = (zone_of n c.args.number, siblings_of n c.args.number, continuing_of n c.args.number) in old) c.self.view_is
