use Rattle.std.proofs.Common.{◌∷◌, ap, sym, ◌∙◌}
use Rattle.sc_papers.specs.Market.{Market, choices_of}
use Rattle.sc_papers.specs.Verdict.{first_of, objections_to_list, no_choices, objections_to_rerank, with_choices}
use Rattle.sc_papers.specs.WellFormed.{IsProper, IsShort}
use Rattle.sc_papers.specs.declared.records.Student.{Student}
use Rattle.sc_papers.proofs.Changing.{All-found, IsProper-reranked, IsShort-reranked}
use Rattle.sc_papers.proofs.Recorded.{changed-known, no-student, record-low, record-read, records-put}
use Rattle.sc_papers.proofs.TakingBack.{choices-found}
use Rattle.sc_papers.proofs.papers.Papers.rerank.Goals as goal

pub unreachable-requires : goal.unreachable-requires
unreachable-requires c =
    no-student c.self.inside.flat c.args.number (no_choices c.args.choices ∷ objections_to_list c.self.inside.flat c.args.choices) c.in_default.ensures
    (ap (λ (n : Market). first_of (objections_to_rerank n c.args.number c.args.choices)) c.self.view_is ∙ c.requires)

pub replace-record-requires : goal.replace-record-requires
replace-record-requires c = record-low c.self.inside.flat c.self.inside.records.items c.args.number c.in-Some.position c.self.invariant (sym c.in-Some.ensures)

pub put_student-requires-clause-proper : goal.put_student-requires-clause-proper
put_student-requires-clause-proper c =
    let m = c.self.inside.flat in
    let before = c.replace-record.result in
    let known = record-read m c.self.inside.records.items c.args.number c.in-Some.position before c.self.invariant (sym c.in-Some.ensures) c.replace-record.ensures.before in
    let allowed = ap (λ choices. first_of (objections_to_rerank m c.args.number choices)) c.replace-before.ensures.after
    ∙ ap (λ (n : Market). first_of (objections_to_rerank n c.args.number c.args.choices)) c.self.view_is ∙ c.requires in
    IsProper-reranked m c.args.number before c.replace-before.new.dest allowed
    (All-found (IsProper m) c.args.number m.students before (sym known) c.students_len.ensures.well_formed.students_proper)

pub put_student-requires-clause-short : goal.put_student-requires-clause-short
put_student-requires-clause-short c =
    let m = c.self.inside.flat in
    let before = c.replace-record.result in
    let known = record-read m c.self.inside.records.items c.args.number c.in-Some.position before c.self.invariant (sym c.in-Some.ensures) c.replace-record.ensures.before in
    let allowed = ap (λ choices. first_of (objections_to_rerank m c.args.number choices)) c.replace-before.ensures.after
    ∙ ap (λ (n : Market). first_of (objections_to_rerank n c.args.number c.args.choices)) c.self.view_is ∙ c.requires in
    IsShort-reranked m c.args.number before c.replace-before.new.dest allowed
    (All-found IsShort c.args.number m.students before (sym known) c.students_len.ensures.within_limits.lists)

pub invariant_of-self : goal.invariant_of-self
invariant_of-self c =
    let student : Student = record c.replace-record.result { choices = c.replace-before.new.dest } in
    records-put c.self.inside.flat c.put_student.new.self c.self.inside.records.items c.replace-record.new.self.items c.replace.new.self.items c.args.number c.in-Some.position
    c.no_record.result student c.self.invariant (sym c.in-Some.ensures) c.replace-record.ensures.put c.replace.ensures.put c.put_student.ensures

pub returns-clause-new : goal.returns-clause-new
returns-clause-new c =
    let m = c.self.inside.flat in
    let before = c.replace-record.result in
    let known = record-read m c.self.inside.records.items c.args.number c.in-Some.position before c.self.invariant (sym c.in-Some.ensures) c.replace-record.ensures.before in
    c.put_student.ensures ∙ changed-known m c.args.number before (λ student. record student { choices = c.replace-before.new.dest }) known
    ∙ ap (with_choices m c.args.number) c.replace-before.ensures.after ∙ ap (λ (n : Market). with_choices n c.args.number c.args.choices) c.self.view_is

pub returns-clause-old : goal.returns-clause-old
returns-clause-old c =
    let m = c.self.inside.flat in
    let before = c.replace-record.result in
    let known = record-read m c.self.inside.records.items c.args.number c.in-Some.position before c.self.invariant (sym c.in-Some.ensures) c.replace-record.ensures.before in
    c.replace-before.ensures.value ∙ choices-found m c.args.number before (sym known) ∙ ap (λ (n : Market). choices_of n c.args.number) c.self.view_is
