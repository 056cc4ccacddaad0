use Rattle.std.proofs.Common.{◌+◌, ◌∙◌, sym, ap, subst, arith, refl, set, None}
use Rattle.std.proofs.lemmas.List.{length-set}
use Rattle.std.proofs.lemmas.Option.{slice_get_within}
use Rattle.sc_papers.specs.Market.{choices_of}
use Rattle.sc_papers.proofs.Students.{choices-short}
use Rattle.sc_papers.proofs.Hands.{position-low, student-there}
use Rattle.sc_audit.specs.AuditState.{view_of}
use Rattle.sc_audit.specs.AuditView.{AuditView, MovesTo, next_of}
use Rattle.sc_audit.proofs.Pasts.{Waits, waits-at}
use Rattle.sc_audit.proofs.Tables.{stand-put}
use Rattle.sc_audit.proofs.Takings.{left-best, left-next, left-nowhere, taken-valid, taken-follows, not-taken}
use Rattle.sc_audit.proofs.audit_state.AuditState.take.Goals as goal

pub returns-in_default : goal.returns-in_default
returns-in_default c = λ log valid follows. not-taken c.args.papers.now log (view_of c.args.self.now) c.args.entry (sym c.in_default.ensures.rank) follows

pub index_mut-requires : goal.index_mut-requires
index_mut-requires c = omega (arith, position-low c.args.papers.now c.args.entry.student c.in-Some.student c.in-Some.ensures.position, c.requires.keeps_best.stands)

pub overflow_add-rank : goal.overflow_add-rank
overflow_add-rank c =
    let m = c.args.papers.now in
    let waits : Waits m (view_of c.args.self.now) c.args.entry.student c.args.entry.school c.in-Some.rank = waits-at m (view_of c.args.self.now) c.args.entry.student c.args.entry.school c.in-Some.rank (sym c.in-Some.ensures.rank) in
    omega (arith, slice_get_within (choices_of m c.args.entry.student) c.in-Some.rank c.args.entry.school waits.at, choices-short m c.requires.keeps_best.within_limits c.args.entry.student)

pub move_to-requires-clause-here : goal.move_to-requires-clause-here
move_to-requires-clause-here c =
    let m = c.args.papers.now in
    let old = view_of c.args.self.now in
    let stands = c.args.self.now.stands.items in
    record {
      keeps_best = left-best (waits-at m old c.args.entry.student c.args.entry.school c.in-Some.rank (sym c.in-Some.ensures.rank))
          (record { stands = set stands c.in-Some.student None; kept = old.kept; seats = old.seats }) c.requires.keeps_best refl refl (length-set stands c.in-Some.student None)
          (stand-put m stands None c.args.entry.student c.in-Some.student c.requires.keeps_best.stands c.in-Some.ensures.position);
      within = position-low m c.args.entry.student c.in-Some.student c.in-Some.ensures.position;
    }

pub move_to-requires-clause-nowhere : goal.move_to-requires-clause-nowhere
move_to-requires-clause-nowhere c =
    let m = c.args.papers.now in
    let old = view_of c.args.self.now in
    let stands = c.args.self.now.stands.items in
    ap (next_of m (set stands c.in-Some.student None)) (student-there m c.args.entry.student c.in-Some.student c.in-Some.ensures.position)
    ∙ left-nowhere (waits-at m old c.args.entry.student c.args.entry.school c.in-Some.rank (sym c.in-Some.ensures.rank))
    (record { stands = set stands c.in-Some.student None; kept = old.kept; seats = old.seats }) c.requires.keeps_best refl refl (length-set stands c.in-Some.student None)
    (stand-put m stands None c.args.entry.student c.in-Some.student c.requires.keeps_best.stands c.in-Some.ensures.position)

pub returns : goal.returns
returns c = λ log valid follows.
    let m = c.args.papers.now in
    let old = view_of c.args.self.now in
    let stands = c.args.self.now.stands.items in
    let waits : Waits m old c.args.entry.student c.args.entry.school c.in-Some.rank = waits-at m old c.args.entry.student c.args.entry.school c.in-Some.rank (sym c.in-Some.ensures.rank) in
    let mid : AuditView = record { stands = set stands c.in-Some.student None; kept = old.kept; seats = old.seats } in (
      taken-valid m log old c.args.entry c.in-Some.rank follows waits,
      taken-follows m log old mid (view_of c.move_to.new.self) c.args.entry c.in-Some.rank valid follows waits
          (left-next waits mid c.requires.keeps_best refl refl (length-set stands c.in-Some.student None) (stand-put m stands None c.args.entry.student c.in-Some.student c.requires.keeps_best.stands c.in-Some.ensures.position))
          (subst (λ i. MovesTo m mid i (c.in-Some.rank + 1) (view_of c.move_to.new.self)) (student-there m c.args.entry.student c.in-Some.student c.in-Some.ensures.position) c.in_ok-move_to.ensures),
    )
