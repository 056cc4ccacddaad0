use Rattle.std.proofs.Common.{◌∙◌, sym, ap, Some, slice_get}
use Rattle.std.proofs.lemmas.List.{length-set}
use Rattle.sc_papers.specs.Market.{choices_of, student_at}
use Rattle.sc_audit.specs.AuditState.{view_of}
use Rattle.sc_audit.specs.BestKeys.{BestView}
use Rattle.sc_audit.proofs.Tables.{map-set, map-set_same, seats-there, stand-put}
use Rattle.sc_audit.proofs.Steps.{school-low, offer-seen, placing-moves}
use Rattle.sc_papers.proofs.Hands.{hand-student, hand-position}
use Rattle.sc_audit.proofs.audit_state.AuditState.move_to.Goals as goal

pub returns : goal.returns
returns c =
    let m = c.args.papers.now in
    let at = c.in-Some.proposal.position in
    let s = c.in-Some.proposal.school in
    let schools = c.args.self.now.schools.items in
    let best = c.index_mut.result.now in
    let new = c.offer.new.self in
    let (out, offered) = c.in_ok-offer.ensures.offered in
    placing-moves (record {
      keeps_best = c.requires.here.keeps_best;
      known = hand-student m c.args.student c.requires.here.within;
      nowhere = c.requires.nowhere;
      choice = ap (slice_get (choices_of m (student_at m c.args.student))) (sym c.from.ensures) ∙ sym c.in-Some.ensures.school;
      found = c.in-Some.ensures.position;
      offered = offer-seen (λ (b : BestView). b.keys) m schools (student_at m c.args.student) s at best best.seats c.in-Some.proposal.key new.keys out
          (school-low m (view_of c.args.self.now) s at c.requires.here.keeps_best c.in-Some.ensures.position) c.index_mut.ensures.value
          (seats-there (λ (b : BestView). b.seats) m schools s at best c.requires.here.keeps_best.seats c.in-Some.ensures.position c.index_mut.ensures.value)
          c.in-Some.ensures.key offered;
      kept = map-set (λ (b : BestView). b.keys) schools at new;
      seats = map-set_same (λ (b : BestView). b.seats) schools at new best c.index_mut.ensures.value c.offer.ensures.seats;
      long = length-set c.args.self.now.stands.items c.args.student (Some c.args.rank) ∙ c.requires.here.keeps_best.stands;
      stands = stand-put m c.args.self.now.stands.items (Some c.args.rank) (student_at m c.args.student) c.args.student c.requires.here.keeps_best.stands (hand-position m c.requires.here.keeps_best.well_formed c.args.student c.requires.here.within);
    })
