use Rattle.std.proofs.Common.{◌≡◌, ℕ, ◌≤◌, nat_eq, true, List, length, Some, refl, ◌∙◌, ap, arith, rules, subst, sym}
use Rattle.std.specs.List.{IsDistinct}
use Rattle.std.specs.Map.{keys_of}
use Rattle.std.proofs.lemmas.List.Sums.{count_by-le-length}
use Rattle.std.proofs.lemmas.Map.Entries.{length-keys_of}
use Rattle.sc_papers.specs.Assignment.{assigned}
use Rattle.sc_papers.specs.Market.{Market, is_school, students_of}
use Rattle.sc_papers.specs.Matching.{has, held, how_many}
use Rattle.sc_papers.proofs.Validity.{next-among}
use Rattle.sc_repair.specs.Representation.{standing_of}
use Rattle.sc_repair.specs.Stamped.{StampedStanding}
use Rattle.sc_repair.specs.Standing.{held_at, log_of}
use Rattle.sc_repair.proofs.Counts.{holders-held}
use Rattle.sc_repair.proofs.clearing.Clearing.held.Goals as goal

-- what the counts say is how many students of the papers have the school
counts-students : (c : goal.After-held) → c.held.result ≡ held c.settlement.inside.papers (assigned c.settlement.inside.places) c.args.school
counts-students c =
    let standing = standing_of c.settlement.inside in
    let kept = c.settlement.invariant.certified in
    c.held.ensures
    ∙ holders-held standing.papers kept.well_formed standing.places (subst (λ (pairs : List (ℕ × ℕ)). IsDistinct nat_eq (keys_of pairs)) c.deref-2.ensures c.len.ensures.students_differ) (λ i s has. next-among standing.papers (log_of standing) i s (sym (kept.matching i) ∙ has)) c.args.school

pub overflow_cast-result : goal.overflow_cast-result
unfolding how_many
overflow_cast-result c =
    let papers = c.settlement.inside.papers in
    let few : held papers (assigned c.settlement.inside.places) c.args.school ≤ length (students_of papers) = count_by-le-length (has (assigned c.settlement.inside.places) c.args.school) (students_of papers) in
    omega (arith, counts-students c, few, length-keys_of papers.students, c.students_len.ensures.count, ap (λ (m : Market). length m.students) c.deref-3.ensures, c.if-prove-2.false)

pub returns : goal.returns
returns c =
    let papers = c.settlement.inside.papers in
    let is : is_school papers c.args.school ≡ true = search rules in
    let here : held_at (standing_of c.settlement.inside) c.args.school ≡ Some (held papers (assigned c.settlement.inside.places) c.args.school) = rw is refl in
    ap (λ (n : ℕ). Some n) (counts-students c) ∙ sym here ∙ ap (λ standing. held_at standing c.args.school) c.settlement.view_is ∙ ap (λ (s : StampedStanding). held_at s.standing c.args.school) c.self.view_is
