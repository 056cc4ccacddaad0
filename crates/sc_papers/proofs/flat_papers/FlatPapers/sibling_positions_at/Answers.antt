use Rattle.std.proofs.Common.{◌<◌, nat_eq, Some, length, map, option_copied, position, ap, subst, sym, ◌∙◌}
use Rattle.std.specs.Prelude.{nat_lt}
use Rattle.std.specs.Map.{lookup}
use Rattle.std.proofs.lemmas.Option.{none-some, same_Some}
use Rattle.sc_papers.specs.Market.{Market, schools_of, siblings_of, student_at}
use Rattle.sc_papers.specs.Representation.{market_of}
use Rattle.sc_papers.specs.StudentRow.{positions_in}
use Rattle.sc_papers.proofs.ChoicePositions.{kept-there, known-places, siblings-known}
use Rattle.sc_papers.proofs.Keys.{row-number}
use Rattle.sc_papers.proofs.flat_papers.FlatPapers.sibling_positions_at.Goals as goal

pub unreachable-requires : goal.unreachable-requires
unreachable-requires c =
    let m = market_of c.self.inside in
    let low = subst (λ (n : Market). c.args.student < length n.students) (sym c.self.view_is) c.requires.student in
    let more = ap (λ (n : Market). nat_lt 1 (length (siblings_of n (student_at n c.args.student)))) c.self.view_is ∙ c.requires.more in
    let number = c.number.ensures ∙ row-number m c.self.inside.positions c.self.inside.rows.items c.args.student c.at.result.now c.self.invariant.well_formed c.self.invariant.rows c.at.ensures in
    let kept = kept-there m c.self.inside.positions c.self.inside.siblings.entries c.args.student c.self.invariant.well_formed c.self.invariant.siblings low more in
    none-some (positions_in c.self.inside.positions (siblings_of m (student_at m c.args.student)))
    (sym (ap option_copied c.in_default.is) ∙ c.get.ensures.value ∙ ap (λ k. lookup (nat_eq k) c.self.inside.siblings.entries) number ∙ kept)

pub returns : goal.returns
returns c =
    let m = market_of c.self.inside in
    let low = subst (λ (n : Market). c.args.student < length n.students) (sym c.self.view_is) c.requires.student in
    let more = ap (λ (n : Market). nat_lt 1 (length (siblings_of n (student_at n c.args.student)))) c.self.view_is ∙ c.requires.more in
    let number = c.number.ensures ∙ row-number m c.self.inside.positions c.self.inside.rows.items c.args.student c.at.result.now c.self.invariant.well_formed c.self.invariant.rows c.at.ensures in
    let kept = kept-there m c.self.inside.positions c.self.inside.siblings.entries c.args.student c.self.invariant.well_formed c.self.invariant.siblings low more in
    let is = same_Some c.in-Some.kept.now (positions_in c.self.inside.positions (siblings_of m (student_at m c.args.student)))
    (c.in-Some.ensures.value ∙ ap (λ k. lookup (nat_eq k) c.self.inside.siblings.entries) number ∙ kept) in
    ap (map Some) (c.as_slice.ensures.positions ∙ is)
    ∙ known-places m c.self.inside.positions c.self.invariant.positions (siblings_of m (student_at m c.args.student)) (siblings-known m c.args.student c.self.invariant.well_formed low)
    ∙ ap (λ (n : Market). map (λ s. position (nat_eq s) (schools_of n)) (siblings_of n (student_at n c.args.student))) c.self.view_is
