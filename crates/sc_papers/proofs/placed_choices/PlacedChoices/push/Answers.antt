use Rattle.std.proofs.Common.{◌≡◌, ◌<◌, ◌++◌, [], ◌∷◌, length, position, nat_eq, Some, arith, ap, sym, subst, ◌∙◌, List, ℕ, rules}
use Rattle.std.specs.Prelude.{slice_set}
use Rattle.std.proofs.lemmas.List.{length-map}
use Rattle.sc_papers.specs.Market.{schools_of}
use Rattle.sc_papers.specs.Placed.{schools_at, AreLastTurns}
use Rattle.sc_papers.specs.declared.limits.TheConstants.{MOST_SCHOOLS}
use Rattle.sc_papers.proofs.Placed.{schools_at-push, turns-push}
use Rattle.sc_papers.proofs.Positions.{position-at}
use Rattle.sc_papers.proofs.placed_choices.PlacedChoices.push.Goals as goal

pub invariant_of-self : goal.invariant_of-self
invariant_of-self c =
    let schools = schools_of c.args.papers.now in
    let p = c.in-Some.position in
    let found : position (nat_eq c.args.school) schools ≡ Some p = sym c.position_of.ensures ∙ c.in-Some.is in
    let low : p < MOST_SCHOOLS = omega (arith, (position-at schools c.args.school p found).0, length-map c.args.papers.now.schools (λ e. e.0), c.students_len.ensures.within_limits.schools) in
    let turns : length c.self.inside.last_turns ≡ MOST_SCHOOLS = search rules in
    let within : p < length c.self.inside.last_turns = omega (arith, low, turns) in
    subst (AreLastTurns (slice_set c.self.inside.last_turns c.in-Some.position c.self.inside.turn) c.self.inside.turn) (sym c.push.ensures)
    (turns-push c.self.inside.last_turns c.self.inside.chosen c.self.inside.turn c.in-Some.position within c.self.invariant)

pub returns-clause-added : goal.returns-clause-added
returns-clause-added c =
    let schools = schools_of c.args.papers.now in
    ap (schools_at schools) (c.push.ensures ∙ ap (λ (ps : List ℕ). ps ++ c.in-Some.position ∷ []) c.self.view_is)
    ∙ schools_at-push schools c.args.self.now c.in-Some.position c.args.school (sym c.position_of.ensures ∙ c.in-Some.is)
