use Rattle.std.proofs.Common.{◌≡◌, ◌∙◌, ap, get_or, map, set, sym, take}
use Rattle.std.proofs.lemmas.List.{get_or-map}
use Rattle.sc_papers.specs.Market.{schools_of, students_of}
use Rattle.sc_tallies.specs.Tally.{tally, with_key}
use Rattle.sc_tallies.proofs.Tallying.{at-within, tallies-same, tallies-set, take-one}
use Rattle.sc_tallies.proofs.tally.count_student.Goals as goal

pub returns-in-Some-clause-counted : goal.returns-in-Some-clause-counted
returns-in-Some-clause-counted c a i here has before =
    let m = c.args.papers.now in
    let first = take c.args.position (students_of m) in
    let at = c.in-Some.at in
    let key = c.in-Some.key in
    let there = sym (c.in-Some.ensures.found a i here has) in
    let t = tally m a first (get_or (schools_of m) at 0) in
    let is : get_or (map (tally m a first) (schools_of m)) at t ≡ t = get_or-map (tally m a first) (schools_of m) at 0 t (at-within m a i at key there) in
    let step = tallies-set m a first i at key t c.students_len.ensures.well_formed.schools_differ there (sym is) in
    c.count_at.ensures t ∙ (λ u. set (before u) at (with_key (get_or (before u) at t) key)) ∙ ap (λ old. set (map (tally m a first) (schools_of m)) at (with_key old key)) is
    ∙ sym step ∙ ap (λ students. map (tally m a students) (schools_of m)) (sym (take-one (students_of m) c.args.position i here))

pub returns-in_default-clause-counted : goal.returns-in_default-clause-counted
returns-in_default-clause-counted c a i here has before =
    let m = c.args.papers.now in
    before ∙ sym (tallies-same m a (take c.args.position (students_of m)) i (sym (c.in_default.ensures.found a i here has)))
    ∙ ap (λ students. map (tally m a students) (schools_of m)) (sym (take-one (students_of m) c.args.position i here))
