use Rattle.std.proofs.Common.{◌≡◌, ℕ, ◌==◌, None, Some, refl, ◌∙◌, arith, subst, sym}
use Rattle.std.proofs.lemmas.Bool.{cond-true, eq-eqb}
use Rattle.std.proofs.lemmas.Cmp.{nat_eq_equiv}
use Rattle.sc_papers.specs.Assignment.{assigned, holders}
use Rattle.sc_papers.proofs.Holders.{holders-some}
use Rattle.sc_repair.specs.Places.{AreCountsBy}
use Rattle.sc_repair.proofs.Counts.{counted-alike, counted-more, counted-without, holders-arrived, holders-le, holders-left, holding-none, without}
use Rattle.sc_repair.proofs.places.Places.move_near.Goals as goal

-- where the student has no school, none is counted
pub invariant_of-self : goal.invariant_of-self
invariant_of-self c =
    let old = c.self.inside.assignment in
    let new = c.move_to.new.self in
    let i = c.args.student in
    let none : assigned old i ≡ None = sym c.get_near-before.ensures ∙ c.in_default.is in
    let still : assigned new i ≡ None = c.move_to.ensures.moved i ∙ rw (nat_eq_equiv.refl i, none) refl in
    counted-alike (holders old) (holders new) c.self.inside.counts.items c.self.invariant
    (λ s. omega (arith, c.move_to.ensures.counted s, holding-none (assigned old) i s none, holding-none (assigned new) i s still))

pub uncount_one-requires-clause-some : goal.uncount_one-requires-clause-some
uncount_one-requires-clause-some c low =
    omega (arith, c.self.invariant.each c.in-Some.from low, holders-some c.self.inside.assignment c.args.student c.in-Some.from (sym c.get_near-before.ensures ∙ c.in-Some.is))

pub count_one-requires-clause-fits : goal.count_one-requires-clause-fits
count_one-requires-clause-fits c low =
    let old = c.self.inside.assignment in
    let new = c.move_to.new.self in
    let i = c.args.student in
    let from = c.in-Some.from in
    let to = c.in-Some-school.to in
    let had : assigned old i ≡ Some from = sym c.get_near-before.ensures ∙ c.in-Some.is in
    let gets : assigned new i ≡ Some to = c.move_to.ensures.moved i ∙ rw (nat_eq_equiv.refl i, had) c.in-Some-school.is in
    let counts = subst (AreCountsBy (without old from)) (sym c.uncount_one.ensures.counted) (counted-without old i from c.self.inside.counts.items c.self.invariant had c.uncount_one.ensures.within) in
    let one = cond-true {A = ℕ} (to == to) 1 0 (eq-eqb to to refl) in
    omega (arith, counts.each to low, holders-arrived old new i from had c.move_to.ensures.counted to gets to, one, holders-le new to, c.len.ensures.count, c.len.type_inv)

pub invariant_of-self-in-Some-school : goal.invariant_of-self-in-Some-school
invariant_of-self-in-Some-school c =
    let old = c.self.inside.assignment in
    let new = c.move_to.new.self in
    let i = c.args.student in
    let from = c.in-Some.from in
    let to = c.in-Some-school.to in
    let had : assigned old i ≡ Some from = sym c.get_near-before.ensures ∙ c.in-Some.is in
    let gets : assigned new i ≡ Some to = c.move_to.ensures.moved i ∙ rw (nat_eq_equiv.refl i, had) c.in-Some-school.is in
    let counts = subst (AreCountsBy (without old from)) (sym c.uncount_one.ensures.counted) (counted-without old i from c.self.inside.counts.items c.self.invariant had c.uncount_one.ensures.within) in
    subst (AreCountsBy (holders new)) (sym c.count_one.ensures.counted)
    (counted-more (without old from) (holders new) c.uncount_one.new.counts.items to counts c.count_one.ensures.within (holders-arrived old new i from had c.move_to.ensures.counted to gets))

pub invariant_of-self-in_default-school : goal.invariant_of-self-in_default-school
invariant_of-self-in_default-school c =
    let old = c.self.inside.assignment in
    let new = c.move_to.new.self in
    let i = c.args.student in
    let from = c.in-Some.from in
    let had : assigned old i ≡ Some from = sym c.get_near-before.ensures ∙ c.in-Some.is in
    let none : assigned new i ≡ None = c.move_to.ensures.moved i ∙ rw (nat_eq_equiv.refl i, had) c.in_default-school.is in
    let counts = subst (AreCountsBy (without old from)) (sym c.uncount_one.ensures.counted) (counted-without old i from c.self.inside.counts.items c.self.invariant had c.uncount_one.ensures.within) in
    counted-alike (without old from) (holders new) c.uncount_one.new.counts.items counts (holders-left old new i from had c.move_to.ensures.counted none)
