use Rattle.std.proofs.Common.{◌<◌, ap, sym, subst, ◌∙◌, length, get_or, take_all, Contains, arith}
use Rattle.std.proofs.lemmas.List.Elements.{Contains-get_or}
use Rattle.sc_region.specs.Districts.{lists_in, students_in}
use Rattle.sc_region.proofs.Firsts.{list-read}
use Rattle.sc_region.proofs.Listed.{HasPositions, listed-more}
use Rattle.sc_region.proofs.candidates.listed_at.Goals as goal

pub index-requires : goal.index-requires
index-requires c =
    let at = c.loop-school.school-index in
    omega (arith, c.requires (get_or c.args.schools.now at 0) (Contains-get_or c.args.schools.now at 0 c.loop-school-test.true), c.args.firsts.now.ok.0)

pub loop-school-preserved : goal.loop-school-preserved
loop-school-preserved c =
    let m = c.args.papers.now in
    let lists = c.args.firsts.now.items in
    let xs = c.args.schools.now in
    let at = c.loop-school.school-index in
    let now = c.loop-school.positions.items in
    let school = get_or xs at 0 in
    let low : school < length lists = c.requires school (Contains-get_or xs at 0 c.loop-school-test.true) in
    listed-more m (lists_in lists) xs at 0 now c.push_positions.new.positions.items c.loop-school-test.true c.loop-school.invariant
    (subst (λ students. HasPositions m students now c.push_positions.new.positions.items) (ap students_in c.as_slice.ensures.value ∙ list-read lists school c.index.result.now low c.index.ensures)
    (record { within = c.in_ok-push_positions.ensures.within; kept = c.in_ok-push_positions.ensures.keeps; all = c.in_ok-push_positions.ensures.all }))

pub returns-clause-within : goal.returns-clause-within
returns-clause-within c p among = c.loop-school.invariant.within p ((c.in_ok-listed.ensures.same p).0 among)

pub returns-clause-all : goal.returns-clause-all
returns-clause-all c school p one p_low among =
    (c.in_ok-listed.ensures.same p).1
    (c.loop-school.invariant.all school p (subst (λ xs. Contains xs school) (sym (take_all c.loop-school.school-index c.args.schools.now c.loop-school-test.false)) one) p_low among)
