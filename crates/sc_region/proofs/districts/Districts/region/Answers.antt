use Rattle.std.proofs.Common.{ap, subst, ◌∙◌, Contains, arith}
use Rattle.sc_region.specs.Districts.{DistrictsView}
use Rattle.sc_region.specs.Groups.{schools_of_group}
use Rattle.sc_region.proofs.Having.{position-listed, position-low}
use Rattle.sc_region.proofs.districts.Districts.region.Goals as goal

pub count_at-requires : goal.count_at-requires
count_at-requires c at among =
    let m = c.args.papers.now in
    let d = c.widen-start.new.self in
    let districts = c.widen-start.ensures.widened.districts in
    let are = c.in_ok-district.ensures ∙ ap (λ gs. schools_of_group gs c.index.result.now) (c.as_slice.ensures.value ∙ ap (λ (v : DistrictsView). v.groups) c.self.view_is) in
    position-listed m d districts c.self.inside.firsts.items (ap (λ (v : DistrictsView). v.firsts) c.self.view_is) at
    (position-low m d districts c.in_ok-district.district.items c.index.result.now at are (subst (λ xs. Contains xs at) c.as_slice-schools.ensures.value among))

pub at-requires-clause-within : goal.at-requires-clause-within
at-requires-clause-within c p among = omega (arith, c.in_ok-positions.ensures.region.within p among, c.students_len-students.ensures.count)

pub at-requires-2-clause-within : goal.at-requires-2-clause-within
at-requires-2-clause-within c p among = omega (arith, c.in_ok-positions-2.ensures.region.within p among, c.students_len-students.ensures.count)
