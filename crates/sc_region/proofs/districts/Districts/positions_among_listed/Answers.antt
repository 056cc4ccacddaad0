use Rattle.std.proofs.Common.{◌≡◌, ◌==◌, ap, sym, subst, ◌∙◌, Contains, arith}
use Rattle.std.specs.Prelude.{slice_index, if◌then◌else◌}
use Rattle.std.proofs.lemmas.List.{get_or_read}
use Rattle.sc_region.specs.Districts.{lists_in, DistrictsView}
use Rattle.sc_region.specs.Groups.{first_choice, group_of, students_at, widened}
use Rattle.sc_region.proofs.Having.{at-known, enough-tell, held-tell, listed-district, listed-student, position-listed, position-low, region-told, regrouped-widened, HasDistrict}
use Rattle.sc_region.proofs.Reaching.{TellRegion}
use Rattle.sc_region.proofs.districts.Districts.positions_among_listed.Goals as goal
use Rattle.sc_region.proofs.districts.Districts.positions_among_listed.Goals.{After-students_len}

pub listed_at-requires : goal.listed_at-requires
listed_at-requires c at among =
    let districts = c.requires.searched.widened.districts in
    position-listed c.args.papers.now c.args.self.now districts c.self.inside.firsts.items (ap (λ (v : DistrictsView). v.firsts) c.self.view_is) at
    (position-low c.args.papers.now c.args.self.now districts c.args.schools.now _ at c.requires.schools among)

pub few_hold_together-requires-clause-schools : goal.few_hold_together-requires-clause-schools
few_hold_together-requires-clause-schools c at among = position-low c.args.papers.now c.args.self.now c.requires.searched.widened.districts c.args.schools.now _ at c.requires.schools among

pub few_hold_together-requires-clause-within : goal.few_hold_together-requires-clause-within
few_hold_together-requires-clause-within c p among = c.in_ok-candidates.ensures.within p (subst (λ xs. Contains xs p) c.as_slice-listed.ensures.value (c.first_few.ensures p among))

pub positions_in-requires-clause-within : goal.positions_in-requires-clause-within
positions_in-requires-clause-within c p among = c.in_ok-candidates.ensures.within p (subst (λ xs. Contains xs p) c.as_slice-listed.ensures.value among)

pub positions_in-requires-2-clause-within : goal.positions_in-requires-2-clause-within
positions_in-requires-2-clause-within c p among = c.in_ok-candidates.ensures.within p (subst (λ xs. Contains xs p) c.as_slice-listed.ensures.value among)

pub groups_among-requires : goal.groups_among-requires
groups_among-requires c p among = c.in_ok-candidates.ensures.within p (subst (λ xs. Contains xs p) c.as_slice-listed.ensures.value among)

-- those who are listed have the district, by the groups and the lists as they are kept
has : (c : After-students_len)
    → HasDistrict c.args.papers.now c.args.amendment.now (record { groups = c.self.inside.groups.items; firsts = lists_in c.self.inside.firsts.items }) c.args.start c.args.schools.now c.as_slice-listed.result.now
has c =
    let listed = c.in_ok-candidates.ensures in
    listed-district c.args.papers.now c.args.amendment.now c.students_len.ensures.well_formed _ c.args.self.now c.self.view_is c.args.start c.requires.searched c.args.schools.now c.requires.schools
    c.in_ok-candidates.candidates.items c.as_slice-listed.result.now c.as_slice-listed.ensures.value listed.rising listed.within listed.all

pub returns-then-branch-clause-region : goal.returns-then-branch-clause-region
returns-then-branch-clause-region c =
    let have = has (goal.at.returns-then-branch-clause-region c).After-students_len in
    let numbers = c.self.inside.groups.items in
    let start = c.args.start in
    let its = c.requires.searched.start in
    let tell = held-tell c.args.papers.now c.args.amendment.now c.students_len.ensures.well_formed _ have.before start its c.args.schools.now have.schools_are (c.in_ok-few_hold_together.ensures c.if-branch.true) in
    region-told _ _ numbers tell _ have.rising have.within have.enough start its c.as_slice.result.now c.in_ok-positions.positions.items c.index-group.result.now
    c.as_slice.ensures.value (get_or_read numbers start c.index-group.result.now have.low c.index-group.ensures 0) c.in_ok-positions.ensures

pub returns-clause-region : goal.returns-clause-region
returns-clause-region c =
    let have = has (goal.at.returns-clause-region c).After-students_len in
    let m = c.args.papers.now in
    let a = c.args.amendment.now in
    let start = c.args.start in
    let exact = c.widen.new.groups.items in
    let joined = c.widen.ensures.widened ∙ ap (widened m a) (c.into_numbers-exact.ensures ∙ c.in_ok-groups_among.ensures.joined) in
    let tell = subst (TellRegion m a) (sym joined) (enough-tell m a c.students_len.ensures.well_formed c.requires.searched.widened.allowed _ have.within have.enough) in
    region-told m a exact tell _ have.rising have.within have.enough start c.requires.searched.start c.as_slice-2.result.now c.in_ok-positions-2.positions.items c.index.result.now
    c.as_slice-2.ensures.value (get_or_read exact start c.index.result.now (omega (arith, c.requires.searched.within, c.widen.ensures.one_each)) c.index.ensures 0) c.in_ok-positions-2.ensures

pub returns-clause-widened : goal.returns-clause-widened
returns-clause-widened c =
    let have = has (goal.at.returns-clause-widened c).After-students_len in
    let m = c.args.papers.now in
    let a = c.args.amendment.now in
    let numbers = c.self.inside.groups.items in
    let group = slice_index numbers c.args.start in
    let chosen = c.as_slice-listed.result.now in
    let joined = c.widen.ensures.widened ∙ ap (widened m a) (c.into_numbers-exact.ensures ∙ c.in_ok-groups_among.ensures.joined) in
    let own : c.index-group.result.now ≡ group = get_or_read numbers c.args.start c.index-group.result.now have.low c.index-group.ensures 0 in
    regrouped-widened m a c.students_len.ensures.well_formed c.requires.searched.widened.allowed _ have.before group (ap (slice_index numbers) c.requires.searched.start)
    (students_at m chosen) (at-known m chosen have.within) (listed-student m chosen (λ j. group_of m numbers (first_choice m j) ≡ group) have.all)
    c.widen.new.groups.items joined c.regroup.new.groups.items c.regroup.ensures.one_each
    (λ p low. c.regroup.ensures.numbers p low
    ∙ (λ t. if (slice_index numbers p == own t) then slice_index (c.as_slice-3.ensures.value t) p else slice_index numbers p))
