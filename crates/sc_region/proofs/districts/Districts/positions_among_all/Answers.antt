use Rattle.std.proofs.Common.{◌<◌, ℕ, List, ap, sym, subst, ◌∙◌, length, Contains, arith}
use Rattle.std.specs.Prelude.{slice_index}
use Rattle.std.proofs.lemmas.List.{get_or_read}
use Rattle.sc_region.specs.Districts.{lists_in, AreDistricts, AreWidened, DistrictsView}
use Rattle.sc_region.specs.Groups.{schools_of_group}
use Rattle.sc_region.proofs.Having.{all-told, held-tell, position-low, all-joined, all-widened}
use Rattle.sc_region.proofs.Reaching.{all-tell, TellRegion}
use Rattle.sc_region.proofs.districts.Districts.positions_among_all.Goals as goal

pub few_hold_together-requires-clause-schools : goal.few_hold_together-requires-clause-schools
few_hold_together-requires-clause-schools c at among = position-low c.args.papers.now c.args.self.now c.requires.searched.widened.districts c.args.schools.now _ at c.requires.schools among

pub few_hold_together-requires-clause-within : goal.few_hold_together-requires-clause-within
few_hold_together-requires-clause-within c p among = c.in_ok-few.ensures p (subst (λ xs. Contains xs p) c.as_slice.ensures.value among)

pub returns-then-branch-clause-region : goal.returns-then-branch-clause-region
returns-then-branch-clause-region c =
    let m = c.args.papers.now in
    let a = c.args.amendment.now in
    let start = c.args.start in
    let its = c.requires.searched.start in
    let d : DistrictsView = record { groups = c.self.inside.groups.items; firsts = lists_in c.self.inside.firsts.items } in
    let before : AreWidened m a d = subst (AreWidened m a) (sym c.self.view_is) c.requires.searched.widened in
    let are = c.requires.schools ∙ ap (λ (v : DistrictsView). schools_of_group v.groups (slice_index v.groups start)) (sym c.self.view_is) in
    let tell = held-tell m a c.students_len.ensures.well_formed d before start its c.args.schools.now are (c.in_ok-few_hold_together.ensures c.if-branch.true) in
    let low : start < length d.groups = omega (arith, c.requires.searched.within, before.districts.one_each) in
    all-told m a d.groups tell start its c.as_slice-then-branch.result.now c.in_ok-positions.positions.items c.index-group.result.now
    c.as_slice-then-branch.ensures.value (get_or_read d.groups start c.index-group.result.now low c.index-group.ensures 0) c.in_ok-positions.ensures

pub returns-clause-region : goal.returns-clause-region
returns-clause-region c =
    let m = c.args.papers.now in
    let a = c.args.amendment.now in
    let start = c.args.start in
    let exact = c.widen.new.groups.items in
    let tell : TellRegion m a exact =
    subst (TellRegion m a) (sym (all-joined m a _ _ c.widen.ensures.widened (c.into_numbers-exact.ensures ∙ c.in_ok-groups_of.ensures.joined)))
    (all-tell m a c.students_len.ensures.well_formed c.requires.searched.widened.allowed) in
    let low : start < length exact = omega (arith, c.requires.searched.within, c.widen.ensures.one_each) in
    all-told m a exact tell start c.requires.searched.start c.as_slice-2.result.now c.in_ok-positions-2.positions.items c.index.result.now
    c.as_slice-2.ensures.value (get_or_read exact start c.index.result.now low c.index.ensures 0) c.in_ok-positions-2.ensures

pub returns-clause-widened : goal.returns-clause-widened
returns-clause-widened c =
    let m = c.args.papers.now in
    let a = c.args.amendment.now in
    let d : DistrictsView = record { groups = c.self.inside.groups.items; firsts = lists_in c.self.inside.firsts.items } in
    subst (λ (gs : List ℕ). AreWidened m a (record { groups = gs; firsts = d.firsts })) (sym (all-joined m a _ _ c.widen.ensures.widened (c.into_numbers-exact.ensures ∙ c.in_ok-groups_of.ensures.joined)))
    (all-widened m a c.students_len.ensures.well_formed c.requires.searched.widened.allowed d (subst (AreDistricts m) (sym c.self.view_is) c.requires.searched.widened.districts))
