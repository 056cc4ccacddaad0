use Rattle.std.proofs.Common.{◌<◌, ℕ, List, length, sym, subst}
use Rattle.sc_papers.specs.Market.{schools_of}
use Rattle.sc_region.specs.Districts.{lists_in, AreDistricts, AreWidened, DistrictsView}
use Rattle.sc_region.specs.Groups.{start_of}
use Rattle.sc_region.proofs.Changes.{start-known}
use Rattle.sc_region.proofs.Joining.{position-within}
use Rattle.sc_region.proofs.Having.{groups-widened}
use Rattle.sc_region.proofs.districts.Districts.widen.Goals as goal

pub returns : goal.returns
returns c =
    let m = c.args.papers.now in
    let a = c.args.amendment.now in
    let well = c.students_len.ensures.well_formed in
    let allowed = c.requires.beside.allowed in
    let d : DistrictsView = record { groups = c.self.inside.groups.items; firsts = lists_in c.self.inside.firsts.items } in
    let old : AreDistricts m d = subst (AreDistricts m) (sym c.self.view_is) c.requires.districts in
    record {
      widened = subst (λ (gs : List ℕ). AreWidened m a (record { groups = gs; firsts = lists_in c.self.inside.firsts.items })) (sym c.widen.ensures.widened)
          (groups-widened m a well allowed d.groups old.one_each old.closed d old);
      start = c.widen.ensures.start;
      within = subst (λ (at : ℕ). at < length (schools_of m)) (sym c.widen.ensures.start) (position-within m (start_of m a) (start-known m a well allowed)).0;
    }
