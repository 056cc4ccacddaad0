use Rattle.std.proofs.Common.{ℕ, List, ap, sym, subst, ◌∙◌, Contains, Global, Vec}
use Rattle.std.proofs.lemmas.List.{length-map}
use Rattle.sc_papers.proofs.Amending.{WellFormed-after}
use Rattle.sc_papers.specs.Verdict.{after}
use Rattle.sc_region.specs.{Districts.{firsts_at, lists_in, AreDistricts, AreWidened, DistrictsView}, Groups.{first_choice, position_of}, declared.first.First.{First}}
use Rattle.sc_region.proofs.Firsts.{names}
use Rattle.sc_region.proofs.Following.{districts-after}
use Rattle.sc_region.proofs.districts.Districts.list_anew.Goals as goal

pub returns-clause-listed : goal.returns-clause-listed
returns-clause-listed c =
    let m = c.args.papers.now in
    let a = c.args.amendment.now in
    let well = c.students_len.ensures.well_formed in
    let d : DistrictsView = record { groups = c.districts.inside.groups.items; firsts = lists_in c.districts.inside.firsts.items } in
    let old : AreWidened m a d = subst (AreWidened m a) (sym c.districts.view_is) c.requires in
    subst (λ (gs : List ℕ). AreDistricts (after m a) (record { groups = gs; firsts = lists_in c.let_come.new.firsts.items })) old.joined
    (districts-after m a well (WellFormed-after m a well c.requires.allowed) c.requires.allowed d old.districts (lists_in c.let_come.new.firsts.items)
    (length-map c.let_come.new.firsts.items names ∙ c.in_ok-let_come.ensures.one_each ∙ c.let_leave.ensures.one_each ∙ sym (length-map c.districts.inside.firsts.items names))
    (λ p i stays among. c.in_ok-let_come.ensures.keeps p i (c.let_leave.ensures.others p i stays among))
    c.in_ok-let_come.ensures.moved)

pub returns-clause-gone : goal.returns-clause-gone
returns-clause-gone c i own nobody among =
    let m = c.args.papers.now in
    c.let_leave.ensures.gone i own (subst (λ (lists : List (Vec First Global)). Contains (firsts_at (lists_in lists) (position_of m (first_choice m i))) i) (ap (λ firsts. firsts.items) (c.in_ok-let_come.ensures.nobody nobody)) among)
