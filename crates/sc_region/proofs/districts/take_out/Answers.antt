use Rattle.std.proofs.Common.{◌==◌, ◌∙◌, ap, sym, subst, not, refl, Contains}
use Rattle.std.proofs.lemmas.Bool.{eq-eqb, false≢true, ne_eqb}
use Rattle.sc_region.specs.Districts.{students_in}
use Rattle.sc_region.proofs.Filtering.{filter-among, filter-kept}
use Rattle.sc_region.proofs.Firsts.{list-here, list-read, lists-keep}
use Rattle.sc_region.proofs.districts.take_out.Goals as goal

pub returns-clause-others : goal.returns-clause-others
returns-clause-others c p i other =
    let lists = c.args.firsts.now.items in
    let was = c.index_mut.result.now in
    let read = list-read lists c.args.school was c.requires c.index_mut.ensures.value in
    lists-keep lists c.args.school c.strike.new.list i c.requires
    (λ among. subst (λ xs. Contains xs i) (sym c.strike.ensures) (filter-kept (λ k. not (k == c.args.student)) (students_in was.items) i (subst (λ xs. Contains xs i) (sym read) among) (ap not (ne_eqb i c.args.student other)))) p

pub returns-clause-gone : goal.returns-clause-gone
returns-clause-gone c among =
    let student = c.args.student in
    let kept = subst (λ xs. Contains xs student) (list-here c.args.firsts.now.items c.args.school c.strike.new.list c.requires ∙ c.strike.ensures) among in
    let passes = (filter-among (λ k. not (k == student)) (students_in c.index_mut.result.now.items) student kept).1 in
    false≢true (sym (ap not (eq-eqb student student refl)) ∙ passes)
