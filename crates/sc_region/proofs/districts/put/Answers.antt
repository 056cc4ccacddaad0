use Rattle.std.proofs.Common.{◌∷◌, [], ap, sym, subst, ◌∙◌, Contains}
use Rattle.std.proofs.lemmas.List.Elements.{Contains-append_left, Contains-push}
use Rattle.sc_region.specs.Districts.{students_in}
use Rattle.sc_region.proofs.Firsts.{list-here, list-read, lists-keep, students-push}
use Rattle.sc_region.proofs.districts.put.Goals as goal

pub returns-clause-has : goal.returns-clause-has
returns-clause-has c =
    let lists = c.args.firsts.now.items in
    let was = c.index_mut.result.now in
    let new = c.push.new.self in
    let more = ap students_in c.in_ok-push.ensures.items ∙ students-push was.items c.args.first in
    subst (λ xs. Contains xs c.args.first.student) (sym (list-here lists c.args.school new c.requires ∙ more)) (Contains-push (students_in was.items) c.args.first.student)

pub returns-clause-keeps : goal.returns-clause-keeps
returns-clause-keeps c p i =
    let lists = c.args.firsts.now.items in
    let was = c.index_mut.result.now in
    let new = c.push.new.self in
    let more = ap students_in c.in_ok-push.ensures.items ∙ students-push was.items c.args.first in
    let read = list-read lists c.args.school was c.requires c.index_mut.ensures.value in
    lists-keep lists c.args.school new i c.requires
    (λ among. subst (λ xs. Contains xs i) (sym more) (Contains-append_left (students_in was.items) (c.args.first.student ∷ []) i (subst (λ xs. Contains xs i) (sym read) among))) p
