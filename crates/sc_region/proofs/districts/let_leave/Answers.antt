use Rattle.std.proofs.Common.{◌≡◌, ap, sym, subst, ◌∙◌, Some, Contains}
use Rattle.std.proofs.lemmas.Option.{same_Some}
use Rattle.sc_region.specs.{Districts.{firsts_at, lists_in, unlisted_by}, Groups.{first_choice, position_of}}
use Rattle.sc_region.proofs.districts.let_leave.Goals as goal

pub returns-in-Some-clause-gone : goal.returns-in-Some-clause-gone
returns-in-Some-clause-gone c i own among =
    let m = c.args.papers.now in
    let left : unlisted_by c.args.amendment.now ≡ Some c.in-Some.student = sym c.unlisted_by.ensures ∙ c.in-Some.is in
    let one : c.in-Some.student ≡ i = same_Some c.in-Some.student i (sym left ∙ own) in
    let at : c.position_of.result ≡ position_of m (first_choice m i) = c.position_of.ensures.position ∙ ap (position_of m) (c.first_choice.ensures.first ∙ ap (first_choice m) one) in
    c.take_out.ensures.gone
    (subst (λ p. Contains (firsts_at (lists_in c.take_out.new.firsts.items) p) c.in-Some.student) (sym at)
    (subst (Contains (firsts_at (lists_in c.take_out.new.firsts.items) (position_of m (first_choice m i)))) (sym one) among))
