use Rattle.std.proofs.Common.{◌≡◌, ap, sym, subst, ◌∙◌, Some, Contains}
use Rattle.std.proofs.lemmas.Option.{same_Some}
use Rattle.sc_region.specs.Districts.{listed_by, firsts_at, lists_in, new_first}
use Rattle.sc_region.specs.Groups.{new_choices, position_of}
use Rattle.sc_region.proofs.Joining.{first-read}
use Rattle.sc_region.proofs.Following.{listed_by-some}
use Rattle.sc_region.proofs.districts.let_come.Goals as goal

pub returns-in_ok-put-clause-moved : goal.returns-in_ok-put-clause-moved
returns-in_ok-put-clause-moved c i own =
    let m = c.args.papers.now in
    let a = c.args.amendment.now in
    let came : listed_by a ≡ Some c.in-Some.student = sym c.listed_by.ensures ∙ c.in-Some.is in
    let one : c.in-Some.student ≡ i = same_Some c.in-Some.student i (sym came ∙ own) in
    let listed : c.new.result.student ≡ i = c.new.ensures ∙ one in
    let first : c.index-new_choices-0.result ≡ new_first a =
    first-read c.new_choices.result.now (new_choices a) c.index-new_choices-0.result (listed_by-some m a c.requires.allowed i own) c.index-new_choices-0.is c.new_choices.ensures in
    subst (λ q. Contains (firsts_at (lists_in c.put.new.firsts.items) q) i) (c.position_of.ensures.position ∙ ap (position_of m) first)
    (subst (Contains (firsts_at (lists_in c.put.new.firsts.items) c.position_of.result)) listed c.in_ok-put.ensures.has)
