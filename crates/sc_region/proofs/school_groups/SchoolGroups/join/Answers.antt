use Rattle.std.proofs.Common.{◌≡◌, ap, sym, ◌∙◌, length, min, max}
use Rattle.sc_region.specs.Groups.{joined}
use Rattle.sc_region.specs.Roots.{root_of}
use Rattle.sc_region.proofs.Roots.{climbed-joined, length-joined, joined-one, own-within, KeepsRoots-trans}
use Rattle.sc_region.proofs.school_groups.SchoolGroups.join.Goals as goal

pub returns-clause-joined : goal.returns-clause-joined
returns-clause-joined c =
    let p = c.self.inside.parents.items in
    let q = c.find_root-first.new.parents.items in
    let r = c.find_root-second.new.parents.items in
    let a = c.args.a in
    let b = c.args.b in
    let a_within = own-within p c.args.self.now c.self.view_is a c.requires.first in
    let b_within = own-within p c.args.self.now c.self.view_is b c.requires.second in
    let first = c.find_root-first.ensures in
    let second : c.find_root-second.result ≡ root_of p b = c.find_root-second.ensures.root ∙ first.keeps.roots b in
    let both = climbed-joined p r a b c.min.result c.max.result (KeepsRoots-trans p q r first.keeps c.find_root-second.ensures.keeps) a_within b_within
    (c.min.ensures ∙ (λ t. min (first.root t) (second t))) (c.max.ensures ∙ (λ t. max (first.root t) (second t))) in
    both.1 ∙ ap (λ xs. joined xs a b) c.self.view_is

pub returns-then-have_one_parent-clause-joined : goal.returns-then-have_one_parent-clause-joined
returns-then-have_one_parent-clause-joined c =
    let p = c.self.inside.parents.items in
    let a_within = own-within p c.args.self.now c.self.view_is c.args.a c.requires.first in
    let b_within = own-within p c.args.self.now c.self.view_is c.args.b c.requires.second in
    sym c.self.view_is ∙ sym (joined-one p c.args.a c.args.b a_within b_within (c.have_one_parent.ensures c.if-have_one_parent.true)) ∙ ap (λ xs. joined xs c.args.a c.args.b) c.self.view_is

pub returns-clause-one_each : goal.returns-clause-one_each
returns-clause-one_each c = ap length (returns-clause-joined c) ∙ length-joined c.args.self.now c.args.a c.args.b
