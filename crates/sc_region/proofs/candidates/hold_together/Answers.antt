use Rattle.std.proofs.Common.{inl, inr, ap, subst, sym, ◌∙◌, length, get_or, take_all, Contains, arith}
use Rattle.std.specs.Prelude.{slice_index}
use Rattle.std.proofs.lemmas.List.Elements.{Contains-get_or}
use Rattle.sc_region.proofs.Listed.{taken-cases}
use Rattle.sc_region.proofs.candidates.hold_together.Goals as goal

pub group_at-requires : goal.group_at-requires
group_at-requires c =
    let at = c.loop-school.school-index in
    let low = c.requires.schools (get_or c.args.schools.now at 0) (Contains-get_or c.args.schools.now at 0 c.loop-school-test.true) in
    omega (arith, low, ap length c.loop-school.invariant.same)

pub loop-school-preserved : goal.loop-school-preserved
loop-school-preserved c =
    let xs = c.args.schools.now in
    let at = c.loop-school.school-index in
    let before = c.loop-school.invariant in
    record {
      same = c.group_at.ensures.same ∙ before.same;
      own = before.own;
      together = λ other among. elim (taken-cases xs at 0 other c.loop-school-test.true among) [
        | inl earlier ↦ before.together other earlier
        | inr same ↦
            (λ t. slice_index (sym before.same t) (sym same t))
            ∙ sym c.group_at.ensures.group ∙ c.if-group_at-group.false ∙ before.own
      ];
    }

pub returns : goal.returns
returns c held other among =
    c.loop-school.invariant.together other (subst (λ xs. Contains xs other) (sym (take_all c.loop-school.school-index c.args.schools.now c.loop-school-test.false)) among)
