use Rattle.std.proofs.Common.{◌∙◌, ap, false, get_or, sym, subst, Bool, List, Contains}
use Rattle.sc_region.proofs.MarkedPositions.{marks-say}
use Rattle.sc_region.proofs.marks.RegionPositions.positions.Goals as goal

pub returns-clause-marked : goal.returns-clause-marked
returns-clause-marked c p =
    let say = marks-say c.self.inside.count c.self.inside.positions.items c.self.invariant p in
    let mark = ap (λ (marks : List Bool). get_or marks p false) c.self.view_is in (
      λ among. sym mark ∙ say.0 (subst (λ xs. Contains xs p) c.as_slice.ensures.value among),
      λ its. subst (λ xs. Contains xs p) (sym c.as_slice.ensures.value) (say.1 (mark ∙ its)),
    )
