use Rattle.std.proofs.Common.{◌≡◌, inl, inr, refl, ap, sym, subst, ◌∙◌, ℕ, Option, None, nat_eq, position, Some, true, get_or, Contains, arith}
use Rattle.std.specs.Prelude.{IfSome}
use Rattle.std.proofs.lemmas.Bool.{cases_eq}
use Rattle.std.proofs.lemmas.Option.{get_or_from_slice_get, slice_get-get_or}
use Rattle.sc_papers.specs.Market.{schools_of}
use Rattle.sc_ledgers.specs.Marks.{marked_in}
use Rattle.sc_ledgers.specs.declared.elsewhere.Stance.{Stance}
use Rattle.sc_ledgers.proofs.Flagging.{marked-still, more-then}
use Rattle.sc_ledgers.proofs.marks.Marks.mark_all.Goals as goal

if-some : (o : Option ℕ) (P : ℕ → Type 0) → ((s : ℕ) → o ≡ Some s → P s) → IfSome o P
if-some None P all = tt
if-some (Some s) P all = all s refl

pub loop-stance-preserved : goal.loop-stance-preserved
loop-stance-preserved c =
    let m = c.args.papers.now in
    let now = c.mark_school-in-loop-stance.new.self in
    let first = c.in_ok-mark_school.ensures.more in
    let then = c.in_ok-mark_school-2.ensures.more in (
      more-then c.args.self.now c.loop-stance.self now c.loop-stance.invariant.0 (more-then c.loop-stance.self c.mark_school.new.self now first then),
      λ j x s low at stands. elim (cases_eq j c.loop-stance.stance-index) [
        | inr other ↦ marked-still m c.loop-stance.self now (more-then c.loop-stance.self c.mark_school.new.self now first then) s (c.loop-stance.invariant.1 j x s (omega (arith, low, other)) at stands)
        | inl same ↦
            let is : c.stance-item.result ≡ x = c.stance-item.is ∙ ap (λ k. get_or c.args.stances.now k c.stance-item.result) (sym same) ∙ get_or_from_slice_get c.args.stances.now j x c.stance-item.result at in
            elim stands [
              | inl old ↦ marked-still m c.mark_school.new.self now then s (subst (λ o. IfSome o (λ t. marked_in m c.mark_school.new.self.flags t ≡ true)) (ap (λ (z : Stance). z.old) is ∙ old) c.in_ok-mark_school.ensures.marked)
              | inr new ↦ subst (λ o. IfSome o (λ t. marked_in m now.flags t ≡ true)) (ap (λ (z : Stance). z.new) is ∙ new) c.in_ok-mark_school-2.ensures.marked
            ]
      ],
      λ test named before.
          let here : Contains c.args.stances.now c.stance-item.result = (c.loop-stance.stance-index, c.loop-stance-test.true, sym c.stance-item.is) in
          c.in_ok-mark_school-2.ensures.passes test
          (if-some c.stance-item.result.new (λ s. (p : ℕ) → position (nat_eq s) (schools_of m) ≡ Some p → test p ≡ true) (λ s is p at. named s p (c.stance-item.result, here, inr is) at))
          (c.in_ok-mark_school.ensures.passes test
          (if-some c.stance-item.result.old (λ s. (p : ℕ) → position (nat_eq s) (schools_of m) ≡ Some p → test p ≡ true) (λ s is p at. named s p (c.stance-item.result, here, inl is) at))
          (c.loop-stance.invariant.2 test named before)),
    )

pub returns-clause-marked : goal.returns-clause-marked
returns-clause-marked c s (x, (j, low, at), stands) = c.loop-stance.invariant.1 j x s (omega (arith, low, c.loop-stance-test.false)) (slice_get-get_or c.args.stances.now j x low ∙ ap Some at) stands
