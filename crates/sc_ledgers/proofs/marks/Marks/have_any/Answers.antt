use Rattle.std.proofs.Common.{◌≡◌, ap, sym, subst, ◌∙◌, false, get_or, inl, inr, arith}
use Rattle.std.proofs.lemmas.Bool.{cases_eq}
use Rattle.std.proofs.lemmas.Option.{get_or_from_slice_get, slice_get-get_or}
use Rattle.sc_papers.specs.declared.rejection.Rejection.{Rejection}
use Rattle.sc_ledgers.specs.Marks.{marked_in}
use Rattle.sc_ledgers.proofs.marks.Marks.have_any.Goals as goal

pub loop-entry-preserved : goal.loop-entry-preserved
loop-entry-preserved c j e low at = elim (cases_eq j c.loop-entry.entry-index) [
  | inr other ↦ c.loop-entry.invariant j e (omega (arith, low, other)) at
  | inl same ↦
      let it : c.entry-item.result ≡ e = c.entry-item.is ∙ ap (λ k. get_or c.args.segment.now k c.entry-item.result) (sym same) ∙ get_or_from_slice_get c.args.segment.now j e c.entry-item.result at in
      subst (λ (x : Rejection). marked_in c.args.papers.now c.args.self.now.flags x.school ≡ false) it (sym c.have.ensures ∙ c.if-have.false)
]

pub returns : goal.returns
returns c none k d low = c.loop-entry.invariant k (get_or c.args.segment.now k d) (omega (arith, low, c.loop-entry-test.false)) (slice_get-get_or c.args.segment.now k d low)
