use Rattle.std.proofs.Common.{◌≡◌, inl, inr, sym, ap, subst, ◌∙◌, Some, get_or, arith}
use Rattle.std.proofs.lemmas.Bool.{cases_eq}
use Rattle.std.proofs.lemmas.Option.{get_or_from_slice_get, slice_get-get_or}
use Rattle.sc_ledgers.specs.Course.{labels_of, HasNone, IsAfter}
use Rattle.sc_ledgers.proofs.striking.strike_turn.Goals as goal

pub loop-entry-preserved : goal.loop-entry-preserved
loop-entry-preserved c =
    let m = c.args.papers.now in
    let (one_each, struck, first, later) = c.loop-entry.invariant in
    let new = labels_of m c.strike_next.new.ledgers.items in (
      c.strike_next.ensures.one_each,
      record {
        kept = λ s label at other. c.strike_next.ensures.struck.kept s label (struck.kept s label at other) other;
        only = λ s label at. struck.only s label (c.strike_next.ensures.struck.only s label at);
      },
      λ s listed label here. first s listed label (c.strike_next.ensures.struck.only s label here),
      λ j e s low there after. elim (cases_eq j c.loop-entry.entry-index) [
        | inr other ↦ λ label here. later j e s (omega (arith, low, other)) there after label (c.strike_next.ensures.struck.only s label here)
        | inl same ↦
            let is : c.entry-item.result ≡ e = c.entry-item.is ∙ ap (λ k. get_or c.args.segment.now k c.entry-item.result) (sym same) ∙ get_or_from_slice_get c.args.segment.now j e c.entry-item.result there in
            subst (λ x. HasNone m c.args.turn x.student s new) is (c.strike_next.ensures.none s (subst (λ x. IsAfter m x s) (sym is) after))
      ],
    )

pub returns-clause-later : goal.returns-clause-later
returns-clause-later c e s (k, low, at) after = c.loop-entry.invariant.3 k e s (omega (arith, low, c.loop-entry-test.false)) (slice_get-get_or c.args.segment.now k e low ∙ ap Some at) after
