use Rattle.std.proofs.Common.{◌≡◌, ap, inr, sym, subst, ◌∙◌, None, Some}
use Rattle.sc_papers.specs.Verdict.{verdict}
use Rattle.sc_stamps.specs.Verdict.{StampedPapers, stamped_after}
use Rattle.sc_repair.specs.{Stamped.{stamped_papers}, Standing.{CountsRegion}}
use Rattle.sc_journal.proofs.Replays.{allowed-of, refusal-of}
use Rattle.sc_journal.proofs.journal.settle_and_amend.Goals as goal

pub returns-in-Err-check : goal.returns-in-Err-check
returns-in-Err-check c =
    let refused = refusal-of _ c.in-Err-check.refusal (sym c.in-Err-check.is ∙ c.check.ensures) in
    let papers = c.papers.ensures.papers in
    let deref = c.deref.ensures in
    let same = c.in-Ok-settle.ensures.papers in
    let market : c.deref.result.now ≡ c.args.amended.papers = deref ∙ papers ∙ ap (λ (p : StampedPapers). p.papers) same in
    inr (c.in-Ok.amendment, c.in-Ok.ensures, ap (λ m. verdict m c.in-Ok.amendment) (sym market) ∙ refused)

pub returns-in-Ok-amend_allowed : goal.returns-in-Ok-amend_allowed
returns-in-Ok-amend_allowed c =
    let same = c.in-Ok-settle.ensures.papers in
    let papers = c.papers.ensures.papers in
    let deref = c.deref.ensures in
    let market : c.deref.result.now ≡ c.args.amended.papers = deref ∙ papers ∙ ap (λ (p : StampedPapers). p.papers) same in
    let allowed : verdict c.deref.result.now c.in-Ok.amendment ≡ None = allowed-of _ c.in-Ok-check.field-0 (sym c.in-Ok-check.is ∙ c.check.ensures) in
    record {
      taken = record {
        amendment = c.in-Ok.amendment;
        spelled = c.in-Ok.ensures;
        accepted = ap (λ m. verdict m c.in-Ok.amendment) (sym market) ∙ allowed;
        papers = c.in-Ok-amend_allowed.ensures.accepted ∙ ap (λ p. stamped_after p c.in-Ok.amendment) same;
      };
      certified = c.amend_allowed.ensures.certified;
      proposals = subst (λ (p : StampedPapers). CountsRegion p.papers c.in-Ok.amendment c.amend_allowed.new.self.standing) same c.in-Ok-amend_allowed.ensures.proposals;
    }
