-- Stamped amendments of desks that leave the same papers, up to order, leave one matching and one report.
use Rattle.std.proofs.Common.{◌≡◌, inl, inr, refl, sym, ap, ◌∙◌, ℕ, List, [], ◌∷◌}
use Rattle.sc_papers.specs.Market.{Market}
use Rattle.sc_papers.specs.Matching.{IsStudentOptimal, Matching}
use Rattle.sc_papers.specs.Reordering.{IsReordering}
use Rattle.sc_papers.specs.WellFormed.{WellFormed}
use Rattle.sc_papers.specs.declared.amendment.Stamped.{Stamped}
use Rattle.sc_papers.proofs.Weaving.{reordered-matching}
use Rattle.sc_stamps.specs.History.{after_list}
use Rattle.sc_stamps.specs.Verdict.{StampedPapers, stamped_after, unamended}
use Rattle.sc_stamps.proofs.Turns.{accepted-or-refused, list-accepted, list-refused, well-list}
use Rattle.sc_report.specs.Text.{report_text}
use Rattle.sc_report.proofs.Orders.{optimal-moved}
use Rattle.sc_runs.specs.Desks.{papers_after, AreSameUpToOrder}
use Rattle.sc_runs.proofs.Seeds.{seed-after}

-- amendments keep the seed
seed-list : (p : StampedPapers) (list : List Stamped) → (after_list p list).papers.seed ≡ p.papers.seed
unfolding after_list
seed-list p [] = refl
seed-list p (stamped ∷ rest) =
    elim (accepted-or-refused p stamped) [
      | inl accepted ↦
          ap (λ (q : StampedPapers). q.papers.seed) (list-accepted p stamped rest accepted)
          ∙ seed-list (stamped_after p stamped.amendment) rest ∙ seed-after p.papers stamped.amendment
      | inr (refusal, refused) ↦ ap (λ (q : StampedPapers). q.papers.seed) (list-refused p stamped rest refusal refused) ∙ seed-list p rest
    ]

-- so papers after two lists that have the same schools and students differ in their order alone
module _ (m : Market) (first second : List Stamped) (a b : Matching) (well : WellFormed m) (same : AreSameUpToOrder (papers_after m first) (papers_after m second)) where
  moved : IsReordering (papers_after m first) (papers_after m second)
  moved = record {
    seed = seed-list (unamended m) second ∙ sym (seed-list (unamended m) first);
    schools = same.schools;
    students = same.students;
  }

  pub desks-matching : IsStudentOptimal (papers_after m first) a → IsStudentOptimal (papers_after m second) b → (i : ℕ) → a i ≡ b i
  desks-matching = reordered-matching (papers_after m first) (papers_after m second) a b (well-list (unamended m) first well) moved

  pub desks-report : IsStudentOptimal (papers_after m first) a → IsStudentOptimal (papers_after m second) b → report_text (papers_after m first) a ≡ report_text (papers_after m second) b
  desks-report = optimal-moved (papers_after m first) (papers_after m second) a b (well-list (unamended m) first well) moved
