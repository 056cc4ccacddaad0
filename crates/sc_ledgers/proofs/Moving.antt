-- Stances keep in step with the logs of both runs.
use Rattle.std.proofs.Common.{◌≡◌, inl, inr, ap, sym, ◌∙◌, ℕ, List, [], ◌∷◌, ◌++◌, Option, Some}
use Rattle.sc_papers.specs.Market.{Market}
use Rattle.sc_papers.specs.Log.{next_choice}
use Rattle.sc_papers.specs.declared.rejection.Rejection.{Rejection}
use Rattle.sc_papers.proofs.Rejections.{next-same}
use Rattle.sc_ledgers.specs.Elsewhere.{AreStances, HasMoved}
use Rattle.sc_ledgers.specs.declared.elsewhere.Run.TheVariants.{Old, New}
use Rattle.sc_ledgers.specs.declared.elsewhere.Stance.{Stance}

-- the old run rejects a student
pub stances-old : (m n : Market) (log other : List Rejection) (list moved : List Stance) (e : Rejection) (next : Option ℕ) → AreStances m n log other list → HasMoved list moved Old e next → next_choice m log e.student ≡ Some e.school → next ≡ next_choice m (log ++ e ∷ []) e.student → AreStances m n (log ++ e ∷ []) other moved
stances-old m n log other list moved e next stances moves there goes = record {
  old = λ x here. elim (moves.only x here) [
    | inl (before, apart) ↦ next-same m log e x.student (λ same. apart (sym same)) ∙ stances.old x before
    | inr (same, is, rest) ↦ ap (next_choice m (log ++ e ∷ [])) same ∙ sym goes ∙ sym is
  ];
  new = λ x here. elim (moves.only x here) [
    | inl (before, apart) ↦ stances.new x before
    | inr (same, is, inl (y, before, one, stays)) ↦ ap (next_choice n other) (same ∙ sym one) ∙ stances.new y before ∙ sym stays
    | inr (same, is, inr (absent, stood)) ↦ ap (next_choice n other) same ∙ stances.alike e.student absent ∙ there ∙ sym stood
  ];
  alike = λ j absent.
      stances.alike j (λ x before same. absent x (moves.kept x before (λ one. absent moves.there.0 moves.there.1 (moves.there.2 ∙ sym one ∙ same))) same)
      ∙ sym (next-same m log e j (λ same. absent moves.there.0 moves.there.1 (moves.there.2 ∙ same)));
}

-- and so does the new one
pub stances-new : (m n : Market) (log other : List Rejection) (list moved : List Stance) (e : Rejection) (next : Option ℕ) → AreStances m n log other list → HasMoved list moved New e next → next_choice n other e.student ≡ Some e.school → next ≡ next_choice n (other ++ e ∷ []) e.student → AreStances m n log (other ++ e ∷ []) moved
stances-new m n log other list moved e next stances moves there goes = record {
  old = λ x here. elim (moves.only x here) [
    | inl (before, apart) ↦ stances.old x before
    | inr (same, is, inl (y, before, one, stays)) ↦ ap (next_choice m log) (same ∙ sym one) ∙ stances.old y before ∙ sym stays
    | inr (same, is, inr (absent, stood)) ↦ ap (next_choice m log) same ∙ sym (stances.alike e.student absent) ∙ there ∙ sym stood
  ];
  new = λ x here. elim (moves.only x here) [
    | inl (before, apart) ↦ next-same n other e x.student (λ same. apart (sym same)) ∙ stances.new x before
    | inr (same, is, rest) ↦ ap (next_choice n (other ++ e ∷ [])) same ∙ sym goes ∙ sym is
  ];
  alike = λ j absent.
      next-same n other e j (λ same. absent moves.there.0 moves.there.1 (moves.there.2 ∙ same))
      ∙ stances.alike j (λ x before same. absent x (moves.kept x before (λ one. absent moves.there.0 moves.there.1 (moves.there.2 ∙ sym one ∙ same))) same);
}
