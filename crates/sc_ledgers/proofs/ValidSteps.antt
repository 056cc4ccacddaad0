-- In the course of a chain an entry is valid only as the chain's next step.
use Rattle.std.proofs.Common.{◌≡◌, inl, inr, ap, sym, ◌∙◌, ℕ, ◌+◌, ◌≤◌, ◌==◌, true, false, not, ◌&&◌, List, Some, arith}
use Rattle.std.proofs.lemmas.Bool.{cases_Bool, and_parts, and_from, and_right, false≢true, ne_eqb}
use Rattle.sc_papers.specs.Market.{Market}
use Rattle.sc_papers.specs.Key.{is_ahead}
use Rattle.sc_papers.specs.WellFormed.{WellFormed}
use Rattle.sc_papers.specs.Matching.{has, held}
use Rattle.sc_papers.specs.Log.{next_choice, matching_of, rivals, IsValidEntry}
use Rattle.sc_papers.specs.Chain.{held_by_others, InChain, PutsOut}
use Rattle.sc_papers.specs.declared.rejection.Rejection.{Rejection}
use Rattle.sc_papers.proofs.Chain.{how_many-split}
use Rattle.sc_papers.proofs.Priority.{ahead-irrefl}
use Rattle.sc_papers.proofs.Rejections.{has-true, has-some}
use Rattle.sc_papers.proofs.Students.{how_many-le, how_many-lt}
use Rattle.sc_papers.proofs.Validity.{next-among}

module _ (m : Market) (well : WellFormed m) (log : List Rejection) where
  -- the school of one's next choice is held by one more than the others
  pub held-split : (i s : ℕ) → next_choice m log i ≡ Some s → held m (matching_of m log) s ≡ 1 + held_by_others m log i s
  held-split i s next = how_many-split m well (has (matching_of m log) s) i (next-among m log i s next) (has-some (matching_of m log) s i next)

  -- any other school is held by others alone
  held-apart : (hand s : ℕ) → has (matching_of m log) s hand ≡ false → held m (matching_of m log) s ≤ held_by_others m log hand s
  held-apart hand s elsewhere =
      how_many-le m (has (matching_of m log) s) (λ j. has (matching_of m log) s j && not (j == hand))
      (λ j stands. and_from (has (matching_of m log) s j) (not (j == hand)) stands
      (ap not (ne_eqb j hand (λ same. false≢true (sym elsewhere ∙ ap (has (matching_of m log) s) (sym same) ∙ stands)))))

  -- a rival is another one
  rival-other : (i s j : ℕ) → (has (matching_of m log) s j && is_ahead m s j i) ≡ true → (has (matching_of m log) s j && not (j == i)) ≡ true
  rival-other i s j rival =
      let parts = and_parts (has (matching_of m log) s j) (is_ahead m s j i) rival in
      and_from (has (matching_of m log) s j) (not (j == i)) parts.0
      (ap not (ne_eqb j i (λ same. false≢true (sym (ahead-irrefl m s i) ∙ ap (λ k. is_ahead m s k i) (sym same) ∙ parts.1))))

  pub rivals-others : (i s : ℕ) → rivals m log i s ≤ held_by_others m log i s
  rivals-others i s = how_many-le m (λ j. has (matching_of m log) s j && is_ahead m s j i) (λ j. has (matching_of m log) s j && not (j == i)) (rival-other i s)

  -- only the school to which the one in hand proposes can be too full
  valid-proposes : (hand : ℕ) (e : Rejection) → InChain m log hand → IsValidEntry m log e → next_choice m log hand ≡ Some e.school
  valid-proposes hand e chain valid =
      elim (cases_Bool (has (matching_of m log) e.school hand)) [
        | inl stands ↦ has-true (matching_of m log) e.school hand stands
        | inr elsewhere ↦ absurd (omega (
          arith,
          chain.others_within e.school,
          held-apart hand e.school elsewhere,
          held-split e.student e.school valid.next,
          rivals-others e.student e.school,
          valid.full,
        ))
      ]

  -- and of those who are there each is ahead of whom it rejects
  valid-last : (hand : ℕ) (e : Rejection) → InChain m log hand → IsValidEntry m log e → (j : ℕ) → next_choice m log j ≡ Some e.school → (j ≡ e.student → ⊥) → is_ahead m e.school j e.student ≡ true
  valid-last hand e chain valid j next apart =
      let s : ℕ = e.school in
      elim (cases_Bool (is_ahead m s j e.student)) [
        | inl ahead ↦ ahead
        | inr behind ↦ absurd (omega (
          arith,
          chain.others_within s,
          held-split hand s (valid-proposes hand e chain valid),
          held-split e.student s valid.next,
          valid.full,
          how_many-lt m (λ i. has (matching_of m log) s i && is_ahead m s i e.student) (λ i. has (matching_of m log) s i && not (i == e.student)) (rival-other e.student s) j (next-among m log j s next)
              (and_right (has (matching_of m log) s j) (is_ahead m s j e.student) behind)
              (and_from (has (matching_of m log) s j) (not (j == e.student)) (has-some (matching_of m log) s j next) (ap not (ne_eqb j e.student apart))),
        ))
      ]

  -- so the entry is the step of whoever is in hand
  pub valid-puts_out : (hand : ℕ) (e : Rejection) → InChain m log hand → IsValidEntry m log e → PutsOut m log hand e.school e.student
  valid-puts_out hand e chain valid =
      let proposes : next_choice m log hand ≡ Some e.school = valid-proposes hand e chain valid in
      record {
        proposes = proposes;
        full = omega (arith, held-split hand e.school proposes, held-split e.student e.school valid.next, rivals-others e.student e.school, valid.full);
        there = valid.next;
        last = valid-last hand e chain valid;
      }
