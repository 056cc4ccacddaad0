-- Where the first two students stand once they alone have entered.
use Rattle.std.proofs.Common.{◌≡◌, refl, ap, sym, subst, ◌∙◌, ℕ, nat_eq, true, false, ◌||◌, List, [], ◌∷◌, map, take, slice_get, Option, Some, arith}
use Rattle.std.specs.List.{IsDistinct, list_any}
use Rattle.std.proofs.lemmas.Bool.{eq-eqb, or_left, or_right}
use Rattle.std.proofs.lemmas.Cmp.{nat_eq_equiv}
use Rattle.std.proofs.lemmas.Option.{none-some, same_Some, slice_get_within, get_or_from_slice_get}
use Rattle.std.proofs.lemmas.List.Elements.{All-cons, All-nil}
use Rattle.std.proofs.lemmas.Map.Keys.{apart_from_distinct}
use Rattle.sc_papers.specs.Log.{next_choice, IsSettled}
use Rattle.sc_papers.specs.Market.{Market, is_student, students_of}
use Rattle.sc_papers.specs.Restriction.{restricted}
use Rattle.sc_papers.specs.WellFormed.{WellFormed}
use Rattle.sc_papers.proofs.Choices.{contains-at}
use Rattle.sc_papers.proofs.Restriction.{restricted-restricts, next-kept}
use Rattle.sc_checkpoint.specs.NextChoices.{stands, AreNextChoices}
use Rattle.sc_checkpoint.specs.declared.standing.Standing.{Standing}
use Rattle.sc_engine.specs.RoundView.{RoundView, has_entered, next_of, SettlesFirst}
use Rattle.sc_papers.proofs.Positions.{among-student}
use Rattle.sc_engine.proofs.Settling.{first-apart}

-- a student at a position of the order of entry is in the papers
pub student-at : (m : Market) (at i : ℕ) → slice_get (students_of m) at ≡ Some i → is_student m i ≡ true
student-at m at i here = among-student m i (contains-at (students_of m) at i here)

first-two : (xs : List ℕ) (one two : ℕ) → slice_get xs 0 ≡ Some one → slice_get xs 1 ≡ Some two → take 2 xs ≡ one ∷ two ∷ []
first-two [] one two here next = absurd (none-some one here)
first-two (x ∷ []) one two here next = absurd (none-some two next)
first-two (x ∷ y ∷ rest) one two here next = λ t. same_Some x one here t ∷ same_Some y two next t ∷ []

stands-numbers : (next_choices : List Standing) (i : ℕ) → stands next_choices i ≡ list_any (nat_eq i) (map (λ (choice : Standing). choice.student) next_choices)
stands-numbers [] i = refl
stands-numbers (choice ∷ rest) i = λ t. nat_eq_equiv.symm choice.student i t || stands-numbers rest i t

-- the third student is not among the first two
pub third-apart : (m : Market) (next_choices : List Standing) (one two three : ℕ) → WellFormed m → slice_get (students_of m) 0 ≡ Some one → slice_get (students_of m) 1 ≡ Some two → slice_get (students_of m) 2 ≡ Some three → map (λ (choice : Standing). choice.student) next_choices ≡ one ∷ two ∷ [] → stands next_choices three ≡ false
third-apart m next_choices one two three well first second third are =
    stands-numbers next_choices three ∙ ap (list_any (nat_eq three)) (are ∙ sym (first-two (students_of m) one two first second))
    ∙ first-apart (students_of m) 2 three well.students_differ third

-- both stand at their next choices after the log
pub after-two : (m : Market) (r : RoundView) (one two : ℕ) (next_one next_two : Option ℕ) → slice_get (students_of m) 0 ≡ Some one → slice_get (students_of m) 1 ≡ Some two → SettlesFirst m r 2 → next_one ≡ next_of m r.ranks one → next_two ≡ next_of m r.ranks two
    → AreNextChoices m r.log (record { student = one; next = next_one } ∷ record { student = two; next = next_two } ∷ [])
unfolding IsDistinct
after-two m r one two next_one next_two first second settles is_one is_two = record {
  known = All-cons (λ (s : Standing). is_student m s.student ≡ true) choice_one (choice_two ∷ []) (student-at m 0 one first)
      (All-cons (λ (s : Standing). is_student m s.student ≡ true) choice_two [] (student-at m 1 two second) (All-nil (λ (s : Standing). is_student m s.student ≡ true)));
  different = ((apart, tt), (tt, tt));
  next = All-cons (λ (s : Standing). s.next ≡ next_choice m r.log s.student) choice_one (choice_two ∷ []) (is_one ∙ next-first one (or_left (nat_eq one one) (nat_eq one two || false) (eq-eqb one one refl)))
      (All-cons (λ (s : Standing). s.next ≡ next_choice m r.log s.student) choice_two [] (is_two ∙ next-first two (or_right (nat_eq two one) (nat_eq two two || false) (or_left (nat_eq two two) false (eq-eqb two two refl))))
      (All-nil (λ (s : Standing). s.next ≡ next_choice m r.log s.student)));
  settled = subst (λ n. IsSettled n r.log) (λ t. restricted m (λ i. alike i t)) settles.settled.settled;
}
  where
    choice_one : Standing
    choice_one = record { student = one; next = next_one }

    choice_two : Standing
    choice_two = record { student = two; next = next_two }

    entered : (i : ℕ) → has_entered m r.ranks i ≡ list_any (nat_eq i) (one ∷ two ∷ [])
    entered i = settles.entered i ∙ ap (list_any (nat_eq i)) (first-two (students_of m) one two first second)

    alike : (i : ℕ) → has_entered m r.ranks i ≡ stands (record { student = one; next = next_one } ∷ record { student = two; next = next_two } ∷ []) i
    alike i = entered i ∙ sym (stands-numbers (record { student = one; next = next_one } ∷ record { student = two; next = next_two } ∷ []) i)

    next-first : (i : ℕ) → list_any (nat_eq i) (one ∷ two ∷ []) ≡ true → next_of m r.ranks i ≡ next_choice m r.log i
    next-first i among = sym (settles.settled.next i) ∙ next-kept (restricted-restricts m (has_entered m r.ranks)) r.log i (entered i ∙ among)

    apart : nat_eq one two ≡ false
    apart =
        sym (λ t. nat_eq (get_or_from_slice_get (students_of m) 0 one one first t) (get_or_from_slice_get (students_of m) 1 two one second t))
        ∙ apart_from_distinct nat_eq (students_of m) 0 1 one settles.fits.well_formed.students_differ (omega arith) (slice_get_within (students_of m) 1 two second)
