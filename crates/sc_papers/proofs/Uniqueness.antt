-- Two student-optimal matchings of the same papers give each student the same.
use Rattle.std.proofs.Common.{◌≡◌, ◌⊎◌, inl, inr, refl, ap, sym, subst, ◌∙◌, ℕ, List, Option, Some, None, Contains, slice_get}
use Rattle.std.proofs.lemmas.Bool.{cases_order}
use Rattle.std.proofs.lemmas.Option.{same_Some}
use Rattle.sc_papers.specs.Market.{Market, choices_of}
use Rattle.sc_papers.specs.Matching.{Matching, StandsBefore, Prefers, IsStudentOptimal}
use Rattle.sc_papers.proofs.Choices.{place-of}

-- two members of a list are the same, or one stands before the other
pub one-order : (xs : List ℕ) (s t : ℕ) → Contains xs s → Contains xs t → (s ≡ t) ⊎ (StandsBefore xs s t ⊎ StandsBefore xs t s)
one-order xs s t first second =
    let place : (j : ℕ) × (slice_get xs j ≡ Some s) = place-of xs s first in
    let other : (k : ℕ) × (slice_get xs k ≡ Some t) = place-of xs t second in
    elim (cases_order place.0 other.0) [
      | inl same ↦ inl (same_Some s t (sym place.1 ∙ ap (slice_get xs) same ∙ other.1))
      | inr (inl below) ↦ inr (inl (place.0, other.0, below, place.1, other.1))
      | inr (inr above) ↦ inr (inr (other.0, place.0, above, other.1, place.1))
    ]

-- what a student has who prefers s to it
prefers-none : (m : Market) (i s : ℕ) (given : Option ℕ) → given ≡ None → Contains (choices_of m i) s → Prefers m i s given
prefers-none m i s given none listed = subst (Prefers m i s) (sym none) listed

prefers-some : (m : Market) (i s t : ℕ) (given : Option ℕ) → given ≡ Some t → StandsBefore (choices_of m i) s t → Prefers m i s given
prefers-some m i s t given is before = subst (Prefers m i s) (sym is) before

-- at one student, by cases on what the two matchings give
same-given : (m : Market) (a b : Matching) → IsStudentOptimal m a → IsStudentOptimal m b → (i : ℕ) (x y : Option ℕ) → a i ≡ x → b i ≡ y → a i ≡ b i
same-given m a b first second i None None none also = none ∙ sym also
same-given m a b first second i None (Some t) none given =
    absurd (first.best b second.stable i t given (prefers-none m i t (a i) none (second.stable.matching i t given)))
same-given m a b first second i (Some s) None given none =
    absurd (second.best a first.stable i s given (prefers-none m i s (b i) none (first.stable.matching i s given)))
same-given m a b first second i (Some s) (Some t) is_s is_t =
    elim (one-order (choices_of m i) s t (first.stable.matching i s is_s) (second.stable.matching i t is_t)) [
      | inl same ↦ is_s ∙ ap Some same ∙ sym is_t
      | inr (inl before) ↦ absurd (second.best a first.stable i s is_s (prefers-some m i s t (b i) is_t before))
      | inr (inr before) ↦ absurd (first.best b second.stable i t is_t (prefers-some m i t s (a i) is_s before))
    ]

pub optimal-unique : (m : Market) (a b : Matching) → IsStudentOptimal m a → IsStudentOptimal m b → (i : ℕ) → a i ≡ b i
optimal-unique m a b first second i = same-given m a b first second i (a i) (b i) refl refl
