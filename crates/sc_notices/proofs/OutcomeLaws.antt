-- What came of a choice is what the matching gives.
use Rattle.std.proofs.Common.{◌≡◌, ◌↔◌, refl, sym, ◌∙◌, ap, ℕ, ◌<◌, ◌==◌, Bool, true, false, length, get_or, take, Option, None, Some, slice_get, arith}
use Rattle.std.specs.Option.{option_map_or}
use Rattle.std.proofs.lemmas.Bool.{cond-true, false≢true, ne_eqb}
use Rattle.std.proofs.lemmas.List.{get_or-take, length-take}
use Rattle.std.proofs.lemmas.List.Folds.{list_any_none, list_any_at}
use Rattle.std.proofs.lemmas.Option.{get_or_from_slice_get, slice_get-get_or, slice_get_within}
use Rattle.sc_papers.specs.Market.{Market, choices_of}
use Rattle.sc_papers.specs.Matching.{Matching, Prefers, StandsBefore, has}
use Rattle.sc_papers.specs.WellFormed.{WellFormed}
use Rattle.sc_papers.proofs.Choices.{one-place}
use Rattle.sc_papers.proofs.Rejections.{has-some, has-true}
use Rattle.sc_papers.proofs.Students.{choices-differ}
use Rattle.sc_reasons.specs.Reason.{reason}
use Rattle.sc_reasons.specs.declared.reason.Reason.{Reason}
use Rattle.sc_notices.specs.Explanation.{has_before, outcome, outcome_by}
use Rattle.sc_notices.specs.declared.outcome.Outcome.TheVariants.{Given, Later, Refused}

given-held : (is_given is_past : Bool) (r : Reason) → is_given ≡ true → outcome_by is_given is_past r ≡ Given
given-held is_given is_past r holds = cond-true is_given Given _ holds

given-is : (is_given is_past : Bool) (r : Reason) → outcome_by is_given is_past r ≡ Given → is_given ≡ true
given-is true is_past r same = refl
given-is false true r same = cc
given-is false false r same = cc

refused-is : (is_given is_past : Bool) (r : Reason) → is_given ≡ false → is_past ≡ false → outcome_by is_given is_past r ≡ Refused r
refused-is true past r given is_past = absurd (false≢true (sym given))
refused-is false true r given is_past = absurd (false≢true (sym is_past))
refused-is false false r given is_past = refl

later-is : (is_given is_past : Bool) (r : Reason) → is_given ≡ false → is_past ≡ true → outcome_by is_given is_past r ≡ Later
later-is true past r given is_past = absurd (false≢true (sym given))
later-is false true r given is_past = refl
later-is false false r given is_past = absurd (false≢true is_past)

pub outcome-given : (m : Market) (a : Matching) (i rank s : ℕ) → ((outcome m a i rank s ≡ Given) ↔ (a i ≡ Some s))
outcome-given m a i rank s = (
  λ same. has-true a s i (given-is (has a s i) (has_before m a i rank) (reason m a i s) same),
  λ given. given-held (has a s i) (has_before m a i rank) (reason m a i s) (has-some a s i given),
)

-- what a student does not have
has-not : (a : Matching) (i s t : ℕ) → a i ≡ Some t → (t ≡ s → ⊥) → has a s i ≡ false
has-not a i s t given apart = ap (λ o. option_map_or (λ u. u == s) o false) given ∙ ne_eqb t s apart

module _ (m : Market) (a : Matching) (well : WellFormed m) where
  -- two schools at different ranks are two
  apart : (i j k s t : ℕ) → slice_get (choices_of m i) j ≡ Some s → slice_get (choices_of m i) k ≡ Some t → j < k → s ≡ t → ⊥
  apart i j k s t first second below same =
      let one : j ≡ k = one-place (choices_of m i) j k t (choices-differ m well i) (first ∙ ap Some same) second in omega (arith, below, one)

  pub outcome-refused : (i rank s : ℕ) → slice_get (choices_of m i) rank ≡ Some s → Prefers m i s (a i) → outcome m a i rank s ≡ Refused (reason m a i s)
  outcome-refused i rank s here prefers = by (a i) refl prefers
    where
      none : a i ≡ None → (x : ℕ) → has a x i ≡ false
      none is x = ap (λ o. option_map_or (λ u. u == x) o false) is

      by : (o : Option ℕ) → a i ≡ o → Prefers m i s o → outcome m a i rank s ≡ Refused (reason m a i s)
      by None is prefer =
          refused-is (has a s i) (has_before m a i rank) (reason m a i s) (none is s)
          (list_any_none (λ x. has a x i) (take rank (choices_of m i)) (λ k d low. none is (get_or (take rank (choices_of m i)) k d)))
      by (Some t) is (j, k, below, at_j, at_k) =
          let one : j ≡ rank = one-place (choices_of m i) j rank s (choices-differ m well i) at_j here in
          refused-is (has a s i) (has_before m a i rank) (reason m a i s)
          (has-not a i s t is (λ same. apart i j k s t at_j at_k below (sym same)))
          (list_any_none (λ x. has a x i) (take rank (choices_of m i)) (λ n d low.
          let before : n < rank = omega (arith, low, length-take rank (choices_of m i)) in
          let within : n < length (choices_of m i) = omega (arith, low, length-take rank (choices_of m i)) in
          let x = get_or (take rank (choices_of m i)) n d in
          let there : slice_get (choices_of m i) n ≡ Some x =
          slice_get-get_or (choices_of m i) n d within ∙ ap Some (sym (get_or-take rank (choices_of m i) n d before)) in
          has-not a i x t is (λ same. apart i n k x t there at_k (omega (arith, before, one, below)) (sym same))))

  pub outcome-later : (i rank s t : ℕ) → slice_get (choices_of m i) rank ≡ Some s → a i ≡ Some t → StandsBefore (choices_of m i) t s → outcome m a i rank s ≡ Later
  outcome-later i rank s t here is (j, k, below, at_j, at_k) =
      let one : k ≡ rank = one-place (choices_of m i) k rank s (choices-differ m well i) at_k here in
      let low : j < length (take rank (choices_of m i)) =
      omega (arith, below, one, slice_get_within (choices_of m i) j t at_j, length-take rank (choices_of m i)) in
      later-is (has a s i) (has_before m a i rank) (reason m a i s)
      (has-not a i s t is (λ same. apart i j k t s at_j at_k below same))
      (list_any_at (λ x. has a x i) (take rank (choices_of m i)) j t low
      (ap (λ x. has a x i) (get_or-take rank (choices_of m i) j t (omega (arith, below, one)) ∙ get_or_from_slice_get (choices_of m i) j t t at_j)
      ∙ has-some a t i is))
