-- The least of some numbers, found one by one.
use Rattle.std.proofs.Common.{◌≡◌, ◌⊎◌, inl, inr, refl, ap, sym, subst, ◌∙◌, ℕ, ◌+◌, ◌≤◌, List, Option, Some, None, IfSome, slice_get, arith}
use Rattle.std.specs.Prelude.{nat_lt}
use Rattle.std.proofs.lemmas.Bool.{cases_Bool, cases_lt, cond-true, cond-false, ltb-true, ltb-false}
use Rattle.std.proofs.lemmas.Option.{none-some, same_Some}
use Rattle.sc_audit.specs.Least.{lesser_of, LeastOf}

-- the least of two, and that it is one of them
pub record Lesser (a b : Option ℕ) (c : Option ℕ) : Type 0 where
  pub below_first : (s : ℕ) → a ≡ Some s → (n : ℕ) × (c ≡ Some n) × (n ≤ s)
  pub below_second : (s : ℕ) → b ≡ Some s → (n : ℕ) × (c ≡ Some n) × (n ≤ s)
  pub either : (c ≡ a) ⊎ (c ≡ b)

lesser-is : (a b : Option ℕ) → Lesser a b (lesser_of a b)
lesser-is None b = record {
  below_first = λ s none. absurd (none-some s none);
  below_second = λ s is. (s, is, omega arith);
  either = inr refl;
}
lesser-is (Some a) None = record {
  below_first = λ s is. (s, is, omega arith);
  below_second = λ s none. absurd (none-some s none);
  either = inl refl;
}
lesser-is (Some a) (Some b) = elim (cases_Bool (nat_lt b a)) [
  | inl less ↦
      let now : lesser_of (Some a) (Some b) ≡ Some b = ap Some (cond-true (nat_lt b a) b a less) in
      record {
        below_first = λ s is. (b, now, omega (arith, ltb-true b a less, same_Some a s is));
        below_second = λ s is. (b, now, omega (arith, same_Some b s is));
        either = inr now;
      }
  | inr more ↦
      let now : lesser_of (Some a) (Some b) ≡ Some a = ap Some (cond-false (nat_lt b a) b a more) in
      record {
        below_first = λ s is. (a, now, omega (arith, same_Some a s is));
        below_second = λ s is. (a, now, omega (arith, ltb-false b a more, same_Some b s is));
        either = inl now;
      }
]

pub least-none : (xs : List ℕ) (f : ℕ → Option ℕ) → LeastOf xs f 0 None
least-none xs f = record {
  reached = tt;
  below = λ j x s low here is. absurd (omega (arith, low));
}

pub least-more : (xs : List ℕ) (f : ℕ → Option ℕ) (k x : ℕ) (least other new : Option ℕ) → slice_get xs k ≡ Some x → other ≡ f x → new ≡ lesser_of least other → LeastOf xs f k least → LeastOf xs f (k + 1) new
least-more xs f k x least other new here is made before =
    let lesser : Lesser least other new = subst (Lesser least other) (sym made) (lesser-is least other) in
    record {
      reached = elim lesser.either [
        | inl old ↦ subst (λ o. IfSome o (λ s. (y : ℕ) × (f y ≡ Some s))) (sym old) before.reached
        | inr one ↦ subst (λ o. IfSome o (λ s. (y : ℕ) × (f y ≡ Some s))) (sym one) (reaches other is)
      ];
      below = λ j y s low there gives. elim (cases_lt j k) [
        | inl under ↦
            let (n, is_n, le) = before.below j y s under there gives in
            let (n', is_n', le') = lesser.below_first n is_n in
            (n', is_n', omega (arith, le, le'))
        | inr past ↦
            let same : x ≡ y = same_Some x y (sym here ∙ ap (slice_get xs) (omega (arith, low, past)) ∙ there) in
            lesser.below_second s (is ∙ ap f same ∙ gives)
      ];
    }
  where
    reaches : (o : Option ℕ) → o ≡ f x → IfSome o (λ s. (y : ℕ) × (f y ≡ Some s))
    reaches None e = tt
    reaches (Some s) e = (x, sym e)
