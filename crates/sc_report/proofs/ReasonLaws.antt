-- In a stable matching one reason applies to each choice that a student prefers to what they have.
use Rattle.std.proofs.Common.{◌≡◌, inl, inr, refl, sym, ◌∙◌, ap, subst, ℕ, ◌<◌, ◌==◌, Bool, true, false, List, length, filter, Option, None, Some, arith}
use Rattle.std.specs.Prelude.{nat_lt}
use Rattle.std.proofs.lemmas.Bool.{cases_Bool, cond-true, cond-false, false≢true, ltb-true}
use Rattle.std.proofs.lemmas.Bool.Decides.{nat_tests}
use Rattle.std.proofs.lemmas.List.{length-map}
use Rattle.std.proofs.lemmas.List.Sums.{length-filter}
use Rattle.std.proofs.lemmas.Option.{none-some}
use Rattle.sc_papers.specs.Key.{is_before, is_ahead, key_of}
use Rattle.sc_papers.specs.Market.{Market, choices_of, seats_of, students_of}
use Rattle.sc_papers.specs.Matching.{Matching, how_many, has, held, IsStable, Prefers}
use Rattle.sc_papers.specs.WellFormed.{WellFormed}
use Rattle.sc_papers.specs.declared.key.Key.{Key}
use Rattle.sc_papers.proofs.Choices.{one-place}
use Rattle.sc_papers.proofs.Rejections.{has-true}
use Rattle.sc_papers.proofs.Students.{choices-differ}
use Rattle.sc_reasons.specs.Cutoff.{cutoff, cutoff_by}
use Rattle.sc_tallies.specs.LastKey.{keys_among, last_key}
use Rattle.sc_reasons.specs.Reason.{reason, reason_by, Applies}
use Rattle.sc_reasons.specs.declared.cutoff.Cutoff.{Cutoff}
use Rattle.sc_reasons.specs.declared.cutoff.Cutoff.TheVariants.{Closed, Free, Full}
use Rattle.sc_reasons.specs.declared.reason.Reason.TheVariants.{Class, Lottery}
use Rattle.sc_tallies.proofs.LastKeys.{keyed, last-contained, last-found}

abbrev is_free : Cutoff → Bool
is_free Closed = false
is_free Free = true
is_free (Full last) = false

abbrev last_of : Cutoff → Option Key
last_of Closed = None
last_of Free = None
last_of (Full last) = Some last

-- what a cutoff of each kind says
free-says : (seats count : ℕ) (last : Key) → cutoff_by seats count (Some last) ≡ Free → count < seats
free-says seats count last free = elim (cases_Bool (seats == 0)) [
  | inl none ↦ absurd (false≢true (ap is_free (sym (cond-true (seats == 0) Closed _ none) ∙ free)))
  | inr some ↦ elim (cases_Bool (nat_lt count seats)) [
    | inl fewer ↦ grind (arith, nat_tests)
    | inr enough ↦ absurd (false≢true (ap is_free (sym (cond-false (nat_lt count seats) Free (Full last) enough) ∙ sym (cond-false (seats == 0) Closed _ some) ∙ free)))
  ]
]

full-says : (seats count : ℕ) (o : Option Key) (key : Key) → cutoff_by seats count o ≡ Full key → o ≡ Some key
full-says seats count None key full = elim (cases_Bool (seats == 0)) [
  | inl none ↦ absurd (none-some key (ap last_of (sym (cond-true (seats == 0) Closed Free none) ∙ full)))
  | inr some ↦ absurd (none-some key (ap last_of (sym (cond-false (seats == 0) Closed Free some) ∙ full)))
]
full-says seats count (Some last) key full = elim (cases_Bool (seats == 0)) [
  | inl none ↦ absurd (none-some key (ap last_of (sym (cond-true (seats == 0) Closed _ none) ∙ full)))
  | inr some ↦ elim (cases_Bool (nat_lt count seats)) [
    | inl fewer ↦ absurd (none-some key (ap last_of (sym (cond-true (nat_lt count seats) Free (Full last) fewer) ∙ sym (cond-false (seats == 0) Closed _ some) ∙ full)))
    | inr enough ↦ ap last_of (sym (cond-false (nat_lt count seats) Free (Full last) enough) ∙ sym (cond-false (seats == 0) Closed _ some) ∙ full)
  ]
]

same-class : (a b : Key) → nat_lt a.class b.class ≡ false → is_before a b ≡ true → a.class ≡ b.class
same-class a b not_less before = grind (arith, nat_tests)

-- a cutoff that is not free, whose last key is ahead, is got past by nobody for one reason
applies-by : (cut : Cutoff) (key : Key) → (cut ≡ Free → ⊥) → ((last : Key) → cut ≡ Full last → is_before last key ≡ true) → Applies cut key (reason_by cut key)
applies-by Closed key taken behind = refl
applies-by Free key taken behind = absurd (taken refl)
applies-by (Full last) key taken behind = elim (cases_Bool (nat_lt last.class key.class)) [
  | inl less ↦ subst (Applies (Full last) key) (sym (cond-true (nat_lt last.class key.class) Class Lottery less)) (last, refl, ltb-true last.class key.class less)
  | inr not_less ↦ subst (Applies (Full last) key) (sym (cond-false (nat_lt last.class key.class) Class Lottery not_less)) (last, refl, same-class last key not_less (behind last refl), behind last refl)
]

behind : (a b : Key) → is_before a b ≡ false → (a.student ≡ b.student → ⊥) → is_before b a ≡ true
behind a b not_ahead apart = grind (arith, nat_tests)

-- as many keys are taken as students have the school
pub keys-count : (m : Market) (a : Matching) (s : ℕ) → length (keys_among m a (students_of m) s) ≡ held m a s
unfolding how_many
keys-count m a s = length-map (filter (has a s) (students_of m)) (λ i. key_of m i s) ∙ length-filter (has a s) (students_of m)

module _ (m : Market) (a : Matching) (well : WellFormed m) (stable : IsStable m a) where
  -- nobody prefers what it has
  other-than_held : (i s : ℕ) → Prefers m i s (a i) → a i ≡ Some s → ⊥
  other-than_held i s prefers has_it = go (subst (Prefers m i s) has_it prefers)
    where
      go : Prefers m i s (Some s) → ⊥
      go (j, k, below, at_j, at_k) = omega (arith, below, one-place (choices_of m i) j k s (choices-differ m well i) at_j at_k)

  blocked : (i s j : ℕ) → Prefers m i s (a i) → a j ≡ Some s → is_before (key_of m i s) (key_of m j s) ≡ true → ⊥
  unfolding is_ahead
  blocked i s j prefers given ahead = stable.unblocked i s (record { preferred = prefers; better = inr (j, given, ahead) })

  apart : (i s j : ℕ) → Prefers m i s (a i) → a j ≡ Some s → (key_of m j s).student ≡ (key_of m i s).student → ⊥
  unfolding key_of
  apart i s j prefers given same = other-than_held i s prefers (subst (λ k. a k ≡ Some s) same given)

  pub reason-applies : (i s : ℕ) → Prefers m i s (a i) → Applies (cutoff m a s) (key_of m i s) (reason m a i s)
  unfolding cutoff
  reason-applies i s prefers = applies-by (cutoff m a s) (key_of m i s) (λ free. taken (last_key keys) refl free) (λ last full. after last (full-says (seats_of m s) (held m a s) (last_key keys) last full))
    where
      keys : List Key
      keys = keys_among m a (students_of m) s

      enough : held m a s < seats_of m s → ⊥
      enough free = stable.unblocked i s (record { preferred = prefers; better = inl free })

      taken : (o : Option Key) → last_key keys ≡ o → cutoff_by (seats_of m s) (held m a s) o ≡ Free → ⊥
      taken (Some last) is free = enough (free-says (seats_of m s) (held m a s) last free)
      taken None is free = elim (cases_Bool (seats_of m s == 0)) [
        | inl none ↦ false≢true (ap is_free (sym (cond-true (seats_of m s == 0) Closed Free none) ∙ free))
        | inr some ↦ elim (cases_Bool (nat_lt (held m a s) (seats_of m s))) [
          | inl fewer ↦ enough (grind (arith, nat_tests))
          | inr full ↦ last-found keys (grind (arith, nat_tests, keys-count m a s)) is
        ]
      ]

      after : (last : Key) → last_key keys ≡ Some last → is_before last (key_of m i s) ≡ true
      after last is =
          let among = last-contained keys last is in
          let (j, here, holds, key) = keyed (has a s) (λ j. key_of m j s) (students_of m) last among in
          let not_ahead : is_before (key_of m i s) last ≡ false = elim (cases_Bool (is_before (key_of m i s) last)) [
            | inr not_before ↦ not_before
            | inl ahead ↦ absurd (blocked i s j prefers (has-true a s j holds) (ap (is_before (key_of m i s)) key ∙ ahead))
          ] in
          behind (key_of m i s) last not_ahead (λ same. apart i s j prefers (has-true a s j holds) (ap (λ k. k.student) key ∙ sym same))
