-- What the schools' tallies say of a matching.
use Rattle.std.proofs.Common.{◌≡◌, inl, inr, refl, ap, sym, ◌∙◌, ℕ, ◌<◌, ◌≤◌, true, false, ◌||◌, length, Option, Some, None, arith}
use Rattle.std.specs.Prelude.{nat_lt}
use Rattle.std.specs.Option.{option_map_or}
use Rattle.std.proofs.lemmas.Bool.{cases_Bool, cases_lt, cond-true, cond-false, false≢true, lt-ltb, ltb-true}
use Rattle.std.proofs.lemmas.Map.Entries.{length-keys_of}
use Rattle.std.proofs.lemmas.Option.{none-some, same_Some, slice_get-get_or}
use Rattle.sc_papers.specs.Key.{is_before, key_of}
use Rattle.sc_papers.specs.Market.{Market, is_school, schools_of, seats_of, students_of}
use Rattle.sc_papers.specs.Matching.{Matching, has, held, how_many, WithinSeats}
use Rattle.sc_papers.specs.declared.key.Key.{Key}
use Rattle.sc_papers.proofs.Positions.{position-at, school-position}
use Rattle.sc_papers.proofs.Rejections.{has-true}
use Rattle.sc_papers.proofs.Students.{how_many-none}
use Rattle.sc_tallies.specs.Tally.{tally}
use Rattle.sc_tallies.specs.declared.tally.Tally.{Tally}
use Rattle.sc_audit.specs.Least.{LeastOf}
use Rattle.sc_audit.specs.Over.{IsFirstOver}
use Rattle.sc_audit.specs.Tallies.{over_at, would_take}

-- whether a school is over its seats
pub over-some : (m : Market) (a : Matching) (s seats count : ℕ) → seats ≡ seats_of m s → count ≡ held m a s → seats < count → Some s ≡ over_at m a s
over-some m a s seats count seats_is count_is over =
    sym (cond-true (nat_lt (seats_of m s) (held m a s)) (Some s) None (lt-ltb (seats_of m s) (held m a s) (omega (arith, over, seats_is, count_is))))

pub over-none : (m : Market) (a : Matching) (s seats count : ℕ) → seats ≡ seats_of m s → count ≡ held m a s → count ≤ seats → None ≡ over_at m a s
over-none m a s seats count seats_is count_is under = elim (cases_Bool (nat_lt (seats_of m s) (held m a s))) [
  | inl over ↦ absurd (omega (arith, under, seats_is, count_is, ltb-true (seats_of m s) (held m a s) over))
  | inr fails ↦ sym (cond-false (nat_lt (seats_of m s) (held m a s)) (Some s) None fails)
]

-- whether a school would take a student, by its tally
pub takes-by : (m : Market) (a : Matching) (i s seats : ℕ) (t : Tally) (key : Key) → t ≡ tally m a (students_of m) s → seats ≡ seats_of m s → key ≡ key_of m i s
    → (nat_lt t.held seats || option_map_or (is_before key) t.last false) ≡ would_take m a i s
unfolding tally how_many
takes-by m a i s seats t key is seats_is key_is = λ j. nat_lt (is j).held (seats_is j) || option_map_or (is_before (key_is j)) (is j).last false

-- a matching is within the seats of a school that isn't in the papers
pub unknown-within : (m : Market) (a : Matching) (s : ℕ) → ((i : ℕ) → a i ≡ Some s → is_school m s ≡ true) → is_school m s ≡ false → held m a s ≡ 0
unknown-within m a s listed unknown = how_many-none m (has a s) (λ i among. elim (cases_Bool (has a s i)) [
  | inl holds ↦ absurd (false≢true (sym unknown ∙ listed i (has-true a s i holds)))
  | inr fails ↦ fails
])

module _ (m : Market) (a : Matching) (known : (i s : ℕ) → a i ≡ Some s → is_school m s ≡ true) where
  -- a school below the least is within its seats
  under-within : (least : Option ℕ) → LeastOf (schools_of m) (over_at m a) (length m.schools) least → (t : ℕ) → ((n : ℕ) → least ≡ Some n → t < n) → held m a t ≤ seats_of m t
  under-within least found t under = elim (cases_Bool (is_school m t)) [
    | inr unknown ↦ omega (arith, unknown-within m a t (λ i. known i t) unknown)
    | inl school ↦ elim (cases_lt (seats_of m t) (held m a t)) [
      | inr within ↦ within
      | inl over ↦
          let (at, met) = school-position m t school in
          let here = position-at (schools_of m) t at met in
          let gives : over_at m a t ≡ Some t = sym (over-some m a t (seats_of m t) (held m a t) refl refl over) in
          let (n, is, le) = found.below at t t (omega (arith, here.0, length-keys_of m.schools)) (slice_get-get_or (schools_of m) at t here.0 ∙ ap Some here.1) gives in
          absurd (omega (arith, le, under n is))
    ]
  ]

  pub least-is_over : (s : ℕ) → LeastOf (schools_of m) (over_at m a) (length m.schools) (Some s) → IsFirstOver m a s
  least-is_over s found = record {
    over = over-is found.reached.0 found.reached.1;
    least = λ t low. under-within (Some s) found t (λ n is. omega (arith, low, same_Some s n is));
  }
    where
      over-is : (x : ℕ) → over_at m a x ≡ Some s → seats_of m s < held m a s
      over-is x gives = elim (cases_Bool (nat_lt (seats_of m x) (held m a x))) [
        | inr fails ↦ absurd (none-some s (sym (cond-false (nat_lt (seats_of m x) (held m a x)) (Some x) None fails) ∙ gives))
        | inl over ↦
            let same : x ≡ s = same_Some x s (sym (cond-true (nat_lt (seats_of m x) (held m a x)) (Some x) None over) ∙ gives) in
            omega (arith, ltb-true (seats_of m x) (held m a x) over, ap (held m a) same, ap (seats_of m) same)
      ]

  pub least-is_none : LeastOf (schools_of m) (over_at m a) (length m.schools) None → WithinSeats m a
  least-is_none found t = under-within None found t (λ n none. absurd (none-some n none))
