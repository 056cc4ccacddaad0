-- The order of entry decides nothing about matchings.
use Rattle.std.proofs.Common.{◌≡◌, ◌↔◌, inl, inr, ap, sym, subst, ◌∙◌, ℕ, nat_eq, Bool, cond, List, [], Option, Some, None, Contains, IsPermutation, arith}
use Rattle.std.specs.List.{IsDistinct}
use Rattle.std.specs.Map.{lookup, keys_of}
use Rattle.std.specs.Option.{option_map_or}
use Rattle.std.proofs.lemmas.Cmp.{nat_eq_equiv}
use Rattle.std.proofs.lemmas.Bool.{eqb-true}
use Rattle.std.proofs.lemmas.List.Sorted.{sum_by-IsPermutation, IsPermutation-map}
use Rattle.std.proofs.lemmas.Map.Keys.{IsDistinct-IsPermutation}
use Rattle.indexmap.proofs.MapLemmas.{lookup_permutation}
use Rattle.sc_papers.specs.Market.{Market, student_of, school_of, students_of, choices_of, seats_of, zone_at}
use Rattle.sc_papers.specs.Key.{is_before, is_ahead, key_of}
use Rattle.sc_papers.specs.WellFormed.{WellFormed}
use Rattle.sc_papers.specs.Matching.{Matching, how_many, has, StandsBefore, Prefers, Blocks, IsStable, IsStudentOptimal}
use Rattle.sc_papers.specs.Reordering.{IsReordering}
use Rattle.sc_papers.proofs.Rewinding.{key_by, key-by}

-- to the definitions of matchings the papers are the same
record Same (m n : Market) : Type 0 where
  choices : (i : ℕ) → choices_of n i ≡ choices_of m i
  ahead : (s i j : ℕ) → is_ahead n s i j ≡ is_ahead m s i j
  counts : (p : ℕ → Bool) → how_many n p ≡ how_many m p
  seats : (s : ℕ) → seats_of n s ≡ seats_of m s

same-sym : {m n : Market} → Same m n → Same n m
same-sym same = record {
  choices = λ i. sym (same.choices i);
  ahead = λ s i j. sym (same.ahead s i j);
  counts = λ p. sym (same.counts p);
  seats = λ s. sym (same.seats s);
}

prefers-same : {m n : Market} → Same m n → (i s : ℕ) (given : Option ℕ) → Prefers n i s given → Prefers m i s given
prefers-same same i s None listed = subst (λ xs. Contains xs s) (same.choices i) listed
prefers-same same i s (Some t) before = subst (λ xs. StandsBefore xs s t) (same.choices i) before

blocks-same : {m n : Market} → Same m n → (a : Matching) (i s : ℕ) → Blocks n a i s → Blocks m a i s
blocks-same {m} {n} same a i s blocks = record {
  preferred = prefers-same same i s (a i) blocks.preferred;
  better = elim blocks.better [
    | inl free ↦ inl (omega (arith, free, same.counts (has a s), same.seats s))
    | inr (j, given, ahead) ↦ inr (j, given, sym (same.ahead s i j) ∙ ahead)
  ];
}

stable-same : {m n : Market} → Same m n → (a : Matching) → IsStable m a → IsStable n a
stable-same {m} {n} same a stable = record {
  matching = λ i s given. subst (λ xs. Contains xs s) (sym (same.choices i)) (stable.matching i s given);
  within_seats = λ s. omega (arith, stable.within_seats s, same.counts (has a s), same.seats s);
  unblocked = λ i s blocks. stable.unblocked i s (blocks-same same a i s blocks);
}

optimal-same : {m n : Market} → Same m n → (a : Matching) → IsStudentOptimal m a → IsStudentOptimal n a
optimal-same {m} {n} same a optimal = record {
  stable = stable-same same a optimal.stable;
  best = λ other stable i s given preferred. optimal.best other (stable-same (same-sym same) other stable) i s given (prefers-same same i s (a i) preferred);
}

-- a look-up in entries that change places
pub lookup-reordered : {X : Type 0} (es fs : List (ℕ × X)) → IsPermutation es fs → IsDistinct nat_eq (keys_of es) → (i : ℕ) → lookup (nat_eq i) fs ≡ lookup (nat_eq i) es
lookup-reordered es fs moved distinct i =
    lookup_permutation nat_eq_equiv es fs moved (IsDistinct-IsPermutation nat_eq nat_eq_equiv.symm (keys_of es) (keys_of fs) (IsPermutation-map (λ e. e.0) es fs moved) distinct) (nat_eq i)
    (λ x y same. ap (λ j. nat_eq j y) (eqb-true i x same))

module _ (m n : Market) (well : WellFormed m) (moved : IsReordering m n) where
  pub student-moved : (i : ℕ) → student_of n i ≡ student_of m i
  student-moved = lookup-reordered m.students n.students moved.students well.students_differ

  pub school-moved : (s : ℕ) → school_of n s ≡ school_of m s
  school-moved = lookup-reordered m.schools n.schools moved.schools well.schools_differ

  zone-moved : (s : ℕ) → zone_at n s ≡ zone_at m s
  zone-moved s = ap (λ found. option_map_or (λ school. school.zone) found 0) (school-moved s)

  pub key-moved : (i s : ℕ) → key_of n i s ≡ key_of m i s
  key-moved i s = key-by n i s ∙ (λ t. key_by (moved.seed t) (zone-moved s t) (student-moved i t) i s) ∙ sym (key-by m i s)

  pub choices-moved : (i : ℕ) → choices_of n i ≡ choices_of m i
  unfolding choices_of
  choices-moved i = ap (λ found. option_map_or (λ student. student.choices) found []) (student-moved i)

  pub seats-moved : (s : ℕ) → seats_of n s ≡ seats_of m s
  unfolding seats_of
  seats-moved s = ap (λ found. option_map_or (λ school. school.seats) found 0) (school-moved s)

  ahead-moved : (s i j : ℕ) → is_ahead n s i j ≡ is_ahead m s i j
  unfolding is_ahead
  ahead-moved s i j = λ t. is_before (key-moved i s t) (key-moved j s t)

  pub counts-moved : (p : ℕ → Bool) → how_many n p ≡ how_many m p
  unfolding how_many
  counts-moved p = sum_by-IsPermutation (λ i. cond (p i) 1 0) (students_of m) (students_of n) (IsPermutation-map (λ e. e.0) m.students n.students moved.students)

  reordered-same : Same m n
  reordered-same = record { choices = choices-moved; ahead = ahead-moved; counts = counts-moved; seats = seats-moved }

pub optimal-reordered : (m n : Market) (a : Matching) → WellFormed m → IsReordering m n → (IsStudentOptimal m a ↔ IsStudentOptimal n a)
optimal-reordered m n a well moved = (optimal-same (reordered-same m n well moved) a, optimal-same (same-sym (reordered-same m n well moved)) a)
