-- How many of the first students pass, and papers that are cut and restricted.
use Rattle.std.proofs.Common.{◌≡◌, inl, inr, refl, ap, sym, subst, ◌∙◌, ℕ, zero, suc, ◌≤◌, Bool, true, false, cond, List, [], ◌∷◌, length, filter, take, Contains, length-take, arith}
use Rattle.std.specs.Map.{keys_of}
use Rattle.std.proofs.lemmas.Bool.{cases_Bool, cond-true, cond-false, not-true, not-false}
use Rattle.std.proofs.lemmas.List.{length-map, take-map}
use Rattle.sc_papers.specs.Market.{Market, students_of, choices_of}
use Rattle.sc_papers.specs.WellFormed.{WellFormed}
use Rattle.sc_papers.specs.Restriction.{restricted, cut, outside, is_among_first, AreApart}
use Rattle.sc_papers.proofs.Cutting.{cut-restricted}
use Rattle.sc_papers.proofs.Restriction.{choices-restricted, keys-filter}

-- how many of the first k students pass
abbrev pub passing : (ℕ → Bool) → ℕ → List ℕ → ℕ
passing test k students = length (filter test (take k students))

-- those of the first k who pass are the first of those who pass
filter-take : {X : Type 0} (test : X → Bool) (k : ℕ) (xs : List X) → filter test (take k xs) ≡ take (length (filter test (take k xs))) (filter test xs)
filter-take test zero xs = refl
filter-take test (suc k) [] = refl
filter-take test (suc k) (x ∷ xs) = go (test x) x (filter test (take k xs)) (filter test xs) (filter-take test k xs)
  where
    go : {X : Type 0} (b : Bool) (x : X) (first all : List X) → first ≡ take (length first) all → cond b (x ∷ first) first ≡ take (length (cond b (x ∷ first) first)) (cond b (x ∷ all) all)
    go true x first all same = ap (λ xs. x ∷ xs) same
    go false x first all same = same

-- the numbers of the students who pass
pub students-restricted : (m : Market) (test : ℕ → Bool) → students_of (restricted m test) ≡ filter test (students_of m)
unfolding restricted
students-restricted m test = keys-filter test m.students

-- as many entries pass as numbers
count-keys : {X : Type 0} (test : ℕ → Bool) (k : ℕ) (es : List (ℕ × X)) → length (filter (λ e. test e.0) (take k es)) ≡ passing test k (keys_of es)
count-keys test k es =
    sym (length-map (filter (λ e. test e.0) (take k es)) (λ e. e.0))
    ∙ ap length (keys-filter test (take k es) ∙ ap (filter test) (sym (take-map (λ e. e.0) k es)))

-- to cut and then restrict is to restrict and then cut, at as many as pass
pub restricted-cut : (m : Market) (test : ℕ → Bool) (k : ℕ) → restricted (cut m k) test ≡ cut (restricted m test) (passing test k (students_of m))
unfolding cut restricted
restricted-cut m test k = λ t. record m {
  students = (filter-take (λ e. test e.0) k m.students ∙ ap (λ n. take n (filter (λ e. test e.0) m.students)) (count-keys test k m.students)) t;
}

-- no more pass among the first k than among all
pub passing-within : (m : Market) (test : ℕ → Bool) (k : ℕ) → passing test k (students_of m) ≤ length (students_of (restricted m test))
passing-within m test k =
    omega (
      arith,
      ap length (filter-take test k (students_of m)),
      length-take (passing test k (students_of m)) (filter test (students_of m)),
      ap length (students-restricted m test),
    )

-- who lists a school in the restricted papers passes, and lists it
pub listed-restricted : (m : Market) (test : ℕ → Bool) (i s : ℕ) → Contains (choices_of (restricted m test) i) s → (test i ≡ true) × Contains (choices_of m i) s
listed-restricted m test i s listed =
    let here : Contains (cond (test i) (choices_of m i) []) s = subst (λ xs. Contains xs s) (choices-restricted m test i) listed in
    elim (cases_Bool (test i)) [
      | inl kept ↦ (kept, subst (λ xs. Contains xs s) (cond-true (test i) (choices_of m i) [] kept) here)
      | inr dropped ↦
          let (k, low, at) = subst (λ xs. Contains xs s) (cond-false (test i) (choices_of m i) [] dropped) here in
          absurd (omega (arith, low))
    ]

pub listed-cut : (m : Market) (k i s : ℕ) → WellFormed m → Contains (choices_of (cut m k) i) s → Contains (choices_of m i) s
listed-cut m k i s well listed =
    (listed-restricted m (is_among_first m k) i s (subst (λ n. Contains (choices_of n i) s) (cut-restricted m k well) listed)).1

-- what lies apart lies apart among the first students
pub apart-cut : (m : Market) (test : ℕ → Bool) (k : ℕ) → WellFormed m → AreApart m test → AreApart (cut m k) test
apart-cut m test k well apart = record {
  none_shared = λ i j s first second in_first in_second. apart.none_shared i j s first second (listed-cut m k i s well in_first) (listed-cut m k j s well in_second);
}

-- those outside are apart from those inside
pub apart-outside : (m : Market) (test : ℕ → Bool) → AreApart m test → AreApart m (outside test)
apart-outside m test apart = record {
  none_shared = λ i j s first second in_first in_second. apart.none_shared j i s (not-false (test j) second) (not-true (test i) first) in_second in_first;
}
