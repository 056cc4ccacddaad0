-- The positions of the students whom lists name.
use Rattle.std.proofs.Common.{◌≡◌, ◌⊎◌, inl, inr, ◌<◌, ◌+◌, sym, subst, ◌∙◌, ℕ, List, [], ◌∷◌, ◌++◌, length, take, get_or, nat_eq, Some, None, Contains, position, arith}
use Rattle.std.proofs.lemmas.List.{take_more}
use Rattle.std.proofs.lemmas.List.Elements.{Contains-append_left, Contains-push, Contains-push_cases}
use Rattle.std.proofs.lemmas.Map.Entries.{length-keys_of}
use Rattle.sc_papers.specs.Market.{Market, student_at, students_of}
use Rattle.sc_papers.specs.WellFormed.{WellFormed}
use Rattle.sc_papers.proofs.Hands.{hand-position, position-low}
use Rattle.sc_region.specs.Districts.{firsts_at}

-- what the first of a list and one more have
pub taken-cases : (xs : List ℕ) (at d x : ℕ) → at < length xs → Contains (take (at + 1) xs) x → Contains (take at xs) x ⊎ (get_or xs at d ≡ x)
taken-cases xs at d x low among = Contains-push_cases (take at xs) (get_or xs at d) x (subst (λ ys. Contains ys x) (take_more xs at d low) among)

-- a list of positions that has the old ones, and that of each of these students who is in the papers
pub record HasPositions (m : Market) (students old new : List ℕ) : Type 0 where
  pub within : (p : ℕ) → Contains new p → p < length (students_of m)
  pub kept : (p : ℕ) → Contains old p → Contains new p
  pub all : (p : ℕ) → p < length (students_of m) → Contains students (student_at m p) → Contains new p

-- one more of the students, who is in the papers or is not
module _ (m : Market) (well : WellFormed m) (students old new : List ℕ) (at i : ℕ) (low : at < length students) (here : i ≡ get_or students at i) (before : HasPositions m (take at students) old new) where
  own-position : (q : ℕ) → q < length (students_of m) → student_at m q ≡ i → position (nat_eq i) (students_of m) ≡ Some q
  own-position q q_low is = subst (λ j. position (nat_eq j) (students_of m) ≡ Some q) is (hand-position m well q (omega (arith, q_low, length-keys_of m.students)))

  pub positions-found : (p : ℕ) → position (nat_eq i) (students_of m) ≡ Some p → HasPositions m (take (at + 1) students) old (new ++ p ∷ [])
  positions-found p found = record {
    within = λ q among. elim (Contains-push_cases new p q among) [
      | inl earlier ↦ before.within q earlier
      | inr same ↦ omega (arith, same, position-low m i p found, length-keys_of m.students)
    ];
    kept = λ q among. Contains-append_left new (p ∷ []) q (before.kept q among);
    all = λ q q_low among. elim (taken-cases students at i (student_at m q) low among) [
      | inl earlier ↦ Contains-append_left new (p ∷ []) q (before.all q q_low earlier)
      | inr same ↦
          let one : Some p ≡ Some q = sym found ∙ own-position q q_low (sym (here ∙ same)) in
          let is : p ≡ q = cc in
          subst (Contains (new ++ p ∷ [])) is (Contains-push new p)
    ];
  }

  pub positions-absent : position (nat_eq i) (students_of m) ≡ None → HasPositions m (take (at + 1) students) old new
  positions-absent none = record {
    within = before.within;
    kept = before.kept;
    all = λ q q_low among. elim (taken-cases students at i (student_at m q) low among) [
      | inl earlier ↦ before.all q q_low earlier
      | inr same ↦ let no : None ≡ Some q = sym none ∙ own-position q q_low (sym (here ∙ same)) in cc
    ];
  }

-- a list of positions that has those of the students who are listed at the schools at these positions
pub record HasListed (m : Market) (firsts : List (List ℕ)) (schools : List ℕ) (positions : List ℕ) : Type 0 where
  pub within : (p : ℕ) → Contains positions p → p < length (students_of m)
  pub all : (school p : ℕ) → Contains schools school → p < length (students_of m) → Contains (firsts_at firsts school) (student_at m p) → Contains positions p

-- one school more
pub listed-more : (m : Market) (firsts : List (List ℕ)) (schools : List ℕ) (at d : ℕ) (old new : List ℕ) → at < length schools → HasListed m firsts (take at schools) old
    → HasPositions m (firsts_at firsts (get_or schools at d)) old new → HasListed m firsts (take (at + 1) schools) new
listed-more m firsts schools at d old new low before more = record {
  within = more.within;
  all = λ school p one p_low among. elim (taken-cases schools at d school low one) [
    | inl earlier ↦ more.kept p (before.all school p earlier p_low among)
    | inr same ↦ more.all p p_low (subst (λ q. Contains (firsts_at firsts q) (student_at m p)) (sym same) among)
  ];
}
