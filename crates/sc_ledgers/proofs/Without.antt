-- The papers without a student who has not entered, and lists without one of their items.
use Rattle.std.proofs.Common.{◌≡◌, inl, inr, refl, ap, sym, subst, ◌∙◌, ℕ, zero, suc, ◌≤◌, ◌<◌, ◌+◌, ◌==◌, ◌&&◌, nat_eq, Bool, true, false, not, List, [], ◌∷◌, ◌++◌, length, filter, take, remove, slice_get, Some, arith}
use Rattle.std.specs.List.{IsDistinct, AllByRecursion}
use Rattle.std.specs.Map.{keys_of, remove_entry}
use Rattle.std.proofs.lemmas.Bool.{cases_Bool, cond-false, cond-true, eq-eqb, eqb-true, false≢true}
use Rattle.std.proofs.lemmas.Grind.{common_steps}
use Rattle.std.proofs.lemmas.Option.{none-some, same_Some}
use Rattle.sc_papers.specs.Market.{Market, students_of}
use Rattle.sc_papers.specs.WellFormed.{WellFormed}
use Rattle.sc_papers.specs.Restriction as whole
use Rattle.sc_papers.specs.Restriction.{is_among_first, joined, restricted}
use Rattle.sc_papers.specs.Verdict.{without_student}
use Rattle.sc_papers.specs.declared.rejection.Rejection.{Rejection}
use Rattle.sc_papers.proofs.Changing.{remove-found, WellFormed-without_student}
use Rattle.sc_papers.proofs.Cutting.{cut-restricted}
use Rattle.sc_weave.proofs.Counts.{passing, restricted-cut}
use Rattle.sc_ledgers.specs.Cohort.{Cohort, cohort, cut}
use Rattle.sc_ledgers.specs.Opening.{everybody}
use Rattle.sc_ledgers.proofs.Cohorts.{cut-everybody, cut-entered}
use Rattle.sc_ledgers.proofs.Placed.{position-back}

-- everybody but one
abbrev pub but : ℕ → ℕ → Bool
but i j = not (i == j)

-- where nobody is the one, all stay
filter-others : {X : Type 0} (i : ℕ) (es : List (ℕ × X)) → AllByRecursion (λ y. nat_eq i y ≡ false) (keys_of es) → filter (λ e. but i e.0) es ≡ es
filter-others i [] apart = refl
filter-others i (e ∷ es) apart =
    cond-true (but i e.0) (e ∷ filter (λ f. but i f.0) es) (filter (λ f. but i f.0) es) (ap not apart.0) ∙ ap (λ fs. e ∷ fs) (filter-others i es apart.1)

-- an entry whose key is nobody else's is taken out by a filter
filter-removed : {X : Type 0} (i : ℕ) (es : List (ℕ × X)) → IsDistinct nat_eq (keys_of es) → remove_entry (nat_eq i) es ≡ filter (λ e. but i e.0) es
unfolding IsDistinct
filter-removed i [] distinct = refl
filter-removed {X} i (e ∷ es) distinct = elim (cases_Bool (nat_eq i e.0)) [
  | inl it ↦
      cond-true (nat_eq i e.0) es (e ∷ remove_entry (nat_eq i) es) it
      ∙ sym (filter-others i es (subst (λ k. AllByRecursion (λ y. nat_eq k y ≡ false) (keys_of es)) (sym (eqb-true i e.0 it)) distinct.0))
      ∙ sym (cond-false (but i e.0) (e ∷ filter (λ f. but i f.0) es) (filter (λ f. but i f.0) es) (ap not it))
  | inr other ↦
      cond-false (nat_eq i e.0) es (e ∷ remove_entry (nat_eq i) es) other
      ∙ ap (λ fs. e ∷ fs) (filter-removed i es distinct.1)
      ∙ sym (cond-true (but i e.0) (e ∷ filter (λ f. but i f.0) es) (filter (λ f. but i f.0) es) (ap not other))
]

-- the papers without a student are restricted to all others
pub without-restricted : (m : Market) (i : ℕ) → WellFormed m → without_student m i ≡ restricted m (but i)
unfolding restricted
without-restricted m i well = λ t. record m { students = filter-removed i m.students well.students_differ t }

-- and have all students but the one at their position
pub students-without : (m : Market) (position i : ℕ) → WellFormed m → slice_get (students_of m) position ≡ Some i → students_of (without_student m i) ≡ remove (students_of m) position
students-without m position i well here =
    sym (remove-found (λ e. e.0) (nat_eq i) m.students position (sym (position-back (students_of m) position i well.students_differ here)))

-- to restrict twice is to restrict by both tests
filter-twice : {X : Type 0} (p q : X → Bool) (xs : List X) → filter q (filter p xs) ≡ filter (λ x. p x && q x) xs
filter-twice p q [] = refl
filter-twice p q (x ∷ xs) = grind (arith, common_steps, filter-twice p q xs)

pub restricted-twice : (m : Market) (p q : ℕ → Bool) → restricted (restricted m p) q ≡ restricted m (λ j. p j && q j)
unfolding restricted
restricted-twice m p q = λ t. record m { students = filter-twice (λ e. p e.0) (λ e. q e.0) m.students t }

-- the first so many of those who have entered, where all but one do, are the first students without that one
cut-others : (c : Cohort) (i t : ℕ) → WellFormed c.papers → ((j : ℕ) → c.enters j ≡ but i j) → cut c t ≡ cut (cohort (without_student c.papers i) everybody) (passing (but i) t (students_of c.papers))
cut-others c i t well others =
    cut-entered c t
    ∙ ap (restricted c.papers) (λ u j. is_among_first c.papers t j && others j u)
    ∙ sym (restricted-twice c.papers (is_among_first c.papers t) (but i))
    ∙ ap (λ p. restricted p (but i)) (sym (cut-restricted c.papers t well))
    ∙ restricted-cut c.papers (but i) t
    ∙ ap (λ p. whole.cut p (passing (but i) t (students_of c.papers))) (sym (without-restricted c.papers i well))
    ∙ sym (cut-everybody (cohort (without_student c.papers i) everybody) (passing (but i) t (students_of c.papers)) (WellFormed-without_student c.papers i well) (λ j. refl))

-- nobody of these is the one
passing-others : (i t : ℕ) (ks : List ℕ) → AllByRecursion (λ y. nat_eq i y ≡ false) ks → t ≤ length ks → passing (but i) t ks ≡ t
passing-others i zero ks apart low = refl
passing-others i (suc t) [] apart low = absurd (omega (arith, low))
passing-others i (suc t) (k ∷ ks) apart low =
    ap length (cond-true (but i k) (k ∷ filter (but i) (take t ks)) (filter (but i) (take t ks)) (ap not apart.0)) ∙ ap suc (passing-others i t ks apart.1 (omega (arith, low)))

-- whoever stands further behind is another
later-other : (k : ℕ) (ks : List ℕ) (p i : ℕ) → AllByRecursion (λ y. nat_eq k y ≡ false) ks → slice_get ks p ≡ Some i → but i k ≡ true
later-other k [] p i apart here = absurd (none-some i here)
later-other k (x ∷ ks) zero i apart here = go (i == k) refl
  where
    go : (b : Bool) → (i == k) ≡ b → not b ≡ true
    go false is = refl
    go true is = absurd (false≢true (sym apart.0 ∙ eq-eqb k x (sym (eqb-true i k is) ∙ sym (same_Some x i here))))
later-other k (x ∷ ks) (suc p) i apart here = later-other k ks p i apart.1 here

-- of those before the one all pass
passing-before : (i p t : ℕ) (ks : List ℕ) → IsDistinct nat_eq ks → slice_get ks p ≡ Some i → t ≤ p → passing (but i) t ks ≡ t
unfolding IsDistinct
passing-before i p zero ks distinct here low = refl
passing-before i p (suc t) [] distinct here low = absurd (none-some i here)
passing-before i zero (suc t) (k ∷ ks) distinct here low = absurd (omega (arith, low))
passing-before i (suc p) (suc t) (k ∷ ks) distinct here low =
    ap length (cond-true (but i k) (k ∷ filter (but i) (take t ks)) (filter (but i) (take t ks)) (later-other k ks p i distinct.0 here))
    ∙ ap suc (passing-before i p t ks distinct.1 here (omega (arith, low)))

-- and of more, all but the one
passing-behind : (i p t : ℕ) (ks : List ℕ) → IsDistinct nat_eq ks → slice_get ks p ≡ Some i → p ≤ t → t < length ks → passing (but i) (suc t) ks ≡ t
unfolding IsDistinct
passing-behind i p t [] distinct here high low = absurd (omega (arith, low))
passing-behind i zero t (k ∷ ks) distinct here high low =
    let it : i ≡ k = sym (same_Some k i here) in
    ap length (cond-false (but i k) (k ∷ filter (but i) (take t ks)) (filter (but i) (take t ks)) (ap not (eq-eqb i k it)))
    ∙ passing-others i t ks (subst (λ x. AllByRecursion (λ y. nat_eq x y ≡ false) ks) (sym it) distinct.0) (omega (arith, low))
passing-behind i (suc p) zero (k ∷ ks) distinct here high low = absurd (omega (arith, high))
passing-behind i (suc p) (suc t) (k ∷ ks) distinct here high low =
    ap length (cond-true (but i k) (k ∷ filter (but i) (take (suc t) ks)) (filter (but i) (take (suc t) ks)) (later-other k ks p i distinct.0 here))
    ∙ ap suc (passing-behind i p t ks distinct.1 here (omega (arith, high)) (omega (arith, low)))

-- up to the turn of the one the papers of those who have entered are those without the one
pub cut-before : (c : Cohort) (p i t : ℕ) → WellFormed c.papers → slice_get (students_of c.papers) p ≡ Some i → ((j : ℕ) → c.enters j ≡ but i j) → t ≤ p → cut (cohort (without_student c.papers i) everybody) t ≡ cut c t
cut-before c p i t well here others low =
    ap (cut (cohort (without_student c.papers i) everybody)) (sym (passing-before i p t (students_of c.papers) well.students_differ here low)) ∙ sym (cut-others c i t well others)

-- and behind it, one turn earlier
pub cut-behind : (c : Cohort) (p i t : ℕ) → WellFormed c.papers → slice_get (students_of c.papers) p ≡ Some i → ((j : ℕ) → c.enters j ≡ but i j) → p ≤ t → t < length (students_of c.papers) → cut (cohort (without_student c.papers i) everybody) t ≡ cut c (t + 1)
cut-behind c p i t well here others high low =
    ap (cut (cohort (without_student c.papers i) everybody)) (sym (passing-behind i p t (students_of c.papers) well.students_differ here high low))
    ∙ sym (cut-others c i (suc t) well others) ∙ ap (cut c) (omega arith)

-- an empty segment adds nothing to the log of the turns behind it
pub joined-behind : (segments : List (List Rejection)) (p t : ℕ) → slice_get segments p ≡ Some [] → p ≤ t → joined (take t (remove segments p)) ≡ joined (take (suc t) segments)
joined-behind [] p t here high = absurd (none-some [] here)
joined-behind (s ∷ segments) zero t here high = ap (λ l. l ++ joined (take t segments)) (sym (same_Some s [] here))
joined-behind (s ∷ segments) (suc p) zero here high = absurd (omega (arith, high))
joined-behind (s ∷ segments) (suc p) (suc t) here high = ap (λ l. s ++ l) (joined-behind segments p t here (omega (arith, high)))
