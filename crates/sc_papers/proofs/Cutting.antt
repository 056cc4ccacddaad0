-- Papers cut at k are restricted to their first k students, and segments follow one another.
use Rattle.std.proofs.Common.{◌≡◌, inl, inr, refl, ap, sym, subst, ◌∙◌, ℕ, zero, suc, ◌+◌, ◌<◌, ◌≤◌, ◌==◌, nat_eq, Bool, false, cond, ◌||◌, List, [], ◌∷◌, ◌++◌, length, Some, filter, take, slice_get, append-nil, arith}
use Rattle.std.specs.List.{IsDistinct, AllByRecursion, list_any}
use Rattle.std.specs.Map.{keys_of}
use Rattle.std.proofs.lemmas.Bool.{cases_lt, cond-true, eq-eqb, or_left}
use Rattle.std.proofs.lemmas.Cmp.{nat_eq_equiv}
use Rattle.std.proofs.lemmas.Option.{slice_get_within, get_or_from_slice_get}
use Rattle.std.proofs.lemmas.List.{take_more, take_all, take-take, take-append-le, length_push, length-map, length-take-le}
use Rattle.std.proofs.lemmas.Grind.{flat_map-append}
use Rattle.sc_papers.specs.Market.{Market, students_of}
use Rattle.sc_papers.specs.WellFormed.{WellFormed}
use Rattle.sc_papers.specs.Log.{IsSettled}
use Rattle.sc_papers.specs.Restriction.{restricted, cut, joined, is_among_first, IsSegmented}
use Rattle.sc_papers.specs.Chain.{and_one, IsChain}
use Rattle.sc_papers.specs.declared.rejection.Rejection.{Rejection}
use Rattle.sc_papers.proofs.Rejections.{any-push}
use Rattle.sc_papers.proofs.Chain.{chain-settles}

-- tests that agree on each number keep the same
filter-same : {X : Type 0} (p q : ℕ → Bool) (es : List (ℕ × X)) → AllByRecursion (λ i. p i ≡ q i) (keys_of es) → filter (λ e. p e.0) es ≡ filter (λ e. q e.0) es
filter-same p q [] agree = refl
filter-same p q (e ∷ es) agree = λ t. cond (agree.0 t) (e ∷ filter-same p q es agree.1 t) (filter-same p q es agree.1 t)

filter-nothing : {X : Type 0} (es : List (ℕ × X)) → filter (λ e. false) es ≡ []
filter-nothing [] = refl
filter-nothing (e ∷ es) = filter-nothing es

-- the first k of a list with no repeats are those who are among the first k
filter-first : {X : Type 0} (k : ℕ) (es : List (ℕ × X)) → IsDistinct nat_eq (keys_of es) → filter (λ e. list_any (λ j. j == e.0) (take k (keys_of es))) es ≡ take k es
unfolding IsDistinct
filter-first zero es distinct = filter-nothing es
filter-first (suc k) [] distinct = refl
filter-first (suc k) (e ∷ es) distinct =
    cond-true (list_any (λ j. j == e.0) (take (suc k) (keys_of (e ∷ es)))) (e ∷ filter (λ f. list_any (λ j. j == f.0) (take (suc k) (keys_of (e ∷ es)))) es) (filter (λ f. list_any (λ j. j == f.0) (take (suc k) (keys_of (e ∷ es)))) es)
    (or_left (e.0 == e.0) (list_any (λ j. j == e.0) (take k (keys_of es))) (eq-eqb e.0 e.0 refl))
    ∙ ap (λ fs. e ∷ fs)
    (filter-same (λ i. (e.0 == i) || list_any (λ j. j == i) (take k (keys_of es))) (λ i. list_any (λ j. j == i) (take k (keys_of es))) es (apart e.0 (take k (keys_of es)) (keys_of es) distinct.0)
    ∙ filter-first k es distinct.1)
  where
    apart : (n : ℕ) (ks xs : List ℕ) → AllByRecursion (λ y. nat_eq n y ≡ false) xs → AllByRecursion (λ i. ((n == i) || list_any (λ j. j == i) ks) ≡ list_any (λ j. j == i) ks) xs
    apart n ks [] all = tt
    apart n ks (x ∷ xs) all = (ap (λ b. b || list_any (λ j. j == x) ks) all.0, apart n ks xs all.1)

-- papers cut at k are restricted to their first k students
pub cut-restricted : (m : Market) (k : ℕ) → WellFormed m → cut m k ≡ restricted m (is_among_first m k)
unfolding cut restricted
cut-restricted m k well = λ t. record m { students = sym (filter-first k m.students well.students_differ) t }

-- the next student in order of entry
first-more : (m : Market) (k i : ℕ) → slice_get (students_of m) k ≡ Some i → (j : ℕ) → is_among_first m (k + 1) j ≡ and_one (is_among_first m k) i j
first-more m k i here j =
    ap (list_any (λ n. n == j)) (take_more (students_of m) k i (slice_get_within (students_of m) k i here) ∙ ap (λ n. take k (students_of m) ++ n ∷ []) (get_or_from_slice_get (students_of m) k i i here))
    ∙ any-push (λ n. n == j) (take k (students_of m)) i
    ∙ ap (λ b. is_among_first m k j || b) (nat_eq_equiv.symm i j)

pub cut-more : (m : Market) (k i : ℕ) → WellFormed m → slice_get (students_of m) k ≡ Some i → cut m (k + 1) ≡ restricted m (and_one (is_among_first m k) i)
cut-more m k i well here = cut-restricted m (k + 1) well ∙ ap (restricted m) (λ t j. first-more m k i here j t)

-- the next student's chain, after a log of the first k
pub next-student : (m : Market) (k i : ℕ) (log chain : List Rejection) → WellFormed m → slice_get (students_of m) k ≡ Some i → IsSettled (cut m k) log → IsChain (cut m (k + 1)) log i chain → IsSettled (cut m (k + 1)) (log ++ chain)
next-student m k i log chain well here settled steps =
    subst (λ n. IsSettled n (log ++ chain)) (sym (cut-more m k i well here))
    (chain-settles m well (is_among_first m k) i log chain
    (subst (λ n. IsSettled n log) (cut-restricted m k well) settled)
    (subst (λ n. IsChain n log i chain) (cut-more m k i well here) steps))

-- papers cut no shorter than they are
pub cut-all : (m : Market) (k : ℕ) → length (students_of m) ≤ k → cut m k ≡ m
unfolding cut
cut-all m k low = λ t. record m { students = take_all k m.students (omega (arith, low, length-map m.students (λ e. e.0))) t }

pub cut-cut : (m : Market) (j k : ℕ) → j ≤ k → cut (cut m k) j ≡ cut m j
unfolding cut
cut-cut m j k low = λ t. record m { students = take-take j k m.students low t }

-- a segmented log, joined, is settled
pub segments-settled : (m : Market) (segments : List (List Rejection)) → IsSegmented m segments → IsSettled m (joined segments)
segments-settled m segments segmented =
    subst (λ n. IsSettled n (joined segments)) (cut-all m (length segments) (omega (arith, segmented.one_each)))
    (subst (λ l. IsSettled (cut m (length segments)) (joined l)) (take_all (length segments) segments (omega arith)) (segmented.settled (length segments) (omega arith)))

pub length-students_cut : (m : Market) (k : ℕ) → k ≤ length (students_of m) → length (students_of (cut m k)) ≡ k
unfolding cut
length-students_cut m k low =
    length-map (take k m.students) (λ e. e.0) ∙ length-take-le k m.students (omega (arith, low, length-map m.students (λ e. e.0)))

pub joined-push : (segments : List (List Rejection)) (chain : List Rejection) → joined (segments ++ chain ∷ []) ≡ joined segments ++ chain
joined-push segments chain = flat_map-append (λ s. s) segments (chain ∷ []) ∙ ap (λ l. joined segments ++ l) (append-nil chain)

-- segments of the first k students, and rejections that settle one more
pub segments-more : (m : Market) (k i : ℕ) (segments : List (List Rejection)) (chain : List Rejection) → slice_get (students_of m) k ≡ Some i → IsSegmented (cut m k) segments → IsSettled (cut m (k + 1)) (joined segments ++ chain) → IsSegmented (cut m (k + 1)) (segments ++ chain ∷ [])
segments-more m k i segments chain here segmented whole =
    let within : k < length (students_of m) = slice_get_within (students_of m) k i here in
    let count : length segments ≡ k = segmented.one_each ∙ length-students_cut m k (omega (arith, within)) in
    let pushed : IsSettled (cut m (k + 1)) (joined (segments ++ chain ∷ [])) = subst (IsSettled (cut m (k + 1))) (sym (joined-push segments chain)) whole in
    record {
      one_each = omega (arith, length_push segments chain, count, length-students_cut m (k + 1) (omega (arith, within)));
      settled = λ j low. elim (cases_lt j (k + 1)) [
        | inl below ↦ subst (λ n. IsSettled n (joined (take j (segments ++ chain ∷ [])))) (sym (cut-cut m j (k + 1) (omega (arith, below))))
            (subst (λ l. IsSettled (cut m j) (joined l)) (sym (take-append-le j segments (chain ∷ []) (omega (arith, below, count))))
            (subst (λ n. IsSettled n (joined (take j segments))) (cut-cut m j k (omega (arith, below))) (segmented.settled j (omega (arith, below, count)))))
        | inr above ↦ subst (λ n. IsSettled n (joined (take j (segments ++ chain ∷ [])))) (sym (cut-all (cut m (k + 1)) j (omega (arith, above, length-students_cut m (k + 1) (omega (arith, within))))))
            (subst (λ l. IsSettled (cut m (k + 1)) (joined l)) (sym (take_all j (segments ++ chain ∷ []) (omega (arith, above, count, length_push segments chain)))) pushed)
      ];
    }

-- segments of the first k students, and the next student's chain
pub segments-push : (m : Market) (k i : ℕ) (segments : List (List Rejection)) (chain : List Rejection) → WellFormed m → slice_get (students_of m) k ≡ Some i → IsSegmented (cut m k) segments → IsChain (cut m (k + 1)) (joined segments) i chain → IsSegmented (cut m (k + 1)) (segments ++ chain ∷ [])
segments-push m k i segments chain well here segmented steps =
    segments-more m k i segments chain here segmented (next-student m k i (joined segments) chain well here (segments-settled (cut m k) segments segmented) steps)
