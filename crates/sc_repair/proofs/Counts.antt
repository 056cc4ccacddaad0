-- The counts of an assignment, pair by pair.
use Rattle.std.proofs.Common.{◌≡◌, ℕ, ◌+◌, ◌-◌, ◌<◌, ◌≤◌, ◌==◌, cond, false, List, [], ◌∷◌, ◌++◌, None, Some, slice_get, length, get_or, take, set, refl, ◌∙◌, ap, sym, arith, inl, inr, nat_eq, Bool, true, not, ◌&&◌, Contains}
use Rattle.std.proofs.lemmas.Grind.{common_steps}
use Rattle.std.proofs.lemmas.Bool.Decides.{nat_tests}
use Rattle.std.proofs.lemmas.Bool.{cases_Bool, cond-false, cond-true, eq-eqb, eqb-true}
use Rattle.std.proofs.lemmas.List.{get_or-set_other, get_or-set_same, length-set}
use Rattle.std.proofs.lemmas.List.Sums.{count_by-le-length, sum_by_push, sum_by-cons}
use Rattle.sc_papers.specs.Assignment.{assigned, holders, holding}
use Rattle.sc_papers.specs.Matching.{Matching, has, held, how_many}
use Rattle.sc_papers.proofs.Holders.{holders-some}
use Rattle.sc_engine.proofs.Settling.{take-next}
use Rattle.sc_papers.specs.declared.school_no.TheConstants.SchoolNo.{GREATEST}
use Rattle.sc_repair.specs.Places.{AreCountsBy}
use Rattle.std.specs.List.{IsDistinct}
use Rattle.std.specs.Map.{keys_of}
use Rattle.std.proofs.Math.Bool.{and-true}
use Rattle.std.proofs.lemmas.Cmp.{nat_eq_equiv}
use Rattle.std.proofs.lemmas.Map.{lookup-none}
use Rattle.std.proofs.lemmas.Map.Entries.{none_past_head}
use Rattle.std.proofs.lemmas.Map.Keys.{IsDistinct-tail}
use Rattle.sc_papers.specs.Market.{Market, students_of}
use Rattle.sc_papers.specs.WellFormed.{WellFormed}
use Rattle.sc_papers.proofs.Chain.{how_many-split_both}
use Rattle.sc_papers.proofs.Students.{how_many-agree, how_many-none}

-- one for the school, and nought for any other
abbrev pub one_of : ℕ → ℕ → ℕ
one_of t s = cond (t == s) 1 0

-- one count is another than it was
pub recounted : (f g : ℕ → ℕ) (counts : List ℕ) (t n : ℕ) → AreCountsBy f counts → t ≤ GREATEST → n ≡ g t → ((s : ℕ) → (t == s) ≡ false → g s ≡ f s) → AreCountsBy g (set counts t n)
recounted f g counts t n are low here others = record {
  long = omega (arith, are.long, length-set counts t n);
  each = λ s within. grind (arith, nat_tests, within, here, others s, are.each s, are.long, low, get_or-set_same counts t n 0, get_or-set_other counts t s n 0);
}

-- one more at a school
pub counted-more : (f g : ℕ → ℕ) (counts : List ℕ) (t : ℕ) → AreCountsBy f counts → t ≤ GREATEST → ((s : ℕ) → g s ≡ f s + one_of t s) → AreCountsBy g (set counts t (get_or counts t 0 + 1))
counted-more f g counts t are low more =
    recounted f g counts t (get_or counts t 0 + 1) are low
    (omega (arith, are.each t low, more t, cond-true {A = ℕ} (t == t) 1 0 (eq-eqb t t refl)))
    (λ s other. omega (arith, more s, cond-false {A = ℕ} (t == s) 1 0 other))

-- one less at a school
pub counted-less : (f g : ℕ → ℕ) (counts : List ℕ) (t : ℕ) → AreCountsBy f counts → t ≤ GREATEST → ((s : ℕ) → g s + one_of t s ≡ f s) → AreCountsBy g (set counts t (get_or counts t 0 - 1))
counted-less f g counts t are low less =
    recounted f g counts t (get_or counts t 0 - 1) are low
    (omega (arith, are.each t low, less t, cond-true {A = ℕ} (t == t) 1 0 (eq-eqb t t refl)))
    (λ s other. omega (arith, less s, cond-false {A = ℕ} (t == s) 1 0 other))

-- the counts by another way of counting that gives the same
pub counted-alike : (f g : ℕ → ℕ) (counts : List ℕ) → AreCountsBy f counts → ((s : ℕ) → g s ≡ f s) → AreCountsBy g counts
counted-alike f g counts are alike = record { long = are.long; each = λ s low. are.each s low ∙ sym (alike s) }

-- one less, where there was one
pub less-one : (f : ℕ → ℕ) (t : ℕ) → 0 < f t → (s : ℕ) → (f s - one_of t s) + one_of t s ≡ f s
less-one f t some s = grind (arith, nat_tests, some)

-- whether a student counts for a school
pub holding-some : (a : Matching) (i t s : ℕ) → a i ≡ Some t → holding a s i ≡ one_of t s
holding-some a i t s at = rw at refl

pub holding-none : (a : Matching) (i s : ℕ) → a i ≡ None → holding a s i ≡ 0
holding-none a i s at = rw at refl

-- the counts without a student who has a school
abbrev pub without : List (ℕ × ℕ) → ℕ → ℕ → ℕ
without old from s = holders old s - one_of from s

pub counted-without : (old : List (ℕ × ℕ)) (i from : ℕ) (counts : List ℕ) → AreCountsBy (holders old) counts → assigned old i ≡ Some from → from ≤ GREATEST → AreCountsBy (without old from) (set counts from (get_or counts from 0 - 1))
counted-without old i from counts are had low = counted-less (holders old) (without old from) counts from are low (less-one (holders old) from (holders-some old i from had))

-- one who has a school and gets another, or none
module _ (old new : List (ℕ × ℕ)) (i from : ℕ) (had : assigned old i ≡ Some from) (counted : (s : ℕ) → holders new s + holding (assigned old) s i ≡ holders old s + holding (assigned new) s i) where
  pub holders-arrived : (to : ℕ) → assigned new i ≡ Some to → (s : ℕ) → holders new s ≡ without old from s + one_of to s
  holders-arrived to gets s =
      omega (arith, counted s, holding-some (assigned old) i from s had, holding-some (assigned new) i to s gets, less-one (holders old) from (holders-some old i from had) s)

  pub holders-left : assigned new i ≡ None → (s : ℕ) → holders new s ≡ without old from s
  holders-left none s =
      omega (arith, counted s, holding-some (assigned old) i from s had, holding-none (assigned new) i s none, less-one (holders old) from (holders-some old i from had) s)

-- a pair at the end
pub holders-push : (pairs : List (ℕ × ℕ)) (i t s : ℕ) → holders (pairs ++ (i, t) ∷ []) s ≡ holders pairs s + one_of t s
holders-push pairs i t s = sum_by_push (λ pair. one_of pair.1 s) pairs (i, t)

-- the pairs up to the next position
pub holders-more : (pairs : List (ℕ × ℕ)) (k s : ℕ) (pair : ℕ × ℕ) → slice_get pairs k ≡ Some pair → holders (take (k + 1) pairs) s ≡ holders (take k pairs) s + one_of pair.1 s
holders-more pairs k s pair at = ap (λ (ps : List (ℕ × ℕ)). holders ps s) (take-next pairs k pair at) ∙ holders-push (take k pairs) pair.0 pair.1 s

-- the pairs up to a position, but for the last of them
pub holders-last : (pairs : List (ℕ × ℕ)) (k : ℕ) (pair : ℕ × ℕ) (s : ℕ) → 0 < k → slice_get pairs (k - 1) ≡ Some pair → holders (take (k - 1) pairs) s + one_of pair.1 s ≡ holders (take k pairs) s
holders-last pairs k pair s some at =
    let next : (k - 1) + 1 ≡ k = omega (arith, some) in
    sym (holders-more pairs (k - 1) s pair at) ∙ ap (λ (n : ℕ). holders (take n pairs) s) next

-- no more pairs have a school than there are
pub holders-le : (pairs : List (ℕ × ℕ)) (s : ℕ) → holders pairs s ≤ length pairs
holders-le pairs s = count_by-le-length (λ pair. pair.1 == s) pairs

-- The pairs of an assignment and the students of the papers count alike.

-- those who pass, by one student and the others
split-at : (m : Market) → WellFormed m → (p : ℕ → Bool) (y : ℕ) → Contains (students_of m) y → how_many m p ≡ cond (p y) 1 0 + how_many m (λ j. p j && not (j == y))
split-at m well p y among = how_many-agree m p (λ j. p j && true) (λ j. sym (and-true (p j))) ∙ how_many-split_both m well p (λ j. true) y among refl

-- with one more pair, of a student who has none in the others, the counts differ by that pair
held-more : (m : Market) → WellFormed m → (e : ℕ × ℕ) (es : List (ℕ × ℕ)) (s : ℕ) → Contains (students_of m) e.0 → assigned es e.0 ≡ None
    → held m (assigned (e ∷ es)) s ≡ one_of e.1 s + held m (assigned es) s
held-more m well e es s among none =
    let i = e.0 in
    let more = split-at m well (has (assigned (e ∷ es)) s) i among in
    let without = split-at m well (has (assigned es) s) i among in
    let same = how_many-agree m (λ j. has (assigned (e ∷ es)) s j && not (j == i)) (λ j. has (assigned es) s j && not (j == i)) others in
    omega (arith, more, without, same, here, nothing)
  where
    others : (j : ℕ) → (has (assigned (e ∷ es)) s j && not (j == e.0)) ≡ (has (assigned es) s j && not (j == e.0))
    others j = grind (arith, nat_tests, common_steps)

    here : ◌≡◌ {A = ℕ} (cond (has (assigned (e ∷ es)) s e.0) 1 0) (one_of e.1 s)
    here = rw (nat_eq_equiv.refl e.0) refl

    nothing : ◌≡◌ {A = ℕ} (cond (has (assigned es) s e.0) 1 0) 0
    nothing = rw none refl

-- as many pairs have a school as students of the papers have it, if every student of the pairs is in the papers and none stands there twice
pub holders-held : (m : Market) → WellFormed m → (pairs : List (ℕ × ℕ)) → IsDistinct nat_eq (keys_of pairs)
    → ((i s : ℕ) → assigned pairs i ≡ Some s → Contains (students_of m) i) → (s : ℕ) → holders pairs s ≡ held m (assigned pairs) s
holders-held m well [] differ within s = sym (how_many-none m (has (assigned []) s) (λ i among. refl))
holders-held m well (e ∷ es) differ within s =
    sum_by-cons (λ pair. one_of pair.1 s) e es
    ∙ ap (λ (n : ℕ). one_of e.1 s + n) (holders-held m well es (IsDistinct-tail nat_eq e.0 (keys_of es) differ) inside s)
    ∙ sym (held-more m well e es s (within e.0 e.1 (rw (nat_eq_equiv.refl e.0) refl)) none)
  where
    none : assigned es e.0 ≡ None
    none = lookup-none (nat_eq e.0) es (none_past_head nat_eq_equiv e.0 e es differ (nat_eq_equiv.refl e.0))

    inside : (i t : ℕ) → assigned es i ≡ Some t → Contains (students_of m) i
    inside i t has = elim (cases_Bool (nat_eq i e.0)) [
      | inl same ↦ let at : i ≡ e.0 = eqb-true i e.0 same in absurd (cc (sym (ap (assigned es) at ∙ none) ∙ has))
      | inr other ↦ within i t (rw other has)
    ]
