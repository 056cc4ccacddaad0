-- Students who are given the schools at which they stand after an amendment, one after the other.
use Rattle.std.proofs.Common.{◌≡◌, ◌||◌, ◌==◌, ◌&&◌, ◌<◌, ◌+◌, ℕ, suc, zero, true, false, cond, nat_eq, is_some, List, [], ◌∷◌, ◌++◌, None, get_or, take, length, Contains, refl, ap, sym, subst, ◌∙◌, arith, inl, inr}
use Rattle.std.proofs.lemmas.Grind.{common_steps}
use Rattle.std.proofs.lemmas.Bool.{cases_Bool, eq-eqb, eqb-true, false_from_ne_true, or_from}
use Rattle.std.proofs.lemmas.Bool.Decides.{nat_tests}
use Rattle.std.proofs.lemmas.List.{get_or_default, take_more}
use Rattle.std.proofs.Math.Bool.{or-false, or_assoc}
use Rattle.sc_papers.specs.Matching.{Matching}
use Rattle.sc_papers.proofs.Counting.{contains-cons}
use Rattle.sc_ledgers.specs.Elsewhere.{is_aside, AreApart, IsAbsent}
use Rattle.sc_repair.specs.Replacing.{new_of, with_given, with_replaced}
use Rattle.sc_ledgers.specs.declared.elsewhere.Stance.{Stance}
use Rattle.sc_ledgers.proofs.Siding.{aside-here, aside-there}

-- one more stance
aside-push : (list : List Stance) (x : Stance) (j : ℕ) → is_aside (list ++ x ∷ []) j ≡ (is_aside list j || x.student == j)
aside-push [] x j = or-false (x.student == j)
aside-push (y ∷ list) x j = ap (λ b. y.student == j || b) (aside-push list x j) ∙ sym (or_assoc (y.student == j) (is_aside list j) (x.student == j))

new-push : (list : List Stance) (x : Stance) (j : ℕ) → new_of (list ++ x ∷ []) j ≡ cond (is_aside list j) (new_of list j) (new_of (x ∷ []) j)
new-push [] x j = refl
new-push (y ∷ list) x j = elim (cases_Bool (y.student == j)) [ inl here ↦ rw here refl | inr beside ↦ rw beside (new-push list x j) ]

-- one who has no school
pub given-one : (x : Stance) (a after : Matching) → a x.student ≡ None → ((j : ℕ) → after j ≡ cond (nat_eq j x.student) x.new (a j)) → (j : ℕ) → after j ≡ with_given (x ∷ []) a j
given-one x a after none given j = grind (arith, nat_tests, common_steps, none, given j)

-- one more stance, of a student who has none of the others
given-more : (list : List Stance) (x : Stance) (a middle after : Matching) → is_aside list x.student ≡ false
    → ((j : ℕ) → middle j ≡ with_given list a j) → ((j : ℕ) → after j ≡ with_given (x ∷ []) middle j) → (j : ℕ) → after j ≡ with_given (list ++ x ∷ []) a j
given-more list x a middle after beside before given j = grind (arith, nat_tests, common_steps, beside, before j, given j, aside-push list x j, new-push list x j)

replaced-more : (list : List Stance) (x : Stance) (a middle after : Matching) → is_aside list x.student ≡ false
    → ((j : ℕ) → middle j ≡ with_replaced list a j) → ((j : ℕ) → after j ≡ cond (nat_eq j x.student && is_some (middle j)) x.new (middle j)) → (j : ℕ) → after j ≡ with_replaced (list ++ x ∷ []) a j
replaced-more list x a middle after beside before moved j = grind (arith, nat_tests, common_steps, beside, before j, moved j, aside-push list x j, new-push list x j)

-- whoever has a stance further on has none before
beside-before : (list : List Stance) (k : ℕ) (d : Stance) → AreApart list → k < length list → is_aside (take k list) (get_or list k d).student ≡ false
beside-before [] k d apart low = absurd (omega (arith, low))
beside-before (y ∷ list) zero d apart low = refl
beside-before (y ∷ list) (suc k) d apart low =
    let x = get_or list k d in
    let inside : k < length list = omega (arith, low) in
    or_from (y.student == x.student) (is_aside (take k list) x.student)
    (false_from_ne_true (y.student == x.student) (λ same. apart.0 x (k, inside, get_or_default list k x d inside) (sym (eqb-true y.student x.student same))))
    (beside-before list k d apart.1 inside)

-- the next of the stances
module _ (list : List Stance) (k : ℕ) (x : Stance) (a middle after : Matching) (apart : AreApart list) (low : k < length list) (is : x ≡ get_or list k x) where
  next-front : take (k + 1) list ≡ take k list ++ x ∷ []
  next-front = take_more list k x low ∙ ap (λ z. take k list ++ z ∷ []) (sym is)

  next-beside : is_aside (take k list) x.student ≡ false
  next-beside = ap (λ z. is_aside (take k list) z.student) is ∙ beside-before list k x apart low

  pub given-next : ((j : ℕ) → middle j ≡ with_given (take k list) a j) → ((j : ℕ) → after j ≡ with_given (x ∷ []) middle j) → (j : ℕ) → after j ≡ with_given (take (k + 1) list) a j
  given-next before given = subst (λ front. (j : ℕ) → after j ≡ with_given front a j) (sym next-front) (given-more (take k list) x a middle after next-beside before given)

  pub replaced-next : ((j : ℕ) → middle j ≡ with_replaced (take k list) a j) → ((j : ℕ) → after j ≡ cond (nat_eq j x.student && is_some (middle j)) x.new (middle j)) → (j : ℕ) → after j ≡ with_replaced (take (k + 1) list) a j
  replaced-next before moved = subst (λ front. (j : ℕ) → after j ≡ with_replaced front a j) (sym next-front) (replaced-more (take k list) x a middle after next-beside before moved)

-- where somebody stands by their own stance
new-here : (list : List Stance) (x : Stance) → AreApart list → Contains list x → new_of list x.student ≡ x.new
new-here [] x apart here = absurd (omega (arith, here.1))
new-here (y ∷ list) x apart here = elim (contains-cons y list x here) [
  | inl same ↦ rw (eq-eqb y.student x.student (ap (λ z. z.student) same)) (ap (λ z. z.new) same)
  | inr later ↦ rw (false_from_ne_true (y.student == x.student) (λ is. apart.0 x later (sym (eqb-true y.student x.student is)))) (new-here list x apart.1 later)
]

-- after both, whoever has a stance has what it says, and everybody else what they had
pub replaced-places : (list : List Stance) (a b c : Matching) → AreApart list → ((j : ℕ) → b j ≡ with_given list a j) → ((j : ℕ) → c j ≡ with_replaced list b j)
    → ((j : ℕ) (x : Stance) → Contains list x → x.student ≡ j → c j ≡ x.new) × ((j : ℕ) → IsAbsent list j → c j ≡ a j)
replaced-places list a b c apart given moved = (
  λ j x here is.
      let aside : is_aside list j ≡ true = subst (λ i. is_aside list i ≡ true) is (aside-here list x here) in
      let stands : new_of list j ≡ x.new = ap (new_of list) (sym is) ∙ new-here list x apart here in
      grind (arith, nat_tests, common_steps, given j, moved j, aside, stands),
  λ j absent.
      let beside : is_aside list j ≡ false = false_from_ne_true (is_aside list j) (λ is. let found = aside-there list j is in absent found.0 found.1 found.2) in
      grind (arith, nat_tests, common_steps, given j, moved j, beside),
)
