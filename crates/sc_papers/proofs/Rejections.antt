-- What one more rejection changes: the next choice of one student.
use Rattle.std.proofs.Common.{◌≡◌, ◌⊎◌, inl, inr, refl, ap, sym, ◌∙◌, ℕ, ◌==◌, Bool, true, false, cond, not, ◌&&◌, ◌||◌, List, [], ◌∷◌, ◌++◌, Option, Some, None, find}
use Rattle.std.specs.List.{list_any}
use Rattle.std.specs.Option.{option_map_or}
use Rattle.std.proofs.lemmas.Bool.{or_cases, and_parts, eqb-true, eq-eqb, ne_eqb, false≢true, and_left}
use Rattle.sc_papers.specs.Market.{Market, choices_of}
use Rattle.sc_papers.specs.Matching.{Matching, has}
use Rattle.sc_papers.specs.Log.{is_rejected, next_choice}
use Rattle.sc_papers.specs.declared.rejection.Rejection.{Rejection}

-- two tests that agree find the same
pub find-agree : (p q : ℕ → Bool) → ((x : ℕ) → p x ≡ q x) → (xs : List ℕ) → find p xs ≡ find q xs
find-agree p q agree [] = refl
find-agree p q agree (x ∷ xs) = λ i. cond (agree x i) (Some x) (find-agree p q agree xs i)

-- one more member of the list
pub any-push : {X : Type 0} (p : X → Bool) (xs : List X) (y : X) → list_any p (xs ++ y ∷ []) ≡ (list_any p xs || p y)
any-push p [] y = or-false (p y)
  where
    or-false : (b : Bool) → (b || false) ≡ b
    or-false true = refl
    or-false false = refl
any-push p (x ∷ xs) y = ap (λ b. p x || b) (any-push p xs y) ∙ or-assoc (p x) (list_any p xs) (p y)
  where
    or-assoc : (a b c : Bool) → (a || (b || c)) ≡ ((a || b) || c)
    or-assoc true b c = refl
    or-assoc false b c = refl

-- whether an entry says that school s rejected student i
abbrev pub is_of : Rejection → ℕ → ℕ → Bool
is_of entry i s = entry.student == i && entry.school == s

pub rejected-push : (log : List Rejection) (e : Rejection) (i s : ℕ) → is_rejected (log ++ e ∷ []) i s ≡ (is_rejected log i s || is_of e i s)
rejected-push log e i s = any-push (λ entry. is_of entry i s) log e

-- who is rejected after one more entry was rejected before it or by it
pub rejected-push_cases : (log : List Rejection) (e : Rejection) (i s : ℕ) → is_rejected (log ++ e ∷ []) i s ≡ true → (is_rejected log i s ≡ true) ⊎ ((e.student ≡ i) × (e.school ≡ s))
rejected-push_cases log e i s rejected =
    elim (or_cases (is_rejected log i s) (is_of e i s) (sym (rejected-push log e i s) ∙ rejected)) [
      | inl before ↦ inl before
      | inr by_it ↦ inr (eqb-true e.student i (and_parts (e.student == i) (e.school == s) by_it).0, eqb-true e.school s (and_parts (e.student == i) (e.school == s) by_it).1)
    ]

-- an entry changes nothing for the other students
pub next-same : (m : Market) (log : List Rejection) (e : Rejection) (j : ℕ) → (e.student ≡ j → ⊥) → next_choice m (log ++ e ∷ []) j ≡ next_choice m log j
unfolding next_choice
next-same m log e j apart =
    find-agree (λ s. not (is_rejected (log ++ e ∷ []) j s)) (λ s. not (is_rejected log j s))
    (λ s. ap not (rejected-push log e j s ∙ ap (λ b. is_rejected log j s || b) (and_left (e.student == j) (e.school == s) (ne_eqb e.student j apart)) ∙ or-false (is_rejected log j s)))
    (choices_of m j)
  where
    or-false : (b : Bool) → (b || false) ≡ b
    or-false true = refl
    or-false false = refl

-- what a test for one school tells
pub tells-some : (o : Option ℕ) (s : ℕ) → option_map_or (λ t. t == s) o false ≡ true → o ≡ Some s
tells-some None s holds = absurd (false≢true holds)
tells-some (Some t) s holds = ap Some (eqb-true t s holds)

pub has-true : (a : Matching) (s i : ℕ) → has a s i ≡ true → a i ≡ Some s
has-true a s i holds = tells-some (a i) s holds

pub has-some : (a : Matching) (s i : ℕ) → a i ≡ Some s → has a s i ≡ true
has-some a s i is = ap (λ o. option_map_or (λ t. t == s) o false) is ∙ eq-eqb s s refl

-- who has a school has it still where the two matchings agree
pub has-agree : (a b : Matching) (s i : ℕ) → a i ≡ b i → has a s i ≡ has b s i
has-agree a b s i same = ap (λ o. option_map_or (λ t. t == s) o false) same
