-- Lists of stances.
use Rattle.std.specs.List.{filter}
use Rattle.std.proofs.Common.{◌||◌, cond, not, Bool, true, false, None, ◌≡◌, ◌⊎◌, inl, inr, refl, ap, sym, subst, ◌∙◌, ℕ, zero, suc, ◌<◌, List, [], ◌∷◌, ◌++◌, length, get_or, set, Option, Some, Contains, arith}
use Rattle.std.proofs.lemmas.Bool.{cases_eq, cases_lt, eq-eqb, eqb-true, false≢true}
use Rattle.std.proofs.lemmas.List.{get_or_default, get_or-set_other, get_or-set_same, length-set}
use Rattle.std.proofs.lemmas.List.Elements.{Contains-append_left, Contains-append_right, Contains-push_cases}
use Rattle.sc_papers.specs.declared.rejection.Rejection.{Rejection}
use Rattle.sc_papers.proofs.Counting.{contains-cons, contains-head, contains-tail}
use Rattle.sc_ledgers.specs.Elsewhere.{in_other, in_run, AreApart, HasDropped, HasMoved, HasPut, IsAbsent, IsAlikeBut, is_kept, is_same}
use Rattle.sc_ledgers.specs.declared.elsewhere.Run.{Run}
use Rattle.sc_ledgers.specs.declared.elsewhere.Run.TheVariants.{Old, New}
use Rattle.sc_ledgers.specs.declared.elsewhere.Stance.{Stance}

contains-place : (xs : List Stance) (k : ℕ) (d : Stance) → k < length xs → Contains xs (get_or xs k d)
contains-place xs k d low = (k, low, get_or_default xs k (get_or xs k d) d low)

-- two places of the list have different students
apart-before : (xs : List Stance) (i j : ℕ) (d : Stance) → AreApart xs → i < j → j < length xs → (get_or xs j d).student ≡ (get_or xs i d).student → ⊥
apart-before [] i j d apart below low same = omega (arith, low)
apart-before (x ∷ xs) zero zero d apart below low same = omega (arith, below)
apart-before (x ∷ xs) zero (suc j) d apart below low same = apart.0 (get_or xs j d) (contains-place xs j d (omega (arith, low))) same
apart-before (x ∷ xs) (suc i) zero d apart below low same = omega (arith, below)
apart-before (x ∷ xs) (suc i) (suc j) d apart below low same = apart-before xs i j d apart.1 (omega (arith, below)) (omega (arith, low)) same

apart-places : (xs : List Stance) (i j : ℕ) (d : Stance) → AreApart xs → (i ≡ j → ⊥) → i < length xs → j < length xs → (get_or xs i d).student ≡ (get_or xs j d).student → ⊥
apart-places xs i j d apart other low_i low_j same = elim (cases_lt i j) [
  | inl below ↦ apart-before xs i j d apart below low_j (sym same)
  | inr above ↦ apart-before xs j i d apart (omega (arith, above, other)) low_i same
]

pub apart-set : (xs : List Stance) (at : ℕ) (x : Stance) → AreApart xs → at < length xs → ((d : Stance) → (get_or xs at d).student ≡ x.student) → AreApart (set xs at x)
apart-set [] at x apart low same = apart
apart-set (y ∷ xs) zero x apart low same = (λ z here is. apart.0 z here (is ∙ sym (same y)), apart.1)
apart-set (y ∷ xs) (suc at) x apart low same = (
  λ z here is. absent z (set-cases xs at x z here) is,
  apart-set xs at x apart.1 (omega (arith, low)) same,
)
  where
    set-cases : (xs : List Stance) (at : ℕ) (x z : Stance) → Contains (set xs at x) z → Contains xs z ⊎ (z ≡ x)
    set-cases [] at x z here = inl here
    set-cases (w ∷ xs) zero x z here = elim (contains-cons x xs z here) [ inl is ↦ inr (sym is) | inr later ↦ inl (contains-tail w xs z later) ]
    set-cases (w ∷ xs) (suc at) x z here = elim (contains-cons w (set xs at x) z here) [
      | inl is ↦ inl (subst (Contains (w ∷ xs)) is (contains-head w xs))
      | inr later ↦ elim (set-cases xs at x z later) [ inl there ↦ inl (contains-tail w xs z there) | inr is ↦ inr is ]
    ]

    absent : (z : Stance) → Contains xs z ⊎ (z ≡ x) → z.student ≡ y.student → ⊥
    absent z (inl there) is = apart.0 z there is
    absent z (inr it) is = apart.0 (get_or xs at y) (contains-place xs at y (omega (arith, low))) (same y ∙ sym (ap (λ s. s.student) it) ∙ is)

pub apart-push : (xs : List Stance) (x : Stance) → AreApart xs → IsAbsent xs x.student → AreApart (xs ++ x ∷ [])
apart-push [] x apart absent = (λ z here is. omega (arith, here.1), tt)
apart-push (y ∷ xs) x apart absent = (
  λ z here is. elim (Contains-push_cases xs x z here) [
    | inl before ↦ apart.0 z before is
    | inr it ↦ absent y (contains-head y xs) (sym (ap (λ s. s.student) it ∙ is) ∙ refl)
  ],
  apart-push xs x apart.1 (λ z here is. absent z (contains-tail y xs z here) is),
)

pub moved-set : (xs : List Stance) (at : ℕ) (x was : Stance) (run : Run) (e : Rejection) (next : Option ℕ) → AreApart xs → at < length xs → ((d : Stance) → (get_or xs at d).student ≡ e.student) → was ≡ get_or xs at was → x.student ≡ e.student → in_run run x ≡ next → in_other run x ≡ in_other run was → HasMoved xs (set xs at x) run e next
moved-set xs at x was run e next apart low theirs is same moved stays = record {
  kept = λ y here other. elim (cases_eq here.0 at) [
    | inl place ↦ absurd (other (sym (ap (λ s. s.student) here.2) ∙ ap (λ k. (get_or xs k y).student) place ∙ theirs y))
    | inr apart_from ↦ (here.0, subst (λ n. here.0 < n) (sym (length-set xs at x)) here.1, get_or-set_other xs at here.0 x y apart_from ∙ here.2)
  ];
  there = (x, (at, subst (λ n. at < n) (sym (length-set xs at x)) low, get_or-set_same xs at x x low), same);
  only = λ y here.
      let within : here.0 < length xs = subst (λ n. here.0 < n) (length-set xs at x) here.1 in
      elim (cases_eq here.0 at) [
        | inl place ↦
            let it : x ≡ y = sym (ap (λ k. get_or (set xs at x) k y) place ∙ get_or-set_same xs at x y low) ∙ here.2 in
            inr (sym (ap (λ s. s.student) it) ∙ same, ap (in_run run) (sym it) ∙ moved, inl (was, (at, low, sym is), ap (λ s. s.student) is ∙ theirs was, ap (in_other run) (sym it) ∙ stays))
        | inr other ↦
            let found : get_or xs here.0 y ≡ y = sym (get_or-set_other xs at here.0 x y other) ∙ here.2 in
            inl ((here.0, within, found), λ one. apart-places xs here.0 at y apart other within low (ap (λ s. s.student) found ∙ one ∙ sym (theirs y)))
      ];
}

pub moved-push : (xs : List Stance) (x : Stance) (run : Run) (e : Rejection) (next : Option ℕ) → IsAbsent xs e.student → x.student ≡ e.student → in_run run x ≡ next → in_other run x ≡ Some e.school → HasMoved xs (xs ++ x ∷ []) run e next
moved-push xs x run e next absent same moved stood = record {
  kept = λ y here other. Contains-append_left xs (x ∷ []) y here;
  there = (x, Contains-append_right xs (x ∷ []) x (contains-head x []), same);
  only = λ y here. elim (Contains-push_cases xs x y here) [
    | inl before ↦ inl (before, absent y before)
    | inr it ↦ inr (ap (λ s. s.student) (sym it) ∙ same, ap (in_run run) (sym it) ∙ moved, inr (absent, ap (in_other run) (sym it) ∙ stood))
  ];
}

pub other-alike : (run : Run) (x : Stance) (s : ℕ) → x.old ≡ Some s → x.new ≡ Some s → in_other run x ≡ Some s
other-alike Old x s old new = new
other-alike New x s old new = old

pub put-set : (xs : List Stance) (at : ℕ) (x : Stance) → AreApart xs → at < length xs → ((d : Stance) → (get_or xs at d).student ≡ x.student) → HasPut xs (set xs at x) x
put-set xs at x apart low theirs = record {
  there = (at, subst (λ n. at < n) (sym (length-set xs at x)) low, get_or-set_same xs at x x low);
  kept = λ y here other. elim (cases_eq here.0 at) [
    | inl place ↦ absurd (other (sym (ap (λ s. s.student) here.2) ∙ ap (λ k. (get_or xs k y).student) place ∙ theirs y))
    | inr apart_from ↦ (here.0, subst (λ n. here.0 < n) (sym (length-set xs at x)) here.1, get_or-set_other xs at here.0 x y apart_from ∙ here.2)
  ];
  only = λ y here.
      let within : here.0 < length xs = subst (λ n. here.0 < n) (length-set xs at x) here.1 in
      elim (cases_eq here.0 at) [
        | inl place ↦ inr (sym (sym (ap (λ k. get_or (set xs at x) k y) place ∙ get_or-set_same xs at x y low) ∙ here.2))
        | inr other ↦
            let found : get_or xs here.0 y ≡ y = sym (get_or-set_other xs at here.0 x y other) ∙ here.2 in
            inl ((here.0, within, found), λ one. apart-places xs here.0 at y apart other within low (ap (λ s. s.student) found ∙ one ∙ sym (theirs y)))
      ];
}

pub put-push : (xs : List Stance) (x : Stance) → IsAbsent xs x.student → HasPut xs (xs ++ x ∷ []) x
put-push xs x absent = record {
  there = Contains-append_right xs (x ∷ []) x (contains-head x []);
  kept = λ y here other. Contains-append_left xs (x ∷ []) y here;
  only = λ y here. elim (Contains-push_cases xs x y here) [
    | inl before ↦ inl (before, absent y before)
    | inr it ↦ inr (sym it)
  ];
}

pub same-place : (o p : Option ℕ) → is_same o p ≡ true → p ≡ o
same-place None None is = refl
same-place None (Some t) is = absurd (false≢true is)
same-place (Some s) None is = absurd (false≢true is)
same-place (Some s) (Some t) is = ap Some (sym (eqb-true s t is))

pub same-itself : (o : Option ℕ) → is_same o o ≡ true
same-itself None = refl
same-itself (Some s) = eq-eqb s s refl

alike-but : (but : Option ℕ) (x : Stance) → is_kept but x ≡ false → IsAlikeBut but x
alike-but but x out = go (is_same x.old x.new) (is_same but (Some x.student)) refl refl out
  where
    go : (a b : Bool) → is_same x.old x.new ≡ a → is_same but (Some x.student) ≡ b → (not a || b) ≡ false → IsAlikeBut but x
    go true false is other none = (same-place x.old x.new is, λ one. false≢true (sym other ∙ ap (λ o. is_same o (Some x.student)) one ∙ same-itself (Some x.student)))
    go true true is other none = absurd (false≢true (sym none))
    go false b is other none = absurd (false≢true (sym none))

-- what the test leaves of a list
only-one : (b : Bool) (y : Stance) (kept xs : List Stance) (x : Stance) → (Contains kept x → Contains xs x) → Contains (cond b (y ∷ kept) kept) x → Contains (y ∷ xs) x
only-one true y kept xs x rest here = elim (contains-cons y kept x here) [
  | inl same ↦ subst (Contains (y ∷ xs)) same (contains-head y xs)
  | inr later ↦ contains-tail y xs x (rest later)
]
only-one false y kept xs x rest here = contains-tail y xs x (rest here)

left-only : (but : Option ℕ) (xs : List Stance) (x : Stance) → Contains (filter (is_kept but) xs) x → Contains xs x
left-only but [] x here = here
left-only but (y ∷ xs) x here = only-one (is_kept but y) y (filter (is_kept but) xs) xs x (left-only but xs x) here

gone-one : (but : Option ℕ) (b : Bool) (y : Stance) (kept : List Stance) (x : Stance) → is_kept but y ≡ b → (y ≡ x) ⊎ (Contains kept x ⊎ IsAlikeBut but x) → Contains (cond b (y ∷ kept) kept) x ⊎ IsAlikeBut but x
gone-one but true y kept x is (inl same) = inl (subst (Contains (y ∷ kept)) same (contains-head y kept))
gone-one but false y kept x is (inl same) = inr (subst (IsAlikeBut but) same (alike-but but y is))
gone-one but b y kept x is (inr (inr alike)) = inr alike
gone-one but true y kept x is (inr (inl later)) = inl (contains-tail y kept x later)
gone-one but false y kept x is (inr (inl later)) = inl later

left-gone : (but : Option ℕ) (xs : List Stance) (x : Stance) → Contains xs x → Contains (filter (is_kept but) xs) x ⊎ IsAlikeBut but x
left-gone but [] x here = inl here
left-gone but (y ∷ xs) x here = gone-one but (is_kept but y) y (filter (is_kept but) xs) x refl (elim (contains-cons y xs x here) [
  | inl same ↦ inl same
  | inr later ↦ inr (left-gone but xs x later)
])

apart-kept : (but : Option ℕ) (b : Bool) (y : Stance) (kept : List Stance) (x : Stance) → is_kept but y ≡ b → (Contains kept x → is_kept but x ≡ true) → Contains (cond b (y ∷ kept) kept) x → is_kept but x ≡ true
apart-kept but true y kept x is rest here = elim (contains-cons y kept x here) [
  | inl same ↦ subst (λ z. is_kept but z ≡ true) same is
  | inr later ↦ rest later
]
apart-kept but false y kept x is rest here = rest here

left-kept : (but : Option ℕ) (xs : List Stance) (x : Stance) → Contains (filter (is_kept but) xs) x → is_kept but x ≡ true
left-kept but [] x here = absurd (omega (arith, here.1))
left-kept but (y ∷ xs) x here = apart-kept but (is_kept but y) y (filter (is_kept but) xs) x refl (left-kept but xs x) here

pub dropped : (but : Option ℕ) (xs : List Stance) → HasDropped xs (filter (is_kept but) xs) but
dropped but xs = record { only = left-only but xs; gone = left-gone but xs; apart = left-kept but xs }

apart-one : (b : Bool) (y : Stance) (kept : List Stance) → IsAbsent kept y.student → AreApart kept → AreApart (cond b (y ∷ kept) kept)
apart-one true y kept absent apart = (absent, apart)
apart-one false y kept absent apart = apart

pub apart-left : (but : Option ℕ) (xs : List Stance) → AreApart xs → AreApart (filter (is_kept but) xs)
apart-left but [] apart = apart
apart-left but (y ∷ xs) apart = apart-one (is_kept but y) y (filter (is_kept but) xs) (λ x here. apart.0 x (left-only but xs x here)) (apart-left but xs apart.1)
