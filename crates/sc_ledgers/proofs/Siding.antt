-- Who stands elsewhere tells on whom the logs of both runs agree.
use Rattle.std.proofs.Common.{◌≡◌, inl, inr, refl, ap, sym, subst, ◌∙◌, ℕ, Bool, true, false, ◌||◌, ◌==◌, List, [], ◌∷◌, Option, Some, Contains, arith}
use Rattle.std.proofs.lemmas.Bool.{cases_Bool, cases_eq, eq-eqb, eqb-true, false≢true, or_cases}
use Rattle.sc_papers.specs.Market.{Market, choices_of}
use Rattle.sc_papers.specs.WellFormed.{WellFormed}
use Rattle.sc_papers.specs.Log.{next_choice, IsValidLog}
use Rattle.sc_papers.specs.declared.rejection.Rejection.{Rejection}
use Rattle.sc_papers.proofs.Counting.{contains-cons, contains-head, contains-tail}
use Rattle.sc_ledgers.specs.Elsewhere.{is_aside, AreAmong, AreAtMarked, AreStances, HasDropped, HasMoved, HasPut, IsAbsent}
use Rattle.sc_ledgers.specs.Ledger.{AgreeBeside}
use Rattle.sc_ledgers.specs.declared.elsewhere.Run.{Run}
use Rattle.sc_ledgers.specs.declared.elsewhere.Stance.{Stance}
use Rattle.sc_ledgers.proofs.Agreeing.{alike-by_next}

pub aside-here : (list : List Stance) (x : Stance) → Contains list x → is_aside list x.student ≡ true
aside-here [] x here = absurd (omega (arith, here.1))
aside-here (y ∷ list) x here = elim (contains-cons y list x here) [
  | inl same ↦ left (y.student == x.student) (is_aside list x.student) (eq-eqb y.student x.student (ap (λ z. z.student) same))
  | inr later ↦ right (y.student == x.student) (is_aside list x.student) (aside-here list x later)
]
  where
    left : (a b : Bool) → a ≡ true → (a || b) ≡ true
    left true b is = refl
    left false b is = absurd (false≢true is)

    right : (a b : Bool) → b ≡ true → (a || b) ≡ true
    right true b is = refl
    right false b is = is

pub aside-there : (list : List Stance) (j : ℕ) → is_aside list j ≡ true → (x : Stance) × Contains list x × (x.student ≡ j)
aside-there [] j is = absurd (false≢true is)
aside-there (y ∷ list) j is = elim (or_cases (y.student == j) (is_aside list j) is) [
  | inl same ↦ (y, contains-head y list, eqb-true y.student j same)
  | inr later ↦ let found = aside-there list j later in (found.0, contains-tail y list found.0 found.1, found.2)
]

pub beside-absent : (list : List Stance) (j : ℕ) → is_aside list j ≡ false → IsAbsent list j
beside-absent list j beside x here same = false≢true (sym beside ∙ subst (λ i. is_aside list i ≡ true) same (aside-here list x here))

-- the logs agree beside those whose stances there are
pub agree-from : (m n : Market) (log other : List Rejection) (list : List Stance) (marked amended : ℕ → Bool) → WellFormed m → WellFormed n → IsValidLog m log → IsValidLog n other
    → ((j : ℕ) → amended j ≡ false → choices_of n j ≡ choices_of m j) → ((j : ℕ) → amended j ≡ true → is_aside list j ≡ true) → AreStances m n log other list → AreAtMarked marked list
    → AgreeBeside m n log other marked (is_aside list)
agree-from m n log other list marked amended well_m well_n valid_m valid_n rows held stances at = record {
  alike = λ j s beside. elim (cases_Bool (amended j)) [
    | inl is ↦ absurd (false≢true (sym beside ∙ held j is))
    | inr not ↦ alike-by_next m n well_m well_n log other j s valid_m valid_n (rows j not) (stances.alike j (beside-absent list j beside))
  ];
  old = λ j s is next. let found = aside-there list j is in at.old found.0 s found.1 (sym (stances.old found.0 found.1) ∙ ap (next_choice m log) found.2 ∙ next);
  new = λ j s is next. let found = aside-there list j is in at.new found.0 s found.1 (sym (stances.new found.0 found.1) ∙ ap (next_choice n other) found.2 ∙ next);
}

-- who stands alike may be taken out
pub stances-dropped : (m n : Market) (log other : List Rejection) (list kept : List Stance) (but : Option ℕ) → AreStances m n log other list → HasDropped list kept but → AreStances m n log other kept
stances-dropped m n log other list kept but stances dropped = record {
  old = λ x here. stances.old x (dropped.only x here);
  new = λ x here. stances.new x (dropped.only x here);
  alike = λ j absent. elim (cases_Bool (is_aside list j)) [
    | inr beside ↦ stances.alike j (beside-absent list j beside)
    | inl is ↦
        let found = aside-there list j is in
        elim (dropped.gone found.0 found.1) [
          | inl there ↦ absurd (absent found.0 there found.2)
          | inr alike ↦ ap (next_choice n other) (sym found.2) ∙ stances.new found.0 found.1 ∙ alike.0 ∙ sym (stances.old found.0 found.1) ∙ ap (next_choice m log) found.2
        ]
  ];
}

-- and the one for whom the list is kept stays
pub kept-aside : (list kept : List Stance) (i : ℕ) → HasDropped list kept (Some i) → is_aside list i ≡ true → is_aside kept i ≡ true
kept-aside list kept i dropped is =
    let found = aside-there list i is in
    elim (dropped.gone found.0 found.1) [
      | inl there ↦ subst (λ j. is_aside kept j ≡ true) found.2 (aside-here kept found.0 there)
      | inr alike ↦ absurd (alike.1 (ap Some (sym found.2)))
    ]

-- whoever has a stance keeps one where somebody moves on
pub moved-aside : (list moved : List Stance) (run : Run) (e : Rejection) (next : Option ℕ) → HasMoved list moved run e next → (j : ℕ) → is_aside list j ≡ true → is_aside moved j ≡ true
moved-aside list moved run e next moves j is =
    let found = aside-there list j is in
    elim (cases_eq found.0.student e.student) [
      | inl one ↦ subst (λ i. is_aside moved i ≡ true) (moves.there.2 ∙ sym one ∙ found.2) (aside-here moved moves.there.0 moves.there.1)
      | inr other ↦ subst (λ i. is_aside moved i ≡ true) found.2 (aside-here moved found.0 (moves.kept found.0 found.1 other))
    ]

-- whoever is in the list passes still
pub moved-among : (test : ℕ → Bool) (list moved : List Stance) (run : Run) (e : Rejection) (next : Option ℕ) → HasMoved list moved run e next → test e.student ≡ true → AreAmong test list → AreAmong test moved
moved-among test list moved run e next moves passes among x here = elim (moves.only x here) [
  | inl (before, apart) ↦ among x before
  | inr (same, is, rest) ↦ ap test same ∙ passes
]

pub put-among : (test : ℕ → Bool) (list put : List Stance) (x : Stance) → HasPut list put x → test x.student ≡ true → AreAmong test list → AreAmong test put
put-among test list put x puts passes among y here = elim (puts.only y here) [
  | inl (before, apart) ↦ among y before
  | inr it ↦ ap (λ (z : Stance). test z.student) it ∙ passes
]

pub dropped-among : (test : ℕ → Bool) (list kept : List Stance) (but : Option ℕ) → HasDropped list kept but → AreAmong test list → AreAmong test kept
dropped-among test list kept but drops among x here = among x (drops.only x here)
