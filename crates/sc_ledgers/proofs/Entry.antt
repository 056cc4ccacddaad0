-- Where students stand once one more enters.
use Rattle.std.proofs.Common.{◌≡◌, inl, inr, refl, ap, sym, ◌∙◌, ℕ, ◌+◌, true, false, List, [], ◌∷◌, ◌++◌, slice_get, Option, Some, None, All, append_assoc, append-nil}
use Rattle.std.proofs.lemmas.Bool.{cases_eq, false_from_ne_true, false≢true}
use Rattle.std.proofs.lemmas.Option.{none-some}
use Rattle.std.proofs.lemmas.List.Elements.{All-head, All-tail}
use Rattle.sc_papers.specs.Market.{Market, choices_of, students_of}
use Rattle.sc_papers.specs.WellFormed.{WellFormed}
use Rattle.sc_papers.specs.Log.{is_rejected, next_choice, IsValidLog}
use Rattle.sc_ledgers.specs.Cohort.{Cohort, cut}
use Rattle.sc_papers.specs.declared.rejection.Rejection.{Rejection}
use Rattle.sc_papers.proofs.Rejections.{next-same}
use Rattle.sc_ledgers.specs.Elsewhere.{AreStances, HasPut, IsAbsent}
use Rattle.sc_ledgers.specs.declared.elsewhere.Stance.{Stance}
use Rattle.sc_ledgers.proofs.Beginning.{not-yet}
use Rattle.sc_ledgers.proofs.Coursing.{first-choice}
use Rattle.sc_ledgers.proofs.Others.{rejected-kept}
use Rattle.sc_ledgers.proofs.Cohorts.{choices-entered, entered-now, first-students, next-with, next-without}

-- whoever else there is stands where they stood
pub next-entering : (m : Cohort) (k i : ℕ) → WellFormed m.papers → slice_get (students_of m.papers) k ≡ Some i → (log : List Rejection) (j : ℕ) → (j ≡ i → ⊥) → next_choice (cut m (k + 1)) log j ≡ next_choice (cut m k) log j
next-entering m k i well here log j apart = go (next_choice (cut m (k + 1)) log j) (next_choice (cut m k) log j) refl refl
  where
    go : (after before : Option ℕ) → next_choice (cut m (k + 1)) log j ≡ after → next_choice (cut m k) log j ≡ before → after ≡ before
    go (Some s) before is was = sym (sym was ∙ next-without m k i well here log j s apart is)
    go None None is was = refl
    go None (Some s) is was = absurd (none-some s (sym is ∙ next-with m k i well here log j s was))

-- nobody has rejected one who enters
pub unrejected : (m : Cohort) (k i : ℕ) → WellFormed m.papers → slice_get (students_of m.papers) k ≡ Some i → (log : List Rejection) → IsValidLog (cut m k) log → (s : ℕ) → is_rejected log i s ≡ false
unrejected m k i well here log valid s =
    false_from_ne_true (is_rejected log i s) (λ rejected. false≢true (sym (not-yet m k i well here) ∙ rejected-kept (first-students m k well) log valid i s rejected))

-- they stand at their first choice
pub next-first : (m : Cohort) (k i : ℕ) → WellFormed m.papers → slice_get (students_of m.papers) k ≡ Some i → m.enters i ≡ true → (log : List Rejection) → IsValidLog (cut m k) log → next_choice (cut m (k + 1)) log i ≡ slice_get (choices_of m.papers i) 0
next-first m k i well here turn log valid =
    first-choice (cut m (k + 1)) log i (unrejected m k i well here log valid)
    ∙ ap (λ xs. slice_get xs 0) (choices-entered m (k + 1) i well (entered-now m k i here turn))

-- what is known of the entry of a student in both runs
pub record EntersBoth (m n : Cohort) (k i : ℕ) (log other : List Rejection) : Type 0 where
  pub well_m : WellFormed m.papers
  pub well_n : WellFormed n.papers
  pub here_m : slice_get (students_of m.papers) k ≡ Some i
  pub here_n : slice_get (students_of n.papers) k ≡ Some i
  pub turn_m : m.enters i ≡ true
  pub turn_n : n.enters i ≡ true
  pub valid_m : IsValidLog (cut m k) log
  pub valid_n : IsValidLog (cut n k) other

-- one whose choices are the same in both papers has no stance yet, and none once they enter
pub stances-enter : (m n : Cohort) (k i : ℕ) (log other : List Rejection) (list : List Stance) → EntersBoth m n k i log other → choices_of n.papers i ≡ choices_of m.papers i → IsAbsent list i → AreStances (cut m k) (cut n k) log other list → AreStances (cut m (k + 1)) (cut n (k + 1)) log other list
stances-enter m n k i log other list both rows absent stances = record {
  old = λ x here. next-entering m k i both.well_m both.here_m log x.student (absent x here) ∙ stances.old x here;
  new = λ x here. next-entering n k i both.well_n both.here_n other x.student (absent x here) ∙ stances.new x here;
  alike = λ j gone. elim (cases_eq j i) [
    | inl it ↦
        ap (next_choice (cut n (k + 1)) other) it ∙ next-first n k i both.well_n both.here_n both.turn_n other both.valid_n ∙ ap (λ xs. slice_get xs 0) rows
        ∙ sym (next-first m k i both.well_m both.here_m both.turn_m log both.valid_m) ∙ ap (next_choice (cut m (k + 1)) log) (sym it)
    | inr apart ↦
        next-entering n k i both.well_n both.here_n other j apart ∙ stances.alike j gone ∙ sym (next-entering m k i both.well_m both.here_m log j apart)
  ];
}

-- what is known of a student's turn in both runs
pub record HaveTurn (m n : Cohort) (k i : ℕ) : Type 0 where
  pub well_m : WellFormed m.papers
  pub well_n : WellFormed n.papers
  pub here_m : slice_get (students_of m.papers) k ≡ Some i
  pub here_n : slice_get (students_of n.papers) k ≡ Some i

-- one who is amended stands where the stance tells
pub stances-enter_apart : (m n : Cohort) (k i : ℕ) (log other : List Rejection) (list put : List Stance) (x : Stance) → HaveTurn m n k i → x.student ≡ i → next_choice (cut m (k + 1)) log i ≡ x.old → next_choice (cut n (k + 1)) other i ≡ x.new → HasPut list put x → AreStances (cut m k) (cut n k) log other list → AreStances (cut m (k + 1)) (cut n (k + 1)) log other put
stances-enter_apart m n k i log other list put x both is old new puts stances = record {
  old = λ y here. elim (puts.only y here) [
    | inl (before, apart) ↦ next-entering m k i both.well_m both.here_m log y.student (λ same. apart (same ∙ sym is)) ∙ stances.old y before
    | inr it ↦ ap (λ z. next_choice (cut m (k + 1)) log z.student) it ∙ ap (next_choice (cut m (k + 1)) log) is ∙ old ∙ ap (λ z. z.old) (sym it)
  ];
  new = λ y here. elim (puts.only y here) [
    | inl (before, apart) ↦ next-entering n k i both.well_n both.here_n other y.student (λ same. apart (same ∙ sym is)) ∙ stances.new y before
    | inr it ↦ ap (λ z. next_choice (cut n (k + 1)) other z.student) it ∙ ap (next_choice (cut n (k + 1)) other) is ∙ new ∙ ap (λ z. z.new) (sym it)
  ];
  alike = λ j gone.
      let apart : j ≡ i → ⊥ = λ it. gone x puts.there (is ∙ sym it) in
      next-entering n k i both.well_n both.here_n other j apart
      ∙ stances.alike j (λ y before same. gone y (puts.kept y before (λ one. apart (sym same ∙ one ∙ is))) same)
      ∙ sym (next-entering m k i both.well_m both.here_m log j apart);
}

-- entries of others move nobody
pub next-unnamed : (m : Market) (log rest : List Rejection) (j : ℕ) → All (λ e. e.student ≡ j → ⊥) rest → next_choice m (log ++ rest) j ≡ next_choice m log j
next-unnamed m log [] j apart = ap (λ l. next_choice m l j) (append-nil log)
next-unnamed m log (e ∷ rest) j apart =
    ap (λ l. next_choice m l j) (sym (append_assoc log (e ∷ []) rest))
    ∙ next-unnamed m (log ++ e ∷ []) rest j (All-tail (λ x. x.student ≡ j → ⊥) e rest apart)
    ∙ next-same m log e j (All-head (λ x. x.student ≡ j → ⊥) e rest apart)
