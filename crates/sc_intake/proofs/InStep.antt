-- A roster and lists whose rows are of the same students.
use Rattle.std.proofs.Common.{◌≡◌, ℕ, suc, ◌<◌, Bool, true, false, nat_eq, List, [], ◌∷◌, ◌++◌, length, map, get_or, refl, sym, ap, ◌∙◌, arith, Ok, Err, Some, None, append_assoc}
use Rattle.std.specs.Prelude.{Result, ◌||◌}
use Rattle.std.specs.List.{IsDistinct, list_any}
use Rattle.std.proofs.Math.Bool.{or-true}
use Rattle.std.proofs.lemmas.Bool.Decides.{nat_tests}
use Rattle.std.proofs.lemmas.Cmp.{nat_eq_equiv}
use Rattle.std.proofs.lemmas.Map.Keys.{IsDistinct-tail, apart_from_distinct}
use Rattle.sc_papers.specs.Market.{Market}
use Rattle.sc_intake.specs.Fault.{◌>>=◌}
use Rattle.sc_intake.specs.Lists.{list_number}
use Rattle.sc_intake.specs.Papers.{all_entered, entered_by, filled, first_not_in_roster, is_in_roster, list_of, unless_not_in_roster}
use Rattle.sc_intake.specs.Roster.{roster_number}
use Rattle.sc_intake.specs.declared.fault.IntakeFault.{IntakeFault}
use Rattle.sc_intake.specs.declared.lists.ListRow.{ListRow}
use Rattle.sc_intake.specs.declared.roster.RosterRow.{RosterRow}
use Rattle.sc_intake.proofs.PaperLemmas.{all_entered-more}
use Rattle.sc_intake.proofs.SeenLemmas.{same-number}

at-there : (earlier rest : List ListRow) (list : ListRow) → get_or (map list_number (earlier ++ list ∷ rest)) (length earlier) 0 ≡ list.student
at-there [] rest list = refl
at-there (e ∷ es) rest list = at-there es rest list

within-there : (earlier rest : List ListRow) (list : ListRow) → length earlier < length (map list_number (earlier ++ list ∷ rest))
within-there [] rest list = omega arith
within-there (e ∷ es) rest list = let more = within-there es rest list in omega arith

-- a list stands where its student's list is looked for
list-there : (earlier rest : List ListRow) (list : ListRow) → IsDistinct nat_eq (map list_number (earlier ++ list ∷ rest))
    → list_of (earlier ++ list ∷ rest) list.student ≡ Some list
list-there [] rest list differ =
    let same : nat_eq list.student list.student ≡ true = grind (arith, nat_tests) in
    rw same refl
list-there (e ∷ es) rest list differ =
    let numbers : List ℕ = map list_number (e ∷ es ++ list ∷ rest) in
    let apart : nat_eq e.student (get_or numbers (suc (length es)) 0) ≡ false =
    apart_from_distinct nat_eq numbers 0 (suc (length es)) 0 differ (omega arith) (let more = within-there es rest list in omega arith) in
    let other : nat_eq list.student e.student ≡ false = nat_eq_equiv.symm list.student e.student ∙ rw (at-there es rest list) at apart in
    rw other (list-there es rest list (IsDistinct-tail nat_eq e.student (map list_number (es ++ list ∷ rest)) differ))

-- the list that stands at a place is its student's
pub list-at : (rows earlier rest : List ListRow) (row : ListRow) → rows ≡ earlier ++ row ∷ rest → IsDistinct nat_eq (map list_number rows) → list_of rows row.student ≡ Some row
list-at rows earlier rest row parts differ = rw parts (list-there earlier rest row (rw parts at differ))

module _ (lists earlier ls : List ListRow) (rows : List RosterRow) (row : RosterRow) (list : ListRow) (differ : IsDistinct nat_eq (map list_number lists))
    (parts : lists ≡ earlier ++ list ∷ ls) (step : map roster_number (row ∷ rows) ≡ map list_number (list ∷ ls)) where
  -- the row's student has this list
  is-theirs : list_of lists row.student ≡ Some list
  is-theirs =
      let same : row.student ≡ list.student = cc step in
      rw same (list-at lists earlier ls list parts differ)

  -- one student more has entered
  pub in-step : (reading : Result Market IntakeFault) (m n : Market) → reading ≡ all_entered lists m (row ∷ rows) → entered_by m row (Some list) ≡ Ok n
      → reading ≡ all_entered lists n rows
  in-step reading m n so_far entered = so_far ∙ all_entered-more lists m n row rows (ap (entered_by m row) is-theirs ∙ entered)

  -- one list more has been passed
  pub in-step-parts : lists ≡ (earlier ++ list ∷ []) ++ ls
  in-step-parts = parts ∙ sym (append_assoc earlier (list ∷ []) ls)

-- who is in a roster, by the numbers of its rows
pub in-numbers : (roster : List RosterRow) (i : ℕ) → is_in_roster roster i ≡ list_any (nat_eq i) (map roster_number roster)
in-numbers [] i = refl
in-numbers (row ∷ rest) i = rw (in-numbers rest i) refl

-- rows whose numbers are all in the roster
pub none-missing : (roster : List RosterRow) (rows : List ListRow) → ((i : ℕ) → list_any (nat_eq i) (map list_number rows) ≡ true → is_in_roster roster i ≡ true) → first_not_in_roster roster rows ≡ None
none-missing roster [] known = refl
none-missing roster (row ∷ rows) known =
    let here : is_in_roster roster row.student ≡ true = known row.student (rw (same-number row.student) refl) in
    rw here (none-missing roster rows (λ i among. known i (ap (λ (b : Bool). nat_eq i row.student || b) among ∙ or-true (nat_eq i row.student))))

-- what the rows make is the papers after the roster has entered
pub filled-in-step : (m : Market) (roster : List RosterRow) (lists : List ListRow) → map roster_number roster ≡ map list_number lists
    → filled m roster lists ≡ all_entered lists m roster
unfolding filled
filled-in-step m roster lists step = by (all_entered lists m roster) refl
  where
    by : (reading : Result Market IntakeFault) → all_entered lists m roster ≡ reading
        → (all_entered lists m roster >>= λ n. unless_not_in_roster n (first_not_in_roster roster lists)) ≡ all_entered lists m roster
    by (Ok n) is = rw (is, none-missing roster lists (λ i there. in-numbers roster i ∙ rw step there)) refl
    by (Err fault) is = rw is refl
