-- A region that was settled anew: what the segments and the places are then.
use Rattle.std.proofs.Common.{◌≡◌, ◌<◌, inl, inr, ap, sym, subst, ◌∙◌, ℕ, Bool, false, List, Option, length, take}
use Rattle.std.proofs.lemmas.Bool.{cases_Bool, false≢true}
use Rattle.std.proofs.lemmas.List.{length-map}
use Rattle.sc_papers.specs.Assignment.{assigned}
use Rattle.sc_papers.specs.Log.{next_choice}
use Rattle.sc_papers.specs.Market.{Market}
use Rattle.sc_papers.specs.Restriction.{joined}
use Rattle.sc_checkpoint.specs.Chains.{logs_in, replaced, students_in, Chain}
use Rattle.sc_ledgers.specs.Anew.{EndsAnew}
use Rattle.sc_ledgers.specs.Cohort.{cut}
use Rattle.sc_ledgers.specs.Elsewhere.{cohort_of, is_aside, AreApart}
use Rattle.sc_ledgers.specs.Renewed.{anew, AreTheirs, Renewed}
use Rattle.sc_ledgers.specs.Whole.{AreWhole}
use Rattle.sc_ledgers.specs.declared.elsewhere.Stance.{Stance}
use Rattle.sc_ledgers.specs.declared.following.Rows.{Rows}
use Rattle.sc_ledgers.specs.declared.ledger.Label.{Label}
use Rattle.sc_ledgers.proofs.Owners.{logs-replaced, owners-stay, stays-before}
use Rattle.sc_ledgers.proofs.Siding.{aside-there, beside-absent}
use Rattle.sc_ledgers.specs.Ends.{AreEnds}
use Rattle.sc_repair.specs.Anew.{HavePlaces, IsSettledAnew}
use Rattle.sc_repair.specs.Replacing.{with_given, with_replaced}
use Rattle.sc_repair.proofs.Replaced.{replaced-places}

-- once the new chains have taken the place of the old ones, and whoever stands elsewhere has been given their place
pub resettled : {m : Market} {rows : Rows} {test : ℕ → Bool} {point : ℕ} {labels : ℕ → List Label} {kept : List (Option ℕ)} (chains : List Chain) (renewed : Renewed) (list : List Stance) (places given moved : List (ℕ × ℕ)) → EndsAnew m rows test (logs_in chains) point renewed labels kept list → AreApart list
    → AreTheirs (students_in chains) renewed → ((j : ℕ) → assigned given j ≡ with_given list (assigned places) j) → ((j : ℕ) → assigned moved j ≡ with_replaced list (assigned given) j) → HavePlaces m (logs_in chains) places
    → IsSettledAnew rows test point chains (replaced chains renewed.positions renewed.chains) places moved labels kept
resettled {m} {rows} {test} {point} {labels} {kept} chains renewed list places given moved ends apart theirs were are stood =
    let count : length (logs_in chains) ≡ length chains = length-map chains (λ c. c.rejections) in
    let logs : logs_in (replaced chains renewed.positions renewed.chains) ≡ anew (logs_in chains) renewed = logs-replaced chains renewed in
    let (stands, stays) = replaced-places list (assigned places) (assigned given) (assigned moved) apart were are in
    let next : ℕ → Option ℕ = next_choice (cut (cohort_of rows) (length (logs_in chains))) (joined (anew (logs_in chains) renewed)) in
    let now : (j : ℕ) → assigned moved j ≡ next j = λ j. elim (cases_Bool (is_aside list j)) [
      | inl is ↦
          let (x, here, same) = aside-there list j is in
          stands j x here same ∙ sym (ends.stances.new x here) ∙ ap next same
      | inr beside ↦
          let absent = beside-absent list j beside in
          stays j absent ∙ stood j ∙ sym (ends.stances.alike j absent)
    ] in
    record {
      whole = subst (λ l. AreWhole (cohort_of rows) l labels) (sym logs) ends.whole;
      ended = subst (λ l. AreEnds rows.papers.now l kept) (sym logs) ends.ended;
      theirs = owners-stay chains renewed ends.one_each (λ p here. subst (λ k. p < k) count (ends.within p here)) theirs;
      stays = ap (take point) logs ∙ stays-before (logs_in chains) renewed point ends.later;
      placed = λ j. now j ∙ ap (λ l. next_choice (cut (cohort_of rows) (length (logs_in chains))) (joined l) j) (sym logs) ∙ ap (λ k. next_choice (cut (cohort_of rows) k) (joined (logs_in (replaced chains renewed.positions renewed.chains))) j) count;
      others = λ j outside. stays j (beside-absent list j (outsider j outside));
    }
  where
    outsider : (j : ℕ) → test j ≡ false → is_aside list j ≡ false
    outsider j outside = elim (cases_Bool (is_aside list j)) [
      | inl is ↦
          let (x, here, same) = aside-there list j is in
          absurd (false≢true (sym outside ∙ ap test (sym same) ∙ ends.among x here))
      | inr beside ↦ beside
    ]
