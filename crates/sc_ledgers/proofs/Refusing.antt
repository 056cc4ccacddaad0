-- The refusals with which a turn begins in the old run come of the new run too.
use Rattle.std.proofs.Common.{◌≡◌, inl, inr, refl, ap, sym, subst, ◌∙◌, ℕ, ◌<◌, ◌+◌, Bool, true, false, ◌||◌, List, [], ◌∷◌, ◌++◌, length, slice_get, Some, All, Contains, arith}
use Rattle.std.proofs.lemmas.Bool.{false≢true}
use Rattle.std.proofs.lemmas.List.Elements.{All-head, All-tail}
use Rattle.sc_papers.specs.Market.{Market, seats_of, students_of}
use Rattle.sc_papers.specs.WellFormed.{WellFormed}
use Rattle.sc_papers.specs.Key.{key_of}
use Rattle.sc_papers.specs.Log.{IsValidAfter, IsValidEntry}
use Rattle.sc_papers.specs.Chain.{InChain, PutsOut}
use Rattle.sc_papers.specs.Restriction.{joined}
use Rattle.sc_papers.specs.declared.rejection.Rejection.{Rejection}
use Rattle.sc_papers.proofs.Chain.{chain-puts-out, put-out-valid}
use Rattle.sc_papers.proofs.Rejections.{is_of, next-same, rejected-push}
use Rattle.sc_ledgers.specs.Cohort.{Cohort, cut, IsRunTo}
use Rattle.sc_ledgers.specs.Ledger.{AgreeBeside, AlikeBeside, AreLabelsBefore, AreMadeToo, AreOwn, IsAsking, IsRefusedToo}
use Rattle.sc_ledgers.specs.declared.ledger.Label.{Label}
use Rattle.sc_ledgers.proofs.Answering.{refused-at}
use Rattle.sc_ledgers.proofs.Asking.{refused-step}
use Rattle.sc_ledgers.proofs.Beginning.{asks-from}
use Rattle.sc_ledgers.proofs.Beside.{entry-beside, next-beside}
use Rattle.sc_ledgers.proofs.Cohorts.{well-cut}
use Rattle.sc_ledgers.proofs.ValidSteps.{valid-puts_out}

-- what is known at the turn of a student who is not aside, and of whom there is no label of a turn before
pub record Refuses (m : Market) (n : Cohort) (k i : ℕ) (labels : ℕ → List Label) (marked aside : ℕ → Bool) : Type 0 where
  pub well : WellFormed n.papers
  pub papers : AlikeBeside m (cut n (k + 1)) marked aside
  pub own : AreOwn n.papers labels
  pub none : (s : ℕ) (label : Label) → Contains (labels s) label → label.turn < k → label.key.student ≡ i → ⊥
  pub beside : aside i ≡ false

-- and in the course of their chain, as long as it is in their hand, by the labels of the turns before
pub record IsRefusing (m : Market) (n : Cohort) (k i : ℕ) (labels : ℕ → List Label) (marked aside : ℕ → Bool) (log other : List Rejection) : Type 0 where
  pub logs : AgreeBeside m (cut n (k + 1)) log other marked aside
  pub chain : InChain (cut n (k + 1)) other i
  pub asking : (t : ℕ) → t + 1 ≡ k → IsAsking (cut n (k + 1)) other i t labels

-- the logs agree after an entry of one who is not aside
agree-beside : {m n : Market} {log other : List Rejection} {marked aside : ℕ → Bool} → AgreeBeside m n log other marked aside → (e : Rejection) → aside e.student ≡ false → AgreeBeside m n (log ++ e ∷ []) (other ++ e ∷ []) marked aside
agree-beside {m} {n} {log} {other} {marked} {aside} logs e beside =
    let apart : (j : ℕ) → aside j ≡ true → e.student ≡ j → ⊥ = λ j is same. false≢true (sym beside ∙ ap aside same ∙ is) in
    record {
      alike = λ j s others. rejected-push other e j s ∙ ap (λ b. b || is_of e j s) (logs.alike j s others) ∙ sym (rejected-push log e j s);
      old = λ j s is next. logs.old j s is (sym (next-same m log e j (apart j is)) ∙ next);
      new = λ j s is next. logs.new j s is (sym (next-same n other e j (apart j is)) ∙ next);
    }

module _ {m : Market} {n : Cohort} {k : ℕ} {labels : ℕ → List Label} {marked aside : ℕ → Bool} {log other : List Rejection} where
  -- the school puts out whom it refuses
  refuses-too : (e : Rejection) → Refuses m n k e.student labels marked aside → IsRefusing m n k e.student labels marked aside log other → IsValidEntry m log e → IsRefusedToo n.papers marked labels k e.student e → PutsOut (cut n (k + 1)) other e.student e.school e.student
  refuses-too e given at valid (same, inl unmarked) =
      valid-puts_out (cut n (k + 1)) (well-cut n (k + 1) given.well) other e.student e at.chain (entry-beside given.papers at.logs e unmarked valid)
  refuses-too e given at valid (same, inr (t, before, sorted, answer)) =
      refused-at n (k + 1) t other e.student e.school labels given.well (well-cut n (k + 1) given.well) (at.asking t before) given.own sorted
      (λ label here low. given.none e.school label here (omega (arith, low, before)))
      (seats_of n.papers e.school) (key_of n.papers e.student e.school) (next-beside given.papers at.logs e.student given.beside ∙ valid.next) refl refl answer

  -- and they go on
  goes-on : (e : Rejection) → Refuses m n k e.student labels marked aside → IsRefusing m n k e.student labels marked aside log other → PutsOut (cut n (k + 1)) other e.student e.school e.student → IsRefusing m n k e.student labels marked aside (log ++ e ∷ []) (other ++ e ∷ [])
  goes-on e given at puts =
      let well = well-cut n (k + 1) given.well in
      record {
        logs = agree-beside at.logs e given.beside;
        chain = chain-puts-out (cut n (k + 1)) well other e.student e at.chain puts;
        asking = λ t before. refused-step (cut n (k + 1)) well other t labels e (at.asking t before) puts;
      }

-- the refusals at once of the student of a turn come of the new run too
pub front-made : {m : Market} {n : Cohort} {k i : ℕ} {labels : ℕ → List Label} {marked aside : ℕ → Bool} → Refuses m n k i labels marked aside → (front log other : List Rejection) → IsRefusing m n k i labels marked aside log other → IsValidAfter m log front → All (IsRefusedToo n.papers marked labels k i) front → AreMadeToo (cut n (k + 1)) marked aside other front
front-made given [] log other at valid refused = tt
front-made {m} {n} {k} {i} {labels} {marked} {aside} given (e ∷ front) log other at valid refused =
    let first : IsRefusedToo n.papers marked labels k i e = All-head (IsRefusedToo n.papers marked labels k i) e front refused in
    let own : i ≡ e.student = sym first.0 in
    let given_e = subst (λ j. Refuses m n k j labels marked aside) own given in
    let at_e = subst (λ j. IsRefusing m n k j labels marked aside log other) own at in
    let puts = refuses-too e given_e at_e valid.0 (subst (λ j. IsRefusedToo n.papers marked labels k j e) own first) in (
      inr (given_e.beside, put-out-valid (cut n (k + 1)) (well-cut n (k + 1) given.well) other e.student e puts),
      front-made given front (log ++ e ∷ []) (other ++ e ∷ [])
          (subst (λ j. IsRefusing m n k j labels marked aside (log ++ e ∷ []) (other ++ e ∷ [])) first.0 (goes-on e given_e at_e puts))
          valid.1 (All-tail (IsRefusedToo n.papers marked labels k i) e front refused),
    )

-- before the first of them, by the labels of the turns before
pub before-asking : (n : Cohort) (new : List (List Rejection)) (k i : ℕ) (labels : ℕ → List Label) → WellFormed n.papers → slice_get (students_of n.papers) k ≡ Some i → n.enters i ≡ true → IsRunTo n k new → length new ≡ k → AreLabelsBefore n new k labels → (t : ℕ) → t + 1 ≡ k → IsAsking (cut n (k + 1)) (joined new) i t labels
before-asking n new k i labels well here turn newer as_many before t last =
    asks-from n new k i t labels well here turn newer as_many before (omega (arith, last)) (λ s label at low. omega (arith, low, last))
