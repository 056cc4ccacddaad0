-- The course of an opening: it begins, one more student enters, and all have entered.
use Rattle.std.proofs.Common.{◌≡◌, inl, inr, refl, ap, sym, subst, ◌∙◌, ℕ, zero, suc, ◌+◌, ◌==◌, nat_eq, ◌&&◌, ◌||◌, Bool, cond, List, [], ◌∷◌, ◌++◌, append-nil, filter, length, take, Option, None, Some, is_some, slice_get, true, false, arith}
use Rattle.std.specs.List.{list_any}
use Rattle.std.proofs.lemmas.Cmp.{nat_eq_equiv}
use Rattle.std.proofs.lemmas.Bool.{cases_Bool, cond-false, cond-true, eqb-true, false≢true}
use Rattle.std.proofs.lemmas.List.Elements.{filter-append}
use Rattle.std.proofs.lemmas.List.{length-map, length_push, map-append, take_all, take_more}
use Rattle.std.proofs.lemmas.Option.{get_or_from_slice_get, none-some, same_Some, slice_get_within}
use Rattle.sc_papers.specs.Assignment.{assigned}
use Rattle.sc_papers.specs.Log.{matching_of, next_choice, IsSettled}
use Rattle.sc_papers.specs.Market.{Market, students_of}
use Rattle.sc_papers.specs.Matching.{how_many, IsStudentOptimal, Matching}
use Rattle.sc_papers.specs.Progress.{placed}
use Rattle.sc_papers.specs.Restriction.{cut, is_among_first, joined, restricted, IsSegmented}
use Rattle.sc_papers.specs.WellFormed.{WellFormed}
use Rattle.sc_papers.specs.declared.records.Student.{Student}
use Rattle.sc_papers.specs.declared.rejection.Rejection.{Rejection}
use Rattle.sc_papers.proofs.Cutting.{cut-all, cut-restricted, joined-push, segments-more, segments-settled}
use Rattle.sc_papers.proofs.Entering.{is_some-false}
use Rattle.sc_papers.proofs.Optimality.{settled-optimal}
use Rattle.sc_papers.proofs.Students.{how_many-agree, how_many-none}
use Rattle.sc_papers.proofs.Subsets.{well-restricted}
use Rattle.sc_weave.proofs.Counts.{passing, restricted-cut, students-restricted}
use Rattle.sc_ledgers.proofs.Without.{restricted-twice, without-restricted}
use Rattle.sc_checkpoint.specs.Chains.{logs_in, students_in, with_chain, Chain}
use Rattle.sc_engine.specs.RoundView.{RoundView, entered_papers, has_entered, next_of, nobody, standing_but, rank_of, Continues, Enters, Fits}
use Rattle.sc_engine.proofs.{InOrder.{any-turned}, Settling.{first-more}}
use Rattle.sc_engine.proofs.Tables.{next-none}
use Rattle.sc_repair.specs.Resumption.{stays, without_leaver, GoesOn}
use Rattle.sc_repair.specs.Standing.{IsCertified}

-- a standing whose segments are segmented, and whose places are their log's matching, is certified
pub certified-of : (m : Market) (places : List (ℕ × ℕ)) (segments : List (List Rejection)) (proposals : ℕ) → WellFormed m → IsSegmented m segments
    → ((i : ℕ) → assigned places i ≡ next_choice m (joined segments) i)
    → IsCertified (record { papers = m; places = places; segments = segments; proposals = proposals })
certified-of m places segments proposals well segmented matching =
    let settled = segments-settled m segments segmented in
    let same : matching_of m (joined segments) ≡ assigned places = λ t i. (sym (matching i)) t in
    record {
      well_formed = well;
      segmented = segmented;
      settled = settled;
      matching = matching;
      optimal = subst (IsStudentOptimal m) same (settled-optimal m well (joined segments) settled);
    }

-- no segments are those of no students
nothing-settled : (m : Market) (test : ℕ → Bool) → IsSettled (cut (restricted (cut m 0) test) 0) (joined [])
unfolding cut restricted how_many
nothing-settled m test = record { valid = tt; within_seats = λ s. omega arith }

none-segmented : (m : Market) (test : ℕ → Bool) → IsSegmented (restricted (cut m 0) test) []
unfolding cut restricted
none-segmented m test = record {
  one_each = refl;
  settled = λ k low.
      let zero_is : 0 ≡ k = omega (arith, low) in
      subst (λ j. IsSettled (cut (restricted (cut m 0) test) j) (joined (take j []))) zero_is (nothing-settled m test);
}

-- the papers of those of the first k students who stay, if they alone have entered
entered-cut : (m : Market) (leaver : Option ℕ) (ranks : List (Option ℕ)) (k : ℕ) → WellFormed m → ((i : ℕ) → has_entered m ranks i ≡ (list_any (nat_eq i) (take k (students_of m)) && stays leaver i))
    → entered_papers m ranks ≡ restricted (cut m k) (stays leaver)
entered-cut m leaver ranks k well entered =
    ap (restricted m) (λ t i. (entered i ∙ ap (λ b. b && stays leaver i) (any-turned (take k (students_of m)) i)) t)
    ∙ sym (restricted-twice m (is_among_first m k) (stays leaver))
    ∙ ap (λ n. restricted n (stays leaver)) (sym (cut-restricted m k well))

-- the papers without who leaves are restricted to those who stay
filter-all : {X : Type 0} (es : List X) → filter (λ e. true) es ≡ es
filter-all [] = refl
filter-all (e ∷ es) = ap (λ fs. e ∷ fs) (filter-all es)

all-stay : (m : Market) → restricted m (λ i. true) ≡ m
unfolding restricted
all-stay m = λ t. record m { students = filter-all m.students t }

pub without-leaver : (m : Market) (leaver : Option ℕ) → WellFormed m → without_leaver m leaver ≡ restricted m (stays leaver)
without-leaver m None well = sym (all-stay m)
without-leaver m (Some i) well = without-restricted m i well

-- it begins: nobody has entered
pub goes-on-begins : (m : Market) (leaver : Option ℕ) (r : RoundView) → Fits m r → ((i : ℕ) → has_entered m r.ranks i ≡ false) → Continues m [] r → r.log ≡ [] → r.proposals ≡ 0 → GoesOn m leaver r [] [] 0
goes-on-begins m leaver r fits absent continues no_log none = record {
  fits = fits;
  entered = absent;
  continues = continues;
  theirs = refl;
  segmented = none-segmented m (stays leaver);
  log = sym no_log;
  counted =
      let nowhere : standing_but m r.ranks nobody ≡ 0 = how_many-none m (λ i. is_some (next_of m r.ranks i)) (λ i among. ap is_some (next-none m r.ranks i (is_some-false (rank_of m r.ranks i) (absent i)))) in
      omega (arith, none, nowhere, ap (λ (l : List Rejection). length l) no_log);
}

-- of one student more, who stays or does not
filter-last : (test : ℕ → Bool) (xs : List ℕ) (k i : ℕ) → slice_get xs k ≡ Some i → filter test (take (k + 1) xs) ≡ filter test (take k xs) ++ filter test (i ∷ [])
filter-last test xs k i here =
    ap (filter test) (take_more xs k i (slice_get_within xs k i here) ∙ ap (λ n. take k xs ++ n ∷ []) (get_or_from_slice_get xs k i i here)) ∙ filter-append test (take k xs) (i ∷ [])

filter-there : (test : ℕ → Bool) (xs : List ℕ) (k i : ℕ) → slice_get xs k ≡ Some i → test i ≡ true → slice_get (filter test xs) (passing test k xs) ≡ Some i
filter-there test [] k i here passes = absurd (none-some i here)
filter-there test (x ∷ xs) zero i here passes =
    let is : x ≡ i = same_Some x i here in
    ap (λ ys. slice_get ys 0) (cond-true (test x) (x ∷ filter test xs) (filter test xs) (ap test is ∙ passes)) ∙ here
filter-there test (x ∷ xs) (suc k) i here passes = go (test x) (filter-there test xs k i here passes)
  where
    go : (b : Bool) → slice_get (filter test xs) (passing test k xs) ≡ Some i → slice_get (cond b (x ∷ filter test xs) (filter test xs)) (length (cond b (x ∷ filter test (take k xs)) (filter test (take k xs)))) ≡ Some i
    go true rest = rest
    go false rest = rest

-- one more chain
pub students-push : (chains : List Chain) (i : ℕ) (chain : List Rejection) → students_in (with_chain chains i chain) ≡ students_in chains ++ i ∷ []
students-push chains i chain = map-append (λ (c : Chain). c.student) chains (record { student = i; rejections = chain } ∷ [])

pub logs-push : (chains : List Chain) (i : ℕ) (chain : List Rejection) → logs_in (with_chain chains i chain) ≡ logs_in chains ++ chain ∷ []
logs-push chains i chain = map-append (λ (c : Chain). c.rejections) chains (record { student = i; rejections = chain } ∷ [])

-- one more student enters
module _ (m : Market) (leaver : Option ℕ) (k i : ℕ) (here : slice_get (students_of m) k ≡ Some i) where
  some-more : stays leaver i ≡ true → filter (stays leaver) (take (k + 1) (students_of m)) ≡ filter (stays leaver) (take k (students_of m)) ++ i ∷ []
  some-more is = filter-last (stays leaver) (students_of m) k i here ∙ ap (λ xs. filter (stays leaver) (take k (students_of m)) ++ xs) (cond-true (stays leaver i) (i ∷ []) [] is)

  none-more : stays leaver i ≡ false → filter (stays leaver) (take (k + 1) (students_of m)) ≡ filter (stays leaver) (take k (students_of m))
  none-more is =
      filter-last (stays leaver) (students_of m) k i here
      ∙ ap (λ xs. filter (stays leaver) (take k (students_of m)) ++ xs) (cond-false (stays leaver i) (i ∷ []) [] is)
      ∙ append-nil (filter (stays leaver) (take k (students_of m)))

  segments-next : (segments : List (List Rejection)) (chain : List Rejection) → stays leaver i ≡ true → IsSegmented (restricted (cut m k) (stays leaver)) segments
      → IsSettled (restricted (cut m (k + 1)) (stays leaver)) (joined segments ++ chain) → IsSegmented (restricted (cut m (k + 1)) (stays leaver)) (segments ++ chain ∷ [])
  segments-next segments chain is before settled =
      let n : Market = restricted m (stays leaver) in
      let j : ℕ = passing (stays leaver) k (students_of m) in
      let next : restricted (cut m (k + 1)) (stays leaver) ≡ cut n (j + 1) = restricted-cut m (stays leaver) (k + 1) ∙ ap (cut n) (ap length (some-more is) ∙ length_push (filter (stays leaver) (take k (students_of m))) i) in
      subst (λ p. IsSegmented p (segments ++ chain ∷ [])) (sym next)
      (segments-more n j i segments chain (ap (λ xs. slice_get xs j) (students-restricted m (stays leaver)) ∙ filter-there (stays leaver) (students_of m) k i here is)
      (subst (λ p. IsSegmented p segments) (restricted-cut m (stays leaver) k) before) (subst (λ p. IsSettled p (joined segments ++ chain)) next settled))

  -- who stays
  goes-on-more : (chain : List Rejection) (r r' : RoundView) (students : List ℕ) (segments : List (List Rejection)) → stays leaver i ≡ true → GoesOn m leaver r students segments k → Enters m r r' i → r'.log ≡ r.log ++ chain
      → GoesOn m leaver r' (students ++ i ∷ []) (segments ++ chain ∷ []) (k + 1)
  goes-on-more chain r r' students segments is on enters more =
      let entered : (j : ℕ) → has_entered m r'.ranks j ≡ (list_any (nat_eq j) (take (k + 1) (students_of m)) && stays leaver j) =
      λ j. enters.entered j ∙ ap (λ b. b || j == i) (on.entered j) ∙ too (list_any (nat_eq j) (take k (students_of m))) j ∙ ap (λ b. b && stays leaver j) (sym (first-more (students_of m) k i here j)) in
      let continues = enters.continues [] on.continues in
      let log : joined segments ++ chain ≡ r'.log = ap (λ l. l ++ chain) on.log ∙ sym more in
      record {
        fits = enters.fits;
        entered = entered;
        continues = continues;
        theirs = ap (λ xs. xs ++ i ∷ []) on.theirs ∙ sym (some-more is);
        segmented = segments-next segments chain is on.segmented
            (subst (IsSettled (restricted (cut m (k + 1)) (stays leaver))) (sym log) (subst (λ n. IsSettled n r'.log) (entered-cut m leaver r'.ranks (k + 1) enters.fits.well_formed entered) continues.settled));
        log = joined-push segments chain ∙ log;
        counted = omega (arith, on.counted, enters.counted);
      }
    where
      too : (a : Bool) (j : ℕ) → ((a && stays leaver j) || (j == i)) ≡ ((a || (j == i)) && stays leaver j)
      too a j = elim (cases_Bool (j == i)) [
        | inl same ↦ cases a (stays leaver j) (j == i) (λ own. ap (stays leaver) (eqb-true j i same) ∙ is)
        | inr other ↦ cases a (stays leaver j) (j == i) (λ own. absurd (false≢true (sym other ∙ own)))
      ]
        where
          cases : (a s e : Bool) → (e ≡ true → s ≡ true) → ((a && s) || e) ≡ ((a || e) && s)
          cases true true true own = refl
          cases true true false own = refl
          cases true false true own = sym (own refl)
          cases true false false own = refl
          cases false true true own = refl
          cases false true false own = refl
          cases false false true own = sym (own refl)
          cases false false false own = refl

  -- who leaves
  pub goes-on-without : (r : RoundView) (students : List ℕ) (segments : List (List Rejection)) → stays leaver i ≡ false → GoesOn m leaver r students segments k → GoesOn m leaver r students segments (k + 1)
  goes-on-without r students segments is on = record {
    fits = on.fits;
    entered = λ j. on.entered j ∙ too (list_any (nat_eq j) (take k (students_of m))) j ∙ ap (λ b. b && stays leaver j) (sym (first-more (students_of m) k i here j));
    continues = on.continues;
    theirs = on.theirs ∙ sym (none-more is);
    segmented = subst (λ n. IsSegmented n segments) (restricted-cut m (stays leaver) k ∙ ap (cut (restricted m (stays leaver))) (ap length (sym (none-more is))) ∙ sym (restricted-cut m (stays leaver) (k + 1))) on.segmented;
    log = on.log;
    counted = on.counted;
  }
    where
      cases : (a s e : Bool) → (e ≡ true → s ≡ false) → (a && s) ≡ ((a || e) && s)
      cases true s e own = refl
      cases false true true own = sym (own refl)
      cases false true false own = refl
      cases false false true own = refl
      cases false false false own = refl

      too : (a : Bool) (j : ℕ) → (a && stays leaver j) ≡ ((a || (j == i)) && stays leaver j)
      too a j = cases a (stays leaver j) (j == i) (λ own. ap (stays leaver) (eqb-true j i own) ∙ is)

  -- and their chain is put at the end
  pub goes-on-next : (r r' : RoundView) (chains new : List Chain) → stays leaver i ≡ true → GoesOn m leaver r (students_in chains) (logs_in chains) k → Enters m r r' i
      → (chain : List Rejection) × (r'.log ≡ r.log ++ chain) × (new ≡ with_chain chains i chain)
      → GoesOn m leaver r' (students_in new) (logs_in new) (k + 1)
  goes-on-next r r' chains new is on enters (chain, more, pushed) =
      subst (λ cs. GoesOn m leaver r' (students_in cs) (logs_in cs) (k + 1)) (sym pushed)
      (subst (λ xs. GoesOn m leaver r' xs (logs_in (with_chain chains i chain)) (k + 1)) (sym (students-push chains i chain))
      (subst (λ ls. GoesOn m leaver r' (students_in chains ++ i ∷ []) ls (k + 1)) (sym (logs-push chains i chain))
      (goes-on-more chain r r' (students_in chains) (logs_in chains) is on enters more)))

-- all have entered
pub length-students : (m : Market) → length (students_of m) ≡ length m.students
length-students m = length-map m.students (λ (e : ℕ × Student). e.0)

module _ (m : Market) (leaver : Option ℕ) (r : RoundView) (students : List ℕ) (segments : List (List Rejection)) (on : GoesOn m leaver r students segments (length m.students)) where
  whole : restricted (cut m (length m.students)) (stays leaver) ≡ without_leaver m leaver
  whole = ap (λ n. restricted n (stays leaver)) (cut-all m (length m.students) (omega (arith, length-students m))) ∙ sym (without-leaver m leaver on.fits.well_formed)

  pub well-all : WellFormed (without_leaver m leaver)
  well-all = subst WellFormed (sym (without-leaver m leaver on.fits.well_formed)) (well-restricted m (stays leaver) on.fits.well_formed)

  pub segments-all : IsSegmented (without_leaver m leaver) segments
  segments-all = subst (λ n. IsSegmented n segments) whole on.segmented

  pub students-all : students ≡ students_of (without_leaver m leaver)
  students-all =
      on.theirs
      ∙ ap (filter (stays leaver)) (take_all (length m.students) (students_of m) (omega (arith, length-students m)))
      ∙ sym (students-restricted m (stays leaver))
      ∙ ap students_of (sym (without-leaver m leaver on.fits.well_formed))

  pub next-all : (i : ℕ) → next_of m r.ranks i ≡ next_choice (without_leaver m leaver) (joined segments) i
  next-all i =
      sym (on.continues.next i)
      ∙ ap (λ n. next_choice n r.log i) (entered-cut m leaver r.ranks (length m.students) on.fits.well_formed on.entered ∙ whole)
      ∙ ap (λ l. next_choice (without_leaver m leaver) l i) (sym on.log)

  pub proposals-all : (given : Matching) → ((i : ℕ) → given i ≡ next_of m r.ranks i) → r.proposals ≡ length (joined segments) + placed m given
  proposals-all given is =
      omega (
        arith,
        on.counted,
        how_many-agree m (λ i. is_some (next_of m r.ranks i)) (λ i. is_some (given i)) (λ i. ap is_some (sym (is i))),
        ap (λ (l : List Rejection). length l) on.log,
      )
