-- Students enter in order of entry.
use Rattle.std.proofs.Common.{◌≡◌, ap, arith, sym, subst, ◌∙◌, ℕ, ◌+◌, ◌==◌, nat_eq, ◌||◌, List, [], ◌∷◌, ◌++◌, length, take, refl, Option, Some, slice_get}
use Rattle.std.specs.List.{list_any}
use Rattle.std.proofs.lemmas.Cmp.{nat_eq_equiv}
use Rattle.sc_papers.specs.{Log.{IsSettled}, Market.{Market, students_of}, Matching.{how_many}, Restriction.{cut, joined, restricted, IsSegmented}, WellFormed.{WellFormed}, declared.rejection.Rejection.{Rejection}}
use Rattle.sc_papers.proofs.Cutting.{cut-all, cut-restricted, joined-push, segments-more}
use Rattle.sc_engine.specs.{InOrder.{IsInOrder}, RoundView.{RoundView, entered_papers, has_entered, Enters, SettlesFirst}}
use Rattle.sc_engine.proofs.Settling.{settles-more}
use Rattle.sc_engine.proofs.Tables.{length-mapped}

-- whether a number is among others, asked either way
pub any-turned : (xs : List ℕ) (i : ℕ) → list_any (nat_eq i) xs ≡ list_any (λ j. j == i) xs
any-turned [] i = refl
any-turned (x ∷ xs) i = ap (λ b. b || list_any (nat_eq i) xs) (nat_eq_equiv.symm i x) ∙ ap (λ b. (x == i) || b) (any-turned xs i)

-- the papers of the first k students, if they alone have entered
pub entered-cut : (m : Market) (ranks : List (Option ℕ)) (k : ℕ) → WellFormed m → ((i : ℕ) → has_entered m ranks i ≡ list_any (nat_eq i) (take k (students_of m))) → entered_papers m ranks ≡ cut m k
entered-cut m ranks k well entered =
    ap (restricted m) (λ t i. (entered i ∙ any-turned (take k (students_of m)) i) t) ∙ sym (cut-restricted m k well)

-- no segments are those of no students
nothing-settled : (m : Market) → IsSettled (cut (cut m 0) 0) (joined [])
unfolding cut how_many
nothing-settled m = record { valid = tt; within_seats = λ s. omega arith }

pub none-segmented : (m : Market) → IsSegmented (cut m 0) []
unfolding cut
none-segmented m = record {
  one_each = refl;
  settled = λ k low.
      let zero_is : 0 ≡ k = omega (arith, low) in
      subst (λ j. IsSettled (cut (cut m 0) j) (joined (take j []))) zero_is (nothing-settled m);
}

-- one more student has entered
pub in-order-more : (m : Market) (old new : RoundView) (k i : ℕ) → slice_get (students_of m) k ≡ Some i → SettlesFirst m old k → Enters m old new i
    → IsInOrder (cut m k) old.log → IsInOrder (cut m (k + 1)) new.log
in-order-more m old new k i here first enters (segments, segmented, are) =
    let (chain, more) = enters.extends in
    let log : joined segments ++ chain ≡ new.log = ap (λ l. l ++ chain) are ∙ sym more in
    let these = settles-more m old new k i here first enters in
    let settled = subst (λ n. IsSettled n new.log) (entered-cut m new.ranks (k + 1) these.fits.well_formed these.entered) these.settled.settled in (
      segments ++ chain ∷ [],
      segments-more m k i segments chain here segmented (subst (IsSettled (cut m (k + 1))) (sym log) settled),
      joined-push segments chain ∙ log,
    )

-- all have entered
pub in-order-all : (m : Market) (log : List Rejection) → IsInOrder (cut m (length m.students)) log → IsInOrder m log
in-order-all m log = subst (λ n. IsInOrder n log) (cut-all m (length m.students) (omega (arith, length-mapped (λ (e : ℕ × _). e.0) m.students)))
