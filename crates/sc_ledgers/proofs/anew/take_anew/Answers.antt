use Rattle.std.proofs.Common.{◌≡◌, Option, inl, inr, refl, sym, subst, ℕ, List, [], Bool, Contains, arith, IfSome, get_or, true, false}
use Rattle.sc_papers.specs.Market.{Market, schools_of}
use Rattle.sc_checkpoint.specs.Chains.{students_in}
use Rattle.sc_ledgers.specs.Anew.{is_reseated, StartsAnew}
use Rattle.sc_ledgers.specs.Cohort.{cohort}
use Rattle.sc_ledgers.specs.Course.{labels_of}
use Rattle.sc_ledgers.specs.Opening.{everybody}
use Rattle.sc_ledgers.specs.Renewed.{AreTheirs, IsUnderWay, Renewed}
use Rattle.sc_ledgers.specs.Sweep.{first_stances}
use Rattle.sc_ledgers.specs.Marks.{FlagsPass, Marking}
use Rattle.sc_ledgers.specs.declared.following.Rows.{Rows}
use Rattle.sc_papers.specs.declared.rejection.Rejection.{Rejection}
use Rattle.sc_ledgers.specs.declared.ledger.Label.{Label}
use Rattle.sc_ledgers.specs.declared.elsewhere.Stance.{Stance}
use Rattle.sc_ledgers.specs.declared.opened.Ledgers.{Ledgers}
use Rattle.sc_ledgers.proofs.Restarting.{begins, ends}
use Rattle.sc_ledgers.proofs.Along.{underway-over}
use Rattle.sc_ledgers.proofs.anew.take_anew.Goals as goal

nothing : (p : ℕ) → Contains [] p → ⊥
nothing p (k, low, is) = omega (arith, low)

-- before the first turn
under-way : {m : Market} {rows : Rows} {test inner : ℕ → Bool} {old : List (List Rejection)} {point : ℕ} {labels : ℕ → List Label} {positions : List ℕ} {place : Option ℕ} (ledgers : Ledgers) (renewal : Renewed) (list : List Stance) (marks : Marking)
    → StartsAnew m rows test inner old point labels (labels_of rows.papers.now ledgers.schools.items) ledgers.ends positions place → renewal ≡ record { positions = []; chains = [] } → list ≡ first_stances rows.amended
    → marks.always ≡ place → IfSome place (λ p. get_or marks.flags p false ≡ true) → ((pass : ℕ → Bool) → IfSome place (λ p. pass p ≡ true) → FlagsPass pass marks.flags)
    → IsUnderWay (cohort m everybody) rows (is_reseated rows.papers.now place) test inner old renewal ledgers list marks positions
under-way {m} {rows} {test} {inner} {old} {point} {labels} {positions} {place} ledgers renewal list marks start none first always marked passes =
    let n = rows.papers.now in
    subst (λ (r : Renewed). IsUnderWay (cohort m everybody) rows (is_reseated n place) test inner old r ledgers list marks positions) (sym none)
    (subst (λ (l : List Stance). IsUnderWay (cohort m everybody) rows (is_reseated n place) test inner old (record { positions = []; chains = [] }) ledgers l marks positions) (sym first)
    (begins ledgers marks start always marked (passes (λ p. inner (get_or (schools_of n) p 0)) start.inside)))

pub sweep-requires-clause-start : goal.sweep-requires-clause-start
sweep-requires-clause-start c =
    let (m, test, inner, point, labels, start) = c.requires.start in
    (cohort m everybody, is_reseated c.args.rows.now.papers.now c.args.place, test, inner, under-way c.args.ledgers.now c.in_ok-renewal.renewal c.in_ok-stances.stances c.in_ok-marks.marks start c.in_ok-renewal.ensures c.in_ok-stances.ensures c.in_ok-marks.ensures.always c.in_ok-marks.ensures.marked c.in_ok-marks.ensures.passes)

pub returns-clause-anew : goal.returns-clause-anew
returns-clause-anew c m test inner point labels start =
    let over = underway-over (c.in_ok-sweep.ensures.swept (cohort m everybody) (is_reseated c.args.rows.now.papers.now c.args.place) test inner
    (under-way c.args.ledgers.now c.in_ok-renewal.renewal c.in_ok-stances.stances c.in_ok-marks.marks start c.in_ok-renewal.ensures c.in_ok-stances.ensures c.in_ok-marks.ensures.always c.in_ok-marks.ensures.marked c.in_ok-marks.ensures.passes)) in
    ends start over (λ p here. elim (c.in_ok-sweep.ensures.theirs p here) [
      | inl before ↦ absurd (nothing p (subst (λ (r : Renewed). Contains r.positions p) c.in_ok-renewal.ensures before))
      | inr now ↦ now
    ])

pub returns-clause-owners : goal.returns-clause-owners
returns-clause-owners c =
    c.in_ok-sweep.ensures.owners (subst (λ (r : Renewed). AreTheirs (students_in c.args.segments.now) r) (sym c.in_ok-renewal.ensures) refl)
