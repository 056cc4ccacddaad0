-- The least school at which a student stands without being kept.
use Rattle.std.proofs.Common.{◌≡◌, inl, inr, ap, ◌∙◌, ℕ, ◌<◌, ◌≤◌, false, Option, Some, None, IfSome, length, arith}
use Rattle.std.specs.Prelude.{IfNone}
use Rattle.std.specs.Option.{option_map}
use Rattle.std.proofs.lemmas.Bool.{cases_Bool}
use Rattle.std.proofs.lemmas.Map.Entries.{length-keys_of}
use Rattle.std.proofs.lemmas.Option.{none-some, same_Some, slice_get-get_or}
use Rattle.sc_papers.specs.Market.{Market, students_of, seats_of}
use Rattle.sc_papers.specs.Matching.{held, WithinSeats}
use Rattle.sc_audit.specs.AuditView.{AuditView, next_of, keys_at, KeepsBestAtEach}
use Rattle.sc_audit.specs.Least.{LeastOf}
use Rattle.sc_audit.specs.Over.{IsFirstOver}
use Rattle.sc_audit.specs.declared.waiting.Waiting.{Waiting}
use Rattle.sc_papers.proofs.Positions.{among-student, position-at, student-position}
use Rattle.sc_audit.proofs.Entries.{waiting-over, kept-within}
use Rattle.sc_audit.proofs.Pasts.{waiting_school, Stands, stands-from, waits-next, waits-among, waits-aside, waits-made, waits-school, aside-past}
use Rattle.sc_audit.proofs.Steps.{stander-next}

-- who stands at a school without being kept waits there
waits-there : (m : Market) (l : AuditView) (keeps_best : KeepsBestAtEach m l) (i s : ℕ) → next_of m l.stands i ≡ Some s → keeps_best.is_kept i ≡ false → waiting_school m l i ≡ Some s
waits-there m l keeps_best i s next aside =
    let there : Stands m l i s = stands-from m l i s next in
    ap (option_map (λ (waiting : Waiting). waiting.school)) (waits-made m l i s there.rank (record { is = there.is; at = there.at; past = aside-past m l keeps_best i s next aside }))

module _ (m : Market) (l : AuditView) (k : ℕ) (all : length m.students ≤ k) (keeps_best : KeepsBestAtEach m l) where
  -- a school below the least is within its seats
  below-within : (least : Option ℕ) → LeastOf (students_of m) (waiting_school m l) k least → (t : ℕ) → ((n : ℕ) → least ≡ Some n → t < n) → held m (next_of m l.stands) t ≤ seats_of m t
  below-within least found t under =
      kept-within m (next_of m l.stands) keeps_best.is_kept t (keys_at m l.kept t) (keeps_best.each t)
      (λ i next. elim (cases_Bool (keeps_best.is_kept i)) [
        | inl held ↦ held
        | inr aside ↦
            let (at, met) = student-position m i (among-student m i (stander-next m l i t next)) in
            let low : at < k = omega (arith, all, (position-at (students_of m) i at met).0, length-keys_of m.students) in
            let here = position-at (students_of m) i at met in
            let (n, is, le) = found.below at i t low (slice_get-get_or (students_of m) at i here.0 ∙ ap Some here.1) (waits-there m l keeps_best i t next aside) in
            absurd (omega (arith, le, under n is))
      ])

  pub least-over : (least : Option ℕ) → LeastOf (students_of m) (waiting_school m l) k least → IfSome least (IsFirstOver m (next_of m l.stands))
  least-over None found = tt
  least-over (Some s) found =
      let waits = waits-school m l found.reached.0 s found.reached.1 in
      record {
        over = waiting-over m (next_of m l.stands) keeps_best.is_kept s (keys_at m l.kept s) (keeps_best.each s) found.reached.0 (waits-among waits.1) (waits-next waits.1) (waits-aside waits.1 keeps_best);
        least = λ t low. below-within (Some s) found t (λ n is. omega (arith, low, same_Some s n is));
      }

  pub least-within : (least : Option ℕ) → LeastOf (students_of m) (waiting_school m l) k least → IfNone least (WithinSeats m (next_of m l.stands))
  least-within None found = λ t. below-within None found t (λ n none. absurd (none-some n none))
  least-within (Some s) found = tt
