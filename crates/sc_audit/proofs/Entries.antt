-- What a school that keeps the best tells of an entry, and of the seats.
use Rattle.std.proofs.Common.{◌≡◌, inl, inr, sym, ◌∙◌, ℕ, ◌<◌, ◌≤◌, Bool, true, false, ◌&&◌, List, Some, Contains, arith}
use Rattle.std.proofs.lemmas.Bool.{cases_Bool, false≢true, and_parts, and_from, and_right}
use Rattle.sc_papers.specs.Market.{Market, students_of, seats_of}
use Rattle.sc_papers.specs.Key.{is_ahead}
use Rattle.sc_papers.specs.Log.{next_choice, matching_of, rivals}
use Rattle.sc_papers.specs.Matching.{Matching, has, held}
use Rattle.sc_papers.specs.declared.key.Key.{Key}
use Rattle.sc_papers.specs.declared.rejection.Rejection.{Rejection}
use Rattle.sc_papers.proofs.Priority.{ahead-irrefl, ahead-asymm}
use Rattle.sc_papers.proofs.Rejections.{has-true, has-some, has-agree}
use Rattle.sc_papers.proofs.Students.{how_many-le, how_many-lt}
use Rattle.sc_audit.specs.AuditView.{keeps, KeepsBest}
use Rattle.sc_audit.proofs.Keeping.{keys-length}

module _ (m : Market) (next : Matching) (kept : ℕ → Bool) (s : ℕ) (keys : List Key) (best : KeepsBest m next kept s keys) where
  -- who isn't kept has as many rivals as there are seats
  pub waiting-rivals : (log : List Rejection) → ((j : ℕ) → next_choice m log j ≡ next j) → (i : ℕ) → next i ≡ Some s → kept i ≡ false → seats_of m s ≤ rivals m log i s
  waiting-rivals log same i at waits = omega (
    arith,
    best.full i at waits,
    keys-length best.exact_keys,
    how_many-le m (keeps next kept s) (λ j. has (matching_of m log) s j && is_ahead m s j i)
        (λ j held.
        let parts = and_parts (has next s j) (kept j) held in
        and_from (has (matching_of m log) s j) (is_ahead m s j i) (has-agree (matching_of m log) next s j (same j) ∙ parts.0) (best.ahead i j at waits (has-true next s j parts.0) parts.1)),
  )

  -- and who is kept has fewer
  pub kept-rivals : (log : List Rejection) → ((j : ℕ) → next_choice m log j ≡ next j) → (i : ℕ) → Contains (students_of m) i → next i ≡ Some s → kept i ≡ true → rivals m log i s < seats_of m s
  kept-rivals log same i among at held = omega (
    arith,
    best.within,
    keys-length best.exact_keys,
    how_many-lt m (λ j. has (matching_of m log) s j && is_ahead m s j i) (keeps next kept s)
        (λ j rival.
        let parts = and_parts (has (matching_of m log) s j) (is_ahead m s j i) rival in
        let stands : has next s j ≡ true = sym (has-agree (matching_of m log) next s j (same j)) ∙ parts.0 in
        and_from (has next s j) (kept j) stands (elim (cases_Bool (kept j)) [
          | inl so ↦ so
          | inr waits ↦ absurd (false≢true (sym (ahead-asymm m s j i parts.1) ∙ best.ahead j i (has-true next s j stands) waits at held))
        ]))
        i among
        (and_right (has (matching_of m log) s i) (is_ahead m s i i) (ahead-irrefl m s i))
        (and_from (has next s i) (kept i) (has-some next s i at) held),
  )

  -- where one isn't kept, more stand there than it has seats
  pub waiting-over : (i : ℕ) → Contains (students_of m) i → next i ≡ Some s → kept i ≡ false → seats_of m s < held m next s
  waiting-over i among at waits = omega (
    arith,
    best.full i at waits,
    keys-length best.exact_keys,
    how_many-lt m (keeps next kept s) (has next s) (λ j held. (and_parts (has next s j) (kept j) held).0) i among
        (and_right (has next s i) (kept i) waits) (has-some next s i at),
  )

  -- and where each is, no more
  pub kept-within : ((i : ℕ) → next i ≡ Some s → kept i ≡ true) → held m next s ≤ seats_of m s
  kept-within all = omega (
    arith,
    best.within,
    keys-length best.exact_keys,
    how_many-le m (has next s) (keeps next kept s) (λ j stands. and_from (has next s j) (kept j) stands (all j (has-true next s j stands))),
  )
