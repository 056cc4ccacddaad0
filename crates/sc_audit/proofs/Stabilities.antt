-- There is one answer to whether a matching is stable.
use Rattle.std.proofs.Common.{◌≡◌, inl, inr, refl, ap, sym, subst, ◌∙◌, ℕ, slice_get, arith}
use Rattle.std.proofs.lemmas.Bool.{cases_order}
use Rattle.std.proofs.lemmas.Option.{same_Some}
use Rattle.sc_papers.specs.Market.{Market, choices_of}
use Rattle.sc_papers.specs.Matching.{Matching}
use Rattle.sc_papers.proofs.Choices.{place-of}
use Rattle.sc_audit.specs.Stability.{IsEarliestBlock, IsFirstBlock, IsStability}
use Rattle.sc_audit.specs.declared.stability.Stability.{Stability}
use Rattle.sc_audit.specs.declared.stability.Stability.TheVariants.{NotAMatching, OverSeats, Blocked, Stable}
use Rattle.sc_audit.proofs.Blocking.{preferred-listed}
use Rattle.sc_audit.proofs.Verdicts.{one-school}

-- a student's earliest block is one
one-choice : (m : Market) (a : Matching) (i s t : ℕ) → IsEarliestBlock m a i s → IsEarliestBlock m a i t → s ≡ t
one-choice m a i s t first second =
    let (j, at_j) = place-of (choices_of m i) s (preferred-listed m a i s first.blocks) in
    let (k, at_k) = place-of (choices_of m i) t (preferred-listed m a i t second.blocks) in
    elim (cases_order j k) [
      | inl same ↦ same_Some s t (sym at_j ∙ ap (slice_get (choices_of m i)) same ∙ at_k)
      | inr (inl below) ↦ absurd (second.earliest s (j, k, below, at_j, at_k) first.blocks)
      | inr (inr above) ↦ absurd (first.earliest t (k, j, above, at_k, at_j) second.blocks)
    ]

one-student : (m : Market) (a : Matching) (i s j t : ℕ) → IsFirstBlock m a i s → IsFirstBlock m a j t → i ≡ j
one-student m a i s j t first second = elim (cases_order i j) [
  | inl same ↦ same
  | inr (inl below) ↦ absurd (second.least i s below first.block.blocks)
  | inr (inr above) ↦ absurd (first.least j t above second.block.blocks)
]

one-block : (m : Market) (a : Matching) (i s j t : ℕ) → IsFirstBlock m a i s → IsFirstBlock m a j t → Blocked i s ≡ Blocked j t
one-block m a i s j t first second =
    let who : i ≡ j = one-student m a i s j t first second in
    let where_to : s ≡ t = one-choice m a j s t (subst (λ n. IsEarliestBlock m a n s) who first.block) second.block in
    λ u. Blocked (who u) (where_to u)

pub one-stability : (m : Market) (a : Matching) (v w : Stability) → IsStability m a v → IsStability m a w → v ≡ w
one-stability m a NotAMatching NotAMatching first second = refl
one-stability m a NotAMatching (OverSeats t) first second = absurd (first second.0)
one-stability m a NotAMatching (Blocked j t) first second = absurd (first second.0)
one-stability m a NotAMatching Stable first second = absurd (first second.matching)
one-stability m a (OverSeats s) NotAMatching first second = absurd (second first.0)
one-stability m a (OverSeats s) (OverSeats t) first second = ap OverSeats (one-school m a s t first.1 second.1)
one-stability m a (OverSeats s) (Blocked j t) first second = absurd (omega (arith, first.1.over, second.1 s))
one-stability m a (OverSeats s) Stable first second = absurd (omega (arith, first.1.over, second.within_seats s))
one-stability m a (Blocked i s) NotAMatching first second = absurd (second first.0)
one-stability m a (Blocked i s) (OverSeats t) first second = absurd (omega (arith, second.1.over, first.1 t))
one-stability m a (Blocked i s) (Blocked j t) first second = one-block m a i s j t first.2 second.2
one-stability m a (Blocked i s) Stable first second = absurd (second.unblocked i s first.2.block.blocks)
one-stability m a Stable NotAMatching first second = absurd (second first.matching)
one-stability m a Stable (OverSeats t) first second = absurd (omega (arith, second.1.over, first.within_seats t))
one-stability m a Stable (Blocked j t) first second = absurd (first.unblocked j t second.2.block.blocks)
one-stability m a Stable Stable first second = refl
