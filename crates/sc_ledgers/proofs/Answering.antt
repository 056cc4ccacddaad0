-- What a school's answer means to a chain.
use Rattle.std.proofs.Common.{◌≡◌, inl, inr, refl, ap, sym, subst, ◌∙◌, ℕ, ◌≤◌, ◌<◌, ◌+◌, List, ◌∷◌, ◌&&◌, ◌==◌, not, length, Some, Contains, arith}
use Rattle.std.proofs.lemmas.Bool.{false≢true}
use Rattle.std.proofs.lemmas.List.Elements.{Contains-append_right}
use Rattle.sc_papers.proofs.Counting.{contains-head}
use Rattle.sc_papers.specs.Market.{Market, seats_of}
use Rattle.sc_papers.specs.WellFormed.{WellFormed}
use Rattle.sc_papers.specs.Key.{is_before, key_of}
use Rattle.sc_papers.specs.declared.key.Key.{Key}
use Rattle.sc_papers.specs.Log.{matching_of, next_choice, IsValidLog}
use Rattle.sc_papers.specs.Matching.{has}
use Rattle.sc_papers.specs.Chain.{InChain, PutsOut as OutOf}
use Rattle.sc_ledgers.specs.Cohort.{Cohort, cut, has_entered}
use Rattle.sc_papers.proofs.Subsets.{next-passes}
use Rattle.sc_papers.specs.declared.rejection.Rejection.{Rejection}
use Rattle.sc_papers.proofs.Priority.{before-total}
use Rattle.sc_papers.proofs.Students.{how_many-some}
use Rattle.sc_papers.proofs.Validity.{next-among}
use Rattle.sc_ledgers.specs.Known.{known, HoldsLast, IsAnswer, IsByKey}
use Rattle.sc_ledgers.specs.Ledger.{AreOwn, HasAsked, InTurn, IsAsking, MeansStep}
use Rattle.sc_ledgers.specs.declared.ledger.Answer.{Answer}
use Rattle.sc_ledgers.specs.declared.ledger.Answer.TheVariants.{PutsOut, Refused, Seated}
use Rattle.sc_ledgers.specs.declared.ledger.Label.{Label}
use Rattle.sc_ledgers.proofs.Asking.{asks-given}
use Rattle.sc_ledgers.proofs.Beginning.{key-within}
use Rattle.sc_ledgers.proofs.Held.{has_room, puts_out_the_hand, puts_out_the_last, Filled, Given}
use Rattle.sc_ledgers.proofs.Others.{is_other, rejected-kept}
use Rattle.sc_ledgers.proofs.Staying.{next-untried}
use Rattle.sc_ledgers.proofs.Cohorts.{cut-entered, first-students}

-- a student who has asked a school is among the first ones, and has the same keys there
key-asked : (n : Cohort) (k : ℕ) (log : List Rejection) (j s t : ℕ) → WellFormed n.papers → IsValidLog (cut n k) log → HasAsked (cut n k) log j s → key_of (cut n k) j t ≡ key_of n.papers j t
key-asked n k log j s t well valid asked =
    ap (λ p. key_of p j t) (cut-entered n k) ∙ key-within n.papers (has_entered n k) j t (elim asked [
      | inl next ↦ next-passes (first-students n k well) log j s next
      | inr rejected ↦ rejected-kept (first-students n k well) log valid j s rejected
    ])

seats-cut : (n : Cohort) (k s : ℕ) → WellFormed n.papers → seats_of (cut n k) s ≡ seats_of n.papers s
seats-cut n k s well = (first-students n k well).seats s

pub student-of-key : (m : Market) (j s : ℕ) → (key_of m j s).student ≡ j
unfolding key_of
student-of-key m j s = refl

filled : (m : Market) (log : List Rejection) (hand k s seats : ℕ) (labels : List Label) (last : Key) → Given m log hand s (known k labels) → seats ≡ seats_of m s → (holds : HoldsLast k labels seats last) → Filled m log hand s holds.front last holds.rest
filled m log hand k s seats labels last given same holds = record {
  given = subst (Given m log hand s) holds.parts given;
  seats = sym same ∙ holds.filled;
}

-- the last of the keys is another student's
other-last : (m : Market) (log : List Rejection) (hand k s seats : ℕ) (labels : List Label) (last : Key) → Given m log hand s (known k labels) → HoldsLast k labels seats last → last.student ≡ hand → ⊥
other-last m log hand k s seats labels last given holds same =
    given.tells.apart last (subst (λ keys. Contains keys last) (sym holds.parts) (Contains-append_right holds.front (last ∷ holds.rest) last (contains-head last holds.rest))) same

-- a school without seats holds nobody, so whoever stands there is the one in hand
alone : (m : Market) (log : List Rejection) (hand s : ℕ) → InChain m log hand → seats_of m s ≡ 0 → next_choice m log hand ≡ Some s → OutOf m log hand s hand
alone m log hand s chain none next = record {
  proposes = next;
  full = omega (arith, none);
  there = next;
  last = λ j there other. absurd (omega (
    arith,
    none,
    chain.others_within s,
    how_many-some m (λ i. has (matching_of m log) s i && not (i == hand)) j (next-among m log j s there) (is_other m log hand s j there other),
  ));
}

-- what the labels up to a turn tell of the school that the one in hand asks, who has none of them there
module _ (n : Cohort) (u t : ℕ) (log : List Rejection) (hand s : ℕ) (labels : ℕ → List Label) (whole : WellFormed n.papers) (well : WellFormed (cut n u)) (asking : IsAsking (cut n u) log hand t labels) (own : AreOwn n.papers labels) (sorted : IsByKey (labels s)) (apart : (label : Label) → Contains (labels s) label → label.turn ≤ t → label.key.student ≡ hand → ⊥) where
  pub knows-at : Given (cut n u) log hand s (known t (labels s))
  knows-at = asks-given (cut n u) well log hand t s labels asking sorted
      (λ label at low. own s label at ∙ sym (key-asked n u log label.key.student s s whole asking.chain.valid (asking.asked s label at low)))
      apart

  -- where it refuses them, it puts them out
  pub refused-at : (seats : ℕ) (key : Key) → next_choice (cut n u) log hand ≡ Some s → seats ≡ seats_of n.papers s → key ≡ key_of n.papers hand s → IsAnswer t (labels s) seats key Refused → OutOf (cut n u) log hand s hand
  refused-at seats key next same is (inl none) = alone (cut n u) log hand s asking.chain (seats-cut n u s whole ∙ sym same ∙ none) next
  refused-at seats key next same is (inr (last, holds, behind)) =
      let m = cut n u in
      let mine : key ≡ key_of m hand s = is ∙ sym (key-asked n u log hand s s whole asking.chain.valid (inl next)) in
      puts_out_the_hand m log hand s holds.front last holds.rest (filled m log hand t s seats (labels s) last knows-at (same ∙ sym (seats-cut n u s whole)) holds) next
      (before-total (key_of m hand s) last (λ one. other-last m log hand t s seats (labels s) last knows-at holds (sym one ∙ student-of-key m hand s)) (ap (λ x. is_before x last) (sym mine) ∙ behind))

-- in the course of a turn the one in hand has no label of now or before where they ask
none-yet : (n : Cohort) (new : List (List Rejection)) (k : ℕ) (log : List Rejection) (hand s : ℕ) (labels now : ℕ → List Label) → InTurn n new k log hand labels now → next_choice (cut n (k + 1)) log hand ≡ Some s → (label : Label) → Contains (now s) label → label.turn ≤ k → label.key.student ≡ hand → ⊥
none-yet n new k log hand s labels now turn next label at low same = false≢true (sym (next-untried (cut n (k + 1)) log hand s next) ∙ turn.behind s label at low same)

-- what is known of the school that the one in hand asks
pub knows : (n : Cohort) (new : List (List Rejection)) (k : ℕ) (log : List Rejection) (hand s : ℕ) (labels now : ℕ → List Label) → WellFormed n.papers → WellFormed (cut n (k + 1)) → InTurn n new k log hand labels now → AreOwn n.papers now → IsByKey (now s) → next_choice (cut n (k + 1)) log hand ≡ Some s → Given (cut n (k + 1)) log hand s (known k (now s))
knows n new k log hand s labels now whole well turn own sorted next = knows-at n (k + 1) k log hand s now whole well turn.asking own sorted (none-yet n new k log hand s labels now turn next)

pub answered : (n : Cohort) (new : List (List Rejection)) (k : ℕ) (log : List Rejection) (hand s seats : ℕ) (labels now : ℕ → List Label) (key : Key) (answer : Answer) → WellFormed n.papers → WellFormed (cut n (k + 1)) → InTurn n new k log hand labels now → AreOwn n.papers now → IsByKey (now s) → next_choice (cut n (k + 1)) log hand ≡ Some s → seats ≡ seats_of n.papers s → key ≡ key_of n.papers hand s → IsAnswer k (now s) seats key answer → MeansStep (cut n (k + 1)) log hand s answer
answered n new k log hand s seats labels now key Seated whole well turn own sorted next same is few =
    has_room (cut n (k + 1)) log hand s (known k (now s)) (knows n new k log hand s labels now whole well turn own sorted next) (subst (λ count. length (known k (now s)) < count) (same ∙ sym (seats-cut n (k + 1) s whole)) few)
answered n new k log hand s seats labels now key (PutsOut last) whole well turn own sorted next same is (holds, ahead) =
    let m = cut n (k + 1) in
    let given = knows n new k log hand s labels now whole well turn own sorted next in (
      puts_out_the_last m log hand s holds.front last holds.rest (filled m log hand k s seats (now s) last given (same ∙ sym (seats-cut n (k + 1) s whole)) holds) next
          (ap (λ x. is_before x last) (key-asked n (k + 1) log hand s s whole turn.asking.chain.valid (inl next) ∙ sym is) ∙ ahead),
      λ hand_out. other-last m log hand k s seats (now s) last given holds (sym hand_out),
    )
answered n new k log hand s seats labels now key Refused whole well turn own sorted next same is refused =
    refused-at n (k + 1) k log hand s now whole well turn.asking own sorted (none-yet n new k log hand s labels now turn next) seats key next same is refused
