-- What the steps of an audit keep of the state.
use Rattle.std.proofs.Common.{◌≡◌, inl, inr, refl, ap, sym, subst, ◌∙◌, ℕ, ◌<◌, nat_eq, Bool, true, cond, not, ◌&&◌, List, [], length, get_or, set, map, Option, Some, None, Contains, position, slice_get, arith}
use Rattle.std.specs.Option.{option_and_then}
use Rattle.std.proofs.lemmas.Bool.{cases_eq, eq-eqb, ne_eqb, cond-true, cond-false}
use Rattle.std.proofs.lemmas.List.{length-set}
use Rattle.std.proofs.lemmas.Map.Entries.{length-keys_of}
use Rattle.sc_papers.specs.Key.{key_of}
use Rattle.sc_papers.specs.Market.{Market, schools_of, choices_of, seats_of, students_of, is_student}
use Rattle.sc_papers.specs.declared.key.Key.{Key}
use Rattle.sc_audit.specs.Offers.{Offers}
use Rattle.sc_audit.specs.AuditView.{AuditView, stand_of, next_of, keys_at, KeepsBest, KeepsBestAtEach, MovesTo}
use Rattle.sc_audit.proofs.Tables.{read-mapped, stander-among, keys-read, keys-put}
use Rattle.sc_papers.proofs.Positions.{position-at, student-among}
use Rattle.sc_audit.proofs.Keeping.{is_out, Moved, keeps-more, keeps-others}
use Rattle.sc_audit.proofs.Pasts.{Stands, stands-from}

-- who stands at a school
pub stander-next : (m : Market) (l : AuditView) (j s : ℕ) → next_of m l.stands j ≡ Some s → Contains (students_of m) j
stander-next m l j s next = let there : Stands m l j s = stands-from m l j s next in stander-among m l.stands j there.rank there.is

-- a student comes to a school
pub record Placing (m : Market) (old : AuditView) (i rank s at : ℕ) (keys : List Key) (out : Option Key) (new : AuditView) : Type 0 where
  pub keeps_best : KeepsBestAtEach m old
  pub known : is_student m i ≡ true
  pub nowhere : next_of m old.stands i ≡ None
  pub choice : slice_get (choices_of m i) rank ≡ Some s
  pub found : position (nat_eq s) (schools_of m) ≡ Some at
  pub offered : Offers (get_or old.kept at []) (seats_of m s) (key_of m i s) keys out
  pub kept : new.kept ≡ set old.kept at keys
  pub seats : new.seats ≡ old.seats
  pub long : length new.stands ≡ length m.students
  pub stands : (j : ℕ) → stand_of m new.stands j ≡ cond (nat_eq j i) (Some rank) (stand_of m old.stands j)

module _ {m : Market} {old : AuditView} {i rank s at : ℕ} {keys : List Key} {out : Option Key} {new : AuditView} (p : Placing m old i rank s at keys out new) where
  own-next : next_of m new.stands i ≡ Some s
  own-next = ap (option_and_then (slice_get (choices_of m i))) (p.stands i ∙ cond-true (nat_eq i i) (Some rank) (stand_of m old.stands i) (eq-eqb i i refl)) ∙ p.choice

  other-next : (j : ℕ) → (j ≡ i → ⊥) → next_of m new.stands j ≡ next_of m old.stands j
  other-next j apart = ap (option_and_then (slice_get (choices_of m j))) (p.stands j ∙ cond-false (nat_eq j i) (Some rank) (stand_of m old.stands j) (ne_eqb j i apart))

  -- who is kept then: all who were but the one put out, and the one who came unless it is that one
  kept_then : ℕ → Bool
  kept_then j = cond (nat_eq j i) (not (is_out out i)) (p.keeps_best.is_kept j && not (is_out out j))

  came : Moved m (next_of m old.stands) (next_of m new.stands) p.keeps_best.is_kept kept_then s i out (get_or old.kept at []) keys
  unfolding kept_then
  came = record {
    well_formed = p.keeps_best.well_formed;
    among = student-among m i p.known;
    best = subst (KeepsBest m (next_of m old.stands) p.keeps_best.is_kept s) (keys-read m old.kept s at p.found) (p.keeps_best.each s);
    standers = λ j stands. stander-next m old j s stands;
    nowhere = p.nowhere;
    offered = p.offered;
    here = own-next;
    others = other-next;
    own_kept = cond-true (nat_eq i i) (not (is_out out i)) (p.keeps_best.is_kept i && not (is_out out i)) (eq-eqb i i refl);
    others_kept = λ j apart. cond-false (nat_eq j i) (not (is_out out i)) (p.keeps_best.is_kept j && not (is_out out j)) (ne_eqb j i apart);
  }

  each-school : (t : ℕ) → KeepsBest m (next_of m new.stands) kept_then t (keys_at m new.kept t)
  each-school t =
      let put : keys_at m new.kept t ≡ cond (nat_eq t s) keys (keys_at m old.kept t) = ap (λ kept. keys_at m kept t) p.kept ∙ keys-put m old.kept keys s at p.keeps_best.schools p.found t in
      elim (cases_eq t s) [
        | inl same ↦
            let now : keys_at m new.kept t ≡ keys = put ∙ cond-true (nat_eq t s) keys (keys_at m old.kept t) (eq-eqb t s same) in
            subst (KeepsBest m (next_of m new.stands) kept_then t) (sym now)
            (subst (λ u. KeepsBest m (next_of m new.stands) kept_then u keys) (sym same)
            (keeps-more m (next_of m old.stands) (next_of m new.stands) p.keeps_best.is_kept kept_then s i (get_or old.kept at []) keys out came))
        | inr apart ↦
            let now : keys_at m new.kept t ≡ keys_at m old.kept t = put ∙ cond-false (nat_eq t s) keys (keys_at m old.kept t) (ne_eqb t s apart) in
            subst (KeepsBest m (next_of m new.stands) kept_then t) (sym now)
            (keeps-others m (next_of m old.stands) (next_of m new.stands) p.keeps_best.is_kept kept_then s i (get_or old.kept at []) keys out came t (keys_at m old.kept t) apart (p.keeps_best.each t))
      ]

  pub placing-moves : MovesTo m old i rank new
  placing-moves = record {
    keeps_best = record {
      well_formed = p.keeps_best.well_formed;
      within_limits = p.keeps_best.within_limits;
      stands = p.long;
      schools = ap length p.kept ∙ length-set old.kept at keys ∙ p.keeps_best.schools;
      seats = p.seats ∙ p.keeps_best.seats;
      is_kept = kept_then;
      each = each-school;
    };
    own = own-next ∙ sym p.choice;
    others = other-next;
  }

-- a school's position is one of the state's
pub school-low : (m : Market) (l : AuditView) (s at : ℕ) → KeepsBestAtEach m l → position (nat_eq s) (schools_of m) ≡ Some at → at < length l.kept
school-low m l s at keeps_best found = omega (arith, (position-at (schools_of m) s at found).0, length-keys_of m.schools, keeps_best.schools)

-- an offer at the school, as the papers see it
pub offer-seen : {X : Type 0} (f : X → List Key) (m : Market) (xs : List X) (i s at : ℕ) (now : X) (seats : ℕ) (key : Key) (keys : List Key) (out : Option Key) → at < length (map f xs) → now ≡ get_or xs at now → seats ≡ seats_of m s → key ≡ key_of m i s → Offers (f now) seats key keys out → Offers (get_or (map f xs) at []) (seats_of m s) (key_of m i s) keys out
offer-seen f m xs i s at now seats key keys out low is seats_is key_is made =
    subst (λ old. Offers old (seats_of m s) (key_of m i s) keys out) (sym (read-mapped f xs at now [] low is))
    (subst (λ n. Offers (f now) n (key_of m i s) keys out) seats_is (subst (λ k. Offers (f now) seats k keys out) key_is made))
