-- An offer to the roll at a position, from what the roll itself says.
use Rattle.std.proofs.Common.{◌≡◌, ◌⊎◌, inl, inr, ap, sym, subst, ◌∙◌, ℕ, ◌<◌, nat_eq, true, List, ◌∷◌, length, get_or, set, map, Option, None, Some, Contains, position, arith, length-set, get_or-set_other, get_or-set_same}
use Rattle.std.specs.Option.{option_map_or}
use Rattle.std.proofs.lemmas.Bool.{cases_eq, false≢true}
use Rattle.std.proofs.lemmas.List.Elements.{All-contains, All-contains_itself, All-weaker}
use Rattle.std.proofs.lemmas.List.Sorted.{Contains-permutation, IsPermutation-sym, length_permutation}
use Rattle.std.proofs.lemmas.List.{get_or-map, map-set}
use Rattle.sc_papers.specs.Key.{is_before, key_of}
use Rattle.sc_papers.specs.Market.{Market, schools_of}
use Rattle.sc_papers.proofs.Counting.{contains-cons, contains-head, contains-tail}
use Rattle.sc_papers.proofs.Priority.{before-irrefl, before-trans}
use Rattle.sc_papers.specs.declared.key.Key.{Key}
use Rattle.sc_seats.specs.Roll.{RollView, Refuses}
use Rattle.sc_engine.specs.RoundView.{RoundView, Offers, OffersAt, OthersStay, next_of, no_roll, roll_at, roll_of}
use Rattle.sc_engine.proofs.Tables.{length-mapped}

-- what is seen of a roll
abbrev pub seen_by : {R : Type 0} → (R → List Key) → (R → ℕ) → R → RollView
seen_by keys seats roll = record { keys = keys roll; seats = seats roll }

-- the roll that is seen at a position
pub roll_at-mapped : {R : Type 0} (see : R → RollView) (rolls : List R) (at : ℕ) (roll : R) → at < length rolls → roll ≡ get_or rolls at roll → roll_at (map see rolls) at ≡ see roll
roll_at-mapped see rolls at roll low is = get_or-map see rolls at roll no_roll low ∙ ap see (sym is)

pub OffersAt_from : {R : Type 0} (see : R → RollView) (rolls : List R) (at : ℕ) (old new : R) (key : Key) (out : Option Key) → at < length rolls → old ≡ get_or rolls at old → Offers (see old) (see new) key out → OffersAt (map see rolls) (map see (set rolls at new)) at key out
OffersAt_from see rolls at old new key out low is offers =
    let before : roll_at (map see rolls) at ≡ see old = roll_at-mapped see rolls at old low is in
    let low_seen : at < length (map see rolls) = omega (arith, low, length-mapped see rolls) in
    let same : map see (set rolls at new) ≡ set (map see rolls) at (see new) = map-set see rolls at new in
    let after : roll_at (map see (set rolls at new)) at ≡ see new = ap (λ rs. roll_at rs at) same ∙ get_or-set_same (map see rolls) at (see new) no_roll low_seen in
    record {
      own = subst (λ (r : RollView). Offers r (roll_at (map see (set rolls at new)) at) key out) (sym before) (subst (λ (r : RollView). Offers (see old) r key out) (sym after) offers);
      others = λ other apart. ap (λ rs. roll_at rs other) same ∙ get_or-set_other (map see rolls) at other (see new) no_roll apart;
      same_length = ap length same ∙ length-set (map see rolls) at (see new);
    }

-- a roll that would refuse a key does so after another is offered to it
refuses-at : (old new : List RollView) (at : ℕ) (key : Key) (out : Option Key) (asked : Key) → OffersAt old new at key out → Refuses (roll_at old at).keys (roll_at old at).seats asked → Refuses (roll_at new at).keys (roll_at new at).seats asked
refuses-at old new at key None asked offered refuses =
    absurd (omega (arith, length_permutation (key ∷ (roll_at old at).keys) (roll_at new at).keys offered.own.together, offered.own.within, offered.own.seats, refuses.full))
refuses-at old new at key (Some worst) asked offered refuses = record {
  full = omega (arith, length_permutation (key ∷ (roll_at old at).keys) (worst ∷ (roll_at new at).keys) offered.own.together, offered.own.seats, refuses.full);
  behind = All-weaker (Contains (roll_at new at).keys) (λ held. is_before held asked ≡ true) behind (roll_at new at).keys (All-contains_itself (roll_at new at).keys);
}
  where
    from : (held : Key) → Contains (worst ∷ (roll_at new at).keys) held → (key ≡ held) ⊎ Contains (roll_at old at).keys held
    from held among =
        contains-cons key (roll_at old at).keys held
        (Contains-permutation (worst ∷ (roll_at new at).keys) (key ∷ (roll_at old at).keys) held (IsPermutation-sym (key ∷ (roll_at old at).keys) (worst ∷ (roll_at new at).keys) offered.own.together) among)

    before : (held : Key) → Contains (roll_at new at).keys held → is_before held worst ≡ true
    before held among = All-contains (λ h. is_before h worst ≡ true) (roll_at new at).keys held offered.own.last among

    asked-after : (held : Key) → Contains (roll_at old at).keys held → is_before held asked ≡ true
    asked-after held among = All-contains (λ h. is_before h asked ≡ true) (roll_at old at).keys held refuses.behind among

    behind : (held : Key) → Contains (roll_at new at).keys held → is_before held asked ≡ true
    behind held among = elim (from worst (contains-head worst (roll_at new at).keys)) [
      | inr stood ↦ before-trans held worst asked (before held among) (asked-after worst stood)
      | inl own ↦ elim (from held (contains-tail worst (roll_at new at).keys held among)) [
        | inr stood ↦ asked-after held stood
        | inl same ↦ absurd (false≢true (sym (before-irrefl worst) ∙ ap (λ h. is_before h worst) (sym own ∙ same) ∙ before held among))
      ]
    ]

pub others-offered : (m : Market) (r r' : RoundView) (at : ℕ) (key : Key) (out : Option Key) → OffersAt r.rolls r'.rolls at key out → r'.ranks ≡ r.ranks → (i : ℕ) → OthersStay m r r' i
unfolding roll_of
others-offered m r r' at key out offered same i e apart put = record {
  stands = ap (λ ranks. next_of m ranks e.student) same ∙ put.stands;
  refused = still (position (nat_eq e.school) (schools_of m)) put.refused;
}
  where
    asked : Key
    asked = key_of m e.student e.school

    still : (o : Option ℕ) → Refuses (option_map_or (roll_at r.rolls) o no_roll).keys (option_map_or (roll_at r.rolls) o no_roll).seats asked → Refuses (option_map_or (roll_at r'.rolls) o no_roll).keys (option_map_or (roll_at r'.rolls) o no_roll).seats asked
    still None refuses = refuses
    still (Some k) refuses = elim (cases_eq k at) [
      | inl here ↦ subst (λ p. Refuses (roll_at r'.rolls p).keys (roll_at r'.rolls p).seats asked) (sym here)
          (refuses-at r.rolls r'.rolls at key out asked offered (subst (λ p. Refuses (roll_at r.rolls p).keys (roll_at r.rolls p).seats asked) here refuses))
      | inr elsewhere ↦ subst (λ (roll : RollView). Refuses roll.keys roll.seats asked) (sym (offered.others k elsewhere)) refuses
    ]
