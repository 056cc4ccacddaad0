-- Who blocks a matching, by who has each school.
use Rattle.std.proofs.Common.{◌≡◌, ◌⊎◌, inl, inr, refl, ap, sym, subst, ◌∙◌, ℕ, ◌+◌, ◌<◌, ◌≤◌, true, false, List, length, Option, Some, None, Contains, IfSome, slice_get, arith}
use Rattle.std.specs.Prelude.{nat_lt, IfNone}
use Rattle.std.specs.Option.{option_map_or}
use Rattle.std.proofs.lemmas.Bool.{cases_Bool, cases_lt, cases_order, cond-true, cond-false, or_cases, or_left, or_right, lt-ltb, ltb-true, ltb-false, false≢true}
use Rattle.std.proofs.lemmas.Bool.Decides.{nat_tests}
use Rattle.std.proofs.lemmas.Map.Entries.{length-keys_of}
use Rattle.std.proofs.lemmas.Option.{none-some, same_Some, slice_get_within}
use Rattle.sc_papers.specs.Key.{is_ahead, is_before, key_of}
use Rattle.sc_papers.specs.Market.{Market, choices_of, seats_of, students_of}
use Rattle.sc_papers.specs.Matching.{Matching, has, held, IsMatching, Prefers, Blocks}
use Rattle.sc_papers.specs.WellFormed.{WellFormed}
use Rattle.sc_papers.specs.declared.key.Key.{Key}
use Rattle.sc_papers.proofs.Choices.{contains-at, place-of, one-place}
use Rattle.sc_papers.proofs.Rejections.{has-some, has-true}
use Rattle.sc_papers.proofs.Students.{choices-differ, lister-among}
use Rattle.sc_audit.specs.Stability.{IsEarliestBlock, IsFirstBlock}
use Rattle.sc_tallies.specs.LastKey.{keys_among, last_key}
use Rattle.sc_tallies.proofs.LastKeys.{key-among, keyed, last-after, last-among, last-contained}
use Rattle.sc_audit.specs.Tallies.{would_take, earlier_of}

-- a school has a free seat, or a student is ahead there of one who has it
abbrev Better : Market → Matching → ℕ → ℕ → Type 0
Better m a i s = (held m a s < seats_of m s) ⊎ ((j : ℕ) × (a j ≡ Some s) × (is_ahead m s i j ≡ true))

before-over : (a b c : Key) → is_before a c ≡ true → is_before b c ≡ false → is_before a b ≡ true
before-over a b c first second = grind (arith, nat_tests)

ahead-keys : (m : Market) (s i j : ℕ) → is_before (key_of m i s) (key_of m j s) ≡ is_ahead m s i j
unfolding is_ahead
ahead-keys m s i j = refl

-- who prefers a school lists it
pub preferred-listed : (m : Market) (a : Matching) (i s : ℕ) → Blocks m a i s → Contains (choices_of m i) s
preferred-listed m a i s blocks = go (a i) blocks.preferred
  where
    go : (o : Option ℕ) → Prefers m i s o → Contains (choices_of m i) s
    go None listed = listed
    go (Some t) (j, k, low, at_j, at_k) = contains-at (choices_of m i) j s at_j

-- a student doesn't have s, and would not be taken there
abbrev Passes : Market → Matching → ℕ → ℕ → Type 0
Passes m a i s = (has a s i ≡ false) × (would_take m a i s ≡ false)

-- the student's choices before a rank are passed over
pub record PassedOver (m : Market) (a : Matching) (i k : ℕ) : Type 0 where
  pub passed : (j t : ℕ) → j < k → slice_get (choices_of m i) j ≡ Some t → Passes m a i t

pub passed-none : (m : Market) (a : Matching) (i : ℕ) → PassedOver m a i 0
passed-none m a i = record { passed = λ j t low here. absurd (omega (arith, low)) }

pub passed-more : (m : Market) (a : Matching) (i k s : ℕ) → slice_get (choices_of m i) k ≡ Some s → has a s i ≡ false → would_take m a i s ≡ false → PassedOver m a i k → PassedOver m a i (k + 1)
passed-more m a i k s here other fails before = record {
  passed = λ j t low there. elim (cases_lt j k) [
    | inl under ↦ before.passed j t under there
    | inr past ↦ subst (Passes m a i) (sym (same_Some t s (sym there ∙ ap (slice_get (choices_of m i)) (omega (arith, low, past)) ∙ here))) (other, fails)
  ];
}

module _ (m : Market) (a : Matching) (well : WellFormed m) (matching : IsMatching m a) where
  -- the keys of those who have a school
  abbrev keys : ℕ → List Key
  keys s = keys_among m a (students_of m) s

  take-better : (i s : ℕ) → would_take m a i s ≡ true → Better m a i s
  take-better i s takes = elim (or_cases (nat_lt (held m a s) (seats_of m s)) (option_map_or (is_before (key_of m i s)) (last_key (keys s)) false) takes) [
    | inl free ↦ inl (ltb-true (held m a s) (seats_of m s) free)
    | inr ahead ↦ inr (go (last_key (keys s)) refl ahead)
  ]
    where
      go : (o : Option Key) → last_key (keys s) ≡ o → option_map_or (is_before (key_of m i s)) o false ≡ true → (j : ℕ) × (a j ≡ Some s) × (is_ahead m s i j ≡ true)
      go None is no_key = absurd (false≢true no_key)
      go (Some last) is ahead =
          let (j, among, has_s, key) = keyed (has a s) (λ j. key_of m j s) (students_of m) last (last-contained (keys s) last is) in
          (j, has-true a s j has_s, sym (ahead-keys m s i j) ∙ ap (is_before (key_of m i s)) key ∙ ahead)

  better-takes : (i s : ℕ) → would_take m a i s ≡ false → Better m a i s → ⊥
  better-takes i s fails better = false≢true (sym fails ∙ elim better [
    | inl free ↦ or_left (nat_lt (held m a s) (seats_of m s)) (option_map_or (is_before (key_of m i s)) (last_key (keys s)) false) (lt-ltb (held m a s) (seats_of m s) free)
    | inr (j, given, ahead) ↦
        let among : Contains (keys s) (key_of m j s) =
        key-among (has a s) (λ j. key_of m j s) (students_of m) j (lister-among m j s (matching j s given)) (has-some a s j given) in
        let (last, is, there) = last-among (keys s) (let (k, low, at) = among in omega (arith, low)) in
        or_right (nat_lt (held m a s) (seats_of m s)) (option_map_or (is_before (key_of m i s)) (last_key (keys s)) false)
        (ap (λ o. option_map_or (is_before (key_of m i s)) o false) is
        ∙ before-over (key_of m i s) last (key_of m j s) (ahead-keys m s i j ∙ ahead) (last-after (keys s) last is (key_of m j s) among))
  ])

  module _ (i k : ℕ) (passed : PassedOver m a i k) where
    -- a choice before the rank doesn't block
    passed-block : (j t : ℕ) → j < k → slice_get (choices_of m i) j ≡ Some t → Blocks m a i t → ⊥
    passed-block j t low here blocks = better-takes i t (passed.passed j t low here).1 blocks.better

    -- and isn't what the student has
    passed-given : (j t : ℕ) → j < k → slice_get (choices_of m i) j ≡ Some t → a i ≡ Some t → ⊥
    passed-given j t low here given = false≢true (sym (passed.passed j t low here).0 ∙ has-some a t i given)

    preferred : (s : ℕ) → slice_get (choices_of m i) k ≡ Some s → has a s i ≡ false → Prefers m i s (a i)
    preferred s here other = go (a i) refl
      where
        go : (o : Option ℕ) → a i ≡ o → Prefers m i s o
        go None is = contains-at (choices_of m i) k s here
        go (Some t) is =
            let (n, there) = place-of (choices_of m i) t (matching i t is) in
            elim (cases_order n k) [
              | inl same ↦ absurd (false≢true (sym other ∙ has-some a s i (is ∙ sym there ∙ ap (slice_get (choices_of m i)) same ∙ here)))
              | inr (inl below) ↦ absurd (passed-given n t below there is)
              | inr (inr above) ↦ (k, n, above, here, there)
            ]

    pub taken-block : (s : ℕ) → slice_get (choices_of m i) k ≡ Some s → has a s i ≡ false → would_take m a i s ≡ true → IsEarliestBlock m a i s
    taken-block s here other takes = record {
      blocks = record {
        preferred = preferred s here other;
        better = take-better i s takes;
      };
      earliest = λ u (j, n, low, at_j, at_n).
          passed-block j u (omega (arith, low, one-place (choices_of m i) n k s (choices-differ m well i) at_n here)) at_j;
    }

    pub given-none : (s : ℕ) → slice_get (choices_of m i) k ≡ Some s → has a s i ≡ true → (t : ℕ) → Blocks m a i t → ⊥
    given-none s here holds t blocks =
        let (j, n, low, at_j, at_n) = subst (Prefers m i t) (has-true a s i holds) blocks.preferred in
        passed-block j t (omega (arith, low, one-place (choices_of m i) n k s (choices-differ m well i) at_n here)) at_j blocks

    pub all-none : length (choices_of m i) ≤ k → (t : ℕ) → Blocks m a i t → ⊥
    all-none all t blocks =
        let (j, here) = place-of (choices_of m i) t (preferred-listed m a i t blocks) in
        passed-block j t (omega (arith, all, slice_get_within (choices_of m i) j t here)) here blocks

-- the block of the least student among the first k
pub record FirstAmong (m : Market) (a : Matching) (k : ℕ) (first : Option (ℕ × ℕ)) : Type 0 where
  pub block : IfSome first (λ block. IsEarliestBlock m a block.0 block.1)
  pub least : (j i t : ℕ) → j < k → slice_get (students_of m) j ≡ Some i → Blocks m a i t → (block : ℕ × ℕ) × (first ≡ Some block) × (block.0 ≤ i)

pub first-none : (m : Market) (a : Matching) → FirstAmong m a 0 None
first-none m a = record {
  block = tt;
  least = λ j i t low here blocks. absurd (omega (arith, low));
}

-- the earlier of two is one of them, and before both
record Earlier (first : Option (ℕ × ℕ)) (i : ℕ) (block : Option ℕ) (new : Option (ℕ × ℕ)) : Type 0 where
  either : (new ≡ first) ⊎ ((s : ℕ) × (block ≡ Some s) × (new ≡ Some (i, s)))
  below_first : (b : ℕ × ℕ) → first ≡ Some b → (c : ℕ × ℕ) × (new ≡ Some c) × (c.0 ≤ b.0)
  below_own : (s : ℕ) → block ≡ Some s → (c : ℕ × ℕ) × (new ≡ Some c) × (c.0 ≤ i)

pair-one : (x y : ℕ × ℕ) → Some x ≡ Some y → x ≡ y
pair-one x y same = ap (λ o. option_map_or (λ (z : ℕ × ℕ). z) o x) same

earlier-is : (first : Option (ℕ × ℕ)) (i : ℕ) (block : Option ℕ) → Earlier first i block (earlier_of first i block)
earlier-is None i None = record {
  either = inl refl;
  below_first = λ b none. absurd (none-some b none);
  below_own = λ s none. absurd (none-some s none);
}
earlier-is (Some (j, t)) i None = record {
  either = inl refl;
  below_first = λ b is. ((j, t), refl, omega (arith, ap (λ (x : ℕ × ℕ). x.0) (pair-one (j, t) b is)));
  below_own = λ s none. absurd (none-some s none);
}
earlier-is None i (Some s) = record {
  either = inr (s, refl, refl);
  below_first = λ b none. absurd (none-some b none);
  below_own = λ u is. ((i, s), refl, omega arith);
}
earlier-is (Some (j, t)) i (Some s) = elim (cases_Bool (nat_lt i j)) [
  | inl less ↦
      let now : earlier_of (Some (j, t)) i (Some s) ≡ Some (i, s) = cond-true (nat_lt i j) (Some (i, s)) (Some (j, t)) less in
      record {
        either = inr (s, refl, now);
        below_first = λ b is. ((i, s), now, omega (arith, ltb-true i j less, ap (λ (x : ℕ × ℕ). x.0) (pair-one (j, t) b is)));
        below_own = λ u is. ((i, s), now, omega arith);
      }
  | inr more ↦
      let now : earlier_of (Some (j, t)) i (Some s) ≡ Some (j, t) = cond-false (nat_lt i j) (Some (i, s)) (Some (j, t)) more in
      record {
        either = inl now;
        below_first = λ b is. ((j, t), now, omega (arith, ap (λ (x : ℕ × ℕ). x.0) (pair-one (j, t) b is)));
        below_own = λ u is. ((j, t), now, ltb-false i j more);
      }
]

pub first-more : (m : Market) (a : Matching) (k i : ℕ) (first new : Option (ℕ × ℕ)) (block : Option ℕ) → slice_get (students_of m) k ≡ Some i → IfSome block (IsEarliestBlock m a i) → IfNone block ((t : ℕ) → Blocks m a i t → ⊥) → new ≡ earlier_of first i block → FirstAmong m a k first → FirstAmong m a (k + 1) new
first-more m a k i first new block here some none made before =
    let earlier : Earlier first i block new = subst (Earlier first i block) (sym made) (earlier-is first i block) in
    record {
      block = elim earlier.either [
        | inl old ↦ subst (λ o. IfSome o (λ b. IsEarliestBlock m a b.0 b.1)) (sym old) before.block
        | inr (s, is, now) ↦ subst (λ o. IfSome o (λ b. IsEarliestBlock m a b.0 b.1)) (sym now) (subst (λ o. IfSome o (IsEarliestBlock m a i)) is some)
      ];
      least = λ j x t low there blocks. elim (cases_lt j k) [
        | inl under ↦
            let (b, is_b, le) = before.least j x t under there blocks in
            let (c, is_c, le') = earlier.below_first b is_b in
            (c, is_c, omega (arith, le, le'))
        | inr past ↦
            let same : i ≡ x = same_Some i x (sym here ∙ ap (slice_get (students_of m)) (omega (arith, low, past)) ∙ there) in
            own block refl none t (subst (λ n. Blocks m a n t) (sym same) blocks) same earlier
      ];
    }
  where
    own : {x : ℕ} (o : Option ℕ) → block ≡ o → IfNone o ((t : ℕ) → Blocks m a i t → ⊥) → (t : ℕ) → Blocks m a i t → i ≡ x → Earlier first i block new → (c : ℕ × ℕ) × (new ≡ Some c) × (c.0 ≤ x)
    own None is nobody t blocks same earlier = absurd (nobody t blocks)
    own (Some s) is nobody t blocks same earlier = let (c, is_c, le) = earlier.below_own s is in (c, is_c, omega (arith, le, same))

module _ (m : Market) (a : Matching) (k : ℕ) (all : length m.students ≤ k) where
  blocker-low : (i t : ℕ) (first : Option (ℕ × ℕ)) → FirstAmong m a k first → Blocks m a i t → (block : ℕ × ℕ) × (first ≡ Some block) × (block.0 ≤ i)
  blocker-low i t first found blocks =
      let (j, here) = place-of (students_of m) i (lister-among m i t (preferred-listed m a i t blocks)) in
      found.least j i t (omega (arith, all, slice_get_within (students_of m) j i here, length-keys_of m.students)) here blocks

  pub first-is_block : (first : Option (ℕ × ℕ)) → FirstAmong m a k first → IfSome first (λ block. IsFirstBlock m a block.0 block.1)
  first-is_block None found = tt
  first-is_block (Some block) found = record {
    block = found.block;
    least = λ j t low blocks.
        let (b, is, le) = blocker-low j t (Some block) found blocks in
        omega (arith, low, le, ap (λ (x : ℕ × ℕ). x.0) (pair-one block b is));
  }

  pub first-is_none : (first : Option (ℕ × ℕ)) → FirstAmong m a k first → IfNone first ((i t : ℕ) → Blocks m a i t → ⊥)
  first-is_none None found = λ i t blocks. let (b, none, le) = blocker-low i t None found blocks in none-some b none
  first-is_none (Some block) found = tt
