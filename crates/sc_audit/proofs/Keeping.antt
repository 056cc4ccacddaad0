-- Schools keep the best: what an offer of a seat changes.
use Rattle.std.proofs.Common.{◌≡◌, inl, inr, refl, ap, sym, subst, ◌∙◌, ℕ, ◌<◌, ◌==◌, nat_eq, Bool, true, false, cond, not, ◌&&◌, ◌||◌, List, ◌∷◌, ◌++◌, length, Option, Some, None, Contains, count_by, arith}
use Rattle.std.specs.List.Sorted.{IsPermutation}
use Rattle.std.specs.Option.{option_to_list}
use Rattle.std.proofs.lemmas.Bool.{cases_Bool, cases_eq, eqb-true, eq-eqb, ne_eqb, false≢true, true≢false, and_parts, and_from, and_right, not-true, or_right}
use Rattle.std.proofs.lemmas.List.Elements.{All-contains, All-cons, All-tail}
use Rattle.std.proofs.lemmas.List.Sorted.{sum_by-IsPermutation, All-permutation, length_permutation}
use Rattle.std.proofs.lemmas.List.Sums.{sum_by-cons}
use Rattle.std.proofs.lemmas.Option.{none-some, same_Some}
use Rattle.sc_papers.specs.Market.{Market, students_of, seats_of}
use Rattle.sc_papers.specs.Key.{key_of, is_ahead, is_before}
use Rattle.sc_papers.specs.Matching.{Matching, how_many, has}
use Rattle.sc_papers.specs.WellFormed.{WellFormed}
use Rattle.sc_papers.specs.declared.key.Key.{Key}
use Rattle.sc_papers.proofs.Counting.{contains-head, count-some, some-counted}
use Rattle.sc_papers.proofs.Sums.{count-all}
use Rattle.sc_papers.proofs.Students.{how_many-agree, how_many-some, some-of_many}
use Rattle.sc_papers.proofs.Chain.{how_many-split_both}
use Rattle.sc_papers.proofs.Priority.{ahead-total, ahead-trans}
use Rattle.sc_papers.proofs.Rejections.{has-true, has-some, has-agree}
use Rattle.sc_audit.specs.Offers.{Offers}
use Rattle.sc_audit.specs.AuditView.{AreKeysOf, keeps, KeepsBest}

-- tests that hold together are one
pub both-ways : (a b : Bool) → (a ≡ true → b ≡ true) → (b ≡ true → a ≡ true) → a ≡ b
both-ways true b forward back = sym (forward refl)
both-ways false true forward back = back refl
both-ways false false forward back = refl

pub key-student : (m : Market) (i s : ℕ) → (key_of m i s).student ≡ i
unfolding key_of
key-student m i s = refl

-- how many keys there are
pub keys-length : {m : Market} {s : ℕ} {test : ℕ → Bool} {keys : List Key} → AreKeysOf m s test keys → length keys ≡ how_many m test
keys-length {m} {s} {test} {keys} are = sym (count-all keys) ∙ are.exact (λ j. true)

-- whose key is there passes, and the key is its own
pub keys-own : {m : Market} {s : ℕ} {test : ℕ → Bool} {keys : List Key} (key : Key) → AreKeysOf m s test keys → Contains keys key → Contains (students_of m) key.student × (test key.student ≡ true) × (key ≡ key_of m key.student s)
keys-own {m} {s} {test} {keys} key are held =
    let i : ℕ = key.student in
    let one : 0 < how_many m (λ j. j == i && test j) =
    subst (λ n. 0 < n) (are.exact (λ j. j == i)) (count-some (λ (k : Key). k.student == i) keys key held (eq-eqb i i refl)) in
    let found = some-of_many m (λ j. j == i && test j) one in
    let parts = and_parts (found.0 == i) (test found.0) found.2 in
    let same : found.0 ≡ i = eqb-true found.0 i parts.0 in
    (subst (Contains (students_of m)) same found.1, subst (λ j. test j ≡ true) same parts.1, All-contains (λ k. k ≡ key_of m k.student s) keys key are.keyed held)

-- and who passes has their key there
pub keys-hold : {m : Market} {s : ℕ} {test : ℕ → Bool} {keys : List Key} (i : ℕ) → AreKeysOf m s test keys → Contains (students_of m) i → test i ≡ true → Contains keys (key_of m i s)
keys-hold {m} {s} {test} {keys} i are among passes =
    let one : 0 < count_by (λ (k : Key). k.student == i) keys =
    subst (λ n. 0 < n) (sym (are.exact (λ j. j == i))) (how_many-some m (λ j. j == i && test j) i among (and_from (i == i) (test i) (eq-eqb i i refl) passes)) in
    let found = some-counted (λ (k : Key). k.student == i) keys one in
    let same : found.0.student ≡ i = eqb-true found.0.student i found.2 in
    let own : found.0 ≡ key_of m found.0.student s = All-contains (λ k. k ≡ key_of m k.student s) keys found.0 are.keyed found.1 in
    subst (Contains keys) (own ∙ ap (λ j. key_of m j s) same) found.1

pub keys-alike : {m : Market} {s : ℕ} {keys : List Key} (test other : ℕ → Bool) → ((j : ℕ) → test j ≡ other j) → AreKeysOf m s test keys → AreKeysOf m s other keys
keys-alike {m} {s} {keys} test other same are = record {
  keyed = are.keyed;
  exact = λ p. are.exact p ∙ how_many-agree m (λ j. p j && test j) (λ j. p j && other j) (λ j. ap (λ b. p j && b) (same j));
}

-- one more key
join-apart : (j i : ℕ) (test : ℕ → Bool) → test i ≡ false → ((test j || j == i) && not (j == i)) ≡ test j
join-apart j i test fails = elim (cases_eq j i) [
  | inl same ↦ and_right (test j || j == i) (not (j == i)) (ap not (eq-eqb j i same)) ∙ sym (ap test same ∙ fails)
  | inr apart ↦ drop (test j) (j == i) (ne_eqb j i apart)
]
  where
    drop : (a b : Bool) → b ≡ false → ((a || b) && not b) ≡ a
    drop true true refused = absurd (true≢false refused)
    drop true false refused = refl
    drop false true refused = absurd (true≢false refused)
    drop false false refused = refl

pub keys-join : (m : Market) → WellFormed m → (s i : ℕ) (test : ℕ → Bool) (keys : List Key) → Contains (students_of m) i → test i ≡ false → AreKeysOf m s test keys → AreKeysOf m s (λ j. test j || j == i) (key_of m i s ∷ keys)
keys-join m well s i test keys among fails are = record {
  keyed = All-cons (λ k. k ≡ key_of m k.student s) (key_of m i s) keys (ap (λ j. key_of m j s) (sym (key-student m i s))) are.keyed;
  exact = λ p. omega (
    arith,
    sum_by-cons (λ (k : Key). cond (p k.student) 1 0) (key_of m i s) keys,
    ap {B = ℕ} (λ j. cond (p j) 1 0) (key-student m i s),
    are.exact p,
    how_many-split_both m well p (λ j. test j || j == i) i among (or_right (test i) (i == i) (eq-eqb i i refl)),
    how_many-agree m (λ j. p j && ((test j || j == i) && not (j == i))) (λ j. p j && test j) (λ j. ap (λ b. p j && b) (join-apart j i test fails)),
  );
}

-- one key less
pub keys-leave : (m : Market) → WellFormed m → (s : ℕ) (test : ℕ → Bool) (out : Key) (keys : List Key) → AreKeysOf m s test (out ∷ keys) → AreKeysOf m s (λ j. test j && not (j == out.student)) keys
keys-leave m well s test out keys are =
    let own = keys-own out are (contains-head out keys) in
    record {
      keyed = All-tail (λ k. k ≡ key_of m k.student s) out keys are.keyed;
      exact = λ p. omega (
        arith,
        sum_by-cons (λ (k : Key). cond (p k.student) 1 0) out keys,
        are.exact p,
        how_many-split_both m well p test out.student own.0 own.1,
      );
    }

-- the keys in another order
pub keys-permute : {m : Market} {s : ℕ} {test : ℕ → Bool} (xs ys : List Key) → IsPermutation xs ys → AreKeysOf m s test xs → AreKeysOf m s test ys
keys-permute {m} {s} {test} xs ys moved are = record {
  keyed = All-permutation (λ k. k ≡ key_of m k.student s) xs ys moved are.keyed;
  exact = λ p. sum_by-IsPermutation (λ (k : Key). cond (p k.student) 1 0) xs ys moved ∙ are.exact p;
}

-- a school at which nobody comes to stand, and only students who aren't kept leave, keeps the same
pub keeps-still : (m : Market) (next next' : Matching) (kept kept' : ℕ → Bool) (s : ℕ) (keys : List Key)
    → ((j : ℕ) → next' j ≡ Some s → (next j ≡ Some s) × (kept' j ≡ kept j))
    → ((j : ℕ) → next j ≡ Some s → kept j ≡ true → (next' j ≡ Some s) × (kept' j ≡ true))
    → KeepsBest m next kept s keys → KeepsBest m next' kept' s keys
keeps-still m next next' kept kept' s keys back forward best = record {
  exact_keys = keys-alike (keeps next kept s) (keeps next' kept' s) (λ j. both-ways (keeps next kept s j) (keeps next' kept' s j)
      (λ held.
      let parts = and_parts (has next s j) (kept j) held in
      let there = forward j (has-true next s j parts.0) parts.1 in
      and_from (has next' s j) (kept' j) (has-some next' s j there.0) there.1)
      (λ held.
      let parts = and_parts (has next' s j) (kept' j) held in
      let there = back j (has-true next' s j parts.0) in
      and_from (has next s j) (kept j) (has-some next s j there.0) (sym there.1 ∙ parts.1))) best.exact_keys;
  within = best.within;
  full = λ i at waits. let there = back i at in best.full i there.0 (sym there.1 ∙ waits);
  ahead = λ i j at waits at_j held. let there = back i at in let there_j = back j at_j in best.ahead i j there.0 (sym there.1 ∙ waits) there_j.0 (sym there_j.1 ∙ held);
}

-- whether a student is the one put out
abbrev pub is_out : Option Key → ℕ → Bool
is_out None j = false
is_out (Some key) j = nat_eq j key.student

-- a student comes to s, where one may be put out
pub record Moved (m : Market) (next next' : Matching) (kept kept' : ℕ → Bool) (s i : ℕ) (out : Option Key) (keys new : List Key) : Type 0 where
  pub well_formed : WellFormed m
  pub among : Contains (students_of m) i
  pub best : KeepsBest m next kept s keys
  pub standers : (j : ℕ) → next j ≡ Some s → Contains (students_of m) j
  pub nowhere : next i ≡ None
  pub offered : Offers keys (seats_of m s) (key_of m i s) new out
  pub here : next' i ≡ Some s
  pub others : (j : ℕ) → (j ≡ i → ⊥) → next' j ≡ next j
  pub own_kept : kept' i ≡ not (is_out out i)
  pub others_kept : (j : ℕ) → (j ≡ i → ⊥) → kept' j ≡ (kept j && not (is_out out j))

module _ (m : Market) (next next' : Matching) (kept kept' : ℕ → Bool) (s i : ℕ) (keys new : List Key) where
  stander : (out : Option Key) → Moved m next next' kept kept' s i out keys new → (j : ℕ) → next' j ≡ Some s → Contains (students_of m) j
  stander out moved j at = elim (cases_eq j i) [
    | inl same ↦ subst (Contains (students_of m)) (sym same) moved.among
    | inr apart ↦ moved.standers j (sym (moved.others j apart) ∙ at)
  ]

  -- those who were kept, and the one who comes
  joined_test : ℕ → Bool
  joined_test j = keeps next kept s j || j == i

  stood-apart : (out : Option Key) → Moved m next next' kept kept' s i out keys new → keeps next kept s i ≡ false
  stood-apart out moved = elim (cases_Bool (keeps next kept s i)) [
    | inr apart ↦ apart
    | inl held ↦ absurd (none-some s (sym moved.nowhere ∙ has-true next s i (and_parts (has next s i) (kept i) held).0))
  ]

  joined : (out : Option Key) → Moved m next next' kept kept' s i out keys new → AreKeysOf m s joined_test (option_to_list out ++ new)
  unfolding joined_test
  joined out moved =
      keys-permute (key_of m i s ∷ keys) (option_to_list out ++ new) moved.offered.together
      (keys-join m moved.well_formed s i (keeps next kept s) keys moved.among (stood-apart out moved) moved.best.exact_keys)

  -- who is kept then
  kept-test : (out : Option Key) → Moved m next next' kept kept' s i out keys new → (j : ℕ) → (joined_test j && not (is_out out j)) ≡ keeps next' kept' s j
  unfolding joined_test
  kept-test out moved j = elim (cases_eq j i) [
    | inl same ↦ ap (λ n. (keeps next kept s n || n == i) && not (is_out out n)) same
        ∙ ap (λ b. b && not (is_out out i)) (or_right (keeps next kept s i) (i == i) (eq-eqb i i refl))
        ∙ sym moved.own_kept
        ∙ sym (ap (λ b. b && kept' i) (has-some next' s i moved.here))
        ∙ ap (keeps next' kept' s) (sym same)
    | inr apart ↦
        regroup (has next s j) (kept j) (j == i) (not (is_out out j)) (ne_eqb j i apart)
        ∙ (λ t. has-agree next next' s j (sym (moved.others j apart)) t && sym (moved.others_kept j apart) t)
  ]
    where
      regroup : (a b c d : Bool) → c ≡ false → (((a && b) || c) && d) ≡ (a && (b && d))
      regroup a b true d refused = absurd (true≢false refused)
      regroup true true false d refused = refl
      regroup true false false d refused = refl
      regroup false b false d refused = refl

  -- the keys that stay are theirs
  stays : (out : Option Key) → Moved m next next' kept kept' s i out keys new → AreKeysOf m s (keeps next' kept' s) new
  stays None moved =
      keys-alike joined_test (keeps next' kept' s) (λ j. and-true (joined_test j) ∙ kept-test None moved j) (joined None moved)
    where
      and-true : (a : Bool) → a ≡ (a && not false)
      and-true true = refl
      and-true false = refl
  stays (Some out) moved =
      keys-alike (λ j. joined_test j && not (j == out.student)) (keeps next' kept' s) (λ j. kept-test (Some out) moved j)
      (keys-leave m moved.well_formed s joined_test out new (joined (Some out) moved))

  -- the one put out stood there, or has just come
  put-out : (out : Key) → Moved m next next' kept kept' s i (Some out) keys new → Contains (students_of m) out.student × (joined_test out.student ≡ true) × (out ≡ key_of m out.student s)
  put-out out moved = keys-own out (joined (Some out) moved) (contains-head out new)

  -- it stands there now
  pub out-there : (out : Option Key) → Moved m next next' kept kept' s i out keys new → (j : ℕ) → is_out out j ≡ true → next' j ≡ Some s
  unfolding joined_test
  out-there None moved j refused = absurd (false≢true refused)
  out-there (Some out) moved j is =
      let same : j ≡ out.student = eqb-true j out.student is in
      let was : (keeps next kept s out.student || out.student == i) ≡ true = (put-out out moved).1 in
      elim (cases_eq j i) [
        | inl own ↦ ap next' own ∙ moved.here
        | inr apart ↦ moved.others j apart ∙ ap next same ∙
            has-true next s out.student (and_parts (has next s out.student) (kept out.student) (left-true (keeps next kept s out.student) (out.student == i) (ne_eqb out.student i (λ at. apart (same ∙ at))) was)).0
      ]
    where
      left-true : (a b : Bool) → b ≡ false → (a || b) ≡ true → a ≡ true
      left-true true b refused holds = refl
      left-true false b refused holds = absurd (false≢true (sym refused ∙ holds))

  -- with room nobody stands there without being kept
  room-none : Moved m next next' kept kept' s i None keys new → (l : ℕ) → next' l ≡ Some s → kept' l ≡ false → ⊥
  room-none moved l at waits = elim (cases_eq l i) [
    | inl same ↦ true≢false (sym moved.own_kept ∙ ap kept' (sym same) ∙ waits)
    | inr apart ↦
        let full = moved.best.full l (sym (moved.others l apart) ∙ at) (and-keep (kept l) (sym (moved.others_kept l apart) ∙ waits)) in
        omega (arith, full, length_permutation (key_of m i s ∷ keys) new moved.offered.together, moved.offered.within)
  ]
    where
      and-keep : (a : Bool) → (a && not false) ≡ false → a ≡ false
      and-keep true refused = refused
      and-keep false refused = refl

  to-ahead : (out : Key) (j : ℕ) → out ≡ key_of m out.student s → is_before out (key_of m j s) ≡ false → is_ahead m s out.student j ≡ false
  unfolding is_ahead
  to-ahead out j own behind = ap (λ k. is_before k (key_of m j s)) (sym own) ∙ behind

  -- who is kept now is ahead of the one put out
  ahead-out : (out : Key) → Moved m next next' kept kept' s i (Some out) keys new → (j : ℕ) → next' j ≡ Some s → kept' j ≡ true → is_ahead m s j out.student ≡ true
  ahead-out out moved j at held =
      let passes : keeps next' kept' s j ≡ true = and_from (has next' s j) (kept' j) (has-some next' s j at) held in
      let not_out : (j == out.student) ≡ false = not-true (j == out.student) (and_parts (joined_test j) (not (j == out.student)) (kept-test (Some out) moved j ∙ passes)).1 in
      let apart : out.student ≡ j → ⊥ = λ same. false≢true (sym not_out ∙ eq-eqb j out.student (sym same)) in
      let among : Contains (students_of m) j = stander (Some out) moved j at in
      let there : Contains new (key_of m j s) = keys-hold j (stays (Some out) moved) among passes in
      let behind : is_before out (key_of m j s) ≡ false = All-contains (λ k. is_before out k ≡ false) new (key_of m j s) moved.offered.last there in
      let ahead : is_ahead m s out.student j ≡ false = to-ahead out j (put-out out moved).2 behind in
      elim (ahead-total m s out.student j apart) [
        | inl refused ↦ absurd (false≢true (sym ahead ∙ refused))
        | inr so ↦ so
      ]

  -- where one was put out, who is kept is ahead of each who isn't
  ahead-all : (out : Key) → Moved m next next' kept kept' s i (Some out) keys new → (l j : ℕ) → next' l ≡ Some s → kept' l ≡ false → next' j ≡ Some s → kept' j ≡ true → is_ahead m s j l ≡ true
  unfolding joined_test
  ahead-all out moved l j at waits at_j held =
      elim (cases_eq l out.student) [
        | inl same ↦ subst (λ n. is_ahead m s j n ≡ true) (sym same) (ahead-out out moved j at_j held)
        | inr other ↦
            let not_own : l ≡ i → ⊥ = λ same. true≢false (sym (moved.own_kept ∙ ap not (ne_eqb i out.student (λ is. other (same ∙ is)))) ∙ ap kept' (sym same) ∙ waits) in
            let before : next l ≡ Some s = sym (moved.others l not_own) ∙ at in
            let waited : kept l ≡ false = drop-true (kept l) (nat_eq l out.student) (ne_eqb l out.student other) (sym (moved.others_kept l not_own) ∙ waits) in
            elim (cases_eq j i) [
              | inr apart ↦ moved.best.ahead l j before waited (sym (moved.others j apart) ∙ at_j) (and_parts (kept j) (not (nat_eq j out.student)) (sym (moved.others_kept j apart) ∙ held)).0
              | inl own ↦
                  let j_ahead : is_ahead m s j out.student ≡ true = ahead-out out moved j at_j held in
                  let not_out : out.student ≡ i → ⊥ = λ is. false≢true (sym (ap not (eq-eqb j out.student (own ∙ sym is))) ∙ sym (moved.own_kept ∙ ap (λ n. not (nat_eq n out.student)) (sym own)) ∙ ap kept' (sym own) ∙ held) in
                  let was : (keeps next kept s out.student || out.student == i) ≡ true = (put-out out moved).1 in
                  let stood : keeps next kept s out.student ≡ true = left-true (keeps next kept s out.student) (out.student == i) (ne_eqb out.student i not_out) was in
                  let parts = and_parts (has next s out.student) (kept out.student) stood in
                  ahead-trans m s j out.student l j_ahead (moved.best.ahead l out.student before waited (has-true next s out.student parts.0) parts.1)
            ]
      ]
    where
      drop-true : (a b : Bool) → b ≡ false → (a && not b) ≡ false → a ≡ false
      drop-true true true refused e = absurd (true≢false refused)
      drop-true true false refused e = e
      drop-true false b refused e = refl

      left-true : (a b : Bool) → b ≡ false → (a || b) ≡ true → a ≡ true
      left-true true b refused holds = refl
      left-true false b refused holds = absurd (false≢true (sym refused ∙ holds))

  -- the school keeps the best
  pub keeps-more : (out : Option Key) → Moved m next next' kept kept' s i out keys new → KeepsBest m next' kept' s new
  keeps-more None moved = record {
    exact_keys = stays None moved;
    within = moved.offered.within;
    full = λ l at waits. absurd (room-none moved l at waits);
    ahead = λ l j at waits at_j held. absurd (room-none moved l at waits);
  }
  keeps-more (Some out) moved = record {
    exact_keys = stays (Some out) moved;
    within = moved.offered.within;
    full = λ l at waits. moved.offered.full refl;
    ahead = ahead-all out moved;
  }

  -- and every other school the same
  pub keeps-others : (out : Option Key) → Moved m next next' kept kept' s i out keys new → (t : ℕ) (others : List Key) → (t ≡ s → ⊥) → KeepsBest m next kept t others → KeepsBest m next' kept' t others
  keeps-others out moved t others apart best =
      keeps-still m next next' kept kept' t others
      (λ j at.
      let not_own : j ≡ i → ⊥ = λ same. apart (same_Some t s (sym at ∙ ap next' same ∙ moved.here)) in
      (sym (moved.others j not_own) ∙ at, same-kept j not_own at))
      (λ j at held.
      let not_own : j ≡ i → ⊥ = λ same. none-some t (sym moved.nowhere ∙ ap next (sym same) ∙ at) in
      let still : next' j ≡ Some t = moved.others j not_own ∙ at in
      (still, same-kept j not_own still ∙ held))
      best
    where
      same-kept : (j : ℕ) → (j ≡ i → ⊥) → next' j ≡ Some t → kept' j ≡ kept j
      same-kept j not_own at = elim (cases_Bool (is_out out j)) [
        | inl so ↦ absurd (apart (same_Some t s (sym at ∙ out-there out moved j so)))
        | inr refused ↦ moved.others_kept j not_own ∙ ap (λ b. kept j && not b) refused ∙ and-true (kept j)
      ]
        where
          and-true : (a : Bool) → (a && not false) ≡ a
          and-true true = refl
          and-true false = refl
