-- At each school the students stand in a strict order.
use Rattle.std.proofs.Common.{◌≡◌, ◌⊎◌, ◌↔◌, inl, inr, subst, ℕ, true, false, arith}
use Rattle.std.specs.declared.cmp.Ordering.TheVariants.{Less, Equal, Greater}
use Rattle.std.proofs.lemmas.Bool.Decides.{nat_tests}
use Rattle.std.proofs.lemmas.Bool.{cases_Bool}
use Rattle.sc_papers.specs.Market.{Market}
use Rattle.sc_papers.specs.Key.{IsStrictOrder, is_before, is_ahead, key_cmp, key_of}
use Rattle.sc_papers.specs.declared.key.Key.{Key}

pub before-irrefl : (a : Key) → is_before a a ≡ false
before-irrefl a = grind (arith, nat_tests)

pub before-trans : (a b c : Key) → is_before a b ≡ true → is_before b c ≡ true → is_before a c ≡ true
before-trans a b c first second = grind (arith, nat_tests)

pub before-asymm : (a b : Key) → is_before a b ≡ true → is_before b a ≡ false
before-asymm a b first = grind (arith, nat_tests)

pub behind-trans : (a b c : Key) → is_before a b ≡ false → is_before b c ≡ false → is_before a c ≡ false
behind-trans a b c first second = grind (arith, nat_tests)

-- two keys of which neither is ahead are one
pub one-key : (a b : Key) → is_before a b ≡ false → is_before b a ≡ false → a ≡ b
one-key a b first second =
    let class : a.class ≡ b.class = grind (arith, nat_tests) in
    let draw : a.draw ≡ b.draw = grind (arith, nat_tests) in
    let student : a.student ≡ b.student = grind (arith, nat_tests) in
    λ t. let key : Key = record { class = class t; draw = draw t; student = student t } in key

-- nobody is ahead of themselves
pub ahead-irrefl : (m : Market) (s i : ℕ) → is_ahead m s i i ≡ false
unfolding is_ahead
ahead-irrefl m s i = before-irrefl (key_of m i s)

pub ahead-trans : (m : Market) (s i j k : ℕ) → is_ahead m s i j ≡ true → is_ahead m s j k ≡ true → is_ahead m s i k ≡ true
unfolding is_ahead
ahead-trans m s i j k first second = before-trans (key_of m i s) (key_of m j s) (key_of m k s) first second

pub ahead-asymm : (m : Market) (s i j : ℕ) → is_ahead m s i j ≡ true → is_ahead m s j i ≡ false
unfolding is_ahead
ahead-asymm m s i j first = before-asymm (key_of m i s) (key_of m j s) first

pub before-total : (a b : Key) → (a.student ≡ b.student → ⊥) → is_before a b ≡ false → is_before b a ≡ true
before-total a b apart behind = grind (arith, nat_tests)

-- of two students one is ahead
pub ahead-total : (m : Market) (s i j : ℕ) → (i ≡ j → ⊥) → (is_ahead m s i j ≡ true) ⊎ (is_ahead m s j i ≡ true)
unfolding is_ahead key_of
ahead-total m s i j apart =
    elim (cases_Bool (is_before (key_of m i s) (key_of m j s))) [
      | inl ahead ↦ inl ahead
      | inr behind ↦ inr (before-total (key_of m i s) (key_of m j s) apart behind)
    ]

pub ahead-strict : (m : Market) (s : ℕ) → IsStrictOrder (is_ahead m s)
ahead-strict m s = record { irreflexive = ahead-irrefl m s; transitive = ahead-trans m s; total = ahead-total m s }

pub cmp-less : (a b : Key) → (key_cmp a b ≡ Less ↔ is_before a b ≡ true)
cmp-less a b = (λ less. grind (arith, nat_tests), λ ahead. grind (arith, nat_tests))

pub cmp-greater : (a b : Key) → (key_cmp a b ≡ Greater ↔ is_before b a ≡ true)
cmp-greater a b = (λ greater. grind (arith, nat_tests), λ ahead. grind (arith, nat_tests))

pub cmp-equal : (a b : Key) → (key_cmp a b ≡ Equal ↔ a ≡ b)
cmp-equal a b = (λ equal. one_key equal, λ same. subst (λ key. key_cmp a key ≡ Equal) same (tied_itself a))
  where
    tied_itself : (key : Key) → key_cmp key key ≡ Equal
    tied_itself key = grind (arith, nat_tests)

    one_key : key_cmp a b ≡ Equal → a ≡ b
    one_key equal = one-key a b (grind (arith, nat_tests)) (grind (arith, nat_tests))
