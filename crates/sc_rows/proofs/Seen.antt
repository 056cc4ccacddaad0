-- Keys whose students were offered before.
use Rattle.std.proofs.Common.{◌≡◌, refl, sym, ◌∙◌, subst, inl, inr, ℕ, nat_eq, Bool, true, false, List, [], ◌∷◌, ◌++◌, length, Option, None, Some, All, Contains, arith}
use Rattle.std.specs.List.{list_any}
use Rattle.std.specs.List.Sorted.{IsPermutation}
use Rattle.std.specs.Option.{option_to_list}
use Rattle.std.proofs.lemmas.Bool.{eq-eqb, or_left, or_right, false≢true}
use Rattle.std.proofs.lemmas.List.{get_or_append_left, get_or_push, length_push}
use Rattle.std.proofs.lemmas.List.Elements.{All-cons, All-tail, All-weaker, All-contains}
use Rattle.std.proofs.lemmas.List.Sorted.{All-permutation}
use Rattle.sc_papers.specs.declared.key.Key.{Key}
use Rattle.sc_papers.proofs.Counting.{contains-cons}

any-contains : (xs : List ℕ) (x : ℕ) → Contains xs x → list_any (λ y. nat_eq y x) xs ≡ true
any-contains [] x (k, low, at) = absurd (omega (arith, low))
any-contains (y ∷ ys) x among = elim (contains-cons y ys x among) [
  | inl same ↦ or_left (nat_eq y x) (list_any (λ z. nat_eq z x) ys) (eq-eqb y x same)
  | inr later ↦ or_right (nat_eq y x) (list_any (λ z. nat_eq z x) ys) (any-contains ys x later)
]

contains-push : (xs : List ℕ) (y x : ℕ) → Contains xs x → Contains (xs ++ y ∷ []) x
contains-push xs y x (k, low, at) = (k, omega (arith, low, length_push xs y), get_or_append_left xs (y ∷ []) x k low ∙ at)

contains-pushed : (xs : List ℕ) (y : ℕ) → Contains (xs ++ y ∷ []) y
contains-pushed xs y = (length xs, omega (arith, length_push xs y), get_or_push xs y y (length xs) refl)

-- the key of one who was not seen is not held
pub unseen-new : (seen : List ℕ) (held : List Key) (key : Key) (b : Bool) → All (λ k. Contains seen k.student) held → b ≡ list_any (λ y. nat_eq y key.student) seen → b ≡ false → Contains held key → ⊥
unseen-new seen held key b known tells missed among =
    false≢true (sym missed ∙ tells ∙ any-contains seen key.student (All-contains (λ k. Contains seen k.student) held key known among))

-- whoever is held after an offer was seen
pub seen-after : (seen more : List ℕ) (old new : List Key) (key : Key) (out : Option Key) → All (λ k. Contains seen k.student) old → more ≡ seen ++ key.student ∷ [] → IsPermutation (key ∷ old) (option_to_list out ++ new) → All (λ k. Contains more k.student) new
seen-after seen more old new key out known is together =
    let before : All (λ (k : Key). Contains more k.student) (key ∷ old) =
    All-cons (λ (k : Key). Contains more k.student) key old (subst (λ xs. Contains xs key.student) (sym is) (contains-pushed seen key.student))
    (All-weaker (λ (k : Key). Contains seen k.student) (λ (k : Key). Contains more k.student) (λ k in_seen. subst (λ xs. Contains xs k.student) (sym is) (contains-push seen key.student k.student in_seen)) old known) in
    rest out (All-permutation (λ (k : Key). Contains more k.student) (key ∷ old) (option_to_list out ++ new) together before)
  where
    rest : (o : Option Key) → All (λ (k : Key). Contains more k.student) (option_to_list o ++ new) → All (λ (k : Key). Contains more k.student) new
    rest None all = all
    rest (Some x) all = All-tail (λ (k : Key). Contains more k.student) x new all
