-- Turns of entry stay turns where a student enters, two change places, or the last one withdraws.
use Rattle.std.proofs.Common.{◌≡◌, refl, sym, ap, ◌∙◌, ℕ, zero, suc, ◌-◌, ◌<◌, cond, List, [], ◌∷◌, ◌++◌, length, map, take, slice_get, slice_set, swap, Option, Some, None, inl, inr, ◌⊎◌, arith}
use Rattle.std.specs.Option.{option_and_then, option_map}
use Rattle.std.proofs.lemmas.Bool.{eq-eqb}
use Rattle.std.proofs.lemmas.Bool.Decides.{nat_tests}
use Rattle.std.proofs.lemmas.List.{length-append, length-set}
use Rattle.std.proofs.lemmas.Option.{none-some, same_Some, slice_get-map, slice_get_within}
use Rattle.indexmap.proofs.IndexTableLemmas.Indexes.{swap_self}
use Rattle.indexmap.proofs.ReorderLemmas.{exchange-twice}
use Rattle.sc_checkpoint.proofs.Replacing.{get-set-other, get-set-same}
use Rattle.sc_repair.specs.Turns.{AreTurns, TurnsOfEntry, entered, exchanged, first_turns, left, swapped, unless_at}
use Rattle.sc_repair.proofs.InTurn.{Alone, Avoids, exchanged-other, seam-there, swapped-there, take-there}

-- lists in which the same stands everywhere are the same
get-ext : {X : Type 0} (xs ys : List X) → ((p : ℕ) → slice_get xs p ≡ slice_get ys p) → xs ≡ ys
get-ext [] [] same = refl
get-ext [] (y ∷ ys) same = absurd (none-some y (same 0))
get-ext (x ∷ xs) [] same = absurd (none-some x (sym (same 0)))
get-ext (x ∷ xs) (y ∷ ys) same =
    let rest = get-ext xs ys (λ p. same (suc p)) in
    λ t. same_Some x y (same 0) t ∷ rest t

-- what stands in a part of a list
get-take : {X : Type 0} (k : ℕ) (xs : List X) (p : ℕ) → p < k → slice_get (take k xs) p ≡ slice_get xs p
get-take zero xs p low = absurd (omega (arith, low))
get-take (suc k) [] p low = refl
get-take (suc k) (x ∷ xs) zero low = refl
get-take (suc k) (x ∷ xs) (suc p) low = get-take k xs p (omega (arith, low))

get-append-low : {X : Type 0} (xs ys : List X) (p : ℕ) → p < length xs → slice_get (xs ++ ys) p ≡ slice_get xs p
get-append-low [] ys p low = absurd (omega (arith, low))
get-append-low (x ∷ xs) ys zero low = refl
get-append-low (x ∷ xs) ys (suc p) low = get-append-low xs ys p (omega (arith, low))

-- each position has its turn, and nobody stands past the last one
pub turn-alone : (t : TurnsOfEntry) (p turn : ℕ) → AreTurns t → slice_get t.turns p ≡ Some turn → Alone t.positions p turn
turn-alone t p turn are own = record {
  here = (are turn p).1 own;
  alone = λ other here. same_Some other turn (sym ((are other p).0 here) ∙ own);
}

pub turn-of : {X : Type 0} (xs : List X) (p : ℕ) → p < length xs → (x : X) × (slice_get xs p ≡ Some x)
turn-of [] p low = absurd (omega (arith, low))
turn-of (x ∷ xs) zero low = (x, refl)
turn-of (x ∷ xs) (suc p) low = turn-of xs p (omega (arith, low))

pub turns-avoid : (t : TurnsOfEntry) → AreTurns t → Avoids t.positions (length t.turns)
turns-avoid t are turn here = let within = slice_get_within t.turns (length t.turns) turn ((are turn (length t.turns)).0 here) in absurd (omega (arith, within))

-- of a list and one item more
put-cases : {X : Type 0} (xs : List X) (y x : X) (i : ℕ) → slice_get (xs ++ y ∷ []) i ≡ Some x → (slice_get xs i ≡ Some x) ⊎ ((i ≡ length xs) × (y ≡ x))
put-cases [] y x zero here = inr (refl, same_Some y x here)
put-cases [] y x (suc i) here = absurd (none-some x here)
put-cases (z ∷ xs) y x zero here = inl here
put-cases (z ∷ xs) y x (suc i) here = elim (put-cases xs y x i here) [ inl old ↦ inl old | inr (at, is) ↦ inr (ap suc at, is) ]

put-old : {X : Type 0} (xs : List X) (y x : X) (i : ℕ) → slice_get xs i ≡ Some x → slice_get (xs ++ y ∷ []) i ≡ Some x
put-old xs y x i here = get-append-low xs (y ∷ []) i (slice_get_within xs i x here) ∙ here

pub AreTurns-entered : (t : TurnsOfEntry) → AreTurns t → AreTurns (entered t)
AreTurns-entered t are turn p = (there, back)
  where
    there : slice_get (entered t).positions turn ≡ Some (Some p) → slice_get (entered t).turns p ≡ Some turn
    there here = elim (put-cases t.positions (Some (length t.turns)) (Some p) turn here) [
      | inl old ↦ put-old t.turns (length t.positions) turn p ((are turn p).0 old)
      | inr (at, is) ↦ ap (slice_get (entered t).turns) (sym (same_Some (length t.turns) p is)) ∙ seam-there t.turns (length t.positions) [] ∙ ap Some (sym at)
    ]

    back : slice_get (entered t).turns p ≡ Some turn → slice_get (entered t).positions turn ≡ Some (Some p)
    back own = elim (put-cases t.turns (length t.positions) turn p own) [
      | inl old ↦ put-old t.positions (Some (length t.turns)) (Some p) turn ((are turn p).1 old)
      | inr (at, is) ↦ ap (slice_get (entered t).positions) (sym is) ∙ seam-there t.positions (Some (length t.turns)) [] ∙ ap (λ k. Some (Some k)) (sym at)
    ]

pub AreTurns-first : (count : ℕ) → AreTurns (first_turns count)
AreTurns-first zero = λ turn p. (λ here. absurd (none-some (Some p) here), λ own. absurd (none-some turn own))
AreTurns-first (suc count) = AreTurns-entered (first_turns count) (AreTurns-first count)

-- what a change of the positions one by one leaves at a place
mapped-there : (f : Option ℕ → Option ℕ) (places : List (Option ℕ)) (turn p : ℕ) → f None ≡ None → slice_get (map f places) turn ≡ Some (Some p) → (q : ℕ) × (slice_get places turn ≡ Some (Some q)) × (f (Some q) ≡ Some p)
mapped-there f [] turn p none here = absurd (none-some (Some p) here)
mapped-there f (None ∷ places) zero p none here = absurd (none-some p (sym none ∙ same_Some (f None) (Some p) here))
mapped-there f (Some q ∷ places) zero p none here = (q, refl, same_Some (f (Some q)) (Some p) here)
mapped-there f (place ∷ places) (suc turn) p none here = mapped-there f places turn p none here

pub AreTurns-swapped : (t : TurnsOfEntry) (a b : ℕ) → a < length t.turns → b < length t.turns → AreTurns t → AreTurns (swapped a b t)
AreTurns-swapped t a b low high are turn p = (there, back)
  where
    there : slice_get (swapped a b t).positions turn ≡ Some (Some p) → slice_get (swapped a b t).turns p ≡ Some turn
    there here =
        let (q, old, is) = mapped-there (option_map (exchanged a b)) t.positions turn p refl here in
        ap (slice_get (swap t.turns a b)) (sym (same_Some (exchanged a b q) p is)) ∙ swapped-there t.turns a b q low high ∙ (are turn q).0 old

    back : slice_get (swapped a b t).turns p ≡ Some turn → slice_get (swapped a b t).positions turn ≡ Some (Some p)
    back own =
        let q : ℕ = exchanged a b p in
        let twice : exchanged a b q ≡ p = exchange-twice a b p in
        let old : slice_get t.turns q ≡ Some turn = sym (swapped-there t.turns a b q low high) ∙ ap (slice_get (swap t.turns a b)) twice ∙ own in
        slice_get-map (option_map (exchanged a b)) t.positions turn ∙ ap (option_map (option_map (exchanged a b))) ((are turn q).1 old) ∙ ap (λ k. Some (Some k)) twice

-- a position that is left is another one
unless-some : (gone q p : ℕ) → unless_at gone q ≡ Some p → (q ≡ p) × (q ≡ gone → ⊥)
unless-some gone q p is = (grind (arith, nat_tests, is), λ same. grind (arith, nat_tests, is, same))

pub unless-other : (gone p : ℕ) → (p ≡ gone → ⊥) → unless_at gone p ≡ Some p
unless-other gone p apart = grind (arith, nat_tests, apart)

pub AreTurns-left : (t : TurnsOfEntry) → AreTurns t → AreTurns (left t)
AreTurns-left t are turn p = (there, back)
  where
    there : slice_get (left t).positions turn ≡ Some (Some p) → slice_get (left t).turns p ≡ Some turn
    there here =
        let (q, old, is) = mapped-there (option_and_then (unless_at (length t.turns - 1))) t.positions turn p refl here in
        let (same, apart) = unless-some (length t.turns - 1) q p is in
        let own : slice_get t.turns p ≡ Some turn = (are turn p).0 (old ∙ ap (λ k. Some (Some k)) same) in
        get-take (length t.turns - 1) t.turns p (omega (arith, slice_get_within t.turns p turn own, same, apart)) ∙ own

    back : slice_get (left t).turns p ≡ Some turn → slice_get (left t).positions turn ≡ Some (Some p)
    back own =
        let (low, old) = take-there (length t.turns - 1) p t.turns turn own in
        slice_get-map (option_and_then (unless_at (length t.turns - 1))) t.positions turn
        ∙ ap (option_map (option_and_then (unless_at (length t.turns - 1)))) ((are turn p).1 old)
        ∙ ap Some (unless-other (length t.turns - 1) p (λ same. absurd (omega (arith, low, same))))

pub exchanged-first : (a b : ℕ) → exchanged a b a ≡ b
exchanged-first a b = grind (arith, nat_tests)

pub exchanged-second : (a b : ℕ) → exchanged a b b ≡ a
exchanged-second a b = grind (arith, nat_tests)

-- what the two writes of a change of places make
pub swap-written : (places : List (Option ℕ)) (a b first second : ℕ) → Alone places a first → Alone places b second
    → slice_set (slice_set places first (Some b)) second (Some a) ≡ map (option_map (exchanged a b)) places
swap-written places a b first second one two = get-ext _ _ each
  where
    -- what stands at a place that neither write meets
    kept : (i : ℕ) (found : Option (Option ℕ)) → slice_get places i ≡ found → (i ≡ first → ⊥) → (i ≡ second → ⊥) → found ≡ option_map (option_map (exchanged a b)) found
    kept i None there apart away = refl
    kept i (Some None) there apart away = refl
    kept i (Some (Some q)) there apart away =
        ap (λ k. Some (Some k)) (sym (exchanged-other a b q
        (λ same. apart (one.alone i (there ∙ ap (λ k. Some (Some k)) same)))
        (λ same. away (two.alone i (there ∙ ap (λ k. Some (Some k)) same)))))

    each : (i : ℕ) → slice_get (slice_set (slice_set places first (Some b)) second (Some a)) i ≡ slice_get (map (option_map (exchanged a b)) places) i
    each i =
        let as_mapped : slice_get (map (option_map (exchanged a b)) places) i ≡ option_map (option_map (exchanged a b)) (slice_get places i) = slice_get-map (option_map (exchanged a b)) places i in
        let once = slice_set places first (Some b) in
        grind (
          arith,
          as_mapped,
          kept i (slice_get places i) refl,
          one.here,
          two.here,
          exchanged-first a b,
          exchanged-second a b,
          slice_get_within places second (Some b) two.here,
          slice_get_within places first (Some a) one.here,
          length-set places first (Some b),
          get-set-same once second (Some a),
          get-set-other once second i (Some a),
          get-set-same places first (Some b),
          get-set-other places first i (Some b),
        )

-- and the one of a withdrawal
pub left-written : (places : List (Option ℕ)) (gone turn : ℕ) → Alone places gone turn → slice_set places turn None ≡ map (option_and_then (unless_at gone)) places
left-written places gone turn one = get-ext _ _ each
  where
    kept : (i : ℕ) (found : Option (Option ℕ)) → slice_get places i ≡ found → (i ≡ turn → ⊥) → found ≡ option_map (option_and_then (unless_at gone)) found
    kept i None there apart = refl
    kept i (Some None) there apart = refl
    kept i (Some (Some q)) there apart = ap Some (sym (unless-other gone q (λ same. apart (one.alone i (there ∙ ap (λ k. Some (Some k)) same)))))

    gone-there : unless_at gone gone ≡ None
    gone-there = (λ t. cond (eq-eqb gone gone refl t) None (Some gone))

    each : (i : ℕ) → slice_get (slice_set places turn None) i ≡ slice_get (map (option_and_then (unless_at gone)) places) i
    each i =
        let as_mapped : slice_get (map (option_and_then (unless_at gone)) places) i ≡ option_map (option_and_then (unless_at gone)) (slice_get places i) = slice_get-map (option_and_then (unless_at gone)) places i in
        grind (arith, as_mapped, kept i (slice_get places i) refl, one.here, gone-there, slice_get_within places turn (Some gone) one.here, get-set-same places turn None, get-set-other places turn i None)

-- what the writes need and make
pub turn-within : (t : TurnsOfEntry) (p turn : ℕ) → AreTurns t → slice_get t.turns p ≡ Some turn → turn < length t.positions
turn-within t p turn are own = slice_get_within t.positions turn (Some p) ((are turn p).1 own)

pub swap-made : (t : TurnsOfEntry) (turns : List ℕ) (a b first second : ℕ) → AreTurns t → slice_get t.turns a ≡ Some first → slice_get t.turns b ≡ Some second → turns ≡ swap t.turns a b
    → record { positions = slice_set (slice_set t.positions first (Some b)) second (Some a); turns = turns } ≡ swapped a b t
swap-made t turns a b first second are own other is =
    (λ u. let r : TurnsOfEntry = record { positions = swap-written t.positions a b first second (turn-alone t a first are own) (turn-alone t b second are other) u; turns = is u } in r)

pub last-own : (xs ys : List ℕ) (turn : ℕ) → xs ≡ ys ++ turn ∷ [] → slice_get xs (length xs - 1) ≡ Some turn
last-own xs ys turn is =
    let short : length xs - 1 ≡ length ys = omega (arith, ap (λ (l : List ℕ). length l) is, length-append ys (turn ∷ [])) in
    (λ u. slice_get (is u) (short u)) ∙ seam-there ys turn []

pub left-made : (t : TurnsOfEntry) (turns : List ℕ) (turn : ℕ) → AreTurns t → slice_get t.turns (length t.turns - 1) ≡ Some turn → turns ≡ take (length t.turns - 1) t.turns
    → record { positions = slice_set t.positions turn None; turns = turns } ≡ left t
left-made t turns turn are own is =
    (λ u. let r : TurnsOfEntry = record { positions = left-written t.positions (length t.turns - 1) turn (turn-alone t (length t.turns - 1) turn are own) u; turns = is u } in r)

-- where nobody stands, nobody goes
pub left-nobody : (t : TurnsOfEntry) (turns : List ℕ) → AreTurns t → length t.turns ≡ 0 → turns ≡ take (length t.turns - 1) t.turns → record { positions = t.positions; turns = turns } ≡ left t
left-nobody t turns are none is =
    (λ u. let r : TurnsOfEntry = record { positions = get-ext t.positions (map (option_and_then (unless_at (length t.turns - 1))) t.positions) each u; turns = is u } in r)
  where
    kept : (i : ℕ) (found : Option (Option ℕ)) → slice_get t.positions i ≡ found → found ≡ option_map (option_and_then (unless_at (length t.turns - 1))) found
    kept i None there = refl
    kept i (Some None) there = refl
    kept i (Some (Some q)) there = absurd (omega (arith, none, slice_get_within t.turns q i ((are i q).0 there)))

    each : (i : ℕ) → slice_get t.positions i ≡ slice_get (map (option_and_then (unless_at (length t.turns - 1))) t.positions) i
    each i = kept i (slice_get t.positions i) refl ∙ sym (slice_get-map (option_and_then (unless_at (length t.turns - 1))) t.positions i)

-- whoever changes places with themselves stays
pub swapped-self : (t : TurnsOfEntry) (a b : ℕ) → a ≡ b → t ≡ swapped a b t
swapped-self t a b same =
    (λ u. let r : TurnsOfEntry = record { positions = stays t.positions u; turns = (sym (swap_self t.turns a) ∙ ap (swap t.turns a) same) u } in r)
  where
    own : (p : ℕ) → exchanged a b p ≡ p
    own p = grind (arith, nat_tests, same)

    stays : (places : List (Option ℕ)) → places ≡ map (option_map (exchanged a b)) places
    stays [] = refl
    stays (None ∷ places) = ap (λ rest. None ∷ rest) (stays places)
    stays (Some p ∷ places) = (λ u. Some (sym (own p) u) ∷ stays places u)
