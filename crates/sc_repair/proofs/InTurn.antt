-- Items in order of turn, and what becomes of them where items change places, are put last, go, or are replaced.
use Rattle.std.proofs.Common.{◌≡◌, refl, sym, ap, subst, ◌∙◌, ℕ, zero, suc, ◌+◌, ◌<◌, ◌≤◌, List, [], ◌∷◌, ◌++◌, length, map, take, drop, remove, slice_get, slice_set, get_or, swap, Option, Some, None, IsPermutation, arith}
use Rattle.std.proofs.lemmas.Grind.{common_steps}
use Rattle.std.specs.List.{cons_option}
use Rattle.std.specs.Option.{option_and_then, option_map}
use Rattle.std.proofs.lemmas.Bool.Decides.{nat_tests}
use Rattle.std.proofs.Math.Seq.{set-append_seam}
use Rattle.std.proofs.lemmas.List.Edits.{length-swap}
use Rattle.std.proofs.lemmas.List.Elements.{filter_map-append}
use Rattle.std.proofs.lemmas.List.Sorted.{IsPermutation-cons, IsPermutation-middle, IsPermutation-refl, IsPermutation-sym, IsPermutation-to_front, IsPermutation-trans}
use Rattle.std.proofs.lemmas.Option.{gets, slice_get_cases, get_or_from_slice_get, none-some, same_Some, slice_get-get_or, slice_get_past, slice_get_within}
use Rattle.indexmap.proofs.ReorderLemmas.{exchange-twice, exchange-within, get_or-swap}
use Rattle.sc_checkpoint.proofs.Replacing.{get-set-other, get-set-same}
use Rattle.sc_repair.specs.Turns.{exchanged, in_turn, unless_at}

-- what stands at a position, if there is one
abbrev at : {X : Type 0} → List X → Option ℕ → Option X
at xs place = option_and_then (slice_get xs) place

-- nobody's position is this one
abbrev pub Avoids : List (Option ℕ) → ℕ → Type 0
Avoids places p = (turn : ℕ) → slice_get places turn ≡ Some (Some p) → ⊥

-- where items are equal at each position that is used, so are the items in turn
alike : {X : Type 0} (places : List (Option ℕ)) (xs ys : List X) → ((turn p : ℕ) → slice_get places turn ≡ Some (Some p) → slice_get ys p ≡ slice_get xs p) → in_turn places ys ≡ in_turn places xs
alike [] xs ys same = refl
alike (None ∷ places) xs ys same = alike places xs ys (λ turn p here. same (suc turn) p here)
alike {X = X} (Some p ∷ places) xs ys same =
    (λ t. cons_option (same 0 p refl t) (alike places xs ys (λ turn q here. same (suc turn) q here) t))

-- a position past the last item
pub slice_get_none : {X : Type 0} (xs : List X) (p : ℕ) → slice_get xs p ≡ None → length xs ≤ p
slice_get_none [] p none = omega arith
slice_get_none (x ∷ xs) zero none = absurd (none-some x (sym none))
slice_get_none (x ∷ xs) (suc p) none = let rest = slice_get_none xs p none in omega (arith, rest)

pub exchanged-other : (a b p : ℕ) → (p ≡ a → ⊥) → (p ≡ b → ⊥) → exchanged a b p ≡ p
exchanged-other a b p first second = grind (arith, nat_tests)

-- two items change places, and whoever stands there
pub swapped-there : {X : Type 0} (xs : List X) (a b p : ℕ) → a < length xs → b < length xs → slice_get (swap xs a b) (exchanged a b p) ≡ slice_get xs p
swapped-there {X = X} xs a b p low high = go (slice_get xs p) refl
  where
    go : (found : Option X) → slice_get xs p ≡ found → slice_get (swap xs a b) (exchanged a b p) ≡ slice_get xs p
    go None none =
        let past = slice_get_none xs p none in
        slice_get_past (swap xs a b) (exchanged a b p) (omega (arith, past, length-swap xs a b, exchanged-other a b p (λ same. absurd (omega (arith, same, past, low))) (λ same. absurd (omega (arith, same, past, high)))))
        ∙ sym none
    go (Some x) there =
        let within = slice_get_within xs p x there in
        let same = length-swap xs a b in
        let other = exchange-within a b (length xs) p low high within in
        slice_get-get_or (swap xs a b) (exchanged a b p) x (omega (arith, same, other))
        ∙ ap Some (get_or-swap xs a b x low high (exchanged a b p) ∙ ap (λ i. get_or xs i x) (exchange-twice a b p) ∙ get_or_from_slice_get xs p x x there)
        ∙ sym there

pub in_turn-swapped : {X : Type 0} (places : List (Option ℕ)) (xs : List X) (a b : ℕ) → a < length xs → b < length xs → in_turn (map (option_map (exchanged a b)) places) (swap xs a b) ≡ in_turn places xs
in_turn-swapped [] xs a b low high = refl
in_turn-swapped (None ∷ places) xs a b low high = in_turn-swapped places xs a b low high
in_turn-swapped (Some p ∷ places) xs a b low high =
    (λ t. cons_option (swapped-there xs a b p low high t) (in_turn-swapped places xs a b low high t))

-- an item put last stands at no position that is used
more-there : {X : Type 0} (xs : List X) (x : X) (p : ℕ) → (p ≡ length xs → ⊥) → slice_get (xs ++ x ∷ []) p ≡ slice_get xs p
more-there [] x zero apart = absurd (apart refl)
more-there [] x (suc p) apart = refl
more-there (y ∷ xs) x zero apart = refl
more-there (y ∷ xs) x (suc p) apart = more-there xs x p (λ same. apart (omega (arith, same)))

pub seam-there : {X : Type 0} (xs : List X) (y : X) (ys : List X) → slice_get (xs ++ y ∷ ys) (length xs) ≡ Some y
seam-there [] y ys = refl
seam-there (x ∷ xs) y ys = seam-there xs y ys

pub in_turn-more : {X : Type 0} (places : List (Option ℕ)) (xs : List X) (x : X) → Avoids places (length xs) → in_turn places (xs ++ x ∷ []) ≡ in_turn places xs
in_turn-more places xs x avoids = alike places xs (xs ++ x ∷ []) (λ turn p here. more-there xs x p (λ same. avoids turn (here ∙ ap (λ q. Some (Some q)) same)))

-- whoever enters is the last one in order of turn
pub in_turn-entered : {X : Type 0} (places : List (Option ℕ)) (xs : List X) (x : X) → Avoids places (length xs) → in_turn (places ++ Some (length xs) ∷ []) (xs ++ x ∷ []) ≡ in_turn places xs ++ x ∷ []
in_turn-entered places xs x avoids =
    filter_map-append (λ place. at (xs ++ x ∷ []) place) places (Some (length xs) ∷ [])
    ∙ (λ t. in_turn-more places xs x avoids t ++ cons_option (seam-there xs x [] t) [])

-- the items before and after the one of a turn, if there is one
in_turn-parts : {X : Type 0} (places : List (Option ℕ)) (xs : List X) (turn p : ℕ) → slice_get places turn ≡ Some (Some p)
    → in_turn places xs ≡ in_turn (take turn places) xs ++ cons_option (slice_get xs p) (in_turn (drop (suc turn) places) xs)
in_turn-parts [] xs turn p here = absurd (none-some (Some p) here)
in_turn-parts (place ∷ places) xs zero p here = ap (λ q. cons_option (at xs q) (in_turn places xs)) (same_Some place (Some p) here)
in_turn-parts (None ∷ places) xs (suc turn) p here = in_turn-parts places xs turn p here
in_turn-parts {X = X} (Some q ∷ places) xs (suc turn) p here = go (slice_get xs q) (in_turn-parts places xs turn p here)
  where
    go : (found : Option X) → in_turn places xs ≡ in_turn (take turn places) xs ++ cons_option (slice_get xs p) (in_turn (drop (suc turn) places) xs)
        → cons_option found (in_turn places xs) ≡ cons_option found (in_turn (take turn places) xs) ++ cons_option (slice_get xs p) (in_turn (drop (suc turn) places) xs)
    go None rest = rest
    go (Some y) rest = ap (λ ys. y ∷ ys) rest

in_turn-found : {X : Type 0} (places : List (Option ℕ)) (xs : List X) (turn p : ℕ) (found : Option X) → slice_get places turn ≡ Some (Some p) → slice_get xs p ≡ found
    → in_turn places xs ≡ in_turn (take turn places) xs ++ cons_option found (in_turn (drop (suc turn) places) xs)
in_turn-found places xs turn p found here there =
    in_turn-parts places xs turn p here ∙ ap (λ o. in_turn (take turn places) xs ++ cons_option o (in_turn (drop (suc turn) places) xs)) there

-- an item is replaced
in_turn-apart : {X : Type 0} (places : List (Option ℕ)) (xs : List X) (p : ℕ) (x : X) → Avoids places p → in_turn places (slice_set xs p x) ≡ in_turn places xs
in_turn-apart places xs p x avoids = alike places xs (slice_set xs p x) (λ turn q here. get-set-other xs p q x (λ same. avoids turn (here ∙ ap (λ k. Some (Some k)) same)))

-- before and after the turn of a student, nobody stands at that student's position
pub take-there : {X : Type 0} (n k : ℕ) (xs : List X) (x : X) → slice_get (take n xs) k ≡ Some x → (k < n) × (slice_get xs k ≡ Some x)
take-there zero k xs x here = absurd (none-some x here)
take-there (suc n) k [] x here = absurd (none-some x here)
take-there (suc n) zero (y ∷ xs) x here = (omega arith, here)
take-there (suc n) (suc k) (y ∷ xs) x here = let rest = take-there n k xs x here in (omega (arith, rest.0), rest.1)

pub drop-there : {X : Type 0} (n k : ℕ) (xs : List X) → slice_get (drop n xs) k ≡ slice_get xs (n + k)
drop-there zero k xs = ap (slice_get xs) (omega arith)
drop-there (suc n) k [] = refl
drop-there (suc n) k (y ∷ xs) = let next : suc (n + k) ≡ suc n + k = omega arith in drop-there n k xs ∙ ap (slice_get (y ∷ xs)) next

-- one student alone stands at a position, in this turn
pub record Alone (places : List (Option ℕ)) (p turn : ℕ) : Type 0 where
  pub here : slice_get places turn ≡ Some (Some p)
  pub alone : (other : ℕ) → slice_get places other ≡ Some (Some p) → other ≡ turn

avoids-before : (places : List (Option ℕ)) (p turn : ℕ) → Alone places p turn → Avoids (take turn places) p
avoids-before places p turn one k here = let early = take-there turn k places (Some p) here in absurd (omega (arith, early.0, one.alone k early.1))

avoids-after : (places : List (Option ℕ)) (p turn : ℕ) → Alone places p turn → Avoids (drop (suc turn) places) p
avoids-after places p turn one k here =
    let late : slice_get places (suc turn + k) ≡ Some (Some p) = sym (drop-there (suc turn) k places) ∙ here in
    absurd (omega (arith, one.alone (suc turn + k) late))

-- how many come before a turn
abbrev pub earlier : {X : Type 0} → List (Option ℕ) → ℕ → List X → ℕ
earlier places turn xs = length (in_turn (take turn places) xs)

-- the item of a turn is replaced
pub in_turn-set : {X : Type 0} (places : List (Option ℕ)) (xs : List X) (p turn : ℕ) (x : X) → Alone places p turn → p < length xs
    → in_turn places (slice_set xs p x) ≡ slice_set (in_turn places xs) (earlier places turn xs) x
in_turn-set {X = X} places xs p turn x one low =
    let before : List X = in_turn (take turn places) xs in
    let after : List X = in_turn (drop (suc turn) places) xs in
    let old : X = get_or xs p x in
    in_turn-found places (slice_set xs p x) turn p (Some x) one.here (get-set-same xs p x low)
    ∙ (λ t. in_turn-apart (take turn places) xs p x (avoids-before places p turn one) t ++ x ∷ in_turn-apart (drop (suc turn) places) xs p x (avoids-after places p turn one) t)
    ∙ sym (set-append_seam before old after x)
    ∙ ap (λ ys. slice_set ys (length before) x) (sym (in_turn-found places xs turn p (Some old) one.here (slice_get-get_or xs p x low)))

-- whoever stands last goes: the others keep their order
pub remove-seam : {X : Type 0} (xs : List X) (y : X) (ys : List X) → remove (xs ++ y ∷ ys) (length xs) ≡ xs ++ ys
remove-seam [] y ys = refl
remove-seam (x ∷ xs) y ys = ap (λ rest. x ∷ rest) (remove-seam xs y ys)

unless-there : {X : Type 0} (xs : List X) (p : ℕ) → at xs (unless_at (length xs) p) ≡ slice_get xs p
unless-there xs p = grind (arith, nat_tests, slice_get_past xs p)

in_turn-unless : {X : Type 0} (places : List (Option ℕ)) (xs : List X) → in_turn (map (option_and_then (unless_at (length xs))) places) xs ≡ in_turn places xs
in_turn-unless [] xs = refl
in_turn-unless (None ∷ places) xs = in_turn-unless places xs
in_turn-unless (Some p ∷ places) xs = (λ t. cons_option (unless-there xs p t) (in_turn-unless places xs t))

-- with the last item and without it
with-last : {X : Type 0} (places : List (Option ℕ)) (xs : List X) (x : X) (turn : ℕ) → Alone places (length xs) turn
    → in_turn places (xs ++ x ∷ []) ≡ in_turn (take turn places) xs ++ x ∷ in_turn (drop (suc turn) places) xs
with-last places xs x turn one =
    in_turn-found places (xs ++ x ∷ []) turn (length xs) (Some x) one.here (seam-there xs x [])
    ∙ (λ t. in_turn-more (take turn places) xs x (avoids-before places (length xs) turn one) t ++ x ∷ in_turn-more (drop (suc turn) places) xs x (avoids-after places (length xs) turn one) t)

without-last : {X : Type 0} (places : List (Option ℕ)) (xs : List X) (turn : ℕ) → Alone places (length xs) turn
    → in_turn places xs ≡ in_turn (take turn places) xs ++ in_turn (drop (suc turn) places) xs
without-last places xs turn one = in_turn-found places xs turn (length xs) None one.here (slice_get_past xs (length xs) (omega arith))

-- so the item of the last student's turn is taken out
pub in_turn-left : {X : Type 0} (places : List (Option ℕ)) (xs : List X) (x : X) (turn : ℕ) → Alone places (length xs) turn
    → in_turn (map (option_and_then (unless_at (length xs))) places) xs ≡ remove (in_turn places (xs ++ x ∷ [])) (earlier places turn (xs ++ x ∷ []))
in_turn-left places xs x turn one =
    in_turn-unless places xs ∙ without-last places xs turn one
    ∙ sym (remove-seam (in_turn (take turn places) xs) x (in_turn (drop (suc turn) places) xs))
    ∙ sym (λ t. remove (with-last places xs x turn one t) (length (in_turn-more (take turn places) xs x (avoids-before places (length xs) turn one) t)))

pub last-apart : {X : Type 0} (x : X) (xs : List X) → (ys : List X) × (y : X) × (x ∷ xs ≡ ys ++ y ∷ []) × (length ys ≡ length xs)
last-apart x [] = ([], x, refl, refl)
last-apart x (z ∷ zs) = let (ys, y, is, same) = last-apart z zs in (x ∷ ys, y, ap (λ l. x ∷ l) is, ap suc same)

-- where each position has a turn, the items in turn are all of them
abbrev pub Each : List (Option ℕ) → ℕ → Type 0
Each places count = (p : ℕ) → p < count → (turn : ℕ) × Alone places p turn

in_turn-none : {X : Type 0} (places : List (Option ℕ)) → in_turn {X = X} places [] ≡ []
in_turn-none [] = refl
in_turn-none (None ∷ places) = in_turn-none places
in_turn-none (Some p ∷ places) = in_turn-none places

pub in_turn-permutes : {X : Type 0} (places : List (Option ℕ)) (xs : List X) → Each places (length xs) → IsPermutation xs (in_turn places xs)
in_turn-permutes {X = X} places xs each = go (length xs) xs refl each
  where
    go : (count : ℕ) (ys : List X) → length ys ≡ count → Each places count → IsPermutation ys (in_turn places ys)
    go zero [] none each = subst (IsPermutation []) (sym (in_turn-none places)) (IsPermutation-refl [])
    go zero (y ∷ ys) none each = absurd (omega (arith, none))
    go (suc count) [] some each = absurd (omega (arith, some))
    go (suc count) (y ∷ ys) some each =
        let (zs, z, whole, same) = last-apart y ys in
        let short : length zs ≡ count = omega (arith, same, some) in
        let (turn, alone) = each count (omega arith) in
        let one : Alone places (length zs) turn = subst (λ k. Alone places k turn) (sym short) alone in
        let A : List X = in_turn (take turn places) zs in
        let B : List X = in_turn (drop (suc turn) places) zs in
        let rest : IsPermutation zs (A ++ B) = subst (IsPermutation zs) (without-last places zs turn one) (go count zs short (λ p low. each p (omega (arith, low)))) in
        let moved : IsPermutation (zs ++ z ∷ []) (A ++ z ∷ B) =
        IsPermutation-trans (zs ++ z ∷ []) (z ∷ zs) (A ++ z ∷ B) (IsPermutation-to_front zs z)
        (IsPermutation-trans (z ∷ zs) (z ∷ (A ++ B)) (A ++ z ∷ B) (IsPermutation-cons z zs (A ++ B) rest) (IsPermutation-sym (A ++ z ∷ B) (z ∷ (A ++ B)) (IsPermutation-middle A z B))) in
        subst (λ (l : List X). IsPermutation l (in_turn places l)) (sym whole) (subst (IsPermutation (zs ++ z ∷ [])) (sym (with-last places zs z turn one)) moved)

-- of lists of one length as many come before a turn
pub in_turn-length : {X Y : Type 0} (places : List (Option ℕ)) (xs : List X) (ys : List Y) → length xs ≡ length ys → length (in_turn places xs) ≡ length (in_turn places ys)
in_turn-length [] xs ys same = refl
in_turn-length (None ∷ places) xs ys same = in_turn-length places xs ys same
in_turn-length (Some p ∷ places) xs ys same = grind (arith, common_steps, gets, same, in_turn-length places xs ys same, slice_get_cases xs p, slice_get_cases ys p)

pub earlier-same : {X Y : Type 0} (places : List (Option ℕ)) (turn : ℕ) (xs : List X) (ys : List Y) → length xs ≡ length ys → earlier places turn xs ≡ earlier places turn ys
earlier-same places turn xs ys same = in_turn-length (take turn places) xs ys same

-- the item of a turn
pub turn-there : {X : Type 0} (places : List (Option ℕ)) (xs : List X) (p turn : ℕ) (x : X) → slice_get places turn ≡ Some (Some p) → slice_get xs p ≡ Some x
    → slice_get (in_turn places xs) (earlier places turn xs) ≡ Some x
turn-there {X = X} places xs p turn x here there =
    ap (λ (ys : List X). slice_get ys (earlier places turn xs)) (in_turn-found places xs turn p (Some x) here there)
    ∙ seam-there (in_turn (take turn places) xs) x (in_turn (drop (suc turn) places) xs)
