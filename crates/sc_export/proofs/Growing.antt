-- Texts that grow row by row.
use Rattle.std.proofs.Common.{◌≡◌, refl, sym, ◌∙◌, ap, ℕ, ◌+◌, ◌<◌, ◌≤◌, Bool, true, false, List, [], ◌∷◌, ◌++◌, length, map, take, get_or, add-one, append-nil, append_assoc, arith, Some, None}
use Rattle.std.specs.Prelude.{flat_map, slice_get}
use Rattle.std.specs.List.{All, list_any}
use Rattle.std.proofs.lemmas.Map.Keys.{any_passes_from_place}
use Rattle.std.proofs.lemmas.Option.{get_or_from_slice_get, slice_get-get_or, slice_get_within}
use Rattle.std.proofs.lemmas.List.{take_all, map-append}
use Rattle.std.proofs.lemmas.List.Elements.{All-push}
use Rattle.std.proofs.lemmas.List.Folds.{list_any-append}
use Rattle.std.proofs.Math.Seq.{take-suc}

-- the first elements, and the one at the next position
pub take-next : {X : Type 0} (xs : List X) (k : ℕ) (x : X) → slice_get xs k ≡ Some x → take (k + 1) xs ≡ take k xs ++ x ∷ []
take-next xs k x at =
    let within = slice_get_within xs k x at in
    let is = get_or_from_slice_get xs k x x at in
    rw (add-one, take-suc xs k x within, is) refl

flat_map-one_more : {X : Type 0} (f : X → List ℕ) (xs : List X) (x : X) → flat_map f (xs ++ x ∷ []) ≡ flat_map f xs ++ f x
flat_map-one_more f [] x = append-nil (f x)
flat_map-one_more f (y ∷ ys) x = ap (λ (more : List ℕ). f y ++ more) (flat_map-one_more f ys x) ∙ sym (append_assoc (f y) (flat_map f ys) (f x))

-- a text that grew by one more row
pub row-more : {X : Type 0} (row : List (List ℕ) → List ℕ) (fields : X → List (List ℕ)) (xs : List X) (k : ℕ) (x : X) (old text new : List ℕ)
    → text ≡ old ++ flat_map row (map fields (take k xs)) → slice_get xs k ≡ Some x → new ≡ text ++ row (fields x)
    → new ≡ old ++ flat_map row (map fields (take (k + 1) xs))
row-more row fields xs k x old text new before at grew =
    grew ∙ ap (λ (t : List ℕ). t ++ row (fields x)) before ∙ append_assoc old (flat_map row (map fields (take k xs))) (row (fields x))
    ∙ ap (λ (more : List ℕ). old ++ more)
    (sym (ap (λ (front : List _). flat_map row (map fields front)) (take-next xs k x at) ∙ ap (flat_map row) (map-append fields (take k xs) (x ∷ [])) ∙ flat_map-one_more row (map fields (take k xs)) (fields x)))

-- a text that has each row
pub rows-all : {X : Type 0} (row : List (List ℕ) → List ℕ) (fields : X → List (List ℕ)) (xs : List X) (k : ℕ) (old text : List ℕ)
    → text ≡ old ++ flat_map row (map fields (take k xs)) → length xs ≤ k → text ≡ old ++ flat_map row (map fields xs)
rows-all row fields xs k old text grown past = grown ∙ ap (λ (all : List _). old ++ flat_map row (map fields all)) (take_all k xs past)

-- what holds of the first elements, and of the next
pub all-more : {X : Type 0} (P : X → Type 0) (xs : List X) (k : ℕ) (x : X) → All P (take k xs) → slice_get xs k ≡ Some x → P x → All P (take (k + 1) xs)
all-more P xs k x before at here = rw (take-next xs k x at) (All-push P (take k xs) x before here)

pub all-of : {X : Type 0} (P : X → Type 0) (xs : List X) (k : ℕ) → All P (take k xs) → length xs ≤ k → All P xs
all-of P xs k some past = rw (take_all k xs past) at some

-- none of the first elements passes, nor the next
pub none-more : {X : Type 0} (test : X → Bool) (xs : List X) (k : ℕ) (x : X) → list_any test (take k xs) ≡ false → slice_get xs k ≡ Some x → test x ≡ false
    → list_any test (take (k + 1) xs) ≡ false
none-more test xs k x before at fails =
    rw (take-next xs k x at) (list_any-append test (take k xs) (x ∷ []) ∙ rw (before, fails) refl)

-- an element that passes
pub some-passes : {X : Type 0} (test : X → Bool) (xs : List X) (k : ℕ) (x : X) → slice_get xs k ≡ Some x → test x ≡ true → list_any test xs ≡ true
some-passes test xs k x at passes = any_passes_from_place test xs k x at passes

-- a position before the end has an element
pub not-past : {X : Type 0} (xs : List X) (k : ℕ) → slice_get xs k ≡ None → k < length xs → ⊥
not-past [] k none within = omega arith
not-past (x ∷ xs) k none within = let some : Some (get_or (x ∷ xs) k x) ≡ None = sym (slice_get-get_or (x ∷ xs) k x within) ∙ none in cc some
