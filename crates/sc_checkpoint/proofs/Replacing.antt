-- Chains that give way to renewed ones.
use Rattle.std.proofs.Common.{◌≡◌, refl, ap, subst, ◌∙◌, ℕ, zero, suc, ◌<◌, List, [], ◌∷◌, ◌++◌, length, map, set, Some, Contains, slice_get, length-set, arith}
use Rattle.std.proofs.lemmas.List.{map-set}
use Rattle.sc_papers.proofs.Counting.{contains-head, contains-tail}
use Rattle.sc_checkpoint.specs.Chains.{replaced}

-- what stands at an index after a write
pub get-set-same : {X : Type 0} (xs : List X) (k : ℕ) (x : X) → k < length xs → slice_get (set xs k x) k ≡ Some x
get-set-same [] k x low = absurd (omega (arith, low))
get-set-same (y ∷ ys) zero x low = refl
get-set-same (y ∷ ys) (suc k) x low = get-set-same ys k x (omega (arith, low))

pub get-set-other : {X : Type 0} (xs : List X) (k at : ℕ) (x : X) → (at ≡ k → ⊥) → slice_get (set xs k x) at ≡ slice_get xs at
get-set-other [] k at x apart = refl
get-set-other (y ∷ ys) zero zero x apart = absurd (apart refl)
get-set-other (y ∷ ys) zero (suc at) x apart = refl
get-set-other (y ∷ ys) (suc k) zero x apart = refl
get-set-other (y ∷ ys) (suc k) (suc at) x apart = get-set-other ys k at x (λ same. apart (ap suc same))

-- there are as many as before, and those elsewhere stay
pub replaced-length : {X : Type 0} (xs : List X) (positions : List ℕ) (renewed : List X) → length (replaced xs positions renewed) ≡ length xs
replaced-length xs [] renewed = refl
replaced-length xs (position ∷ positions) [] = refl
replaced-length xs (position ∷ positions) (x ∷ renewed) = replaced-length (set xs position x) positions renewed ∙ length-set xs position x

pub replaced-other : {X : Type 0} (xs : List X) (positions : List ℕ) (renewed : List X) (at : ℕ) → (Contains positions at → ⊥) → slice_get (replaced xs positions renewed) at ≡ slice_get xs at
replaced-other xs [] renewed at apart = refl
replaced-other xs (position ∷ positions) [] at apart = refl
replaced-other xs (position ∷ positions) (x ∷ renewed) at apart =
    replaced-other (set xs position x) positions renewed at (λ later. apart (contains-tail position positions at later))
    ∙ get-set-other xs position at x (λ same. apart (subst (λ p. Contains (p ∷ positions) at) same (contains-head at positions)))

-- one more gives way
pub replaced-push : {X : Type 0} (xs : List X) (positions : List ℕ) (renewed : List X) (at : ℕ) (x : X) → length positions ≡ length renewed
    → replaced xs (positions ++ at ∷ []) (renewed ++ x ∷ []) ≡ set (replaced xs positions renewed) at x
replaced-push xs [] [] at x same = refl
replaced-push xs [] (c ∷ renewed) at x same = absurd (omega (arith, same))
replaced-push xs (p ∷ positions) [] at x same = absurd (omega (arith, same))
replaced-push xs (p ∷ positions) (c ∷ renewed) at x same = replaced-push (set xs p c) positions renewed at x (omega (arith, same))

-- what each of them is seen as gives way alike
pub map-replaced : {X Y : Type 0} (f : X → Y) (xs : List X) (positions : List ℕ) (renewed : List X) → map f (replaced xs positions renewed) ≡ replaced (map f xs) positions (map f renewed)
map-replaced f xs [] renewed = refl
map-replaced f xs (position ∷ positions) [] = refl
map-replaced f xs (position ∷ positions) (x ∷ renewed) =
    map-replaced f (set xs position x) positions renewed
    ∙ ap (λ ys. replaced ys positions (map f renewed)) (map-set f xs position x)
