-- The passes that note where the schools of a list stand, and the classes of choices.
use Rattle.std.proofs.Common.{◌≡◌, ℕ, ◌+◌, ◌<◌, List, [], ◌∷◌, ◌++◌, length, map, take, get_or, ap, sym, ◌∙◌}
use Rattle.std.specs.Prelude.{slice_set}
use Rattle.std.proofs.lemmas.List.{map-append, take_more, take_more_set}

-- the list up to one place more
pub take-more : (xs : List ℕ) (i x : ℕ) → i < length xs → x ≡ get_or xs i x → take (i + 1) xs ≡ take i xs ++ x ∷ []
take-more xs i x low at = take_more xs i x low ∙ ap (λ (s : ℕ). take i xs ++ s ∷ []) (sym at)

-- what is made of one number more is put behind what was made of those before it
pub filled-more : {X : Type 0} (f : ℕ → X) (xs : List ℕ) (made : List X) (i x : ℕ) (y : X) → i < length xs → i < length made → x ≡ get_or xs i x → y ≡ f x
    → take i made ≡ map f (take i xs) → take (i + 1) (slice_set made i y) ≡ map f (take (i + 1) xs)
filled-more {X = X} f xs made i x y low within at here before =
    take_more_set made i y within
    ∙ ap (λ (ys : List X). ys ++ y ∷ []) before
    ∙ ap (λ (z : X). map f (take i xs) ++ z ∷ []) here
    ∙ sym (map-append f (take i xs) (x ∷ []))
    ∙ sym (ap (map f) (take-more xs i x low at))
