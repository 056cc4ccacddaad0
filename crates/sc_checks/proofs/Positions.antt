-- What stands at the position of a student's list.
use Rattle.std.proofs.Common.{◌≡◌, refl, sym, ap, ◌∙◌, ℕ, List, Option, Some, None, map, option_map}
use Rattle.std.specs.Prelude.{option_and_then, slice_get}
use Rattle.std.proofs.lemmas.Option.{slice_get-map}

-- what two options are joined to is the same where they are the same under their functions
joined-same : {A B C : Type 0} (f : A → Option C) (g : B → Option C) (x : Option A) (y : Option B) → option_map f x ≡ option_map g y → option_and_then f x ≡ option_and_then g y
joined-same f g None None same = refl
joined-same f g None (Some b) same = absurd (cc same)
joined-same f g (Some a) None same = absurd (cc same)
joined-same f g (Some a) (Some b) same = cc same

-- so are two lists at a position
pub same-at : {A B C : Type 0} (f : A → Option C) (g : B → Option C) (xs : List A) (ys : List B) (position : Option ℕ) → map f xs ≡ map g ys
    → option_and_then f (option_and_then (slice_get xs) position) ≡ option_and_then g (option_and_then (slice_get ys) position)
same-at f g xs ys None same = refl
same-at f g xs ys (Some p) same =
    joined-same f g (slice_get xs p) (slice_get ys p)
    (sym (slice_get-map f xs p) ∙ ap (λ zs. slice_get zs p) same ∙ slice_get-map g ys p)
