-- To weave and to part undo each other.
use Rattle.std.proofs.Common.{◌≡◌, refl, ap, ◌∙◌, ℕ, Bool, true, false, cond, not, List, [], ◌∷◌, length, filter, drop, get_or, arith}
use Rattle.sc_papers.specs.Restriction.{outside}
use Rattle.sc_papers.specs.declared.rejection.Rejection.{Rejection}
use Rattle.sc_weave.specs.Weaving.{part_of, woven}
use Rattle.sc_weave.proofs.Woven.{woven-swapped}

-- the parts of segments, woven
pub woven-parts : (test : ℕ → Bool) (students : List ℕ) (segments : List (List Rejection)) → length segments ≡ length students → woven students test (part_of students test segments) (part_of students (outside test) segments) ≡ segments
woven-parts test [] [] same = refl
woven-parts test [] (segment ∷ segments) same = absurd (omega (arith, same))
woven-parts test (i ∷ students) [] same = absurd (omega (arith, same))
woven-parts test (i ∷ students) (segment ∷ segments) same =
    go (test i) (part_of students test segments) (part_of students (outside test) segments) (woven-parts test students segments (omega (arith, same)))
  where
    go : (b : Bool) (first second : List (List Rejection)) → woven students test first second ≡ segments
        → cond b (get_or (cond b (segment ∷ first) first) 0 [] ∷ woven students test (drop 1 (cond b (segment ∷ first) first)) (cond (not b) (segment ∷ second) second)) (get_or (cond (not b) (segment ∷ second) second) 0 [] ∷ woven students test (cond b (segment ∷ first) first) (drop 1 (cond (not b) (segment ∷ second) second)))
        ≡ segment ∷ segments
    go true first second later = ap (λ s. segment ∷ s) later
    go false first second later = ap (λ s. segment ∷ s) later

-- what was woven for those who pass
pub part-woven : (test : ℕ → Bool) (students : List ℕ) (inside rest : List (List Rejection)) → length inside ≡ length (filter test students) → part_of students test (woven students test inside rest) ≡ inside
part-woven test [] [] rest same = refl
part-woven test [] (segment ∷ inside) rest same = absurd (omega (arith, same))
part-woven test (i ∷ students) inside rest same = go (test i) refl inside same (part-woven test students)
  where
    go : (b : Bool) → test i ≡ b → (inside : List (List Rejection)) → length inside ≡ length (cond b (i ∷ filter test students) (filter test students))
        → ((own other : List (List Rejection)) → length own ≡ length (filter test students) → part_of students test (woven students test own other) ≡ own)
        → part_of (i ∷ students) test (cond b (get_or inside 0 [] ∷ woven students test (drop 1 inside) rest) (get_or rest 0 [] ∷ woven students test inside (drop 1 rest))) ≡ inside
    go true passes [] same later = absurd (omega (arith, same))
    go true passes (segment ∷ inside) same later =
        (λ t. cond (passes t) (segment ∷ part_of students test (woven students test inside rest)) (part_of students test (woven students test inside rest)))
        ∙ ap (λ s. segment ∷ s) (later inside rest (omega (arith, same)))
    go false fails inside same later =
        (λ t. cond (fails t) (get_or rest 0 [] ∷ part_of students test (woven students test inside (drop 1 rest))) (part_of students test (woven students test inside (drop 1 rest))))
        ∙ later inside (drop 1 rest) same

-- and for the others
pub rest-woven : (test : ℕ → Bool) (students : List ℕ) (inside rest : List (List Rejection)) → length rest ≡ length (filter (outside test) students) → part_of students (outside test) (woven students test inside rest) ≡ rest
rest-woven test students inside rest same =
    ap (part_of students (outside test)) (woven-swapped students test inside rest) ∙ part-woven (outside test) students rest inside same
