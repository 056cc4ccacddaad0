-- Lists of students, one for each school, one of which changes.
use Rattle.std.proofs.Common.{◌≡◌, inl, inr, ◌<◌, ap, sym, subst, ◌∙◌, ℕ, Bool, List, [], ◌∷◌, ◌++◌, length, filter, set, get_or, get_or-set_other, get_or-set_same, Contains, Vec, Global, refl, arith}
use Rattle.std.proofs.lemmas.Grind.{common_steps}
use Rattle.std.proofs.lemmas.Bool.{cases_eq}
use Rattle.std.proofs.lemmas.List.{get_or-map, length-map, map-append, map-set}
use Rattle.sc_region.specs.declared.first.First.{First}
use Rattle.sc_region.specs.Districts.{firsts_at, lists_in, students_in}

-- the students whom a list names
abbrev pub names : Vec First Global → List ℕ
names list = students_in list.items

-- the students of a list that has one more at its end
pub students-push : (list : List First) (first : First) → students_in (list ++ first ∷ []) ≡ students_in list ++ first.student ∷ []
students-push list first = map-append (λ (f : First). f.student) list (first ∷ [])

-- and of one from which a test keeps some
pub students-filter : (p : ℕ → Bool) (list : List First) → students_in (filter (λ (first : First). p first.student) list) ≡ filter p (students_in list)
students-filter p [] = refl
students-filter p (first ∷ list) = grind (arith, common_steps, students-filter p list)

-- the list that changes, as it was
pub list-read : (lists : List (Vec First Global)) (at : ℕ) (list : Vec First Global) → at < length lists → list ≡ get_or lists at list → students_in list.items ≡ firsts_at (lists_in lists) at
list-read lists at list low is = ap names is ∙ sym (get_or-map names lists at list [] low)

-- and as it is
pub list-here : (lists : List (Vec First Global)) (at : ℕ) (list : Vec First Global) → at < length lists → firsts_at (lists_in (set lists at list)) at ≡ students_in list.items
list-here lists at list low =
    ap (λ (xs : List (List ℕ)). get_or xs at []) (map-set names lists at list)
    ∙ get_or-set_same (lists_in lists) at (students_in list.items) [] (omega (arith, low, length-map lists names))

-- whoever was in a list is still there, if the list that changes keeps them
pub lists-keep : (lists : List (Vec First Global)) (at : ℕ) (list : Vec First Global) (i : ℕ) → at < length lists
    → (Contains (firsts_at (lists_in lists) at) i → Contains (students_in list.items) i) → (p : ℕ) → Contains (firsts_at (lists_in lists) p) i → Contains (firsts_at (lists_in (set lists at list)) p) i
lists-keep lists at list i low kept p among = elim (cases_eq p at) [
  | inl same ↦
      subst (λ q. Contains (firsts_at (lists_in (set lists at list)) q) i) (sym same)
      (subst (λ xs. Contains xs i) (sym (list-here lists at list low)) (kept (subst (λ q. Contains (firsts_at (lists_in lists) q) i) same among)))
  | inr other ↦
      subst (λ xs. Contains xs i)
      (sym (ap (λ (xs : List (List ℕ)). get_or xs p []) (map-set names lists at list) ∙ get_or-set_other (lists_in lists) at p (students_in list.items) [] other)) among
]
