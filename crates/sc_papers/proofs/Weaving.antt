-- Lists of amendments, and lists that are woven into one.
use Rattle.std.proofs.Common.{◌≡◌, inl, inr, refl, sym, subst, ◌∙◌, ap, ℕ, zero, suc, List, [], ◌∷◌, ◌++◌, take, Option, Some, None, All, IsPermutation}
use Rattle.std.specs.List.{slice_get, flat_map}
use Rattle.std.specs.Option.{option_map}
use Rattle.std.proofs.lemmas.Grind.{flat_map-append}
use Rattle.std.proofs.lemmas.List.Elements.{All-cons, All-head, All-tail, All-weaker}
use Rattle.std.proofs.lemmas.List.Sorted.{IsPermutation-refl, IsPermutation-cons, IsPermutation-trans, IsPermutation-middle}
use Rattle.sc_papers.specs.Market.{Market}
use Rattle.sc_papers.specs.Matching.{Matching, IsStudentOptimal}
use Rattle.sc_papers.specs.Reordering.{IsReordering}
use Rattle.sc_papers.specs.WellFormed.{WellFormed}
use Rattle.sc_papers.specs.Verdict.{after, verdict}
use Rattle.sc_papers.specs.Interleaving.{IsInterleaving, StandsInOrder, after_verdict, after_one, after_list, verdicts}
use Rattle.sc_papers.specs.declared.amendment.Amendment.{Amendment}
use Rattle.sc_papers.specs.declared.amendment.Refusal.{Refusal}
use Rattle.sc_papers.proofs.Amending.{WellFormed-after}
use Rattle.sc_papers.proofs.Reordering.{optimal-reordered}
use Rattle.sc_papers.proofs.Uniqueness.{optimal-unique}

-- papers that are equal up to order leave one matching
pub reordered-matching : (m n : Market) (a b : Matching) → WellFormed m → IsReordering m n → IsStudentOptimal m a → IsStudentOptimal n b → (i : ℕ) → a i ≡ b i
reordered-matching m n a b well moved first second = optimal-unique n a b ((optimal-reordered m n a well moved).0 first) second

-- an amendment, accepted or refused, leaves papers well-formed
well-one : (m : Market) (a : Amendment) → WellFormed m → WellFormed (after_one m a)
unfolding after_one
well-one m a well = by_case (verdict m a) refl
  where
    by_case : (answer : Option Refusal) → verdict m a ≡ answer → WellFormed (after_verdict m a answer)
    by_case None accepted = WellFormed-after m a well accepted
    by_case (Some refusal) refused = well

pub well-list : (m : Market) (list : List Amendment) → WellFormed m → WellFormed (after_list m list)
unfolding after_list
well-list m [] well = well
well-list m (a ∷ rest) well = well-list (after_one m a) rest (well-one m a well)

-- each answer is the verdict in the papers after the amendments before it
pub verdict-at : (m : Market) (list : List Amendment) (k : ℕ) → slice_get (verdicts m list) k ≡ option_map (verdict (after_list m (take k list))) (slice_get list k)
unfolding after_list verdicts
verdict-at m [] k = refl
verdict-at m (a ∷ rest) zero = refl
verdict-at m (a ∷ rest) (suc k) = verdict-at (after_one m a) rest k

-- the papers after two lists, one after the other
pub after-lists : (m : Market) (list more : List Amendment) → after_list m (list ++ more) ≡ after_list (after_list m list) more
unfolding after_list
after-lists m [] more = refl
after-lists m (a ∷ rest) more = after-lists (after_one m a) rest more

-- an amendment that is accepted is made, and one that is refused changes nothing
pub after-accepted : (m : Market) (a : Amendment) → verdict m a ≡ None → after_list m (a ∷ []) ≡ after m a
unfolding after_list after_one
after-accepted m a accepted = ap (after_verdict m a) accepted

pub after-refused : (m : Market) (a : Amendment) (refusal : Refusal) → verdict m a ≡ Some refusal → after_list m (a ∷ []) ≡ m
unfolding after_list after_one
after-refused m a refusal refused = ap (after_verdict m a) refused

-- lists that leave papers equal up to order leave one matching
pub lists-matching : (m : Market) (first second : List Amendment) (a b : Matching) → WellFormed m → IsReordering (after_list m first) (after_list m second)
    → IsStudentOptimal (after_list m first) a → IsStudentOptimal (after_list m second) b → (i : ℕ) → a i ≡ b i
lists-matching m first second a b well moved = reordered-matching (after_list m first) (after_list m second) a b (well-list m first well) moved

-- empty lists have no members
no-members : {A : Type 0} (lists : List (List A)) → All (λ list. list ≡ []) lists → flat_map (λ list. list) lists ≡ []
no-members [] empty = refl
no-members (list ∷ lists) empty =
    ap (λ first. first ++ flat_map (λ list. list) lists) (All-head (λ list. list ≡ []) list lists empty) ∙ no-members lists (All-tail (λ list. list ≡ []) list lists empty)

-- the first of one of the lists, moved to the front
member-first : {A : Type 0} (front : List (List A)) (first : A) (rest : List A) (back : List (List A))
    → IsPermutation (flat_map (λ list. list) (front ++ (first ∷ rest) ∷ back)) (first ∷ flat_map (λ list. list) (front ++ rest ∷ back))
member-first front first rest back =
    rw (flat_map-append (λ list. list) front ((first ∷ rest) ∷ back), flat_map-append (λ list. list) front (rest ∷ back))
    (IsPermutation-middle (flat_map (λ list. list) front) first (rest ++ flat_map (λ list. list) back))

-- an interleaving has the members of the lists, each once
pub interleaving-members : {A : Type 0} (lists : List (List A)) (woven : List A) → IsInterleaving lists woven → IsPermutation (flat_map (λ list. list) lists) woven
interleaving-members lists [] empty = subst (λ all. IsPermutation all []) (sym (no-members lists empty)) (IsPermutation-refl [])
interleaving-members lists (first ∷ woven) (front, rest, back, are, then) =
    subst (λ before. IsPermutation (flat_map (λ list. list) before) (first ∷ woven)) (sym are)
    (IsPermutation-trans _ _ _ (member-first front first rest back) (IsPermutation-cons first _ _ (interleaving-members (front ++ rest ∷ back) woven then)))

-- one more member in front
in-order-behind : {A : Type 0} (list : List A) (first : A) (woven : List A) → StandsInOrder list woven → StandsInOrder list (first ∷ woven)
in-order-behind [] first woven stands = tt
in-order-behind (x ∷ xs) first woven stands = inr stands

in-order-all : {A : Type 0} (front : List (List A)) (first : A) (rest : List A) (back : List (List A)) (woven : List A)
    → All (λ list. StandsInOrder list woven) (front ++ rest ∷ back) → All (λ list. StandsInOrder list (first ∷ woven)) (front ++ (first ∷ rest) ∷ back)
in-order-all [] first rest back woven stand =
    All-cons (λ list. StandsInOrder list (first ∷ woven)) (first ∷ rest) back (inl (refl, All-head (λ list. StandsInOrder list woven) rest back stand))
    (All-weaker (λ list. StandsInOrder list woven) (λ list. StandsInOrder list (first ∷ woven)) (λ list stands. in-order-behind list first woven stands) back (All-tail (λ list. StandsInOrder list woven) rest back stand))
in-order-all (list ∷ front) first rest back woven stand =
    All-cons (λ list. StandsInOrder list (first ∷ woven)) list (front ++ (first ∷ rest) ∷ back)
    (in-order-behind list first woven (All-head (λ list. StandsInOrder list woven) list (front ++ rest ∷ back) stand))
    (in-order-all front first rest back woven (All-tail (λ list. StandsInOrder list woven) list (front ++ rest ∷ back) stand))

-- each list keeps its order in an interleaving
pub interleaving-order : {A : Type 0} (lists : List (List A)) (woven : List A) → IsInterleaving lists woven → All (λ list. StandsInOrder list woven) lists
interleaving-order lists [] empty = All-weaker (λ list. list ≡ []) (λ list. StandsInOrder list []) (λ list none. subst (λ l. StandsInOrder l []) (sym none) tt) lists empty
interleaving-order lists (first ∷ woven) (front, rest, back, are, then) =
    subst (All (λ list. StandsInOrder list (first ∷ woven))) (sym are) (in-order-all front first rest back woven (interleaving-order (front ++ rest ∷ back) woven then))
