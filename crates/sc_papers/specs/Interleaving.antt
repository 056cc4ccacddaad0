-- Lists of amendments, and several desks' lists woven into one.
use Rattle.std.specs.Prelude.{◌≡◌, ◌⊎◌, ⊤, List, [], ◌∷◌, ◌++◌, Option, None, Some, All}
use Rattle.sc_papers.specs.Market.{Market}
use Rattle.sc_papers.specs.Verdict.{after, verdict}
use Rattle.sc_papers.specs.declared.amendment.Amendment.{Amendment}
use Rattle.sc_papers.specs.declared.amendment.Refusal.{Refusal}

-- an interleaving of several lists, made of their members, each once, in which each list keeps its
-- order: its first member is the first of one of the lists, and the rest of it is an interleaving of
-- what is then left of them
abbrev pub IsInterleaving : {A : Type 0} → List (List A) → List A → Type 0
IsInterleaving {A} lists [] = All (λ list. list ≡ []) lists
IsInterleaving {A} lists (first ∷ woven) =
    (front : List (List A)) × (rest : List A) × (back : List (List A)) × (lists ≡ front ++ (first ∷ rest) ∷ back) × IsInterleaving (front ++ rest ∷ back) woven

-- the members of a list stand in another one in the same order, maybe with others between them
abbrev pub StandsInOrder : {A : Type 0} → List A → List A → Type 0
StandsInOrder [] others = ⊤
StandsInOrder (x ∷ xs) [] = ⊥
StandsInOrder (x ∷ xs) (other ∷ others) = ((x ≡ other) × StandsInOrder xs others) ⊎ StandsInOrder (x ∷ xs) others

-- the papers after an amendment of this verdict: a refused one changes nothing
abbrev pub after_verdict : Market → Amendment → Option Refusal → Market
after_verdict m a None = after m a
after_verdict m a (Some refusal) = m

-- the papers after an amendment, accepted or refused
unfoldable pub after_one : Market → Amendment → Market
after_one m a = after_verdict m a (verdict m a)

-- the papers after amendments in turn, of which the refused ones change nothing
unfoldable pub after_list : Market → List Amendment → Market
after_list m [] = m
after_list m (a ∷ rest) = after_list (after_one m a) rest

-- what the rules answer to amendments in turn: to each its verdict, in the papers as they then stand
unfoldable pub verdicts : Market → List Amendment → List (Option Refusal)
verdicts m [] = []
verdicts m (a ∷ rest) = verdict m a ∷ verdicts (after_one m a) rest
