-- What comparing the bytes of a reader with a text finds, where those bytes are known.
use Rattle.std.specs.Prelude.{◌≡◌, ℕ, ◌+◌, ◌==◌, List, [], ◌∷◌, Option, None, Some, count_by, if◌then◌else◌, ⊤}

-- what two texts begin with alike
abbrev pub common : List ℕ → List ℕ → List ℕ
common [] other = []
common (c ∷ cs) [] = []
common (c ∷ cs) (d ∷ ds) = if c == d then c ∷ common cs ds else []

-- how many lines end in a text
abbrev pub line_ends : List ℕ → ℕ
line_ends text = count_by (λ c. c == 10) text

-- the first line in which two texts differ, counted from 1: one more than end in what they begin with alike
unfoldable pub differing_line : List ℕ → List ℕ → ℕ
differing_line one other = line_ends (common one other) + 1

-- a reader was compared with a text: its bytes are the text, and none is left; or they are another one, which differs
-- first in this line
abbrev pub ComparesWith : List ℕ → Option (List ℕ) → Option (List ℕ) → Option ℕ → Type 0
ComparesWith text None left found = ⊤
ComparesWith text (Some bytes) left None = (bytes ≡ text) × (left ≡ Some [])
ComparesWith text (Some bytes) left (Some line) = (bytes ≡ text → ⊥) × (line ≡ differing_line text bytes)
