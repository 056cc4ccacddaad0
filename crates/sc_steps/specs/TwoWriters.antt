-- What is written to two writers in turn, to the journal and to the output, where their bytes are known.
use Rattle.std.specs.Prelude.{◌≡◌, ◌⊎◌, ℕ, List, [], ◌∷◌, ◌++◌, Option, take}
use Rattle.std.specs.Io.KnownBytes.{Appends}

-- what one write gives to the journal and to the output
pub record Piece : Type 0 where
  pub journal : List ℕ
  pub output : List ℕ

-- a write to the journal
abbrev pub to_journal : List ℕ → Piece
to_journal text = record { journal = text; output = [] }

-- a write to the output
abbrev pub to_output : List ℕ → Piece
to_output text = record { journal = []; output = text }

-- what the writes give to the journal altogether
abbrev pub journal_of : List Piece → List ℕ
journal_of [] = []
journal_of (piece ∷ rest) = piece.journal ++ journal_of rest

-- what the writes give to the output altogether
abbrev pub output_of : List Piece → List ℕ
output_of [] = []
output_of (piece ∷ rest) = piece.output ++ output_of rest

-- what was given to the two writers is a prefix of the writes: of the first, or the first whole and a prefix
-- of the others, so that no write begins before those ahead of it are whole
abbrev pub IsPrefix : List Piece → List ℕ → List ℕ → Type 0
IsPrefix [] journal output = (journal ≡ []) × (output ≡ [])
IsPrefix (piece ∷ rest) journal output =
    ((j : ℕ) × (k : ℕ) × (journal ≡ take j piece.journal) × (output ≡ take k piece.output))
    ⊎ ((j : List ℕ) × (o : List ℕ) × (journal ≡ piece.journal ++ j) × (output ≡ piece.output ++ o) × IsPrefix rest j o)

-- what the two writers hold, where it is known
pub record Contents : Type 0 where
  pub journal : Option (List ℕ)
  pub output : Option (List ℕ)

-- the two writers were given these texts
abbrev pub Grows : Contents → Contents → List ℕ → List ℕ → Type 0
Grows old new journal output = Appends old.journal new.journal journal × Appends old.output new.output output

-- the two writers were given all the writes
abbrev pub GrowsByAll : List Piece → Contents → Contents → Type 0
GrowsByAll pieces old new = Grows old new (journal_of pieces) (output_of pieces)

-- the two writers were given a prefix of the writes
abbrev pub GrowsByPrefix : List Piece → Contents → Contents → Type 0
GrowsByPrefix pieces old new = (journal : List ℕ) × (output : List ℕ) × IsPrefix pieces journal output × Grows old new journal output
