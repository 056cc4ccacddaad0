-- A text without the blanks at its two ends.
use Rattle.std.specs.Prelude.{ℕ, ◌==◌, Bool, ◌||◌, List, [], ◌∷◌, reverse, if◌then◌else◌}
use Rattle.sc_intake.specs.declared.blanks.Blanks.{Blanks}
use Rattle.sc_intake.specs.declared.blanks.Blanks.TheVariants.{InLine, WithLineEnds}

-- the blanks of a line are space and tab, and those of several lines CR and LF too
abbrev pub is_blank : Blanks → ℕ → Bool
is_blank InLine byte = byte == 32 || byte == 9
is_blank WithLineEnds byte = byte == 32 || byte == 9 || byte == 13 || byte == 10

-- a text from its first byte that is no blank
abbrev pub trim_start : (ℕ → Bool) → List ℕ → List ℕ
trim_start blank [] = []
trim_start blank (byte ∷ rest) = if blank byte then trim_start blank rest else byte ∷ rest

-- a text up to its last byte that is no blank
abbrev pub trim_end : (ℕ → Bool) → List ℕ → List ℕ
trim_end blank text = reverse (trim_start blank (reverse text))

-- a text without the blanks at both ends
abbrev pub trimmed : Blanks → List ℕ → List ℕ
trimmed blanks text = trim_end (is_blank blanks) (trim_start (is_blank blanks) text)
