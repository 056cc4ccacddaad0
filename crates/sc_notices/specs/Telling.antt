-- What a text that is told part by part is.
use Rattle.std.specs.Prelude.{◌≡◌, ℕ, List, ◌++◌, flat_map}
use Rattle.sc_notices.specs.AdmissionsText.{admissions_header}
use Rattle.sc_notices.specs.ChangesText.{changes_header}
use Rattle.sc_notices.specs.ExplanationText.{explanation_header}
use Rattle.sc_notices.specs.Parts.{AreCompared, AreExplained, AreListed}
use Rattle.sc_notices.specs.declared.parts.TextParts.{TextParts}
use Rattle.sc_notices.specs.declared.parts.TextParts.TheVariants.{Explained, Listed, Compared}

-- the line above the parts
abbrev pub header_of : TextParts → List ℕ
header_of (Explained told) = explanation_header
header_of (Listed told) = admissions_header
header_of (Compared told) = changes_header

-- these are the parts, one after the other
abbrev pub AreParts : TextParts → List (List ℕ) → Type 0
AreParts (Explained told) parts = AreExplained told parts
AreParts (Listed told) parts = AreListed told parts
AreParts (Compared told) parts = AreCompared told parts

-- these parts of a text, one after the other
abbrev pub joined : List (List ℕ) → List ℕ
joined parts = flat_map (λ part. part) parts

-- a text is the header with the parts below it
abbrev pub Tells : TextParts → List ℕ → Type 0
Tells told text = (parts : List (List ℕ)) × AreParts told parts × (text ≡ header_of told ++ joined parts)
