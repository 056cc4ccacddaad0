-- A line cut off, and its fields counted and looked for.
use Rattle.std.proofs.Common.{◌≡◌, ℕ, zero, suc, ◌+◌, ◌<◌, ◌==◌, true, false, List, [], ◌∷◌, ◌++◌, length, take, drop, inl, inr, refl, sym, ap, ◌∙◌, append_assoc, append-nil, arith}
use Rattle.std.specs.Prelude.{slice_get, slice_index}
use Rattle.std.specs.List.{count_by, onto_first, slice_split}
use Rattle.std.proofs.lemmas.Bool.{cases_Bool}
use Rattle.std.proofs.lemmas.List.Splits.{length-slice_split, slice_split-cons_no, slice_split-cons_yes}
use Rattle.csv.specs.Records.{field_at}
use Rattle.sc_intake.specs.Plain.{after_line, ends_line, fields_from, first_line}

-- what the first line is, and what stands after it
pub record IsLine (text before after : List ℕ) : Type 0 where
  pub line : first_line text ≡ before
  pub rest : after_line text ≡ after

-- it ends at the first byte that ends a line
pub line-found : (k : ℕ) (text : List ℕ) → k < length text → ((j : ℕ) → j < k → ends_line (slice_index text j) ≡ false) → ends_line (slice_index text k) ≡ true
    → IsLine text (take k text) (drop (suc k) text)
unfolding first_line after_line
line-found k [] within none end = absurd (omega arith)
line-found zero (c ∷ cs) within none end = record { line = rw end refl; rest = rw end refl }
line-found (suc k) (c ∷ cs) within none end =
    let other : ends_line c ≡ false = none 0 (omega arith) in
    let more = line-found k cs (omega arith) (λ j below. none (suc j) (omega arith)) end in
    record { line = rw (other, more.line) refl; rest = rw (other, more.rest) refl }

-- a text in which no line ends is one line
pub line-whole : (text : List ℕ) → ((j : ℕ) → j < length text → ends_line (slice_index text j) ≡ false) → IsLine text text []
unfolding first_line after_line
line-whole [] none = record { line = refl; rest = refl }
line-whole (c ∷ cs) none =
    let other : ends_line c ≡ false = none 0 (omega arith) in
    let more = line-whole cs (λ j below. none (suc j) (omega arith)) in
    record { line = rw (other, more.line) refl; rest = rw (other, more.rest) refl }

-- parts whose first goes on after a piece
joined : List ℕ → List (List ℕ) → List (List ℕ)
joined piece [] = piece ∷ []
joined piece (part ∷ parts) = (piece ++ part) ∷ parts

joined-onto : (piece : List ℕ) (c : ℕ) (parts : List (List ℕ)) → 0 < length parts → joined (piece ++ c ∷ []) parts ≡ joined piece (onto_first c parts)
unfolding joined
joined-onto piece c [] some = absurd (omega arith)
joined-onto piece c (part ∷ parts) some = ap (λ (p : List ℕ). p ∷ parts) (append_assoc piece (c ∷ []) part)

joined-nothing : (parts : List (List ℕ)) → 0 < length parts → joined [] parts ≡ parts
unfolding joined
joined-nothing [] some = absurd (omega arith)
joined-nothing (part ∷ parts) some = refl

parts-some : (line : List ℕ) → 0 < length (slice_split (λ c. c == 44) line)
parts-some line = omega (arith, length-slice_split (λ c. c == 44) line)

-- the fields of a line, after the bytes of a field that has begun, are what stands between its commas
fields-joined : (field line : List ℕ) → fields_from field line ≡ joined field (slice_split (λ c. c == 44) line)
unfolding fields_from joined
fields-joined field [] = ap (λ (f : List ℕ). f ∷ []) (sym (append-nil field))
fields-joined field (c ∷ cs) = elim (cases_Bool (c == 44)) [
  | inl comma ↦
      rw (slice_split-cons_yes (λ b. b == 44) c cs comma, comma)
      (ap (λ (fs : List (List ℕ)). field ∷ fs) (fields-joined [] cs ∙ joined-nothing (slice_split (λ b. b == 44) cs) (parts-some cs))
      ∙ ap (λ (f : List ℕ). f ∷ slice_split (λ b. b == 44) cs) (sym (append-nil field)))
  | inr other ↦
      rw (slice_split-cons_no (λ b. b == 44) c cs other, other)
      (fields-joined (field ++ c ∷ []) cs ∙ joined-onto field c (slice_split (λ b. b == 44) cs) (parts-some cs))
]

-- the fields of a line are what stands between its commas
pub fields-split : (line : List ℕ) → fields_from [] line ≡ slice_split (λ c. c == 44) line
fields-split line = fields-joined [] line ∙ joined-nothing (slice_split (λ c. c == 44) line) (parts-some line)

-- there is one more than commas
pub fields-count : (line : List ℕ) → length (fields_from [] line) ≡ count_by (λ c. c == 44) line + 1
fields-count line = ap length (fields-split line) ∙ length-slice_split (λ c. c == 44) line

-- a field by its place
pub field-get : (fields : List (List ℕ)) (index : ℕ) → slice_get fields index ≡ field_at fields index
unfolding field_at
field-get [] index = refl
field-get (field ∷ rest) zero = refl
field-get (field ∷ rest) (suc index) = field-get rest index
