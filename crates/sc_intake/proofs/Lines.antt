-- The records of a text without a quote, line by line and field by field.
use Rattle.std.proofs.Common.{◌≡◌, ℕ, ◌==◌, Bool, true, false, List, [], ◌∷◌, ◌++◌, length, map, refl, sym, ap, ◌∙◌, append_assoc, cond}
use Rattle.std.specs.List.{list_any}
use Rattle.std.proofs.lemmas.Bool.{or_parts}
use Rattle.std.proofs.lemmas.List.{append-nil}
use Rattle.sc_intake.specs.Plain.{after_line, ends_field, ends_line, fields_from, first_line, line_of, lines_from, plain_records}

-- the first line, and those after it
pub lines-first : (line text : List ℕ) → lines_from line text ≡ line_of (line ++ first_line text) ++ lines_from [] (after_line text)
unfolding lines_from first_line after_line
lines-first line [] = ap line_of (sym (append-nil line)) ∙ sym (append-nil (line_of (line ++ [])))
lines-first line (c ∷ cs) = by (ends_line c) (lines-first (line ++ c ∷ []) cs)
  where
    by : (b : Bool) → lines_from (line ++ c ∷ []) cs ≡ line_of ((line ++ c ∷ []) ++ first_line cs) ++ lines_from [] (after_line cs)
        → cond b (line_of line ++ lines_from [] cs) (lines_from (line ++ c ∷ []) cs)
        ≡ line_of (line ++ cond b [] (c ∷ first_line cs)) ++ lines_from [] (cond b cs (after_line cs))
    by true more = ap (λ (l : List ℕ). line_of l ++ lines_from [] cs) (sym (append-nil line))
    by false more = more ∙ ap (λ (l : List ℕ). line_of l ++ lines_from [] (after_line cs)) (append_assoc line (c ∷ []) (first_line cs))

-- an empty text has no record
pub records-none : plain_records [] ≡ []
unfolding plain_records lines_from
records-none = refl

-- an empty line is no record
pub records-skip : (c : ℕ) (cs : List ℕ) → ends_line c ≡ true → plain_records (c ∷ cs) ≡ plain_records cs
unfolding plain_records lines_from
records-skip c cs end = rw end refl

-- a text that begins with another byte has its first line as a record
pub records-first : (c : ℕ) (cs : List ℕ) → ends_line c ≡ false
    → plain_records (c ∷ cs) ≡ fields_from [] (first_line (c ∷ cs)) ∷ plain_records (after_line (c ∷ cs))
unfolding plain_records first_line after_line
records-first c cs other =
    ap (map (fields_from [])) (lines-first [] (c ∷ cs)) ∙ rw other refl

-- a line goes on over bytes that end no field
pub first_line-more : (piece rest : List ℕ) → list_any ends_field piece ≡ false → first_line (piece ++ rest) ≡ piece ++ first_line rest
unfolding first_line
first_line-more [] rest clean = refl
first_line-more (c ∷ cs) rest clean =
    let parts = or_parts (ends_field c) (list_any ends_field cs) clean in
    let line = (or_parts (c == 44) (ends_line c) parts.0).1 in
    rw (line, first_line-more cs rest parts.1) refl

pub after_line-more : (piece rest : List ℕ) → list_any ends_field piece ≡ false → after_line (piece ++ rest) ≡ after_line rest
unfolding after_line
after_line-more [] rest clean = refl
after_line-more (c ∷ cs) rest clean =
    let parts = or_parts (ends_field c) (list_any ends_field cs) clean in
    let line = (or_parts (c == 44) (ends_line c) parts.0).1 in
    rw line (after_line-more cs rest parts.1)

-- a field goes on over them
fields-more : (field piece rest : List ℕ) → list_any ends_field piece ≡ false → fields_from field (piece ++ rest) ≡ fields_from (field ++ piece) rest
unfolding fields_from
fields-more field [] rest clean = ap (λ (f : List ℕ). fields_from f rest) (sym (append-nil field))
fields-more field (c ∷ cs) rest clean =
    let parts = or_parts (ends_field c) (list_any ends_field cs) clean in
    let comma = (or_parts (c == 44) (ends_line c) parts.0).0 in
    rw comma (fields-more (field ++ c ∷ []) cs rest parts.1 ∙ ap (λ (f : List ℕ). fields_from f rest) (append_assoc field (c ∷ []) cs))

-- a field that ends at the end of its line
pub fields-last : (piece : List ℕ) (rest : List ℕ) → list_any ends_field piece ≡ false → first_line rest ≡ [] → fields_from [] (first_line (piece ++ rest)) ≡ piece ∷ []
unfolding fields_from
fields-last piece rest clean end =
    ap (fields_from []) (first_line-more piece rest clean ∙ ap (λ (l : List ℕ). piece ++ l) end) ∙ fields-more [] piece [] clean

-- a field that ends at a comma
pub fields-next : (piece : List ℕ) (rest : List ℕ) → list_any ends_field piece ≡ false
    → fields_from [] (first_line (piece ++ 44 ∷ rest)) ≡ piece ∷ fields_from [] (first_line rest)
unfolding fields_from first_line
fields-next piece rest clean =
    ap (fields_from []) (first_line-more piece (44 ∷ rest) clean) ∙ fields-more [] piece (44 ∷ first_line rest) clean

-- the record, where a text begins with a byte that ends no line
pub records-line : (text : List ℕ) → (length text == 0) ≡ false → ((c : ℕ) (cs : List ℕ) → text ≡ c ∷ cs → ends_line c ≡ false)
    → plain_records text ≡ fields_from [] (first_line text) ∷ plain_records (after_line text)
records-line [] some begins = cc some
records-line (c ∷ cs) some begins = records-first c cs (begins c cs refl)
