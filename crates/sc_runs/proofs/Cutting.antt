-- Lemmas on the cut at a marker, one byte on.
use Rattle.std.proofs.Common.{◌≡◌, ℕ, zero, suc, ◌+◌, ◌-◌, ◌<◌, ◌≤◌, ◌==◌, nat_eq, Bool, true, false, ◌||◌, List, [], ◌∷◌, ◌++◌, Option, None, Some, if◌then◌else◌, inl, inr, refl, sym, ap, ◌∙◌, subst, length, take, drop, get_or, append_assoc, append-nil, arith, drop-drop, length-drop}
use Rattle.std.proofs.lemmas.Bool.{cases_Bool, cases_lt, cond-false, ne_eqb}
use Rattle.std.proofs.lemmas.List.{drop_all, drop_more, length-take, take_more}
use Rattle.std.proofs.lemmas.Slice.Eq.{bytes_eq-Decides}
use Rattle.std.specs.List.{starts_with}
use Rattle.memchr.specs.Find.{Nowhere, NoneBefore, OccursAt}
use Rattle.memchr.proofs.lemmas.MatchLemmas.{OccursAt-from_part, OccursAt-part}
use Rattle.sc_runs.specs.Markers.{Parts, after_end, after_marker, begins_line, one_later, here_or, cut_at}

-- the parts, with more bytes before the marker
abbrev pub later : List ℕ → Option Parts → Option Parts
later earlier None = None
later earlier (Some parts) = Some (record { before = earlier ++ parts.before; after = parts.after })

-- what stands after the marker's line where a line begins, and nothing elsewhere
abbrev pub marker_here : List ℕ → Bool → List ℕ → Option (List ℕ)
marker_here marker fresh bytes = if fresh then after_marker marker bytes else None

later-one_later : (earlier : List ℕ) (byte : ℕ) (parts : Option Parts) → later earlier (one_later byte parts) ≡ later (earlier ++ byte ∷ []) parts
later-one_later earlier byte None = refl
later-one_later earlier byte (Some parts) =
    ap (λ before. Some (record { before = before; after = parts.after })) (sym (append_assoc earlier (byte ∷ []) parts.before))

-- where no marker's line stands, the search goes on one byte later
pub cut_at-passed : (marker bytes : List ℕ) (fresh : Bool) (at : ℕ) → at < length bytes → marker_here marker fresh (drop at bytes) ≡ None
    → later (take at bytes) (cut_at marker fresh (drop at bytes)) ≡ later (take (at + 1) bytes) (cut_at marker (get_or bytes at 0 == 10) (drop (at + 1) bytes))
cut_at-passed marker bytes fresh at within none =
    let byte = get_or bytes at 0 in
    let rest = drop (at + 1) bytes in
    let first : drop at bytes ≡ byte ∷ rest = drop_more bytes at 0 within in
    let passed : marker_here marker fresh (byte ∷ rest) ≡ None = subst (λ here. marker_here marker fresh here ≡ None) first none in
    ap (λ here. later (take at bytes) (cut_at marker fresh here)) first
    ∙ ap (λ found. later (take at bytes) (here_or found (one_later byte (cut_at marker (byte == 10) rest)))) passed
    ∙ later-one_later (take at bytes) byte (cut_at marker (byte == 10) rest)
    ∙ ap (λ earlier. later earlier (cut_at marker (byte == 10) rest)) (sym (take_more bytes at 0 within))

-- where a marker's line stands, the bytes are cut there
pub cut_at-found : (marker bytes : List ℕ) (fresh : Bool) (at : ℕ) (after : List ℕ) → at < length bytes → marker_here marker fresh (drop at bytes) ≡ Some after
    → later (take at bytes) (cut_at marker fresh (drop at bytes)) ≡ Some (record { before = take at bytes; after = after })
cut_at-found marker bytes fresh at after within found =
    let byte = get_or bytes at 0 in
    let rest = drop (at + 1) bytes in
    let first : drop at bytes ≡ byte ∷ rest = drop_more bytes at 0 within in
    let stands : marker_here marker fresh (byte ∷ rest) ≡ Some after = subst (λ here. marker_here marker fresh here ≡ Some after) first found in
    ap (λ here. later (take at bytes) (cut_at marker fresh here)) first
    ∙ ap (λ here. later (take at bytes) (here_or here (one_later byte (cut_at marker (byte == 10) rest)))) stands
    ∙ ap (λ earlier. Some (record { before = earlier; after = after })) (append-nil (take at bytes))

-- the parts that are left to find from a place on
abbrev pub parts_from : List ℕ → List ℕ → ℕ → Option Parts
parts_from marker bytes at = later (take at bytes) (cut_at marker (begins_line bytes at) (drop at bytes))

-- where the marker stands nowhere, no line is the marker
no-marker : (marker bytes : List ℕ) (fresh : Bool) → (starts_with nat_eq bytes marker ≡ true → ⊥) → marker_here marker fresh bytes ≡ None
no-marker marker bytes false nowhere = refl
no-marker marker bytes true nowhere = elim (cases_Bool (starts_with nat_eq bytes marker)) [
  | inl stands ↦ absurd (nowhere stands)
  | inr fails ↦ cond-false (starts_with nat_eq bytes marker) (after_end (drop (length marker) bytes)) None fails
]

after-place : (bytes : List ℕ) (at : ℕ) → begins_line bytes (at + 1) ≡ (get_or bytes at 0 == 10)
after-place bytes at =
    ap (λ b. b || get_or bytes (at + 1 - 1) 0 == 10) (ne_eqb (at + 1) 0 (λ same. omega (arith, same)))
    ∙ ap (λ k. get_or bytes k 0 == 10) (omega arith)

-- where no line is the marker, the search goes on one byte later
pub parts_from-passed : (marker bytes : List ℕ) (at : ℕ) → at < length bytes → marker_here marker (begins_line bytes at) (drop at bytes) ≡ None
    → parts_from marker bytes at ≡ parts_from marker bytes (at + 1)
parts_from-passed marker bytes at within none =
    cut_at-passed marker bytes (begins_line bytes at) at within none
    ∙ ap (λ fresh. later (take (at + 1) bytes) (cut_at marker fresh (drop (at + 1) bytes))) (sym (after-place bytes at))

-- and so it does past all places at which the marker does not stand
parts_from-skip : (marker bytes : List ℕ) (start count : ℕ) → start + count ≤ length bytes
    → ((k : ℕ) → start ≤ k → k < start + count → starts_with nat_eq (drop k bytes) marker ≡ true → ⊥) → parts_from marker bytes start ≡ parts_from marker bytes (start + count)
parts_from-skip marker bytes start zero within nowhere = ap (parts_from marker bytes) (omega arith)
parts_from-skip marker bytes start (suc count) within nowhere =
    parts_from-passed marker bytes start (omega (arith, within))
    (no-marker marker (drop start bytes) (begins_line bytes start) (nowhere start (omega arith) (omega arith)))
    ∙ parts_from-skip marker bytes (start + 1) count (omega (arith, within)) (λ k low high. nowhere k (omega (arith, low)) (omega (arith, high)))
    ∙ ap (parts_from marker bytes) (omega arith)

pub parts_from-place : (marker bytes : List ℕ) (start at : ℕ) → start ≤ at → at ≤ length bytes
    → Nowhere (λ k. starts_with nat_eq (drop k bytes) marker ≡ true) start at → parts_from marker bytes start ≡ parts_from marker bytes at
parts_from-place marker bytes start at low within nowhere =
    parts_from-skip marker bytes start (at - start) (omega (arith, low, within)) (λ k above below. nowhere k above (omega (arith, low, below)))
    ∙ ap (parts_from marker bytes) (omega (arith, low))

-- past the end there are no parts
pub parts_from-end : (marker bytes : List ℕ) (at : ℕ) → length bytes ≤ at → parts_from marker bytes at ≡ None
parts_from-end marker bytes at over = ap (λ rest. later (take at bytes) (cut_at marker (begins_line bytes at) rest)) (drop_all at bytes over)

-- the marker stands where a search for it finds it
same-part : (marker bytes : List ℕ) → starts_with nat_eq bytes marker ≡ true → take (length marker) bytes ≡ marker
same-part marker bytes stands = sym ((bytes_eq-Decides marker (take (length marker) bytes)).0 stands)

marker-occurs : (marker bytes : List ℕ) (start k : ℕ) → start ≤ k → k < length bytes → starts_with nat_eq (drop k bytes) marker ≡ true → OccursAt (drop start bytes) marker (k - start)
marker-occurs marker bytes start k low high stands =
    let rest : drop (k - start) (drop start bytes) ≡ drop k bytes = drop-drop (k - start) start bytes ∙ ap (λ n. drop n bytes) (omega (arith, low)) in
    let part : take (length marker) (drop k bytes) ≡ marker = same-part marker (drop k bytes) stands in
    let fits : length marker ≤ length (drop k bytes) = omega (arith, ap length part, length-take (length marker) (drop k bytes)) in
    OccursAt-from_part (drop start bytes) marker (k - start)
    (omega (arith, low, high, fits, length-drop k bytes, length-drop start bytes)) (ap (take (length marker)) rest ∙ part)

marker-stands : (marker bytes : List ℕ) (start ahead : ℕ) → OccursAt (drop start bytes) marker ahead → starts_with nat_eq (drop (start + ahead) bytes) marker ≡ true
marker-stands marker bytes start ahead occurs =
    (bytes_eq-Decides marker (take (length marker) (drop (start + ahead) bytes))).1
    (sym (ap (take (length marker)) (sym (drop-drop ahead start bytes ∙ ap (λ n. drop n bytes) (omega arith))) ∙ OccursAt-part (drop start bytes) marker ahead occurs))

-- what a search of the bytes from a place on says of all bytes
pub found-none : (marker bytes : List ℕ) (start : ℕ) → start < length bytes → Nowhere (OccursAt (drop start bytes) marker) 0 (length (drop start bytes) + 1)
    → Nowhere (λ k. starts_with nat_eq (drop k bytes) marker ≡ true) start (length bytes)
found-none marker bytes start within nowhere k low high stands =
    nowhere (k - start) (omega arith) (omega (arith, low, high, length-drop start bytes)) (marker-occurs marker bytes start k low high stands)

pub found-first : (marker bytes : List ℕ) (start ahead : ℕ) → start < length bytes
    → NoneBefore (OccursAt (drop start bytes) marker) 0 (length (drop start bytes) + 1) ahead × OccursAt (drop start bytes) marker ahead
    → NoneBefore (λ k. starts_with nat_eq (drop k bytes) marker ≡ true) start (length bytes) (start + ahead) × (starts_with nat_eq (drop (start + ahead) bytes) marker ≡ true)
found-first marker bytes start ahead within (first, occurs) = (
  record {
    low = omega arith;
    high = below;
    before = λ k low high stands. first.before (k - start) (omega arith) (omega (arith, low, high)) (marker-occurs marker bytes start k low (omega (arith, high, below)) stands);
  },
  marker-stands marker bytes start ahead occurs,
)
  where
    empty-occurs : length marker ≡ 0 → OccursAt (drop start bytes) marker 0
    empty-occurs none = record { fits = omega (arith, none, length-drop start bytes); reads = λ j low. absurd (omega (arith, none, low)) }

    below : start + ahead < length bytes
    below = elim (cases_lt (start + ahead) (length bytes)) [
      | inl low ↦ low
      | inr over ↦ absurd (first.before 0 (omega arith) (omega (arith, within, over)) (empty-occurs (omega (arith, over, within, occurs.fits, length-drop start bytes))))
    ]
