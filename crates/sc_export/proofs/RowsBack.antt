-- Rows that are read back from a file, one after the other.
use Rattle.std.proofs.Common.{◌≡◌, ◌∙◌, ◌<◌, ◌≤◌, ◌==◌, ◌+◌, ℕ, true, false, nat_eq, List, [], ◌∷◌, ◌++◌, length, map, Ok, refl, sym, ap, arith, append_assoc}
use Rattle.std.specs.Prelude.{nat_le, nat_lt, Result}
use Rattle.std.specs.List.{IsDistinct, list_any, AllByRecursion}
use Rattle.std.proofs.lemmas.Bool.Decides.{nat_tests}
use Rattle.std.proofs.lemmas.Cmp.{nat_eq_equiv}
use Rattle.std.proofs.lemmas.List.{append-nil, length-append, map-append}
use Rattle.csv.specs.Reading.{default_config, records, strip_bom}
use Rattle.sc_intake.specs.File.{is_marked, records_in, rows_after}
use Rattle.sc_intake.specs.Rows.{next_row}
use Rattle.sc_intake.specs.declared.fault.Cause.{Cause}
use Rattle.sc_intake.specs.declared.fault.Source.{Source}
use Rattle.sc_export.specs.Files.{file_text}
use Rattle.sc_export.proofs.Plain.{AllRows, rows-read}

-- a number is none of those before it
distinct-apart : (xs : List ℕ) (y : ℕ) (ys : List ℕ) → IsDistinct nat_eq (xs ++ y ∷ ys) → list_any (nat_eq y) xs ≡ false
unfolding IsDistinct
distinct-apart [] y ys differ = refl
distinct-apart (x ∷ xs) y ys differ =
    let other : nat_eq y x ≡ false = nat_eq_equiv.symm y x ∙ among xs differ.0 in
    rw other (distinct-apart xs y ys differ.1)
  where
    among : (xs : List ℕ) → AllByRecursion (λ z. nat_eq x z ≡ false) (xs ++ y ∷ ys) → nat_eq x y ≡ false
    among [] apart = apart.0
    among (z ∷ zs) apart = among zs apart.1

module _ {E R : Type 0} (source : Source) (most width : ℕ) (number : R → ℕ) (read : ℕ → List (List ℕ) → Result R Cause)
    (key : E → ℕ) (fields : E → List (List ℕ)) (made : ℕ → E → R) where
  -- an entry's fields are read as its row
  pub record IsBack (e : E) : Type 0 where
    pub wide : length (fields e) ≡ width
    pub reads : (n : ℕ) → read n (fields e) ≡ Ok (made n e)
    pub keyed : (n : ℕ) → number (made n e) ≡ key e

  -- the rows of entries, from this row on
  unfoldable pub rows_from : ℕ → List E → List R
  rows_from n [] = []
  rows_from n (e ∷ es) = made n e ∷ rows_from (n + 1) es

  next-back : (earlier : List R) (e : E) (es : List E) → IsBack e → length earlier < most → IsDistinct nat_eq (map number earlier ++ map key (e ∷ es))
      → next_row most number read width earlier (fields e) ≡ Ok (made (length earlier + 2) e)
  next-back earlier e es back room differ =
      let few : nat_le most (length earlier) ≡ false = grind (arith, nat_tests, room) in
      let wide : (length (fields e) == width) ≡ true = grind (arith, nat_tests, back.wide) in
      let fresh : list_any (nat_eq (number (made (length earlier + 2) e))) (map number earlier) ≡ false =
      rw (back.keyed (length earlier + 2)) (distinct-apart (map number earlier) (key e) (map key es) differ) in
      rw (few, wide, back.reads (length earlier + 2), fresh) refl

  pub rows-back : (earlier : List R) (es : List E) → AllByRecursion IsBack es → length earlier + length es ≤ most → IsDistinct nat_eq (map number earlier ++ map key es)
      → rows_after 2 source (next_row most number read width) earlier (map fields es) ≡ Ok (earlier ++ rows_from (length earlier + 2) es)
  unfolding rows_after rows_from
  rows-back earlier [] back few differ = ap Ok (sym (append-nil earlier))
  rows-back earlier (e ∷ es) back few differ =
      let row = made (length earlier + 2) e in
      let step = next-back earlier e es back.0 (omega arith) differ in
      let size : length (earlier ++ row ∷ []) ≡ length earlier + 1 = length-append earlier (row ∷ []) in
      let numbers : map number (earlier ++ row ∷ []) ++ map key es ≡ map number earlier ++ map key (e ∷ es) =
      ap (λ ns. ns ++ map key es) (map-append number earlier (row ∷ []) ∙ ap (λ k. map number earlier ++ k ∷ []) (back.0.keyed (length earlier + 2)))
      ∙ append_assoc (map number earlier) (key e ∷ []) (map key es) in
      let next : length (earlier ++ row ∷ []) + 2 ≡ (length earlier + 2) + 1 = omega (arith, size) in
      let more = rows-back (earlier ++ row ∷ []) es back.1 (omega (arith, size)) (rw numbers differ) in
      rw step (more ∙ ap Ok (append_assoc earlier (row ∷ []) (rows_from (length (earlier ++ row ∷ []) + 2) es) ∙ ap (λ n. earlier ++ row ∷ rows_from n es) next))

-- a text that begins with a letter has no byte order mark
unmarked : (a b c : ℕ) (rest : List ℕ) → (a == 239) ≡ false → (strip_bom (a ∷ b ∷ c ∷ rest) ≡ a ∷ b ∷ c ∷ rest) × (is_marked (a ∷ b ∷ c ∷ rest) ≡ false)
unfolding strip_bom
unmarked a b c rest letter = (rw letter refl, rw letter refl)

-- a file that is not too long is read as its header and its rows
pub file-read : (source : Source) (a b c : ℕ) (rest : List ℕ) (header : List (List ℕ)) (rows : List (List (List ℕ))) → (a == 239) ≡ false
    → file_text header rows ≡ a ∷ b ∷ c ∷ rest → length (file_text header rows) ≤ 67108864 → AllRows (header ∷ rows)
    → records_in source (file_text header rows) ≡ Ok (header ∷ rows)
unfolding records_in
file-read source a b c rest header rows letter begins short plain =
    let fits : nat_lt 67108864 (length (file_text header rows)) ≡ false = grind (arith, nat_tests, short) in
    let mark = unmarked a b c rest letter in
    let stripped : strip_bom (file_text header rows) ≡ file_text header rows = rw begins mark.0 in
    let none : is_marked (strip_bom (file_text header rows)) ≡ false = ap is_marked stripped ∙ ap is_marked begins ∙ mark.1 in
    rw (fits, none) (ap (λ (text : List ℕ). Ok (records default_config text)) stripped ∙ ap Ok (rows-read (header ∷ rows) plain))
