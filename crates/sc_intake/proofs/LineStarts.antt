-- Where the lines of a text begin: one line more.
use Rattle.std.proofs.Common.{◌≡◌, ℕ, suc, ◌-◌, ◌<◌, ◌≤◌, Bool, true, false, cond, List, [], ◌∷◌, ◌++◌, length, drop, get_or, inl, inr, refl, sym, ap, ◌∙◌, arith}
use Rattle.std.proofs.lemmas.Bool.{cases_lt}
use Rattle.std.proofs.lemmas.List.{drop_all, get_or_append_left, get_or_at, length-drop, length_push}
use Rattle.std.proofs.Math.Seq.{drop-cons}
use Rattle.sc_intake.specs.TextLines.{AreStarts}
use Rattle.sc_intake.specs.Plain.{after_line, ends_line, fields_from, first_line, plain_records}
use Rattle.sc_intake.proofs.Lines.{records-first, records-none}

-- so far the lines of a text were found: those that are left begin here
pub record AreStartsTo (text starts : List ℕ) (at : ℕ) : Type 0 where
  pub within : at ≤ length text
  pub few : length starts ≤ length (plain_records text)
  pub each : (k : ℕ) → k < length starts → plain_records (drop (get_or starts k 0) text) ≡ drop k (plain_records text)
  pub left : plain_records (drop at text) ≡ drop (length starts) (plain_records text)
  pub begins : (c : ℕ) (cs : List ℕ) → drop at text ≡ c ∷ cs → ends_line c ≡ false

-- none was looked for yet
pub AreStartsTo-none : (text : List ℕ) (at : ℕ) → at ≤ length text → plain_records (drop at text) ≡ plain_records text
    → ((c : ℕ) (cs : List ℕ) → drop at text ≡ c ∷ cs → ends_line c ≡ false) → AreStartsTo text [] at
AreStartsTo-none text at within same begins = record {
  within = within;
  few = omega arith;
  each = λ k below. absurd (omega arith);
  left = same;
  begins = begins;
}

-- a line was found, and the next one begins there
pub AreStartsTo-more : (text starts : List ℕ) (at end next : ℕ) → AreStartsTo text starts at → at < length text → next ≤ length text
    → drop end text ≡ after_line (drop at text) → plain_records (drop next text) ≡ plain_records (drop end text)
    → ((c : ℕ) (cs : List ℕ) → drop next text ≡ c ∷ cs → ends_line c ≡ false) → AreStartsTo text (starts ++ at ∷ []) next
AreStartsTo-more text starts at end next to more within rest same begins =
    let records = plain_records text in
    let first = drop-cons text at 0 more in
    let cut : plain_records (drop at text) ≡ fields_from [] (first_line (drop at text)) ∷ plain_records (after_line (drop at text)) =
    rw first (records-first (get_or text at 0) (drop (suc at) text) (to.begins (get_or text at 0) (drop (suc at) text) first)) in
    let taken : drop (length starts) records ≡ fields_from [] (first_line (drop at text)) ∷ plain_records (after_line (drop at text)) = sym to.left ∙ cut in
    let size : length (drop (length starts) records) ≡ suc (length (plain_records (after_line (drop at text)))) = ap length taken in
    let there : length starts < length records = omega (arith, size, length-drop (length starts) records) in
    let both : get_or records (length starts) [] ∷ drop (suc (length starts)) records ≡ fields_from [] (first_line (drop at text)) ∷ plain_records (after_line (drop at text)) =
    sym (drop-cons records (length starts) [] there) ∙ taken in
    let left : plain_records (after_line (drop at text)) ≡ drop (suc (length starts)) records = cc in
    let count : length (starts ++ at ∷ []) ≡ suc (length starts) = length_push starts at ∙ omega arith in
    record {
      within = within;
      few = omega (arith, count);
      each = λ k below. elim (cases_lt k (length starts)) [
        | inl before ↦ rw (get_or_append_left starts (at ∷ []) 0 k before) (to.each k before)
        | inr not ↦
            let last : k ≡ length starts = omega (arith, count) in
            rw (get_or_at starts at [] 0 k (sym last), last) to.left
      ];
      left = same ∙ ap plain_records rest ∙ left ∙ ap (λ (n : ℕ). drop n records) (sym count);
      begins = begins;
    }

-- all were found
pub AreStartsTo-end : (text starts : List ℕ) (at : ℕ) → AreStartsTo text starts at → length text ≤ at → AreStarts text starts
AreStartsTo-end text starts at to end =
    let none : drop (length starts) (plain_records text) ≡ [] = sym to.left ∙ ap plain_records (drop_all at text end) ∙ records-none in
    let size : length (drop (length starts) (plain_records text)) ≡ 0 = ap length none in
    record { many = omega (arith, size, to.few, length-drop (length starts) (plain_records text)); each = to.each }

-- what comes after a line is shorter, and stands at the end of the text
pub after_line-cut : (text : List ℕ) → (length (after_line text) ≤ length text - 1) × (drop (length text - length (after_line text)) text ≡ after_line text)
unfolding after_line
after_line-cut [] = (omega arith, refl)
after_line-cut (c ∷ cs) = by (ends_line c) (after_line-cut cs)
  where
    by : (b : Bool) → (length (after_line cs) ≤ length cs - 1) × (drop (length cs - length (after_line cs)) cs ≡ after_line cs)
        → (length (cond b cs (after_line cs)) ≤ suc (length cs) - 1) × (drop (suc (length cs) - length (cond b cs (after_line cs))) (c ∷ cs) ≡ cond b cs (after_line cs))
    by true more = let one : suc (length cs) - length cs ≡ 1 = omega arith in (omega arith, rw one refl)
    by false (short, same) =
        let one : suc (length cs) - length (after_line cs) ≡ suc (length cs - length (after_line cs)) = omega arith in
        (omega arith, rw one same)
