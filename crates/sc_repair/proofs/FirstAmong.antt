-- The first place that passes, looked for among rising places with all that pass among them.
use Rattle.std.proofs.Common.{◌≡◌, inl, inr, ap, sym, ◌∙◌, ℕ, ◌<◌, ◌≤◌, Bool, true, false, not, List, get_or, length, Contains, arith}
use Rattle.std.specs.List.{position_or_len}
use Rattle.std.specs.List.Sorted.{IsStrictlyIncreasing}
use Rattle.std.proofs.lemmas.Bool.{cases_lt, cases_order, false≢true}
use Rattle.std.proofs.lemmas.List.{get_or_default}
use Rattle.std.proofs.lemmas.List.Sums.{passes_at_first, prefix_len-le-length}
use Rattle.sc_repair.proofs.Rising.{rising-less}
use Rattle.sc_repair.proofs.Positions.{first-here}

-- all that pass are among the places
abbrev HasAll : (ℕ → Bool) → List ℕ → List ℕ → Type 0
HasAll test xs places = (q : ℕ) → q < length xs → test (get_or xs q 0) ≡ true → Contains places q

-- the first that passes is among the places, and passes
first-there : (test : ℕ → Bool) (xs places : List ℕ) → HasAll test xs places → position_or_len test xs < length xs
    → (k : ℕ) × (k < length places) × (get_or places k 0 ≡ position_or_len test xs) × (test (get_or xs (get_or places k 0) 0) ≡ true)
first-there test xs places all within =
    let passes : test (get_or xs (position_or_len test xs) 0) ≡ true = passes_at_first test xs 0 within in
    let (k, low, at) = all (position_or_len test xs) within passes in
    let same : get_or places k 0 ≡ position_or_len test xs = get_or_default places k 0 (position_or_len test xs) low ∙ at in
    (k, low, same, ap (λ (q : ℕ). test (get_or xs q 0)) same ∙ passes)

-- a place that passes, none before which does, is the first
pub first-among : (test : ℕ → Bool) (xs places : List ℕ) (j : ℕ) → j < length places → IsStrictlyIncreasing places → HasAll test xs places
    → ((k : ℕ) → k < j → test (get_or xs (get_or places k 0) 0) ≡ false) → get_or places j 0 < length xs → test (get_or xs (get_or places j 0) 0) ≡ true
    → get_or places j 0 ≡ position_or_len test xs
first-among test xs places j low rising all earlier within passes = first-here test xs (get_or places j 0) late passes
  where
    late : get_or places j 0 ≤ position_or_len test xs
    late = elim (cases_lt (position_or_len test xs) (get_or places j 0)) [
      | inr done ↦ done
      | inl before ↦
          let (k, fits, same, there) = first-there test xs places all (omega (arith, within, before)) in
          elim (cases_order k j) [
            | inl equal ↦ absurd (omega (arith, ap (λ (n : ℕ). get_or places n 0) equal, same, before))
            | inr (inl first) ↦ absurd (false≢true (sym (earlier k first) ∙ there))
            | inr (inr later) ↦ absurd (omega (arith, rising-less places j k rising later fits, same, before))
          ]
    ]

-- where no place passes, nothing does
pub none-among : (test : ℕ → Bool) (xs places : List ℕ) → HasAll test xs places
    → ((k : ℕ) → k < length places → test (get_or xs (get_or places k 0) 0) ≡ false) → length xs ≡ position_or_len test xs
none-among test xs places all none =
    elim (cases_lt (position_or_len test xs) (length xs)) [
      | inr past ↦ omega (arith, past, prefix_len-le-length (λ x. not (test x)) xs)
      | inl within ↦
          let (k, fits, same, there) = first-there test xs places all within in
          absurd (false≢true (sym (none k fits) ∙ there))
    ]
