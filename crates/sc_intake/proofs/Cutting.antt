-- Each read takes the first of the records that are left.
use Rattle.std.proofs.Common.{◌≡◌, ◌⊎◌, ℕ, suc, zero, ◌+◌, ◌<◌, Bool, true, false, List, [], ◌∷◌, ◌++◌, length, Option, Some, None, cond, inl, inr, refl, sym, ap, ◌∙◌, arith, add-one}
use Rattle.csv.specs.Machine.{Read, ends_at_end, field_after, fields_after, is_end, next_record, step}
use Rattle.csv.specs.Reading.{default_config, records_from, records_next}
use Rattle.csv.specs.declared.parser.Config.{Config}
use Rattle.csv.specs.declared.parser.State.{State}
use Rattle.csv.specs.declared.parser.State.TheVariants as st

-- a record that a text gives leaves a shorter text, or it is the last one
pub record-shortens : (cfg : Config) (s : State) (fields : List (List ℕ)) (field xs : List ℕ) (r : Read)
    → next_record cfg s fields field xs ≡ Some r
    → (length r.2 < length xs) ⊎ ((r.1 ≡ st.StartRecord) × (r.2 ≡ []))
unfolding next_record
record-shortens cfg s fields field [] r e = by (ends_at_end s) e
  where
    by : (b : Bool) → cond b (Some (fields ++ (field ∷ []), st.StartRecord, [])) None ≡ Some r
        → (length r.2 < 0) ⊎ ((r.1 ≡ st.StartRecord) × (r.2 ≡ []))
    by true e =
        let last : Read = (fields ++ (field ∷ []), st.StartRecord, []) in
        let same : last ≡ r = cc in
        inr (sym (ap (λ (q : Read). q.1) same), sym (ap (λ (q : Read). q.2) same))
    by false e = cc e
record-shortens cfg s fields field (c ∷ rest) r e = by (is_end (step cfg s c).1) e (record-shortens cfg (step cfg s c).0 (fields_after (step cfg s c).1 fields field) (field_after (step cfg s c).1 c field) rest r)
  where
    by : (b : Bool)
        → cond b (Some (fields_after (step cfg s c).1 fields field, (step cfg s c).0, rest))
        (next_record cfg (step cfg s c).0 (fields_after (step cfg s c).1 fields field) (field_after (step cfg s c).1 c field) rest) ≡ Some r
        → (next_record cfg (step cfg s c).0 (fields_after (step cfg s c).1 fields field) (field_after (step cfg s c).1 c field) rest ≡ Some r
        → (length r.2 < length rest) ⊎ ((r.1 ≡ st.StartRecord) × (r.2 ≡ [])))
        → (length r.2 < length (c ∷ rest)) ⊎ ((r.1 ≡ st.StartRecord) × (r.2 ≡ []))
    by true e more =
        let ended : Read = (fields_after (step cfg s c).1 fields field, (step cfg s c).0, rest) in
        let same : ended ≡ r = cc in
        let size : length rest ≡ length r.2 = ap (λ (q : Read). length q.2) same in
        inl (omega arith)
    by false e more = elim (more e) [ inl shorter ↦ inl (omega arith) | inr last ↦ inr last ]

-- nothing comes after the end of a text
records_from-end : (cfg : Config) (n : ℕ) → records_from cfg n st.StartRecord [] ≡ []
unfolding records_from next_record
records_from-end cfg zero = refl
records_from-end cfg (suc n) = refl

-- the bound on the number of records does not matter once it is above the text's length
pub records_from-bounds : (cfg : Config) (n m : ℕ) (s : State) (xs : List ℕ) → length xs < n → length xs < m → records_from cfg n s xs ≡ records_from cfg m s xs
unfolding records_from
records_from-bounds cfg zero m s xs a b = absurd (omega arith)
records_from-bounds cfg (suc n) zero s xs a b = absurd (omega arith)
records_from-bounds cfg (suc n) (suc m) s xs a b = by (next_record cfg s [] [] xs) refl (records_from-bounds cfg n m)
  where
    by : (o : Option Read) → next_record cfg s [] [] xs ≡ o
        → ((t : State) (ys : List ℕ) → length ys < n → length ys < m → records_from cfg n t ys ≡ records_from cfg m t ys)
        → records_next (records_from cfg n) o ≡ records_next (records_from cfg m) o
    by None e more = refl
    by (Some p) e more =
        ap (λ (rest : List (List (List ℕ))). p.0 ∷ rest) (elim (record-shortens cfg s [] [] xs p e) [
          | inl shorter ↦ more p.1 p.2 (omega arith) (omega arith)
          | inr last ↦ rw (last.0, last.1) (records_from-end cfg n ∙ sym (records_from-end cfg m))
        ])

-- the records of a text from a state: the first, and those of the text after it
pub records_from-more : (s : State) (xs : List ℕ) (p : Read) → next_record default_config s [] [] xs ≡ Some p
    → records_from default_config (length xs + 1) s xs ≡ p.0 ∷ records_from default_config (length p.2 + 1) p.1 p.2
unfolding records_from
records_from-more s xs p e =
    rw (add-one (length xs), e) (ap (λ (rest : List (List (List ℕ))). p.0 ∷ rest) (elim (record-shortens default_config s [] [] xs p e) [
      | inl shorter ↦ records_from-bounds default_config (length xs) (length p.2 + 1) p.1 p.2 shorter (omega arith)
      | inr last ↦ rw (last.0, last.1) (records_from-end default_config (length xs) ∙ sym (records_from-end default_config 1))
    ]))

-- a text that gives no record has none
pub records_from-none : (s : State) (xs : List ℕ) → next_record default_config s [] [] xs ≡ None
    → records_from default_config (length xs + 1) s xs ≡ []
unfolding records_from
records_from-none s xs e = rw (add-one (length xs), e) refl
