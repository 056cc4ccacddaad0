-- Records written again as lines without quotes, field by field.
use Rattle.std.proofs.Common.{◌≡◌, ℕ, ◌+◌, ◌<◌, ◌≤◌, false, List, [], ◌∷◌, ◌++◌, length, map, take, Some, refl, sym, ap, ◌∙◌, append_assoc, append-nil, arith, length-append}
use Rattle.std.specs.List.{list_any}
use Rattle.std.proofs.lemmas.List.{take_more}
use Rattle.std.proofs.lemmas.Option.{get_or_from_slice_get}
use Rattle.csv.specs.Records.{field_at}
use Rattle.sc_intake.specs.Plain.{after_line, ends_field, fields_from, first_line, line_of, lines_from, plain_records}
use Rattle.sc_intake.specs.Unquoted.{AddsLine}
use Rattle.sc_intake.proofs.LineCut.{field-get}
use Rattle.sc_intake.proofs.Lines.{after_line-more, fields-last, fields-next, lines-first}

-- a text is longer by these fields, each with a comma after it
pub record AddsFields (old new : List ℕ) (fields : List (List ℕ)) : Type 0 where
  pub part : List ℕ
  pub added : new ≡ old ++ part
  pub line : (rest : List ℕ) → fields_from [] (first_line (part ++ rest)) ≡ fields ++ fields_from [] (first_line rest)
  pub after : (rest : List ℕ) → after_line (part ++ rest) ≡ after_line rest

-- a field and its end stand between what was written and what comes after
written-on : (part field : List ℕ) (end : ℕ) (rest : List ℕ) → (part ++ (field ++ end ∷ [])) ++ rest ≡ part ++ (field ++ end ∷ rest)
written-on part field end rest = append_assoc part (field ++ end ∷ []) rest ∙ ap (λ (t : List ℕ). part ++ t) (append_assoc field (end ∷ []) rest)

-- a field more
pub AddsFields-more : (old new next field : List ℕ) (fields : List (List ℕ)) → AddsFields old new fields → list_any ends_field field ≡ false → next ≡ new ++ (field ++ 44 ∷ [])
    → AddsFields old next (fields ++ field ∷ [])
unfolding after_line
AddsFields-more old new next field fields so clean is = record {
  part = so.part ++ (field ++ 44 ∷ []);
  added = is ∙ ap (λ (t : List ℕ). t ++ (field ++ 44 ∷ [])) so.added ∙ append_assoc old so.part (field ++ 44 ∷ []);
  line = λ rest.
      ap (λ (t : List ℕ). fields_from [] (first_line t)) (written-on so.part field 44 rest) ∙ so.line (field ++ 44 ∷ rest)
      ∙ ap (λ (fs : List (List ℕ)). fields ++ fs) (fields-next field rest clean) ∙ sym (append_assoc fields (field ∷ []) (fields_from [] (first_line rest)));
  after = λ rest. ap after_line (written-on so.part field 44 rest) ∙ so.after (field ++ 44 ∷ rest) ∙ after_line-more field (44 ∷ rest) clean;
}

-- a text whose first line has several fields has them as a record
records-several : (text : List ℕ) (fields : List (List ℕ)) → fields_from [] (first_line text) ≡ fields → 2 ≤ length fields
    → plain_records text ≡ fields ∷ plain_records (after_line text)
unfolding plain_records fields_from
records-several text fields is several = ap (map (fields_from [])) (lines-first [] text) ∙ by (first_line text) is
  where
    by : (line : List ℕ) → fields_from [] line ≡ fields
        → map (fields_from []) (line_of line ++ lines_from [] (after_line text)) ≡ fields ∷ map (fields_from []) (lines_from [] (after_line text))
    by [] one = let size : 1 ≡ length fields = ap length one in absurd (omega arith)
    by (c ∷ cs) same = ap (λ (f : List (List ℕ)). f ∷ map (fields_from []) (lines_from [] (after_line text))) same

-- the last field, and the line end
pub AddsLine-last : (old new next field : List ℕ) (fields : List (List ℕ)) → AddsFields old new fields → list_any ends_field field ≡ false → next ≡ new ++ (field ++ 10 ∷ [])
    → 1 ≤ length fields → AddsLine old next (fields ++ field ∷ [])
unfolding first_line after_line
AddsLine-last old new next field fields so clean is some = record {
  line = so.part ++ (field ++ 10 ∷ []);
  added = is ∙ ap (λ (t : List ℕ). t ++ (field ++ 10 ∷ [])) so.added ∙ append_assoc old so.part (field ++ 10 ∷ []);
  reads = λ rest.
      let line = so.line (field ++ 10 ∷ rest) ∙ ap (λ (fs : List (List ℕ)). fields ++ fs) (fields-last field (10 ∷ rest) clean refl) in
      let after = so.after (field ++ 10 ∷ rest) ∙ after_line-more field (10 ∷ rest) clean in
      let several : 2 ≤ length (fields ++ field ∷ []) = omega (arith, length-append fields (field ∷ [])) in
      ap plain_records (written-on so.part field 10 rest) ∙ records-several (so.part ++ (field ++ 10 ∷ rest)) (fields ++ field ∷ []) line several
      ∙ ap (λ (t : List ℕ). (fields ++ field ∷ []) ∷ plain_records t) after;
}

-- the first of these records are written, and those are left
pub record AreWritten (text : List ℕ) (records left : List (List (List ℕ))) : Type 0 where
  pub written : List (List (List ℕ))
  pub cut : records ≡ written ++ left
  pub reads : (rest : List ℕ) → plain_records (text ++ rest) ≡ written ++ plain_records rest

-- a record more
pub AreWritten-more : (old new : List ℕ) (records left rest : List (List (List ℕ))) (fields : List (List ℕ)) → AreWritten old records left → left ≡ fields ∷ rest → AddsLine old new fields
    → AreWritten new records rest
AreWritten-more old new records left rest fields so next adds = record {
  written = so.written ++ fields ∷ [];
  cut = so.cut ∙ ap (λ (rs : List (List (List ℕ))). so.written ++ rs) next ∙ sym (append_assoc so.written (fields ∷ []) rest);
  reads = λ more.
      ap (λ (t : List ℕ). plain_records (t ++ more)) adds.added ∙ ap plain_records (append_assoc old adds.line more) ∙ so.reads (adds.line ++ more)
      ∙ ap (λ (rs : List (List (List ℕ))). so.written ++ rs) (adds.reads more) ∙ sym (append_assoc so.written (fields ∷ []) (plain_records more));
}

-- all of them
pub AreWritten-all : (text : List ℕ) (records left : List (List (List ℕ))) → AreWritten text records left → left ≡ [] → plain_records text ≡ records
unfolding plain_records lines_from
AreWritten-all text records left so end =
    ap plain_records (sym (append-nil text)) ∙ so.reads [] ∙ sym (so.cut ∙ ap (λ (rs : List (List (List ℕ))). so.written ++ rs) end)

-- the first fields, up to one place more
pub fields-taken : (fields : List (List ℕ)) (i : ℕ) (field : List ℕ) → i < length fields → field_at fields i ≡ Some field → take (i + 1) fields ≡ take i fields ++ field ∷ []
fields-taken fields i field within at =
    take_more fields i field within ∙ ap (λ (f : List ℕ). take i fields ++ f ∷ []) (get_or_from_slice_get fields i field field (field-get fields i ∙ at))
