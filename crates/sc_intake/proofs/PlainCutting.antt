-- csv's machine cuts a text line by line, as far as these have no quote: so do both ways of cutting.
use Rattle.std.proofs.Common.{◌≡◌, ℕ, zero, suc, ◌+◌, ◌<◌, ◌≤◌, ◌==◌, ◌||◌, Bool, true, false, List, [], ◌∷◌, ◌++◌, length, inl, inr, refl, sym, ap, ◌∙◌, append_assoc, add-one, arith, cond, Some, None}
use Rattle.std.specs.Prelude.{drop, slice_index}
use Rattle.std.proofs.lemmas.Bool.{cases_Bool, false_from_ne_true, or_parts}
use Rattle.std.proofs.lemmas.Bool.Decides.{nat_tests}
use Rattle.csv.specs.Machine.{ends_at_end, field_after, fields_after, in_field, is_end, next_record, step}
use Rattle.csv.specs.Reading.{default_config, records, records_from, strip_bom}
use Rattle.csv.specs.declared.parser.Action.TheVariants as act
use Rattle.csv.specs.declared.parser.State.{State}
use Rattle.csv.specs.declared.parser.State.TheVariants as st
use Rattle.memchr.specs.Find.{IsFirstByte, is_byte}
use Rattle.sc_intake.specs.File.{is_marked}
use Rattle.sc_intake.specs.Plain.{after_line, cut, ends_line, fields_from, first_line, has_quote, plain_records}
use Rattle.sc_intake.proofs.Cutting.{records_from-bounds, records_from-more}
use Rattle.sc_intake.proofs.Lines.{records-first, records-none, records-skip}

-- inside a record a byte that is no quote parts fields, ends the record or joins the field
record InRecord (s : State) : Type 0 where
  steps : (c : ℕ) → (c == 34) ≡ false → step default_config s c ≡ in_field default_config c
  ends : ends_at_end s ≡ true

-- between records the machine goes on as it begins
record BetweenRecords (s : State) : Type 0 where
  steps : (c : ℕ) → step default_config s c ≡ step default_config st.StartRecord c
  ends : ends_at_end s ≡ false

at-start_field : InRecord st.StartField
at-start_field = record { steps = λ c plain. rw plain refl; ends = refl }

at-in_field : InRecord st.InField
at-in_field = record { steps = λ c plain. refl; ends = refl }

-- the machine asks for CR before LF
line-end : (c : ℕ) → ((c == 13) || (c == 10)) ≡ ends_line c
line-end c = by (c == 13) (c == 10)
  where
    by : (cr lf : Bool) → (cr || lf) ≡ (lf || cr)
    by true true = refl
    by true false = refl
    by false true = refl
    by false false = refl

at-start_record : BetweenRecords st.StartRecord
at-start_record = record { steps = λ c. refl; ends = refl }

at-after_cr : BetweenRecords st.AfterCr
at-after_cr = record {
  steps = λ c. elim (cases_Bool (c == 10)) [ inl lf ↦ rw (line-end c, lf) refl | inr other ↦ rw other refl ];
  ends = refl;
}

-- line ends are passed over there, and another byte begins a record
skips : (c : ℕ) → ends_line c ≡ true → step default_config st.StartRecord c ≡ (st.StartRecord, act.Skip)
skips c end = rw (line-end c ∙ end) refl

begins : (c : ℕ) → (c == 34) ≡ false → ends_line c ≡ false → step default_config st.StartRecord c ≡ in_field default_config c
begins c plain other = rw (line-end c ∙ other, plain) refl

-- the end of a record leaves the machine between records
after-record : (c : ℕ) → (s : State) × (s ≡ (cond (c == 13) st.AfterCr st.StartRecord)) × BetweenRecords s
after-record c = by (c == 13)
  where
    by : (cr : Bool) → (s : State) × (s ≡ (cond cr st.AfterCr st.StartRecord)) × BetweenRecords s
    by true = (st.AfterCr, refl, at-after_cr)
    by false = (st.StartRecord, refl, at-start_record)

-- one byte of a record
record-byte : (s : State) (fields : List (List ℕ)) (field : List ℕ) (c : ℕ) (cs : List ℕ) → step default_config s c ≡ in_field default_config c
    → next_record default_config s fields field (c ∷ cs)
    ≡ cond (is_end (in_field default_config c).1) (Some (fields_after (in_field default_config c).1 fields field, (in_field default_config c).0, cs))
    (next_record default_config (in_field default_config c).0 (fields_after (in_field default_config c).1 fields field) (field_after (in_field default_config c).1 c field) cs)
unfolding next_record
record-byte s fields field c cs steps = rw steps refl

-- what is read of a text inside a record: the rest of its line, and the text after it, between records
abbrev ReadsLine : State → List (List ℕ) → List ℕ → List ℕ → Type 0
ReadsLine s fields field text =
    (t : State) × BetweenRecords t × (next_record default_config s fields field text ≡ Some (fields ++ fields_from field (first_line text), t, after_line text))

-- a line end is no quote and no comma
end-other : (c : ℕ) → ends_line c ≡ true → ((c == 34) ≡ false) × ((c == 44) ≡ false)
end-other c end = elim (cases_Bool (c == 10)) [
  | inl lf ↦ (grind (arith, nat_tests, lf), grind (arith, nat_tests, lf))
  | inr other ↦ let cr : (c == 13) ≡ true = rw other at end in (grind (arith, nat_tests, cr), grind (arith, nat_tests, cr))
]

record-line : (s : State) (fields : List (List ℕ)) (field text : List ℕ) → InRecord s → has_quote (first_line text) ≡ false → ReadsLine s fields field text
unfolding next_record fields_from first_line after_line
record-line s fields field [] inside plain = (st.StartRecord, at-start_record, rw inside.ends refl)
record-line s fields field (c ∷ cs) inside plain = elim (cases_Bool (ends_line c)) [
  | inl end ↦
      let other = end-other c end in
      let after = after-record c in
      let byte = record-byte s fields field c cs (inside.steps c other.0) in
      let read = rw (other.1, line-end c ∙ end) at byte in
      (after.0, after.2, rw end (read ∙ ap (λ (t : State). Some (fields ++ field ∷ [], t, cs)) (sym after.1)))
  | inr within ↦
      let line : has_quote (c ∷ first_line cs) ≡ false = rw within at plain in
      let parts = or_parts (c == 34) (has_quote (first_line cs)) line in
      let byte = record-byte s fields field c cs (inside.steps c parts.0) in
      elim (cases_Bool (c == 44)) [
        | inl comma ↦
            let more = record-line st.StartField (fields ++ field ∷ []) [] cs at-start_field parts.1 in
            let next = rw comma at byte in
            (more.0, more.1, rw (within, comma) (next ∙ more.2 ∙ ap (λ (fs : List (List ℕ)). Some (fs, more.0, after_line cs)) (append_assoc fields (field ∷ []) (fields_from [] (first_line cs)))))
        | inr other ↦
            let more = record-line st.InField fields (field ++ c ∷ []) cs at-in_field parts.1 in
            let next = rw (other, line-end c ∙ within) at byte in
            (more.0, more.1, rw (within, other) (next ∙ more.2))
      ]
]

-- the records of a text from there on are those of a text of its own
records-between : (n : ℕ) (s : State) (text : List ℕ) → BetweenRecords s → records_from default_config n s text ≡ records_from default_config n st.StartRecord text
unfolding records_from next_record
records-between zero s text between = refl
records-between (suc n) s [] between = rw between.ends refl
records-between (suc n) s (c ∷ cs) between = rw (between.steps c) refl

-- an empty line is no record of csv's
csv-skip : (c : ℕ) (cs : List ℕ) → ends_line c ≡ true → records default_config (c ∷ cs) ≡ records default_config cs
unfolding records_from next_record
csv-skip c cs end = rw (add-one (suc (length cs)), skips c end) (records_from-bounds default_config (suc (suc (length cs))) (length cs + 1) st.StartRecord cs (omega arith) (omega arith))

-- a text that begins with another byte has its first line as a record, where that has no quote
csv-first : (c : ℕ) (cs : List ℕ) → ends_line c ≡ false → has_quote (first_line (c ∷ cs)) ≡ false
    → records default_config (c ∷ cs) ≡ fields_from [] (first_line (c ∷ cs)) ∷ records default_config (after_line (c ∷ cs))
unfolding first_line
csv-first c cs other plain =
    let line : has_quote (c ∷ first_line cs) ≡ false = rw other at plain in
    let quote = (or_parts (c == 34) (has_quote (first_line cs)) line).0 in
    let reads = record-line st.InField [] [] (c ∷ cs) at-in_field plain in
    let found = record-byte st.StartRecord [] [] c cs (begins c quote other) ∙ sym (record-byte st.InField [] [] c cs (at-in_field.steps c quote)) ∙ reads.2 in
    records_from-more st.StartRecord (c ∷ cs) (fields_from [] (first_line (c ∷ cs)), reads.0, after_line (c ∷ cs)) found
    ∙ ap (λ (rest : List (List (List ℕ))). fields_from [] (first_line (c ∷ cs)) ∷ rest) (records-between (length (after_line (c ∷ cs)) + 1) reads.0 (after_line (c ∷ cs)) reads.1)

-- the text after a line is no longer
after_line-short : (text : List ℕ) → length (after_line text) ≤ length text
unfolding after_line
after_line-short [] = omega arith
after_line-short (c ∷ cs) = by (ends_line c) (after_line-short cs)
  where
    by : (b : Bool) → length (after_line cs) ≤ length cs → length (cond b cs (after_line cs)) ≤ length (c ∷ cs)
    by true short = omega arith
    by false short = omega arith

-- a text without a quote has none in its first line, and none after it
line-plain : (text : List ℕ) → has_quote text ≡ false → (has_quote (first_line text) ≡ false) × (has_quote (after_line text) ≡ false)
unfolding first_line after_line
line-plain [] plain = (refl, refl)
line-plain (c ∷ cs) plain =
    let parts = or_parts (c == 34) (has_quote cs) plain in
    let more = line-plain cs parts.1 in
    elim (cases_Bool (ends_line c)) [
      | inl end ↦ rw end (refl, parts.1)
      | inr other ↦ rw other (rw (parts.0, more.0) refl, more.1)
    ]

plain-within : (n : ℕ) (text : List ℕ) → length text < n → has_quote text ≡ false → records default_config text ≡ plain_records text
unfolding records_from next_record after_line
plain-within zero text short plain = absurd (omega arith)
plain-within (suc n) [] short plain = sym records-none
plain-within (suc n) (c ∷ cs) short plain = elim (cases_Bool (ends_line c)) [
  | inl end ↦ csv-skip c cs end ∙ plain-within n cs (omega arith) (or_parts (c == 34) (has_quote cs) plain).1 ∙ sym (records-skip c cs end)
  | inr other ↦
      let parts = line-plain (c ∷ cs) plain in
      let size : length (after_line (c ∷ cs)) ≤ length cs = rw other (after_line-short cs) in
      csv-first c cs other parts.0 ∙ ap (λ (rest : List (List (List ℕ))). fields_from [] (first_line (c ∷ cs)) ∷ rest) (plain-within n (after_line (c ∷ cs)) (omega arith) parts.1)
      ∙ sym (records-first c cs other)
]

no-quote : (text : List ℕ) → ((j : ℕ) → j < length text → ¬ (is_byte 34 (slice_index text j) ≡ true)) → has_quote text ≡ false
no-quote [] nowhere = refl
no-quote (c ∷ cs) nowhere =
    rw (false_from_ne_true (c == 34) (nowhere 0 (omega arith))) (no-quote cs (λ j within. nowhere (suc j) (omega arith)))

-- a text in which no quote is found has none
pub quote-nowhere : (text : List ℕ) → IsFirstByte (is_byte 34) text None → has_quote text ≡ false
quote-nowhere text nowhere = no-quote text (λ j within. nowhere j (omega arith) within)

-- and has its plain records
pub records-unquoted : (text : List ℕ) → IsFirstByte (is_byte 34) text None → records default_config text ≡ plain_records text
records-unquoted text nowhere = plain-within (length text + 1) text (omega arith) (quote-nowhere text nowhere)

pub cut-unquoted : (by_lines : Bool) (text : List ℕ) → IsFirstByte (is_byte 34) text None → cut by_lines text ≡ plain_records text
cut-unquoted true text nowhere = refl
cut-unquoted false text nowhere = records-unquoted text nowhere

-- both ways pass over an empty line
pub cut-skip : (by_lines : Bool) (c : ℕ) (cs : List ℕ) → ends_line c ≡ true → cut by_lines (c ∷ cs) ≡ cut by_lines cs
cut-skip true = records-skip
cut-skip false = csv-skip

-- both take a first line without a quote as a record
pub cut-first : (by_lines : Bool) (c : ℕ) (cs : List ℕ) → ends_line c ≡ false → has_quote (first_line (c ∷ cs)) ≡ false
    → cut by_lines (c ∷ cs) ≡ fields_from [] (first_line (c ∷ cs)) ∷ cut by_lines (after_line (c ∷ cs))
cut-first true c cs other plain = records-first c cs other
cut-first false c cs other plain = csv-first c cs other plain

-- a text that begins with a line end, or is at its end
module _ (rest : List ℕ) (ends : first_line rest ≡ []) where
  begins-end : (c : ℕ) (cs : List ℕ) → rest ≡ c ∷ cs → ends_line c ≡ true
  unfolding first_line
  begins-end c cs is = elim (cases_Bool (ends_line c)) [ inl end ↦ end | inr other ↦ cc (rw (is, other) at ends) ]

  -- is cut as what comes after that
  pub cut-ended : (by_lines : Bool) → cut by_lines rest ≡ cut by_lines (after_line rest)
  unfolding after_line
  cut-ended by_lines = by rest refl
    where
      by : (text : List ℕ) → rest ≡ text → cut by_lines text ≡ cut by_lines (after_line text)
      by [] is = refl
      by (c ∷ cs) is = let end = begins-end c cs is in rw end (cut-skip by_lines c cs end)

  -- and has no byte order mark there
  pub ended-unmarked : is_marked rest ≡ false
  ended-unmarked = by rest refl
    where
      by : (text : List ℕ) → rest ≡ text → is_marked text ≡ false
      by [] is = refl
      by (a ∷ []) is = refl
      by (a ∷ b ∷ []) is = refl
      by (a ∷ b ∷ c ∷ cs) is =
          let end = begins-end a (b ∷ c ∷ cs) is in
          let other : (a == 239) ≡ false = elim (cases_Bool (a == 10)) [ inl lf ↦ grind (arith, nat_tests, lf) | inr not ↦ let cr : (a == 13) ≡ true = rw not at end in grind (arith, nat_tests, cr) ] in
          rw other refl

-- a text without a byte order mark is not stripped of one
pub unstripped : (text : List ℕ) → is_marked text ≡ false → strip_bom text ≡ text
unfolding strip_bom
unstripped [] unmarked = refl
unstripped (a ∷ []) unmarked = refl
unstripped (a ∷ b ∷ []) unmarked = refl
unstripped (a ∷ b ∷ c ∷ rest) unmarked = rw unmarked refl

-- a line cut off: what comes after it begins with its line end
pub line-off : (text : List ℕ) → (length (first_line text) ≤ length text) × (first_line (drop (length (first_line text)) text) ≡ [])
    × (after_line (drop (length (first_line text)) text) ≡ after_line text)
unfolding first_line after_line
line-off [] = (omega arith, refl, refl)
line-off (c ∷ cs) = elim (cases_Bool (ends_line c)) [
  | inl end ↦ rw end (omega arith, rw end refl, rw end refl)
  | inr other ↦ let more = line-off cs in rw other (omega arith, more.1, more.2)
]

-- the first line is a record of csv's, where it has no quote, and the text from its line end on is left
pub line-read : (text : List ℕ) → (length text == 0) ≡ false → ((c : ℕ) (cs : List ℕ) → text ≡ c ∷ cs → ends_line c ≡ false) → has_quote (first_line text) ≡ false
    → records default_config text ≡ fields_from [] (first_line text) ∷ records default_config (drop (length (first_line text)) text)
line-read [] some begins plain = cc some
line-read (c ∷ cs) some begins plain =
    let rest : List ℕ = drop (length (first_line (c ∷ cs))) (c ∷ cs) in
    let off = line-off (c ∷ cs) in
    cut-first false c cs (begins c cs refl) plain
    ∙ ap (λ (rs : List (List (List ℕ))). fields_from [] (first_line (c ∷ cs)) ∷ rs) (ap (records default_config) (sym off.2) ∙ sym (cut-ended rest off.1 false))

-- an empty text has no record of csv's
pub csv-none : (text : List ℕ) → length text ≡ 0 → records default_config text ≡ []
unfolding records_from next_record
csv-none [] empty = refl
csv-none (c ∷ cs) empty = cc empty
