-- Lines of a tidy text, field by field, and the records that they are.
use Rattle.std.proofs.Common.{◌≡◌, ℕ, ◌<◌, ◌==◌, Bool, true, false, List, [], ◌∷◌, ◌++◌, ◌-◌, ◌≤◌, length, get_or, take, drop, refl, sym, ap, ◌∙◌, arith}
use Rattle.std.specs.List.{list_any}
use Rattle.std.proofs.lemmas.Bool.{or_parts}
use Rattle.std.proofs.lemmas.List.{append-nil, take_rest}
use Rattle.std.proofs.lemmas.List.Folds.{list_any-append}
use Rattle.memchr.specs.Find.{is_byte}
use Rattle.sc_intake.specs.Plain.{after_line, cut, ends_field, ends_line, first_line, has_quote, is_mark}
use Rattle.sc_intake.specs.Tidy.{HasLine}
use Rattle.sc_intake.proofs.Lines.{after_line-more, fields-last, fields-next, first_line-more}
use Rattle.sc_intake.proofs.PlainCutting.{cut-ended, cut-first}

-- bytes without a mark end no field, and are no quotes
unmarked-parts : (piece : List ℕ) → list_any is_mark piece ≡ false → (has_quote piece ≡ false) × (list_any ends_field piece ≡ false)
unmarked-parts [] clean = (refl, refl)
unmarked-parts (c ∷ cs) clean =
    let parts = or_parts (is_mark c) (list_any is_mark cs) clean in
    let (quote, ends) = or_parts (c == 34) (ends_field c) parts.0 in
    let more = unmarked-parts cs parts.1 in
    (rw (quote, more.0) refl, rw (ends, more.1) refl)

-- the last field of a line
pub line-last : (field rest : List ℕ) → list_any is_mark field ≡ false → first_line rest ≡ [] → HasLine (field ++ rest) rest (field ∷ [])
line-last field rest clean ends =
    let parts = unmarked-parts field clean in
    record {
      line = fields-last field rest parts.1 ends;
      plain = ap has_quote (first_line-more field rest parts.1 ∙ ap (λ (l : List ℕ). field ++ l) ends ∙ append-nil field) ∙ parts.0;
      after = after_line-more field rest parts.1;
      ends = ends;
    }

-- a field before others
pub line-more : (field more rest : List ℕ) (fields : List (List ℕ)) → list_any is_mark field ≡ false → HasLine more rest fields
    → HasLine (field ++ 44 ∷ more) rest (field ∷ fields)
unfolding first_line after_line
line-more field more rest fields clean has =
    let parts = unmarked-parts field clean in
    record {
      line = fields-next field more parts.1 ∙ ap (λ (fs : List (List ℕ)). field ∷ fs) has.line;
      plain = ap has_quote (first_line-more field (44 ∷ more) parts.1) ∙ list_any-append (is_byte 34) field (44 ∷ first_line more) ∙ rw (parts.0, has.plain) refl;
      after = after_line-more field (44 ∷ more) parts.1 ∙ has.after;
      ends = has.ends;
    }

-- a text that begins with a byte of a field has its first line as a record, whichever way it is cut
pub first-record : (by_lines : Bool) (field after rest : List ℕ) (fields : List (List ℕ)) → list_any is_mark field ≡ false → 0 < length field → HasLine (field ++ after) rest fields
    → cut by_lines (field ++ after) ≡ fields ∷ cut by_lines rest
first-record by_lines [] after rest fields clean some has = absurd (omega arith)
first-record by_lines (c ∷ cs) after rest fields clean some has =
    let parts = or_parts (is_mark c) (list_any is_mark cs) clean in
    let other = (or_parts (c == 44) (ends_line c) (or_parts (c == 34) (ends_field c) parts.0).1).1 in
    cut-first by_lines c (cs ++ after) other has.plain ∙ ap (λ (fs : List (List ℕ)). fs ∷ cut by_lines (after_line (c ∷ cs ++ after))) has.line
    ∙ ap (λ (t : List ℕ). fields ∷ cut by_lines t) has.after ∙ ap (λ (rs : List (List (List ℕ))). fields ∷ rs) (sym (cut-ended rest has.ends by_lines))

-- a text that begins with a byte, by what comes after it
pub begins-with : (text : List ℕ) (c : ℕ) → 1 ≤ length text → get_or text 0 0 ≡ c → text ≡ c ∷ take (length text - 1) (drop 1 text)
begins-with [] c some is = absurd (omega arith)
begins-with (d ∷ ds) c some is = rw (take_rest (d ∷ ds) 1, is) refl

-- a text at its end has no line more
pub no_line-at_end : (text : List ℕ) → length text < 1 → first_line text ≡ []
unfolding first_line
no_line-at_end [] end = refl
no_line-at_end (c ∷ cs) end = absurd (omega arith)

-- nor has one that begins with a line end
pub no_line-at_line_end : (text rest : List ℕ) (c : ℕ) → text ≡ c ∷ rest → ends_line c ≡ true → first_line text ≡ []
unfolding first_line
no_line-at_line_end text rest c is end = rw is (rw end refl)
