-- Lines, both ways.
use Rattle.std.proofs.Common.{◌≡◌, ℕ, ◌+◌, ◌<◌, ◌≤◌, true, false, List, [], ◌∷◌, drop, length, refl, sym, ◌∙◌, ap, arith, append_assoc, rules, ◌⊎◌, inl, inr}
use Rattle.std.specs.Prelude.{◌==◌, ◌||◌, codes, Option, None, Some, Result, Ok, Err}
use Rattle.std.specs.Fmt.{decimal}
use Rattle.std.specs.Int.{IsInRange}
use Rattle.std.specs.List.{All, join_with_byte, slice_split}
use Rattle.std.proofs.lemmas.Bool.Decides.{nat_tests}
use Rattle.std.proofs.lemmas.List.{at_drop_all, at_drop_more}
use Rattle.std.proofs.lemmas.Option.{unwrap_or-slice_get}
use Rattle.std.proofs.lemmas.List.Elements.{All-append, All-cons, All-same}
use Rattle.std.proofs.lemmas.List.Splits.{join_with_byte-slice_split}
use Rattle.std.proofs.lemmas.Slice.Eq.{bytes_eq-Decides}
use Rattle.sc_papers.specs.declared.amendment.Amendment.{Amendment}
use Rattle.sc_papers.specs.declared.amendment.Amendment.TheVariants.{Enter, Withdraw, Rerank, Add, Close, Correct}
use Rattle.sc_lines.specs.Line.{amendment_text, continuing_fields, fields_of, line_text, list_text}
use Rattle.sc_decimal.specs.Fields.{field_at}
use Rattle.sc_lines.specs.Reading.{◌>>=◌, add_in, amendment_in, close_in, correct_in, count_in, enter_in, is_named, line_in, line_of, list_in, ranged_in, rerank_in, school_in, school_or_none_in, student_in, withdraw_in, zone_in}
use Rattle.sc_lines.specs.Spelling.{IsCount, IsInRanges, IsLineOf, IsSchool, IsSchoolOrNone, IsStudent, IsZone}
use Rattle.sc_lines.specs.declared.reading.JournalLine.{JournalLine}
use Rattle.sc_lines.specs.declared.unread.Unread.{Unread}
use Rattle.sc_lines.specs.declared.unread.Unread.TheVariants.{NoLine, OutOfMemory}
use Rattle.sc_lines.proofs.Giving.{choose, decimal-ranged, IsPassed, passed, ranged-decimal, second}
use Rattle.sc_lines.proofs.Words.{decimal-free, IsFree, list-free, list-text, split-last, split-next, text-list, word-free}

-- a byte that stands in no field: it is before the digits, no space, and in no word
pub record IsOutside (c : ℕ) : Type 0 where
  pub low : c < 48
  pub no-space : (32 == c) ≡ false
  pub enter : IsFree c (codes "enter")
  pub withdraw : IsFree c (codes "withdraw")
  pub rerank : IsFree c (codes "rerank")
  pub add : IsFree c (codes "add")
  pub close : IsFree c (codes "close")
  pub correct : IsFree c (codes "correct")

comma-outside : IsOutside 44
comma-outside = record {
  low = omega arith;
  no-space = refl;
  enter = word-free 44 (codes "enter") refl;
  withdraw = word-free 44 (codes "withdraw") refl;
  rerank = word-free 44 (codes "rerank") refl;
  add = word-free 44 (codes "add") refl;
  close = word-free 44 (codes "close") refl;
  correct = word-free 44 (codes "correct") refl;
}

newline-outside : IsOutside 10
newline-outside = record {
  low = omega arith;
  no-space = refl;
  enter = word-free 10 (codes "enter") refl;
  withdraw = word-free 10 (codes "withdraw") refl;
  rerank = word-free 10 (codes "rerank") refl;
  add = word-free 10 (codes "add") refl;
  close = word-free 10 (codes "close") refl;
  correct = word-free 10 (codes "correct") refl;
}

-- it stands not in the digits of a number of a line
plain : (c n : ℕ) → IsOutside c → n ≤ 999999999 → IsFree c (decimal n)
plain c n out small = decimal-free c n out.low (omega arith)

student-plain : (c i : ℕ) → IsOutside c → IsStudent i → IsFree c (decimal i)
student-plain c i out ok = plain c i out ok.1

zone-plain : (c zone : ℕ) → IsOutside c → IsZone zone → IsFree c (decimal zone)
zone-plain c zone out ok = let high = ok.1 in plain c zone out (omega arith)

school-plain : (c s : ℕ) → IsOutside c → IsSchool s → IsFree c (decimal s)
school-plain c s out ok = let high = ok.1 in plain c s out (omega arith)

count-plain : (c count : ℕ) → IsOutside c → IsCount count → IsFree c (decimal count)
count-plain c count out ok = let high = ok.1 in plain c count out (omega arith)

list-plain : (c : ℕ) (xs : List ℕ) → IsOutside c → All IsSchool xs → IsFree c (list_text xs)
list-plain c xs out ok = list-free c xs out.low out.no-space ok

-- texts without the byte
abbrev AreFree : ℕ → List ℕ → List (List ℕ) → Type 0
AreFree c first [] = IsFree c first
AreFree c first (next ∷ rest) = IsFree c first × AreFree c next rest

-- a last text without the byte, and the field of a school after it, if there is one
free-to-the-end : (c : ℕ) (last : List ℕ) (continuing : Option ℕ) → IsOutside c → IsFree c last → IsSchoolOrNone continuing → AreFree c last (continuing_fields continuing)
free-to-the-end c last None out free ok = free
free-to-the-end c last (Some s) out free ok = (free, school-plain c s out ok)

-- no field has it
fields-free : (c n : ℕ) (a : Amendment) → IsOutside c → n ≤ 999999999 → IsInRanges a → AreFree c (decimal n) (fields_of a)
fields-free c n (Enter i zone siblings choices continuing) out small ok = (
  plain c n out small,
  (
    out.enter,
    (
      student-plain c i out ok.0,
      (
        zone-plain c zone out ok.1,
        (
          list-plain c siblings out ok.2,
          free-to-the-end c (list_text choices) continuing out (list-plain c choices out ok.3) ok.4,
        ),
      ),
    ),
  ),
)
fields-free c n (Withdraw i) out small ok = (plain c n out small, (out.withdraw, student-plain c i out ok))
fields-free c n (Rerank i choices) out small ok = (plain c n out small, (out.rerank, (student-plain c i out ok.0, list-plain c choices out ok.1)))
fields-free c n (Add s count) out small ok = (plain c n out small, (out.add, (school-plain c s out ok.0, count-plain c count out ok.1)))
fields-free c n (Close s count) out small ok = (plain c n out small, (out.close, (school-plain c s out ok.0, count-plain c count out ok.1)))
fields-free c n (Correct i zone siblings continuing) out small ok = (
  plain c n out small,
  (
    out.correct,
    (
      student-plain c i out ok.0,
      (
        zone-plain c zone out ok.1,
        free-to-the-end c (list_text siblings) continuing out (list-plain c siblings out ok.2) ok.3,
      ),
    ),
  ),
)

-- texts without a comma, joined by commas, are the parts again
split-joined : (first : List ℕ) (rest : List (List ℕ)) → AreFree 44 first rest → slice_split (λ b. b == 44) (join_with_byte 44 (first ∷ rest)) ≡ first ∷ rest
split-joined first [] free = split-last 44 first free
split-joined first (next ∷ rest) free = split-next 44 first (join_with_byte 44 (next ∷ rest)) (next ∷ rest) free.0 (split-joined next rest free.1)

-- texts without a newline, joined by commas, have none
joined-free : (first : List ℕ) (rest : List (List ℕ)) → AreFree 10 first rest → IsFree 10 (join_with_byte 44 (first ∷ rest))
joined-free first [] free = free
joined-free first (next ∷ rest) free =
    All-append (λ b. (b == 10) ≡ false) first (44 ∷ join_with_byte 44 (next ∷ rest)) free.0
    (All-cons (λ b. (b == 10) ≡ false) 44 (join_with_byte 44 (next ∷ rest)) refl (joined-free next rest free.1))

-- the fields joined are the line's text
join-line : (n : ℕ) (a : Amendment) → join_with_byte 44 (decimal n ∷ fields_of a) ≡ line_text n a
join-line n (Enter i zone siblings choices continuing) = sym (append_assoc (decimal n) (codes ",") (amendment_text (Enter i zone siblings choices continuing)))
join-line n (Withdraw i) = sym (append_assoc (decimal n) (codes ",") (amendment_text (Withdraw i)))
join-line n (Rerank i choices) = sym (append_assoc (decimal n) (codes ",") (amendment_text (Rerank i choices)))
join-line n (Add s count) = sym (append_assoc (decimal n) (codes ",") (amendment_text (Add s count)))
join-line n (Close s count) = sym (append_assoc (decimal n) (codes ",") (amendment_text (Close s count)))
join-line n (Correct i zone siblings continuing) = sym (append_assoc (decimal n) (codes ",") (amendment_text (Correct i zone siblings continuing)))

-- what stands between the commas of a line's text
split-line : (n : ℕ) (a : Amendment) → n ≤ 999999999 → IsInRanges a → slice_split (λ b. b == 44) (line_text n a) ≡ decimal n ∷ fields_of a
split-line n a small ok = ap (slice_split (λ b. b == 44)) (sym (join-line n a)) ∙ split-joined (decimal n) (fields_of a) (fields-free 44 n a comma-outside small ok)

-- no newline stands in a line's text
pub line-free : (n : ℕ) (a : Amendment) → n ≤ 999999999 → IsInRanges a → IsFree 10 (line_text n a)
line-free n a small ok = All-same (λ b. (b == 10) ≡ false) (line_text n a) (join_with_byte 44 (decimal n ∷ fields_of a)) (sym (join-line n a)) (joined-free (decimal n) (fields_of a) (fields-free 10 n a newline-outside small ok))

-- the fields of an amendment read as that amendment
amendment-fields : (n : ℕ) (a : Amendment) → IsInRanges a → amendment_in (decimal n ∷ fields_of a) ≡ Ok a
unfolding amendment_in enter_in withdraw_in rerank_in add_in close_in correct_in school_or_none_in
amendment-fields n (Enter i zone siblings choices None) ok =
    rw (ranged-decimal 1 999999999 i (omega arith) ok.0, ranged-decimal 0 9999 zone (omega arith) ok.1, list-text siblings ok.2, list-text choices ok.3) refl
amendment-fields n (Enter i zone siblings choices (Some s)) ok =
    rw (ranged-decimal 1 999999999 i (omega arith) ok.0, ranged-decimal 0 9999 zone (omega arith) ok.1, list-text siblings ok.2, list-text choices ok.3, ranged-decimal 1 99999 s (omega arith) ok.4) refl
amendment-fields n (Withdraw i) ok = rw (ranged-decimal 1 999999999 i (omega arith) ok) refl
amendment-fields n (Rerank i choices) ok = rw (ranged-decimal 1 999999999 i (omega arith) ok.0, list-text choices ok.1) refl
amendment-fields n (Add s count) ok = rw (ranged-decimal 1 99999 s (omega arith) ok.0, ranged-decimal 1 10000 count (omega arith) ok.1) refl
amendment-fields n (Close s count) ok = rw (ranged-decimal 1 99999 s (omega arith) ok.0, ranged-decimal 1 10000 count (omega arith) ok.1) refl
amendment-fields n (Correct i zone siblings None) ok =
    rw (ranged-decimal 1 999999999 i (omega arith) ok.0, ranged-decimal 0 9999 zone (omega arith) ok.1, list-text siblings ok.2) refl
amendment-fields n (Correct i zone siblings (Some s)) ok =
    rw (ranged-decimal 1 999999999 i (omega arith) ok.0, ranged-decimal 0 9999 zone (omega arith) ok.1, list-text siblings ok.2, ranged-decimal 1 99999 s (omega arith) ok.3) refl

-- fields of so many
three : (fs : List (List ℕ)) → length fs ≡ 3 → fs ≡ field_at fs 0 ∷ field_at fs 1 ∷ field_at fs 2 ∷ []
three [] e = absurd (omega arith)
three (a ∷ []) e = absurd (omega arith)
three (a ∷ b ∷ []) e = absurd (omega arith)
three (a ∷ b ∷ c ∷ []) e = refl
three (a ∷ b ∷ c ∷ d ∷ fs) e = absurd (omega arith)

four : (fs : List (List ℕ)) → length fs ≡ 4 → fs ≡ field_at fs 0 ∷ field_at fs 1 ∷ field_at fs 2 ∷ field_at fs 3 ∷ []
four [] e = absurd (omega arith)
four (a ∷ fs) e = ap (λ (gs : List (List ℕ)). a ∷ gs) (three fs (omega arith))

-- the first fields, and the others
five : (fs : List (List ℕ)) → 5 ≤ length fs → fs ≡ field_at fs 0 ∷ field_at fs 1 ∷ field_at fs 2 ∷ field_at fs 3 ∷ field_at fs 4 ∷ drop 5 fs
five [] e = absurd (omega arith)
five (a ∷ []) e = absurd (omega arith)
five (a ∷ b ∷ []) e = absurd (omega arith)
five (a ∷ b ∷ c ∷ []) e = absurd (omega arith)
five (a ∷ b ∷ c ∷ d ∷ []) e = absurd (omega arith)
five (a ∷ b ∷ c ∷ d ∷ f ∷ fs) e = refl

six : (fs : List (List ℕ)) → 6 ≤ length fs → fs ≡ field_at fs 0 ∷ field_at fs 1 ∷ field_at fs 2 ∷ field_at fs 3 ∷ field_at fs 4 ∷ field_at fs 5 ∷ drop 6 fs
six [] e = absurd (omega arith)
six (a ∷ fs) e = ap (λ (gs : List (List ℕ)). a ∷ gs) (five fs (omega arith))

cons-same : {x y : List ℕ} {xs ys : List (List ℕ)} → x ≡ y → xs ≡ ys → (x ∷ xs) ≡ (y ∷ ys)
cons-same e f = rw (e, f) refl

-- so many fields, or one more
one-or-more : (size n : ℕ) → (size == n || size == n + 1) ≡ true → (size ≡ n) ⊎ (size ≡ n + 1)
one-or-more size n e = grind (arith, nat_tests)

at-least : (size n : ℕ) → (size ≡ n) ⊎ (size ≡ n + 1) → n ≤ size
at-least size n (inl whole) = omega arith
at-least size n (inr longer) = omega arith

-- what the fields from an index on are that read as a school's number or none
record AreOfSchool (fields : List (List ℕ)) (n : ℕ) (continuing : Option ℕ) : Type 0 where
  pub spelled : drop n fields ≡ continuing_fields continuing
  pub range : IsSchoolOrNone continuing

-- a school's number that was read, as one that may be missing
a-school : (read : Result ℕ Unread) (continuing : Option ℕ) → (read >>= λ s. Ok (Some s)) ≡ Ok continuing → (s : ℕ) × (read ≡ Ok s) × (Some s ≡ continuing)
a-school (Ok s) continuing e = (s, refl, cc)
a-school (Err unread) continuing e = cc e

-- the school's number that was read is the last field, and none where there is no such field
last-school : (fields : List (List ℕ)) (n : ℕ) (continuing : Option ℕ) → (length fields ≡ n) ⊎ (length fields ≡ n + 1) → school_or_none_in fields n ≡ Ok continuing → AreOfSchool fields n continuing
unfolding school_or_none_in
last-school fields n continuing (inl whole) reads =
    let test : (length fields == n) ≡ true = grind (arith, nat_tests) in
    let same : None ≡ continuing = search rules in
    rw (← same) (record { spelled = at_drop_all (λ (fs : List (List ℕ)). fs) fields n (omega arith); range = tt })
last-school fields n continuing (inr longer) reads =
    let test : (length fields == n) ≡ false = grind (arith, nat_tests) in
    let (s, read, made) = a-school (school_in (field_at fields n)) continuing (search rules) in
    let is = decimal-ranged 1 99999 s (field_at fields n) read in
    let rest : drop n fields ≡ field_at fields n ∷ [] =
    at_drop_more (λ (fs : List (List ℕ)). fs) fields n [] (omega arith)
    ∙ cons-same (sym (unwrap_or-slice_get fields n [])) (at_drop_all (λ (fs : List (List ℕ)). fs) fields (n + 1) (omega arith)) in
    rw (← made) (record { spelled = rest ∙ cons-same is.spelled refl; range = is.range })

-- what fields are that read as an amendment
record AreFieldsOf (fields : List (List ℕ)) (a : Amendment) : Type 0 where
  pub spelled : fields ≡ field_at fields 0 ∷ fields_of a
  pub ranges : IsInRanges a

-- fields that read as this amendment
fields-enter : (fields : List (List ℕ)) (a : Amendment) → field_at fields 1 ≡ codes "enter" → enter_in fields ≡ Ok a → AreFieldsOf fields a
unfolding enter_in
fields-enter fields a named reads =
    let size = passed (length fields == 6 || length fields == 7) _ a reads in
    let whole = one-or-more (length fields) 6 size.holds in
    let i = second (student_in (field_at fields 2)) _ a size.gave in
    let zone = second (zone_in (field_at fields 3)) _ a i.next in
    let siblings = second (list_in (field_at fields 4)) _ a zone.next in
    let choices = second (list_in (field_at fields 5)) _ a siblings.next in
    let continuing = second (school_or_none_in fields 6) _ a choices.next in
    let same : Enter i.first zone.first siblings.first choices.first continuing.first ≡ a = cc continuing.next in
    let is-i = decimal-ranged 1 999999999 i.first (field_at fields 2) i.gave in
    let is-zone = decimal-ranged 0 9999 zone.first (field_at fields 3) zone.gave in
    let is-siblings = text-list (field_at fields 4) siblings.first siblings.gave in
    let is-choices = text-list (field_at fields 5) choices.first choices.gave in
    let is-continuing = last-school fields 6 continuing.first whole continuing.gave in
    let spelled : fields ≡ field_at fields 0 ∷ fields_of (Enter i.first zone.first siblings.first choices.first continuing.first) =
    six fields (at-least (length fields) 6 whole) ∙ cons-same refl (cons-same named (cons-same is-i.spelled (cons-same is-zone.spelled (cons-same is-siblings.spelled (cons-same is-choices.spelled is-continuing.spelled))))) in
    rw (← same) (record { spelled = spelled; ranges = (is-i.range, is-zone.range, is-siblings.ranges, is-choices.ranges, is-continuing.range) })

-- fields that read as this amendment
fields-withdraw : (fields : List (List ℕ)) (a : Amendment) → field_at fields 1 ≡ codes "withdraw" → withdraw_in fields ≡ Ok a → AreFieldsOf fields a
unfolding withdraw_in
fields-withdraw fields a named reads =
    let size = passed (length fields == 3) _ a reads in
    let whole : length fields ≡ 3 = grind (arith, nat_tests, size.holds) in
    let i = second (student_in (field_at fields 2)) _ a size.gave in
    let same : Withdraw i.first ≡ a = cc i.next in
    let is-i = decimal-ranged 1 999999999 i.first (field_at fields 2) i.gave in
    let spelled : fields ≡ field_at fields 0 ∷ fields_of (Withdraw i.first) = three fields whole ∙ cons-same refl (cons-same named (cons-same is-i.spelled refl)) in
    rw (← same) (record { spelled = spelled; ranges = is-i.range })

-- fields that read as this amendment
fields-rerank : (fields : List (List ℕ)) (a : Amendment) → field_at fields 1 ≡ codes "rerank" → rerank_in fields ≡ Ok a → AreFieldsOf fields a
unfolding rerank_in
fields-rerank fields a named reads =
    let size = passed (length fields == 4) _ a reads in
    let whole : length fields ≡ 4 = grind (arith, nat_tests, size.holds) in
    let i = second (student_in (field_at fields 2)) _ a size.gave in
    let choices = second (list_in (field_at fields 3)) _ a i.next in
    let same : Rerank i.first choices.first ≡ a = cc choices.next in
    let is-i = decimal-ranged 1 999999999 i.first (field_at fields 2) i.gave in
    let is-choices = text-list (field_at fields 3) choices.first choices.gave in
    let spelled : fields ≡ field_at fields 0 ∷ fields_of (Rerank i.first choices.first) = four fields whole ∙ cons-same refl (cons-same named (cons-same is-i.spelled (cons-same is-choices.spelled refl))) in
    rw (← same) (record { spelled = spelled; ranges = (is-i.range, is-choices.ranges) })

-- fields that read as this amendment
fields-add : (fields : List (List ℕ)) (a : Amendment) → field_at fields 1 ≡ codes "add" → add_in fields ≡ Ok a → AreFieldsOf fields a
unfolding add_in
fields-add fields a named reads =
    let size = passed (length fields == 4) _ a reads in
    let whole : length fields ≡ 4 = grind (arith, nat_tests, size.holds) in
    let s = second (school_in (field_at fields 2)) _ a size.gave in
    let count = second (count_in (field_at fields 3)) _ a s.next in
    let same : Add s.first count.first ≡ a = cc count.next in
    let is-s = decimal-ranged 1 99999 s.first (field_at fields 2) s.gave in
    let is-count = decimal-ranged 1 10000 count.first (field_at fields 3) count.gave in
    let spelled : fields ≡ field_at fields 0 ∷ fields_of (Add s.first count.first) = four fields whole ∙ cons-same refl (cons-same named (cons-same is-s.spelled (cons-same is-count.spelled refl))) in
    rw (← same) (record { spelled = spelled; ranges = (is-s.range, is-count.range) })

-- fields that read as this amendment
fields-close : (fields : List (List ℕ)) (a : Amendment) → field_at fields 1 ≡ codes "close" → close_in fields ≡ Ok a → AreFieldsOf fields a
unfolding close_in
fields-close fields a named reads =
    let size = passed (length fields == 4) _ a reads in
    let whole : length fields ≡ 4 = grind (arith, nat_tests, size.holds) in
    let s = second (school_in (field_at fields 2)) _ a size.gave in
    let count = second (count_in (field_at fields 3)) _ a s.next in
    let same : Close s.first count.first ≡ a = cc count.next in
    let is-s = decimal-ranged 1 99999 s.first (field_at fields 2) s.gave in
    let is-count = decimal-ranged 1 10000 count.first (field_at fields 3) count.gave in
    let spelled : fields ≡ field_at fields 0 ∷ fields_of (Close s.first count.first) = four fields whole ∙ cons-same refl (cons-same named (cons-same is-s.spelled (cons-same is-count.spelled refl))) in
    rw (← same) (record { spelled = spelled; ranges = (is-s.range, is-count.range) })

-- fields that read as this amendment
fields-correct : (fields : List (List ℕ)) (a : Amendment) → field_at fields 1 ≡ codes "correct" → correct_in fields ≡ Ok a → AreFieldsOf fields a
unfolding correct_in
fields-correct fields a named reads =
    let size = passed (length fields == 5 || length fields == 6) _ a reads in
    let whole = one-or-more (length fields) 5 size.holds in
    let i = second (student_in (field_at fields 2)) _ a size.gave in
    let zone = second (zone_in (field_at fields 3)) _ a i.next in
    let siblings = second (list_in (field_at fields 4)) _ a zone.next in
    let continuing = second (school_or_none_in fields 5) _ a siblings.next in
    let same : Correct i.first zone.first siblings.first continuing.first ≡ a = cc continuing.next in
    let is-i = decimal-ranged 1 999999999 i.first (field_at fields 2) i.gave in
    let is-zone = decimal-ranged 0 9999 zone.first (field_at fields 3) zone.gave in
    let is-siblings = text-list (field_at fields 4) siblings.first siblings.gave in
    let is-continuing = last-school fields 5 continuing.first whole continuing.gave in
    let spelled : fields ≡ field_at fields 0 ∷ fields_of (Correct i.first zone.first siblings.first continuing.first) =
    five fields (at-least (length fields) 5 whole) ∙ cons-same refl (cons-same named (cons-same is-i.spelled (cons-same is-zone.spelled (cons-same is-siblings.spelled is-continuing.spelled)))) in
    rw (← same) (record { spelled = spelled; ranges = (is-i.range, is-zone.range, is-siblings.ranges, is-continuing.range) })

-- a word that the second field was tested to be
is-word : (fields : List (List ℕ)) (word : List ℕ) → is_named fields word ≡ true → field_at fields 1 ≡ word
is-word fields word e = (bytes_eq-Decides (field_at fields 1) word).0 e

fields-amendment : (fields : List (List ℕ)) (a : Amendment) → amendment_in fields ≡ Ok a → AreFieldsOf fields a
unfolding amendment_in
fields-amendment fields a reads =
    choose (is_named fields (codes "enter")) _ _ a reads (λ e r. fields-enter fields a (is-word fields (codes "enter") e) r)
    (λ reads-2. choose (is_named fields (codes "withdraw")) _ _ a reads-2 (λ e r. fields-withdraw fields a (is-word fields (codes "withdraw") e) r)
    (λ reads-3. choose (is_named fields (codes "rerank")) _ _ a reads-3 (λ e r. fields-rerank fields a (is-word fields (codes "rerank") e) r)
    (λ reads-4. choose (is_named fields (codes "add")) _ _ a reads-4 (λ e r. fields-add fields a (is-word fields (codes "add") e) r)
    (λ reads-5. choose (is_named fields (codes "close")) _ _ a reads-5 (λ e r. fields-close fields a (is-word fields (codes "close") e) r)
    (λ reads-6. (λ (last : IsPassed (is_named fields (codes "correct")) (correct_in fields) a). fields-correct fields a (is-word fields (codes "correct") last.holds) last.gave) (passed (is_named fields (codes "correct")) (correct_in fields) a reads-6))))))

-- a line's text reads as that line
pub line-read : (text : List ℕ) (n : ℕ) (a : Amendment) → IsLineOf text n a → line_in text ≡ Ok (record { number = n; amendment = a })
unfolding line_of
line-read text n a is =
    let number = is.number_in_range in
    let parts : slice_split (λ b. b == 44) text ≡ decimal n ∷ fields_of a =
    ap (slice_split (λ b. b == 44)) is.spelled ∙ split-line n a number.1 is.amendment_in_ranges in
    ap line_of parts ∙ rw (ranged-decimal 1 999999999 n (omega arith) number, amendment-fields n a is.amendment_in_ranges) refl

-- what reads as a line is its text
pub read-line : (text : List ℕ) (line : JournalLine) → line_in text ≡ Ok line → IsLineOf text line.number line.amendment
unfolding line_of
read-line text line reads =
    let fields = slice_split (λ b. b == 44) text in
    let number = second (ranged_in 1 999999999 (field_at fields 0)) _ line reads in
    let amendment = second (amendment_in fields) _ line number.next in
    let same : record { number = number.first; amendment = amendment.first } ≡ line = cc amendment.next in
    let is-number = decimal-ranged 1 999999999 number.first (field_at fields 0) number.gave in
    let is-amendment = fields-amendment fields amendment.first amendment.gave in
    let parts : fields ≡ decimal number.first ∷ fields_of amendment.first = is-amendment.spelled ∙ cons-same is-number.spelled refl in
    let spelled : text ≡ line_text number.first amendment.first = sym (join_with_byte-slice_split 44 text) ∙ ap (join_with_byte 44) parts ∙ join-line number.first amendment.first in
    rw (← same) (record { number_in_range = is-number.range; amendment_in_ranges = is-amendment.ranges; spelled = spelled })

-- what reads as no line is none
pub no-line : (text : List ℕ) (e : Unread) → e ≡ NoLine → ((line_in text ≡ Err e) ⊎ (e ≡ OutOfMemory)) → (n : ℕ) (a : Amendment) → IsLineOf text n a → ⊥
no-line text e none (inl bad) n a is = let good = line-read text n a is in cc
no-line text e none (inr memory) n a is = cc

-- a text is the line of one number and one amendment
pub record AreSame (n k : ℕ) (a b : Amendment) : Type 0 where
  pub number : n ≡ k
  pub amendment : a ≡ b

pub one-line : (text : List ℕ) (n k : ℕ) (a b : Amendment) → IsLineOf text n a → IsLineOf text k b → AreSame n k a b
one-line text n k a b is other =
    let lines : (l : JournalLine) (m : JournalLine) → line_in text ≡ Ok l → line_in text ≡ Ok m → l ≡ m = λ l m e f. cc in
    let same = lines (record { number = n; amendment = a }) (record { number = k; amendment = b }) (line-read text n a is) (line-read text k b other) in
    record { number = ap (λ (l : JournalLine). l.number) same; amendment = ap (λ (l : JournalLine). l.amendment) same }

-- a line's text is the line of its amendment
pub is-line : (number : ℕ) (a : Amendment) → 1 ≤ number → number ≤ 999999999 → IsInRanges a → IsLineOf (line_text number a) number a
is-line number a least greatest ok = record { number_in_range = (least, greatest); amendment_in_ranges = ok; spelled = refl }

-- the texts of two lines are the same only for one number and one amendment
pub line-injective : (n k : ℕ) (a b : Amendment) → IsInRange 1 999999999 n → IsInRange 1 999999999 k → IsInRanges a → IsInRanges b → line_text n a ≡ line_text k b → AreSame n k a b
line-injective n k a b rn rk ra rb e =
    one-line (line_text n a) n k a b (is-line n a rn.0 rn.1 ra) (record { number_in_range = rk; amendment_in_ranges = rb; spelled = e })
