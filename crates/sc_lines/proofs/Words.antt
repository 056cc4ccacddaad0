-- Lists of schools as a line spells them, both ways.
use Rattle.std.proofs.Common.{◌≡◌, ℕ, ◌^◌, ◌<◌, true, false, List, [], ◌∷◌, ◌++◌, length, get_or, map, refl, sym, ◌∙◌, ap, arith, append_assoc}
use Rattle.std.specs.Prelude.{◌==◌, nat_le, not, flat_map, Ok}
use Rattle.std.specs.Char.{is_ascii_digit}
use Rattle.std.specs.Fmt.{decimal}
use Rattle.std.specs.List.{All, join_with_byte, list_all, slice_split}
use Rattle.std.proofs.lemmas.Bool.{and_parts, not-true}
use Rattle.std.proofs.lemmas.Bool.Decides.{nat_tests}
use Rattle.std.proofs.lemmas.Fmt.{decimal_nonempty, digits_decimal}
use Rattle.std.proofs.lemmas.List.{append-nil, length-append}
use Rattle.std.proofs.lemmas.List.Elements.{All-append, All-cons, All-from_get_or, All-head, All-nil, All-tail, All-weaker}
use Rattle.std.proofs.lemmas.List.Splits.{join_with_byte-slice_split, slice_split_at, slice_split_none}
use Rattle.std.proofs.lemmas.List.Sums.{AllPass-from_list_all}
use Rattle.sc_decimal.proofs.Spelling.{own}
use Rattle.sc_lines.specs.Line.{further_text, list_text}
use Rattle.sc_lines.specs.Reading.{list_in, school_in, schools_after}
use Rattle.sc_lines.specs.Spelling.{IsSchool}
use Rattle.sc_lines.proofs.Giving.{decimal-ranged, ranged-decimal, second}

-- no byte of a text is this one
abbrev pub IsFree : ℕ → List ℕ → Type 0
IsFree c text = All (λ b. (b == c) ≡ false) text

-- the first part of a text ends at its first cut
pub split-next : (c : ℕ) (first rest : List ℕ) (parts : List (List ℕ)) → IsFree c first
    → slice_split (λ b. b == c) rest ≡ parts → slice_split (λ b. b == c) (first ++ c ∷ rest) ≡ first ∷ parts
split-next c first rest parts free e =
    let here : (c == c) ≡ true = grind (arith, nat_tests) in
    slice_split_at (λ b. b == c) first c rest free here ∙ ap (λ (ps : List (List ℕ)). first ∷ ps) e

pub split-last : (c : ℕ) (last : List ℕ) → IsFree c last → slice_split (λ b. b == c) last ≡ last ∷ []
split-last c last free = slice_split_none (λ b. b == c) last free

-- digits are no byte before `0`
pub decimal-free : (c n : ℕ) → c < 48 → n < 2 ^ 64 → IsFree c (decimal n)
decimal-free c n low small =
    All-from_get_or (λ b. (b == c) ≡ false) (decimal n) 0 (λ i inside.
    let digit : is_ascii_digit (get_or (decimal n) i 0) ≡ true = AllPass-from_list_all is_ascii_digit (decimal n) (digits_decimal own n small) i 0 inside in
    let least : nat_le 48 (get_or (decimal n) i 0) ≡ true = (and_parts (nat_le 48 (get_or (decimal n) i 0)) (nat_le (get_or (decimal n) i 0) 57) digit).0 in
    grind (arith, nat_tests))

-- a school's number is small
school-small : (s : ℕ) → IsSchool s → s < 2 ^ 64
school-small s ok = let high = ok.1 in omega arith

-- the words of a list's text
pub split-list : (s : ℕ) (rest : List ℕ) → All IsSchool (s ∷ rest)
    → slice_split (λ c. c == 32) (list_text (s ∷ rest)) ≡ map decimal (s ∷ rest)
split-list s [] ok =
    let none : list_text (s ∷ []) ≡ decimal s = append-nil (decimal s) in
    ap (slice_split (λ c. c == 32)) none ∙ split-last 32 (decimal s) (decimal-free 32 s (omega arith) (school-small s (All-head IsSchool s [] ok)))
split-list s (t ∷ rest) ok =
    split-next 32 (decimal s) (list_text (t ∷ rest)) (map decimal (t ∷ rest)) (decimal-free 32 s (omega arith) (school-small s (All-head IsSchool s (t ∷ rest) ok)))
    (split-list t rest (All-tail IsSchool s (t ∷ rest) ok))

-- the words joined again
pub join-list : (s : ℕ) (rest : List ℕ) → join_with_byte 32 (map decimal (s ∷ rest)) ≡ list_text (s ∷ rest)
join-list s [] = sym (append-nil (decimal s))
join-list s (t ∷ rest) = ap (λ (text : List ℕ). decimal s ++ 32 ∷ text) (join-list t rest)

-- the digits of schools read as these
schools-decimal : (earlier xs : List ℕ) → All IsSchool xs → schools_after earlier (map decimal xs) ≡ Ok (earlier ++ xs)
unfolding schools_after
schools-decimal earlier [] ok = ap Ok (sym (append-nil earlier))
schools-decimal earlier (x ∷ xs) ok =
    rw (ranged-decimal 1 99999 x (omega arith) (All-head IsSchool x xs ok))
    (schools-decimal (earlier ++ x ∷ []) xs (All-tail IsSchool x xs ok) ∙ ap Ok (append_assoc earlier (x ∷ []) xs))

-- what texts are that read as schools
record AreSchools (earlier : List ℕ) (texts : List (List ℕ)) (all : List ℕ) : Type 0 where
  pub schools : List ℕ
  pub spelled : texts ≡ map decimal schools
  pub whole : all ≡ earlier ++ schools
  pub ranges : All IsSchool schools

decimal-schools : (earlier : List ℕ) (texts : List (List ℕ)) (all : List ℕ) → schools_after earlier texts ≡ Ok all → AreSchools earlier texts all
unfolding schools_after
decimal-schools earlier [] all reads =
    let same : earlier ≡ all = cc reads in
    record { schools = []; spelled = refl; whole = sym same ∙ sym (append-nil earlier); ranges = All-nil IsSchool }
decimal-schools earlier (text ∷ texts) all reads =
    let step = second (school_in text) (λ s. schools_after (earlier ++ s ∷ []) texts) all reads in
    let s = step.first in
    let is = decimal-ranged 1 99999 s text step.gave in
    let more = decimal-schools (earlier ++ s ∷ []) texts all step.next in
    record {
      schools = s ∷ more.schools;
      spelled = ap (λ (t : List ℕ). t ∷ texts) is.spelled ∙ ap (λ (ts : List (List ℕ)). decimal s ∷ ts) more.spelled;
      whole = more.whole ∙ append_assoc earlier (s ∷ []) more.schools;
      ranges = All-cons IsSchool s more.schools is.range more.ranges;
    }

-- a text with a byte is read by its words
list-words : (text : List ℕ) → 0 < length text → list_in text ≡ schools_after [] (slice_split (λ c. c == 32) text)
unfolding list_in
list-words [] some = absurd (omega arith)
list-words (c ∷ cs) some =
    let one : (length (c ∷ cs) == 0) ≡ false = grind (arith, nat_tests) in
    rw one refl

-- a list's text reads as that list
pub list-text : (xs : List ℕ) → All IsSchool xs → list_in (list_text xs) ≡ Ok xs
unfolding list_in
list-text [] ok = refl
list-text (s ∷ rest) ok =
    let digits = decimal_nonempty s (school-small s (All-head IsSchool s rest ok)) in
    let some : 0 < length (list_text (s ∷ rest)) = omega (arith, length-append (decimal s) (flat_map further_text rest)) in
    list-words (list_text (s ∷ rest)) some ∙ ap (schools_after []) (split-list s rest ok) ∙ schools-decimal [] (s ∷ rest) ok

-- what a text is that reads as a list
pub record IsList (text xs : List ℕ) : Type 0 where
  pub spelled : text ≡ list_text xs
  pub ranges : All IsSchool xs

-- words that are the digits of schools are joined to the list's text
joined : (text xs : List ℕ) → 0 < length text → join_with_byte 32 (map decimal xs) ≡ text → text ≡ list_text xs
joined text [] some e = let none : length text ≡ 0 = ap length (sym e) in absurd (omega arith)
joined text (s ∷ rest) some e = sym e ∙ join-list s rest

pub text-list : (text xs : List ℕ) → list_in text ≡ Ok xs → IsList text xs
unfolding list_in
text-list [] xs reads =
    let same : [] ≡ xs = cc reads in
    record { spelled = ap list_text same; ranges = rw (← same) (All-nil IsSchool) }
text-list (c ∷ cs) xs reads =
    let parts : schools_after [] (slice_split (λ b. b == 32) (c ∷ cs)) ≡ Ok xs = sym (list-words (c ∷ cs) (omega arith)) ∙ reads in
    let is = decimal-schools [] (slice_split (λ b. b == 32) (c ∷ cs)) xs parts in
    let same : xs ≡ is.schools = is.whole in
    let whole : join_with_byte 32 (map decimal is.schools) ≡ c ∷ cs = ap (join_with_byte 32) (sym is.spelled) ∙ join_with_byte-slice_split 32 (c ∷ cs) in
    record { spelled = joined (c ∷ cs) is.schools (omega arith) whole ∙ ap list_text (sym same); ranges = rw same is.ranges }

further-free : (c : ℕ) (xs : List ℕ) → c < 48 → (32 == c) ≡ false → All IsSchool xs → IsFree c (flat_map further_text xs)
further-free c [] low other ok = All-nil (λ b. (b == c) ≡ false)
further-free c (x ∷ xs) low other ok =
    let digits = decimal-free c x low (school-small x (All-head IsSchool x xs ok)) in
    All-append (λ b. (b == c) ≡ false) (further_text x) (flat_map further_text xs) (All-cons (λ b. (b == c) ≡ false) 32 (decimal x) other digits) (further-free c xs low other (All-tail IsSchool x xs ok))

-- a list's text has digits and spaces alone
pub list-free : (c : ℕ) (xs : List ℕ) → c < 48 → (32 == c) ≡ false → All IsSchool xs → IsFree c (list_text xs)
list-free c [] low other ok = All-nil (λ b. (b == c) ≡ false)
list-free c (x ∷ xs) low other ok =
    All-append (λ b. (b == c) ≡ false) (decimal x) (flat_map further_text xs) (decimal-free c x low (school-small x (All-head IsSchool x xs ok))) (further-free c xs low other (All-tail IsSchool x xs ok))

-- a text that is tested to have no such byte
pub word-free : (c : ℕ) (word : List ℕ) → list_all (λ b. not (b == c)) word ≡ true → IsFree c word
word-free c word e =
    All-weaker (λ b. not (b == c) ≡ true) (λ b. (b == c) ≡ false) (λ b h. not-true (b == c) h) word (AllPass-from_list_all (λ b. not (b == c)) word e)
