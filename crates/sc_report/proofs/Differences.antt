-- How far two texts are alike, and what a reader that was met so far has.
use Rattle.std.proofs.Common.{◌≡◌, refl, sym, ap, ◌∙◌, subst, inl, inr, ℕ, zero, suc, ◌+◌, ◌-◌, ◌<◌, ◌≤◌, ◌==◌, List, [], ◌∷◌, ◌++◌, Option, None, Some, length, take, drop, get_or, take-append-drop, arith, append-nil}
use Rattle.std.proofs.lemmas.Bool.{cases_eq, eq-eqb, ne_eqb, cond-true, cond-false}
use Rattle.std.proofs.lemmas.List.{take_rest, take_all, length-append, length-take, length-take-le}
use Rattle.std.specs.Io.KnownBytes.{Consumes, IsAtEnd}
use Rattle.sc_report.specs.Comparing.{common, differing_line, line_ends, ComparesWith}
use Rattle.sc_report.specs.Steps.{Meets}
use Rattle.sc_report.specs.declared.comparing.Met.{Met}
use Rattle.sc_report.proofs.KnownLemmas.{take-more, Consumes-more}

-- a text is alike to itself
pub common-self : (xs : List ℕ) → common xs xs ≡ xs
common-self [] = refl
common-self (x ∷ xs) = cond-true (x == x) (x ∷ common xs xs) [] (eq-eqb x x refl) ∙ ap (λ ys. x ∷ ys) (common-self xs)

-- what two texts begin with and are alike after
pub common-after : (first xs ys : List ℕ) → common (first ++ xs) (first ++ ys) ≡ first ++ common xs ys
common-after [] xs ys = refl
common-after (x ∷ first) xs ys = cond-true (x == x) (x ∷ common (first ++ xs) (first ++ ys)) [] (eq-eqb x x refl) ∙ ap (λ zs. x ∷ zs) (common-after first xs ys)

-- where one is alike with less than all of another, it is alike with no more of what goes on
pub common-short : (xs ys zs : List ℕ) → length (common xs ys) < length ys → common xs (ys ++ zs) ≡ common xs ys
common-short [] ys zs short = refl
common-short (x ∷ xs) [] zs short = absurd (omega (arith, short))
common-short (x ∷ xs) (y ∷ ys) zs short = elim (cases_eq x y) [
  | inl same ↦
      let yes = eq-eqb x y same in
      let rest : length (common xs ys) < length ys = omega (arith, subst (λ l. length l < suc (length ys)) (cond-true (x == y) (x ∷ common xs ys) [] yes) short) in
      cond-true (x == y) (x ∷ common xs (ys ++ zs)) [] yes ∙ ap (λ l. x ∷ l) (common-short xs ys zs rest) ∙ sym (cond-true (x == y) (x ∷ common xs ys) [] yes)
  | inr apart ↦
      let no = ne_eqb x y apart in
      cond-false (x == y) (x ∷ common xs (ys ++ zs)) [] no ∙ sym (cond-false (x == y) (x ∷ common xs ys) [] no)
]

pub common-nothing : (xs : List ℕ) → common xs [] ≡ []
common-nothing [] = refl
common-nothing (x ∷ xs) = refl

-- two texts that are the same up to a place, at which one has another byte
pub common-apart : (at : ℕ) (xs ys : List ℕ) → at < length xs → at < length ys → take at xs ≡ take at ys → (get_or xs at 0 ≡ get_or ys at 0 → ⊥) → take at xs ≡ common xs ys
common-apart at [] ys low high same apart = absurd (omega (arith, low))
common-apart at (x ∷ xs) [] low high same apart = absurd (omega (arith, high))
common-apart zero (x ∷ xs) (y ∷ ys) low high same apart = sym (cond-false (x == y) (x ∷ common xs ys) [] (ne_eqb x y apart))
common-apart (suc at) (x ∷ xs) (y ∷ ys) low high same apart =
    let first : x ≡ y = ap (λ l. get_or l 0 x) same in
    sym (cond-true (x == y) (x ∷ common xs ys) [] (eq-eqb x y first)
    ∙ ap (λ l. x ∷ l) (sym (common-apart at xs ys (omega (arith, low)) (omega (arith, high)) (ap (drop 1) same) apart)))

-- two texts that are the same up to the end of the shorter one
pub common-end : (at : ℕ) (xs ys : List ℕ) → at ≤ length xs → at ≤ length ys → (at < length xs → at < length ys → ⊥) → take at xs ≡ take at ys → take at xs ≡ common xs ys
common-end at [] ys low high end same = take_all at [] (omega arith)
common-end zero (x ∷ xs) [] low high end same = refl
common-end (suc at) (x ∷ xs) [] low high end same = absurd (omega (arith, high))
common-end zero (x ∷ xs) (y ∷ ys) low high end same = absurd (end (omega arith) (omega arith))
common-end (suc at) (x ∷ xs) (y ∷ ys) low high end same =
    let first : x ≡ y = ap (λ l. get_or l 0 x) same in
    sym (cond-true (x == y) (x ∷ common xs ys) [] (eq-eqb x y first)
    ∙ ap (λ l. x ∷ l) (sym (common-end at xs ys (omega (arith, low)) (omega (arith, high)) (λ less more. end (omega (arith, less)) (omega (arith, more))) (ap (drop 1) same))))

-- what two texts begin with is no longer than either
pub common-within : (xs ys : List ℕ) → (length (common xs ys) ≤ length xs) × (length (common xs ys) ≤ length ys)
common-within [] ys = (omega arith, omega arith)
common-within (x ∷ xs) [] = (omega arith, omega arith)
common-within (x ∷ xs) (y ∷ ys) = elim (cases_eq x y) [
  | inl same ↦
      let is = ap length (cond-true (x == y) (x ∷ common xs ys) [] (eq-eqb x y same)) in
      let (first, second) = common-within xs ys in
      (omega (arith, is, first), omega (arith, is, second))
  | inr apart ↦
      let is = ap length (cond-false (x == y) (x ∷ common xs ys) [] (ne_eqb x y apart)) in
      (omega (arith, is), omega (arith, is))
]

-- where it is as long as one of them, it is that one
pub common-all : (xs ys : List ℕ) → length ys ≤ length (common xs ys) → common xs ys ≡ ys
common-all [] [] long = refl
common-all [] (y ∷ ys) long = absurd (omega (arith, long))
common-all (x ∷ xs) [] long = refl
common-all (x ∷ xs) (y ∷ ys) long = elim (cases_eq x y) [
  | inl same ↦
      let is = cond-true (x == y) (x ∷ common xs ys) [] (eq-eqb x y same) in
      let rest : length ys ≤ length (common xs ys) = omega (arith, ap length is, long) in
      is ∙ (λ t. same t ∷ common-all xs ys rest t)
  | inr apart ↦ absurd (omega (arith, ap length (cond-false (x == y) (x ∷ common xs ys) [] (ne_eqb x y apart)), long))
]

-- the first bytes of a text, and what it goes on with
cut : (text : List ℕ) (len : ℕ) → take len text ++ take (length text - len) (drop len text) ≡ text
cut text len = ap (λ rest. take len text ++ rest) (take_rest text len) ∙ take-append-drop len text

rest-more : (text : List ℕ) (len count : ℕ) → take (len + count) text ≡ take len text ++ take count (take (length text - len) (drop len text))
rest-more text len count = take-more len count text ∙ ap (λ rest. take len text ++ take count rest) (sym (take_rest text len))

-- a reader that gave the first bytes of a text and was met again has given more of them, or differs
pub meets-len : (text : List ℕ) (len : ℕ) (b c : Option (List ℕ)) (met : Met) → len ≤ length text → Meets (take (length text - len) (drop len text)) b c met → len + met.alike ≤ length text
meets-len text len b c met within (came, gave, count, alike, is) =
    let rest = take (length text - len) (drop len text) in
    let whole : length (take len text ++ rest) ≡ length text = ap length (cut text len) in
    omega (arith, alike, (common-within rest came).0, whole, length-append (take len text) rest, length-take-le len text within)

pub meets-more : (text : List ℕ) (len : ℕ) (a b c : Option (List ℕ)) (met : Met) → Consumes a b (take len text) → Meets (take (length text - len) (drop len text)) b c met
    → met.came ≤ met.alike → Consumes a c (take (len + met.alike) text)
meets-more text len a b c met before (came, gave, count, alike, is) all =
    let rest = take (length text - len) (drop len text) in
    let same : common rest came ≡ came = common-all rest came (omega (arith, all, count, alike)) in
    Consumes-more a b c (take len text) came (take (len + met.alike) text) before gave (rest-more text len met.alike ∙ ap (λ more. take len text ++ more) (is ∙ same))

pub meets-differs : (text : List ℕ) (len line : ℕ) (a b c : Option (List ℕ)) (met : Met) → Consumes a b (take len text) → Meets (take (length text - len) (drop len text)) b c met
    → met.alike < met.came → line ≡ line_ends (take (len + met.alike) text) + 1 → ComparesWith text a c (Some line)
unfolding differing_line
meets-differs text len line None b c met before meets less is = tt
meets-differs text len line (Some bytes) None c met before meets less is = absurd before
meets-differs text len line (Some bytes) (Some middle) None met before (came, gave, count, alike, first) less is = absurd gave
meets-differs text len line (Some bytes) (Some middle) (Some left) met before (came, gave, count, alike, first) less is =
    let rest = take (length text - len) (drop len text) in
    let short : length (common rest came) < length came = omega (arith, less, count, alike) in
    let whole : bytes ≡ take len text ++ (came ++ left) = before ∙ ap (λ more. take len text ++ more) gave in
    let shared : common text bytes ≡ take (len + met.alike) text =
    ap (λ t. common t bytes) (sym (cut text len)) ∙ ap (common (take len text ++ rest)) whole ∙ common-after (take len text) rest (came ++ left)
    ∙ ap (λ more. take len text ++ more) (common-short rest came left short ∙ sym first) ∙ sym (rest-more text len met.alike) in
    let ends : length (take len text ++ common rest came) < length bytes = omega (arith, ap length whole, length-append (take len text) (common rest came), length-append (take len text) (came ++ left), length-append came left, short) in
    let shared_len : length (common text bytes) ≡ length (take len text ++ common rest came) = ap length (shared ∙ rest-more text len met.alike ∙ ap (λ more. take len text ++ more) first) in (
      λ same. omega (arith, ends, shared_len, ap length (ap (common text) same ∙ common-self text), ap length same),
      is ∙ ap (λ t. line_ends t + 1) (sym shared),
    )

-- a reader that is at its end after the first bytes of a text
pub ends-early : (text : List ℕ) (len line : ℕ) (a c : Option (List ℕ)) → len < length text → Consumes a c (take len text) → IsAtEnd c → line ≡ line_ends (take len text) + 1 → ComparesWith text a c (Some line)
unfolding differing_line
ends-early text len line None c low gave end is = tt
ends-early text len line (Some bytes) None low gave end is = absurd gave
ends-early text len line (Some bytes) (Some left) low gave end is =
    let whole : bytes ≡ take len text = gave ∙ ap (λ rest. take len text ++ rest) end ∙ append-nil (take len text) in
    let shared : common text bytes ≡ take len text =
    ap (λ t. common t bytes) (sym (take-append-drop len text)) ∙ ap (common (take len text ++ drop len text)) (whole ∙ sym (append-nil (take len text)))
    ∙ common-after (take len text) (drop len text) [] ∙ ap (λ more. take len text ++ more) (common-nothing (drop len text)) ∙ append-nil (take len text) in (
      λ same. omega (arith, low, ap length (sym same ∙ whole), length-take len text),
      is ∙ ap (λ t. line_ends t + 1) (sym shared),
    )

pub ends-alike : (text : List ℕ) (len : ℕ) (a c : Option (List ℕ)) → length text ≤ len → Consumes a c (take len text) → IsAtEnd c → ComparesWith text a c None
ends-alike text len None c all gave end = tt
ends-alike text len (Some bytes) None all gave end = absurd gave
ends-alike text len (Some bytes) (Some left) all gave end =
    (gave ∙ ap (λ rest. take len text ++ rest) end ∙ append-nil (take len text) ∙ take_all len text all, ap Some end)
