-- The words of a text, and the numbers of words, one at a time.
use Rattle.std.proofs.Common.{◌≡◌, ℕ, ◌+◌, ◌-◌, ◌<◌, ◌≤◌, ◌==◌, false, List, [], ◌∷◌, ◌++◌, length, get_or, drop, refl, sym, ap, ◌∙◌, append_assoc, arith, Bool, true, suc}
use Rattle.std.specs.Prelude.{if◌then◌else◌, slice_range, Result, Ok, Err}
use Rattle.std.proofs.lemmas.List.{append-nil, at_drop_all, at_drop_more, drop-drop, length-drop, take_all}
use native.Mathlib.Numerals.{unary_clauses}
use Rattle.sc_decimal.specs.Number.{is_number, read_number}
use Rattle.sc_intake.specs.Fault.{◌>>=◌}
use Rattle.sc_intake.specs.declared.fault.Cause.{Cause}
use Rattle.sc_intake.specs.Field.{first_number, first_word, number_of, numbers_after, word_of, words_after}

-- a space alone is no word
pub words-space : (text : List ℕ) (i d : ℕ) → i < length text → get_or text i d ≡ 32
    → words_after [] (drop i text) ≡ words_after [] (drop (i + 1) text)
unfolding words_after
words-space text i d within space = at_drop_more (words_after []) text i d within ∙ rw space refl

-- a byte that is no space begins a word
pub first_word-some : (text : List ℕ) (i d : ℕ) → i < length text → (get_or text i d == 32) ≡ false → 0 < length (first_word (drop i text))
unfolding first_word
first_word-some text i d within other =
    let size : length (first_word (drop i text)) ≡ length (get_or text i d ∷ first_word (drop (i + 1) text)) = at_drop_more (λ (t : List ℕ). length (first_word t)) text i d within ∙ rw other refl in
    rw size (omega arith)

-- the first word, and those after it
words-first : (piece text : List ℕ) → words_after piece text ≡ word_of (piece ++ first_word text) ++ words_after [] (drop (length (first_word text) + 1) text)
unfolding words_after first_word
words-first piece [] = sym (append-nil (word_of (piece ++ [])) ∙ ap word_of (append-nil piece))
words-first piece (c ∷ cs) = by (c == 32) refl (words-first (piece ++ c ∷ []) cs)
  where
    by : (b : Bool) → (c == 32) ≡ b
        → words_after (piece ++ c ∷ []) cs ≡ word_of ((piece ++ c ∷ []) ++ first_word cs) ++ words_after [] (drop (length (first_word cs) + 1) cs)
        → (if b then word_of piece ++ words_after [] cs else words_after (piece ++ c ∷ []) cs)
        ≡ word_of (piece ++ (if b then [] else c ∷ first_word cs)) ++ words_after [] (drop (length (if b then [] else c ∷ first_word cs) + 1) (c ∷ cs))
    by true e more = ap (λ (w : List ℕ). word_of w ++ words_after [] cs) (sym (append-nil piece))
    by false e more =
        let on : drop (suc (length (first_word cs)) + 1) (c ∷ cs) ≡ drop (length (first_word cs) + 1) cs = simp unary_clauses refl in
        rw on (more ∙ ap (λ (w : List ℕ). word_of w ++ words_after [] (drop (length (first_word cs) + 1) cs)) (append_assoc piece (c ∷ []) (first_word cs)))

-- the words from an index on are the first one and those after it
pub words-next : (text : List ℕ) (start next : ℕ) → next ≡ start + (length (first_word (drop start text)) + 1)
    → words_after [] (drop start text) ≡ word_of (first_word (drop start text)) ++ words_after [] (drop next text)
words-next text start next at =
    rw (at, ← drop-drop (length (first_word (drop start text)) + 1) start text) (words-first [] (drop start text))

-- a word is no longer than its text
pub first_word-short : (text : List ℕ) → length (first_word text) ≤ length text
unfolding first_word
first_word-short [] = omega arith
first_word-short (c ∷ cs) = by (c == 32) (first_word-short cs)
  where
    by : (b : Bool) → length (first_word cs) ≤ length cs → length (if b then [] else c ∷ first_word cs) ≤ length (c ∷ cs)
    by true short = omega arith
    by false short = omega arith

-- the bytes from an index to the end
pub slice_range-rest : (text : List ℕ) (start : ℕ) → slice_range text start (length text) ≡ drop start text
slice_range-rest text start = take_all (length text - start) (drop start text) (omega (arith, length-drop start text))

-- the number that a text begins with is the first word's
pub first_number-ok : (text : List ℕ) (n digits : ℕ) → first_number text ≡ Ok (n, digits) → (number_of (first_word text) ≡ Ok n) × (digits ≡ length (first_word text))
unfolding first_number
first_number-ok text n digits first = by (number_of (first_word text)) first
  where
    by : (r : Result ℕ Cause) → ◌>>=◌ {B = ℕ × ℕ} r (λ m. Ok (m, length (first_word text))) ≡ Ok (n, digits) → (r ≡ Ok n) × (digits ≡ length (first_word text))
    by (Ok m) same =
        let read : ℕ × ℕ = (m, length (first_word text)) in
        let is : ℕ × ℕ = (n, digits) in
        let pair : read ≡ is = cc same in
        (ap (λ (p : ℕ × ℕ). Ok p.0) pair, sym (ap (λ (p : ℕ × ℕ). p.1) pair))
    by (Err e) same = cc same

pub first_number-err : (text : List ℕ) (e : Cause) → first_number text ≡ Err e → number_of (first_word text) ≡ Err e
unfolding first_number
first_number-err text e first = by (number_of (first_word text)) first
  where
    by : (r : Result ℕ Cause) → ◌>>=◌ {B = ℕ × ℕ} r (λ m. Ok (m, length (first_word text))) ≡ Err e → r ≡ Err e
    by (Ok m) same = cc same
    by (Err f) same = cc same

-- a word that writes a number has a byte
pub number_of-some : (w : List ℕ) (n : ℕ) → number_of w ≡ Ok n → 0 < length w
unfolding number_of read_number is_number
number_of-some [] n number = absurd (cc number)
number_of-some (c ∷ cs) n number = omega arith

-- a number that is read in a text from a place on: the word there writes it, and the others come after a space
pub record ReadsNumber (text : List ℕ) (start n digits : ℕ) : Type 0 where
  pub cut : words_after [] (drop start text) ≡ word_of (first_word (drop start text)) ++ words_after [] (drop (start + (digits + 1)) text)
  pub some : 0 < length (first_word (drop start text))
  pub number : number_of (first_word (drop start text)) ≡ Ok n
  pub at : start + (digits + 1) ≡ start + (length (first_word (drop start text)) + 1)
  pub short : digits ≤ length text - start

pub reads-number : (text : List ℕ) (start n digits : ℕ) → first_number (slice_range text start (length text)) ≡ Ok (n, digits) → ReadsNumber text start n digits
reads-number text start n digits read =
    let word = first_number-ok (drop start text) n digits (rw (slice_range-rest text start) at read) in
    let at : start + (digits + 1) ≡ start + (length (first_word (drop start text)) + 1) = rw word.1 refl in
    record {
      cut = words-next text start (start + (digits + 1)) at;
      some = number_of-some (first_word (drop start text)) n word.0;
      number = word.0;
      at = at;
      short = omega (arith, word.1, first_word-short (drop start text), length-drop start text);
    }

-- the numbers, where the next word is one
pub numbers-more : (ns : List ℕ) (w : List ℕ) (ws : List (List ℕ)) (n : ℕ) → number_of w ≡ Ok n
    → numbers_after ns (w ∷ ws) ≡ numbers_after (ns ++ n ∷ []) ws
unfolding numbers_after
numbers-more ns w ws n number = rw number refl

pub numbers-bad : (ns : List ℕ) (w : List ℕ) (ws : List (List ℕ)) (e : Cause) → number_of w ≡ Err e
    → numbers_after ns (w ∷ ws) ≡ Err e
unfolding numbers_after
numbers-bad ns w ws e bad = rw bad refl

-- a piece with a byte is the next word
pub numbers-word : (ns piece : List ℕ) (ws : List (List ℕ)) → 0 < length piece → numbers_after ns (word_of piece ++ ws) ≡ numbers_after ns (piece ∷ ws)
numbers-word ns [] ws some = absurd (omega arith)
numbers-word ns (c ∷ cs) ws some = refl

-- no word is left at the end of the text
pub numbers-last : (ns text : List ℕ) (i : ℕ) → length text ≤ i → numbers_after ns (words_after [] (drop i text)) ≡ Ok ns
unfolding numbers_after words_after
numbers-last ns text i past = at_drop_all (λ (t : List ℕ). numbers_after ns (words_after [] t)) text i past
