-- A byte that is looked for in a text.
use Rattle.std.proofs.Common.{◌≡◌, ℕ, zero, suc, ◌<◌, ◌==◌, ◌||◌, Bool, true, false, List, [], ◌∷◌, length, refl, sym, arith, Option, Some, None}
use Rattle.std.specs.Prelude.{is_some, slice_index}
use Rattle.std.proofs.lemmas.Bool.{false_from_ne_true}
use Rattle.memchr.specs.Find.{IsFirstByte, is_byte}
use Rattle.sc_checks.specs.Words.{has_byte}

pub byte-there : (byte : ℕ) (text : List ℕ) (k : ℕ) → k < length text → (slice_index text k == byte) ≡ true → has_byte byte text ≡ true
byte-there byte [] k within is = absurd (omega arith)
byte-there byte (c ∷ cs) zero within is = rw is refl
byte-there byte (c ∷ cs) (suc k) within is = rw (byte-there byte cs k (omega arith) is) (any_true (c == byte))
  where
    any_true : (b : Bool) → (b || true) ≡ true
    any_true true = refl
    any_true false = refl

byte-nowhere : (byte : ℕ) (text : List ℕ) → ((k : ℕ) → k < length text → (slice_index text k == byte) ≡ false) → has_byte byte text ≡ false
byte-nowhere byte [] none = refl
byte-nowhere byte (c ∷ cs) none = rw (none 0 (omega arith)) (byte-nowhere byte cs (λ k within. none (suc k) (omega arith)))

-- a search for a byte finds it where the text has it
pub byte-found : (byte : ℕ) (text : List ℕ) (found : Option ℕ) → IsFirstByte (is_byte byte) text found → is_some found ≡ has_byte byte text
byte-found byte text None nowhere = sym (byte-nowhere byte text (λ k within. false_from_ne_true _ (nowhere k (omega arith) within)))
byte-found byte text (Some k) first = sym (byte-there byte text k first.0.high first.1)
