-- Where the lines of a text begin. Only the crate's own functions and their proofs need this.
use Rattle.std.specs.Prelude.{◌≡◌, ℕ, ◌<◌, List, drop, get_or, length}
use Rattle.sc_intake.specs.Plain.{plain_records}

-- there is one of these positions for each record of a text, and from each on the text has the records that are left there
pub record AreStarts (text starts : List ℕ) : Type 0 where
  pub many : length starts ≡ length (plain_records text)
  pub each : (k : ℕ) → k < length starts → plain_records (drop (get_or starts k 0) text) ≡ drop k (plain_records text)
