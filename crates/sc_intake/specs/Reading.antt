-- A reader of `csv` over a text: what is left, and what a read does. Only the crate's own functions
-- and their proofs need this.
use Rattle.std.specs.Prelude.{◌≡◌, ℕ, ◌+◌, true, List, [], ◌∷◌, length, Option, None, Some}
use Rattle.std.specs.Borrow.{Bor}
use Rattle.csv.specs.Reading.{Ready, default_config, is_flexible, reader_config, reader_state, reader_trim, records_from, source_of}
use Rattle.csv.specs.declared.parser.State.{State}
use Rattle.csv.specs.declared.reader.Reader.{Reader}
use Rattle.csv.specs.declared.reader.Trim.TheVariants as trim

-- the bytes that a reader of a text has yet to read
abbrev pub unread : Reader (Bor (List ℕ)) → Option (List ℕ)
unread reader = source_of (λ text. Some text.now) reader

-- every record that known bytes have from a state on
abbrev pub records_of : State → Option (List ℕ) → List (List (List ℕ))
records_of state None = []
records_of state (Some text) = records_from default_config (length text + 1) state text

-- what is true of a reader that reads on
pub record IsReading (reader : Reader (Bor (List ℕ))) : Type 0 where
  pub trim : reader_trim reader ≡ trim.None
  pub config : reader_config reader ≡ default_config
  pub flexible : is_flexible reader ≡ true
  pub ready : Ready reader
  pub text : List ℕ
  pub unread : unread reader ≡ Some text

-- what a read that found a record with these fields does
pub record Moves (a b : Reader (Bor (List ℕ))) (fields : List (List ℕ)) : Type 0 where
  pub reading : IsReading b
  pub left : records_of (reader_state a) (unread a) ≡ fields ∷ records_of (reader_state b) (unread b)
