-- What a file of rows reads as: its rows, or its first fault.
use Rattle.std.specs.Prelude.{ℕ, ◌+◌, Bool, false, nat_lt, List, [], ◌∷◌, ◌++◌, length, unwrap_or, if◌then◌else◌, Result, Ok, Err}
use Rattle.csv.specs.Reading.{default_config, is_bom, records, strip_bom}
use Rattle.csv.specs.Records.{field_at}
use Rattle.sc_intake.specs.Fault.{◌>>=◌, fault_at}
use Rattle.sc_intake.specs.Blanks.{trimmed}
use Rattle.sc_intake.specs.declared.blanks.Blanks.TheVariants.{InLine}
use Rattle.sc_intake.specs.declared.fault.Cause.{Cause}
use Rattle.sc_intake.specs.declared.fault.Cause.TheVariants.{TooLong, Header}
use Rattle.sc_intake.specs.declared.fault.IntakeFault.{IntakeFault}
use Rattle.sc_intake.specs.declared.fault.Source.{Source}

-- a field of a record without the blanks around it; one past the last is empty
abbrev pub text_at : List (List ℕ) → ℕ → List ℕ
text_at fields index = trimmed InLine (unwrap_or (field_at fields index) [])

-- a text begins with a byte order mark
abbrev pub is_marked : List ℕ → Bool
is_marked (a ∷ b ∷ c ∷ rest) = is_bom a b c
is_marked _ = false

-- the records of an input of at most 64 MiB; one byte order mark is passed over, and a second is no
-- header
unfoldable pub records_in : Source → List ℕ → Result (List (List (List ℕ))) IntakeFault
records_in source text =
    if nat_lt 67108864 (length text) then Err (fault_at source 0 TooLong)
    else if is_marked (strip_bom text) then Err (fault_at source 1 Header)
    else Ok (records default_config (strip_bom text))

-- the fault of a row, where its reading has a cause
abbrev pub in_row : {A : Type 0} → Source → ℕ → Result A Cause → Result A IntakeFault
in_row source row (Ok x) = Ok x
in_row source row (Err cause) = Err (fault_at source row cause)

-- the rows that records read as, after earlier rows; the first row has this number
unfoldable pub rows_after : {R : Type 0} → ℕ → Source → (List R → List (List ℕ) → Result R Cause) → List R → List (List (List ℕ)) → Result (List R) IntakeFault
rows_after first source read earlier [] = Ok earlier
rows_after first source read earlier (fields ∷ rest) =
    in_row source (length earlier + first) (read earlier fields) >>= λ row. rows_after first source read (earlier ++ row ∷ []) rest

-- how many fields the header has, which the first record has to be, and the records after it
unfoldable pub after_header : Source → (List (List ℕ) → Bool) → List (List (List ℕ)) → Result (ℕ × List (List (List ℕ))) IntakeFault
after_header source is_header [] = Err (fault_at source 1 Header)
after_header source is_header (fields ∷ rest) = if is_header fields then Ok (length fields, rest) else Err (fault_at source 1 Header)

-- how many fields the header of a text has, and the records after it
abbrev pub records_below : Source → (List (List ℕ) → Bool) → List ℕ → Result (ℕ × List (List (List ℕ))) IntakeFault
records_below source is_header text = records_in source text >>= after_header source is_header

-- the rows of a file, which begin at row 2 and are read by the number of the header's fields
abbrev pub rows_in : {R : Type 0} → Source → (List (List ℕ) → Bool) → (ℕ → List R → List (List ℕ) → Result R Cause) → List ℕ → Result (List R) IntakeFault
rows_in source is_header read text =
    records_in source text >>= after_header source is_header >>= λ below. rows_after 2 source (read below.0) [] below.1
