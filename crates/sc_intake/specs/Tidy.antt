-- Rows of tidy texts, which are read with no look for their fields. Only the crate's own functions and their proofs need this.
use Rattle.std.specs.Prelude.{◌≡◌, ℕ, ◌+◌, false, List, [], ◌∷◌, ◌++◌, length, Option, None, Some, Result, Ok}
use Rattle.std.specs.List.{list_any}
use Rattle.sc_papers.specs.declared.rejection.Rejection.{Rejection}
use Rattle.sc_intake.specs.Blanks.{trimmed}
use Rattle.sc_intake.specs.Fault.{◌>>=◌}
use Rattle.sc_intake.specs.Field.{all_schools, as_school_or_none, number_of, number_or_none, numbers_in}
use Rattle.sc_intake.specs.File.{text_at}
use Rattle.sc_intake.specs.Lists.{choices_of}
use Rattle.sc_intake.specs.Log.{rejection_of}
use Rattle.sc_intake.specs.Plain.{after_line, fields_from, first_line, has_quote, is_mark}
use Rattle.sc_intake.specs.Rows.{row_at}
use Rattle.sc_intake.specs.declared.blanks.Blanks.TheVariants.{InLine}
use Rattle.sc_intake.specs.declared.fault.Cause.{Cause}
use Rattle.sc_intake.specs.declared.lists.ListRow.{ListRow}

-- a text begins with digits that write a number, and this comes after them
pub record TakesNumber (text after : List ℕ) (n : ℕ) : Type 0 where
  pub digits : List ℕ
  pub cut : text ≡ digits ++ after
  pub number : number_of digits ≡ Ok n

-- a text begins with bytes of a field that reads so, and this comes after them
pub record TakesField (text after : List ℕ) (Reads : List ℕ → Type 0) : Type 0 where
  pub field : List ℕ
  pub cut : text ≡ field ++ after
  pub clean : list_any is_mark field ≡ false
  pub reads : Reads (trimmed InLine field)

-- a field reads as these schools
abbrev pub AreSchools : List ℕ → List ℕ → Type 0
AreSchools schools field = (numbers_in field ≡ Ok schools) × (all_schools schools ≡ Ok schools)

-- a field reads as this school, or is empty and as none
abbrev pub IsSchoolOrNone : Option ℕ → List ℕ → Type 0
IsSchoolOrNone school field = (number_or_none field >>= as_school_or_none) ≡ Ok school

-- a text's first line has these fields and no quote, and this is the text from its line end on
pub record HasLine (text rest : List ℕ) (fields : List (List ℕ)) : Type 0 where
  pub line : fields_from [] (first_line text) ≡ fields
  pub plain : has_quote (first_line text) ≡ false
  pub after : after_line text ≡ after_line rest
  pub ends : first_line rest ≡ []

-- a text goes on after the third field of a row of the roster, of so many: the row's last field, if it has four, and then
-- the text from the line end on
pub record EndsRow (width : ℕ) (text rest : List ℕ) (continuing : Option ℕ) : Type 0 where
  pub fields : List (List ℕ)
  pub width_is : 3 + length fields ≡ width
  pub reads : IsSchoolOrNone continuing (text_at fields 0)
  pub line : (third : List ℕ) → list_any is_mark third ≡ false → HasLine (third ++ text) rest (third ∷ fields)

-- the first of these records is this row, and these are left
pub record TakesRow {R : Type 0} (read : ℕ → List (List ℕ) → Result R Cause) (width row : ℕ) (records left : List (List (List ℕ))) (found : R) : Type 0 where
  pub fields : List (List ℕ)
  pub next : records ≡ fields ∷ left
  pub reads : row_at read width row fields ≡ Ok found

-- the first of these records is a row of the lists, of this student and these choices, and these are left
pub record TakesList (width row : ℕ) (records left : List (List (List ℕ))) (student : ℕ) (choices : List ℕ) : Type 0 where
  pub list : ListRow
  pub takes : TakesRow choices_of width row records left list
  pub theirs : list.student ≡ student
  pub chosen : list.choices ≡ choices

-- the first of these records is this rejection, and these are left
pub record TakesRejection (records left : List (List (List ℕ))) (found : Rejection) : Type 0 where
  pub fields : List (List ℕ)
  pub next : records ≡ fields ∷ left
  pub reads : rejection_of fields ≡ Ok found

-- the first of these records, if there is one, is this row, and these are left
abbrev pub IsNextRow : {R : Type 0} → (ℕ → List (List ℕ) → Result R Cause) → ℕ → ℕ → List (List (List ℕ)) → List (List (List ℕ)) → Option R → Type 0
IsNextRow read width row records left None = records ≡ []
IsNextRow read width row records left (Some found) = TakesRow read width row records left found

-- the first of these records, if there is one, is a row of the lists, of this student and these choices, and these are left
abbrev pub IsNextList : ℕ → ℕ → List (List (List ℕ)) → List (List (List ℕ)) → List ℕ → Option ℕ → Type 0
IsNextList width row records left choices None = records ≡ []
IsNextList width row records left choices (Some student) = TakesList width row records left student choices
