-- The lines of a journal: each amendment has one spelling.
use Rattle.std.specs.Prelude.{ℕ, List, [], ◌∷◌, ◌++◌, codes, flat_map, Option, None, Some}
use Rattle.std.specs.Fmt.{decimal}
use Rattle.std.specs.List.{join_with_byte}
use Rattle.sc_papers.specs.declared.amendment.Amendment.{Amendment}
use Rattle.sc_papers.specs.declared.amendment.Amendment.TheVariants.{Enter, Withdraw, Rerank, Add, Close, Correct}

-- a further school of a list: a space, and its number
abbrev pub further_text : ℕ → List ℕ
further_text s = codes " " ++ decimal s

-- a list of schools: the numbers with one space between each two, nothing for the empty list
abbrev pub list_text : List ℕ → List ℕ
list_text [] = []
list_text (s ∷ rest) = decimal s ++ flat_map further_text rest

-- the school at which a student continues: a field with its number, or no field where there is none
abbrev pub continuing_fields : Option ℕ → List (List ℕ)
continuing_fields None = []
continuing_fields (Some s) = decimal s ∷ []

-- the fields of an amendment's record: its word, and its numbers and lists
abbrev pub fields_of : Amendment → List (List ℕ)
fields_of (Enter i zone siblings choices continuing) =
    codes "enter" ∷ decimal i ∷ decimal zone ∷ list_text siblings ∷ list_text choices ∷ continuing_fields continuing
fields_of (Withdraw i) = codes "withdraw" ∷ decimal i ∷ []
fields_of (Rerank i choices) = codes "rerank" ∷ decimal i ∷ list_text choices ∷ []
fields_of (Add s count) = codes "add" ∷ decimal s ∷ decimal count ∷ []
fields_of (Close s count) = codes "close" ∷ decimal s ∷ decimal count ∷ []
fields_of (Correct i zone siblings continuing) = codes "correct" ∷ decimal i ∷ decimal zone ∷ list_text siblings ∷ continuing_fields continuing

-- an amendment's record: its fields, with a comma, byte 44, between each two
abbrev pub amendment_text : Amendment → List ℕ
amendment_text amendment = join_with_byte 44 (fields_of amendment)

-- a line without its newline: its number, a comma, and the amendment's record
abbrev pub line_text : ℕ → Amendment → List ℕ
line_text number amendment = decimal number ++ codes "," ++ amendment_text amendment
