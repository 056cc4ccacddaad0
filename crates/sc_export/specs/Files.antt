-- The files of an opening that hold papers, as they are exported.
use Rattle.std.specs.Prelude.{ℕ, Bool, List, [], ◌∷◌, ◌++◌, map, flat_map, is_some, Option, None, Some, codes, if◌then◌else◌}
use Rattle.std.specs.Fmt.{decimal}
use Rattle.std.specs.List.{join_with_byte, list_any}
use Rattle.sc_papers.specs.Market.{Market}
use Rattle.sc_papers.specs.declared.records.School.{School}
use Rattle.sc_papers.specs.declared.records.Student.{Student}
use Rattle.sc_lines.specs.Line.{list_text}

-- a row: its fields with a comma, byte 44, between each two, and a newline
abbrev pub row_text : List (List ℕ) → List ℕ
row_text fields = join_with_byte 44 fields ++ codes "\n"

-- a file: its header and its rows
abbrev pub file_text : List (List ℕ) → List (List (List ℕ)) → List ℕ
file_text header rows = flat_map row_text (header ∷ rows)

-- a school's row: its number, its zone and its seats
abbrev pub school_fields : ℕ × School → List (List ℕ)
school_fields entry = decimal entry.0 ∷ decimal entry.1.zone ∷ decimal entry.1.seats ∷ []

abbrev pub school_header : List (List ℕ)
school_header = codes "school" ∷ codes "zone" ∷ codes "seats" ∷ []

-- the file of the schools, in order of entry
abbrev pub schools_text : Market → List ℕ
schools_text m = file_text school_header (map school_fields m.schools)

-- whether a student continues at a school
abbrev pub continues : ℕ × Student → Bool
continues entry = is_some entry.1.continuing

-- whether somebody does, so that the roster has its longer form
abbrev pub is_longer : Market → Bool
is_longer m = list_any continues m.students

-- the last field of a roster's row of the longer form
abbrev pub continuing_text : Option ℕ → List ℕ
continuing_text None = []
continuing_text (Some s) = decimal s

-- a field that the longer form alone has
abbrev pub further_field : Bool → List ℕ → List (List ℕ)
further_field longer field = if longer then field ∷ [] else []

-- a student's row of the roster, in the longer or the shorter form: the number, the zone, the siblings'
-- schools, and the school at which the student continues
abbrev pub roster_fields : Bool → ℕ × Student → List (List ℕ)
roster_fields longer entry =
    decimal entry.0 ∷ decimal entry.1.zone ∷ list_text entry.1.siblings
    ∷ further_field longer (continuing_text entry.1.continuing)

abbrev pub roster_header : Bool → List (List ℕ)
roster_header longer = codes "student" ∷ codes "zone" ∷ codes "siblings" ∷ further_field longer (codes "continuing")

-- the roster, in order of entry
abbrev pub roster_text : Market → List ℕ
roster_text m = file_text (roster_header (is_longer m)) (map (roster_fields (is_longer m)) m.students)

-- a student's row of the lists: the number and the choices, best first
abbrev pub list_fields : ℕ × Student → List (List ℕ)
list_fields entry = decimal entry.0 ∷ list_text entry.1.choices ∷ []

abbrev pub list_header : List (List ℕ)
list_header = codes "student" ∷ codes "choices" ∷ []

-- the rank-order lists, in order of entry
abbrev pub lists_text : Market → List ℕ
lists_text m = file_text list_header (map list_fields m.students)
