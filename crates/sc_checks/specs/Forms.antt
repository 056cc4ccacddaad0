-- What a row is to be: which columns it has, and whom it is of.
use Rattle.std.specs.Prelude.{ℕ, List, [], ◌∷◌, codes, if◌then◌else◌}
use Rattle.std.specs.Str.{bytes_eq}
use Rattle.sc_intake.specs.File.{text_at}
use Rattle.sc_intake.specs.declared.fault.Source.{Source}
use Rattle.sc_intake.specs.declared.fault.Source.TheVariants.{Schools, Roster, Lists, Script, Log, Journal, Bundle, Report}
use Rattle.sc_checks.specs.declared.columns.Column.{Column}
use Rattle.sc_checks.specs.declared.columns.Column.TheVariants.{School, Zone, Seats, Student, Siblings, Continuing, Choices, Stamp, Word, Count}
use Rattle.sc_checks.specs.declared.forms.Form.{Form}
use Rattle.sc_checks.specs.declared.forms.Form.TheVariants.{SchoolRow, RosterRow, ListRow, Enter, Withdraw, Rerank, AddOrClose, Correct, Unknown}

-- what a record of a script is to be, by the word after its stamp
abbrev pub form_of_word : List ℕ → Form
form_of_word word =
    if bytes_eq word (codes "enter") then Enter
    else if bytes_eq word (codes "withdraw") then Withdraw
    else if bytes_eq word (codes "rerank") then Rerank
    else if bytes_eq word (codes "add") then AddOrClose
    else if bytes_eq word (codes "close") then AddOrClose
    else if bytes_eq word (codes "correct") then Correct
    else Unknown

-- what a row of an input with these fields is to be
abbrev pub form_of : Source → List (List ℕ) → Form
form_of Schools fields = SchoolRow
form_of Roster fields = RosterRow
form_of Lists fields = ListRow
form_of Script fields = form_of_word (text_at fields 1)
form_of Log fields = Unknown
form_of Journal fields = Unknown
form_of Bundle fields = Unknown
form_of Report fields = Unknown

-- the columns of a form, in the order of its fields
abbrev pub columns_of : Form → List Column
columns_of SchoolRow = School ∷ Zone ∷ Seats ∷ []
columns_of RosterRow = Student ∷ Zone ∷ Siblings ∷ Continuing ∷ []
columns_of ListRow = Student ∷ Choices ∷ []
columns_of Enter = Stamp ∷ Word ∷ Student ∷ Zone ∷ Siblings ∷ Choices ∷ Continuing ∷ []
columns_of Withdraw = Stamp ∷ Word ∷ Student ∷ []
columns_of Rerank = Stamp ∷ Word ∷ Student ∷ Choices ∷ []
columns_of AddOrClose = Stamp ∷ Word ∷ School ∷ Count ∷ []
columns_of Correct = Stamp ∷ Word ∷ Student ∷ Zone ∷ Siblings ∷ Continuing ∷ []
columns_of Unknown = Stamp ∷ []
