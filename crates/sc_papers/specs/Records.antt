-- The records that the type `Papers` keeps beside flat papers.
use Rattle.std.specs.Prelude.{◌≡◌, List, map}
use Rattle.sc_papers.specs.Market.{Market}
use Rattle.sc_papers.specs.declared.records.Student.{Student}

-- these are what the papers hold of their students, in order of entry
abbrev pub AreRecords : Market → List Student → Type 0
AreRecords m records = records ≡ map (λ entry. entry.1) m.students
