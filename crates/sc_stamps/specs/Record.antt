-- What an amendment amends.
use Rattle.std.specs.Prelude.{nat_eq, Bool, false}
use Rattle.sc_papers.specs.Market.{Market, is_school, is_student}
use Rattle.sc_papers.specs.declared.amendment.Amendment.{Amendment}
use Rattle.sc_papers.specs.declared.amendment.Amendment.TheVariants.{Enter, Withdraw, Rerank, Add, Close, Correct}
use Rattle.sc_stamps.specs.declared.record.Record.{Record}
use Rattle.sc_stamps.specs.declared.record.Record.TheVariants.{OfStudent, OfSchool}

-- the record of an amendment: its student's, or where seats are added or closed its school's
abbrev pub record_of : Amendment → Record
record_of (Enter i zone siblings choices continuing) = OfStudent i
record_of (Withdraw i) = OfStudent i
record_of (Rerank i choices) = OfStudent i
record_of (Add s count) = OfSchool s
record_of (Close s count) = OfSchool s
record_of (Correct i zone siblings continuing) = OfStudent i

-- whether two records are the same. A student and a school of the same number are two
abbrev pub is_same : Record → Record → Bool
is_same (OfStudent i) (OfStudent j) = nat_eq i j
is_same (OfStudent i) (OfSchool s) = false
is_same (OfSchool s) (OfStudent i) = false
is_same (OfSchool s) (OfSchool t) = nat_eq s t

-- whether a record is in the papers
abbrev pub is_record : Market → Record → Bool
is_record m (OfStudent i) = is_student m i
is_record m (OfSchool s) = is_school m s
