-- The stamps of the records of papers.
use Rattle.std.specs.Prelude.{◌≡◌, ◌≤◌, ℕ, ◌+◌, ◌-◌, nat_eq, List, [], ◌∷◌, ◌++◌, All, length, position, remove, replicate, slice_index_or, slice_set, swap, take, Option, None, Some}
use Rattle.sc_papers.specs.Market.{Market, schools_of, students_of}
use Rattle.sc_papers.specs.declared.amendment.Amendment.{Amendment}
use Rattle.sc_papers.specs.declared.amendment.Amendment.TheVariants.{Enter, Withdraw, Rerank, Add, Close, Correct}
use Rattle.sc_stamps.specs.declared.marking.Marking.{Marking}
use Rattle.sc_stamps.specs.declared.marking.Marking.TheVariants.{Newcomer, StudentLeaves, StudentStays, School}
use Rattle.sc_stamps.specs.declared.record.Record.{Record}
use Rattle.sc_stamps.specs.declared.record.Record.TheVariants.{OfStudent, OfSchool}

-- how many amendments were accepted, and the stamp of each student and of each school, in order of entry
pub record Stamps : Type 0 where
  pub accepted : ℕ
  pub students : List ℕ
  pub schools : List ℕ

-- the stamps of papers that no amendment was accepted for: each is 0
abbrev pub no_stamps : Market → Stamps
no_stamps m = record { accepted = 0; students = replicate (length m.students) 0; schools = replicate (length m.schools) 0 }

-- so many amendments were accepted that each of these stamps can have been given
abbrev pub AreGiven : ℕ → List ℕ → Type 0
AreGiven accepted stamps = All (λ stamp. stamp ≤ accepted) stamps

-- there is a stamp for each student and for each school, and none is greater than the last that was given
pub record IsInStep (m : Market) (stamps : Stamps) : Type 0 where
  pub students : length stamps.students ≡ length m.students
  pub schools : length stamps.schools ≡ length m.schools
  pub students_given : AreGiven stamps.accepted stamps.students
  pub schools_given : AreGiven stamps.accepted stamps.schools

-- the stamp at a position, 0 where there is none
abbrev pub stamp_at : List ℕ → Option ℕ → ℕ
stamp_at stamps None = 0
stamp_at stamps (Some k) = slice_index_or stamps k 0

-- the stamp of a record. That of an absent one is 0
abbrev pub stamp_of : Market → Stamps → Record → ℕ
stamp_of m stamps (OfStudent i) = stamp_at stamps.students (position (nat_eq i) (students_of m))
stamp_of m stamps (OfSchool s) = stamp_at stamps.schools (position (nat_eq s) (schools_of m))

-- the stamps with this one at a position, where there is one
abbrev pub with_stamp : List ℕ → Option ℕ → ℕ → List ℕ
with_stamp stamps None stamp = stamps
with_stamp stamps (Some k) stamp = slice_set stamps k stamp

-- the stamps without the one at a position, where there is one
abbrev pub without_stamp : List ℕ → Option ℕ → List ℕ
without_stamp stamps None = stamps
without_stamp stamps (Some k) = remove stamps k

-- where an amendment's record stands, and what becomes of its stamp
abbrev pub marking_of : Market → Amendment → Marking
marking_of m (Enter i zone siblings choices continuing) = Newcomer
marking_of m (Withdraw i) = StudentLeaves (position (nat_eq i) (students_of m))
marking_of m (Rerank i choices) = StudentStays (position (nat_eq i) (students_of m))
marking_of m (Add s count) = School (position (nat_eq s) (schools_of m))
marking_of m (Close s count) = School (position (nat_eq s) (schools_of m))
marking_of m (Correct i zone siblings continuing) = StudentStays (position (nat_eq i) (students_of m))

-- the stamps when a student may enter: the newcomer has theirs already, which is not counted yet
abbrev pub begun : Marking → Stamps → Stamps
begun Newcomer stamps = record stamps { students = stamps.students ++ (stamps.accepted + 1) ∷ [] }
begun (StudentLeaves k) stamps = stamps
begun (StudentStays k) stamps = stamps
begun (School k) stamps = stamps

-- the stamps when nobody enters after all: the last student's goes
abbrev pub taken_back : Marking → Stamps → Stamps
taken_back Newcomer stamps = record stamps { students = take (length stamps.students - 1) stamps.students }
taken_back (StudentLeaves k) stamps = stamps
taken_back (StudentStays k) stamps = stamps
taken_back (School k) stamps = stamps

-- the stamps once the amendment is accepted: it is counted, and its record has its number, unless it is gone
abbrev pub finished : Marking → Stamps → Stamps
finished Newcomer stamps = record stamps { accepted = stamps.accepted + 1 }
finished (StudentLeaves k) stamps = record stamps { accepted = stamps.accepted + 1; students = without_stamp stamps.students k }
finished (StudentStays k) stamps = record stamps { accepted = stamps.accepted + 1; students = with_stamp stamps.students k (stamps.accepted + 1) }
finished (School k) stamps = record stamps { accepted = stamps.accepted + 1; schools = with_stamp stamps.schools k (stamps.accepted + 1) }

-- the stamps after an accepted amendment, of papers as they were before it
abbrev pub stamps_after : Market → Amendment → Stamps → Stamps
stamps_after m a stamps = finished (marking_of m a) (begun (marking_of m a) stamps)

-- the stamps of the students at two positions of the order of entry, each in the other's place
abbrev pub with_swapped_stamps : Stamps → ℕ → ℕ → Stamps
with_swapped_stamps stamps a b = record stamps { students = swap stamps.students a b }
