-- Who stands elsewhere in the new run than in the old one.
use Rattle.std.specs.Prelude.{◌≡◌, ◌==◌, ◌&&◌, ◌||◌, ◌⊎◌, ℕ, Bool, not, true, false, List, [], ◌∷◌, Option, None, Some, Contains, slice_get, if◌then◌else◌}
use Rattle.std.specs.Bool.{⊤}
use Rattle.sc_papers.specs.Market.{Market, choices_of}
use Rattle.sc_papers.specs.Log.{next_choice}
use Rattle.sc_ledgers.specs.Cohort.{Cohort, cohort}
use Rattle.sc_papers.specs.declared.rejection.Rejection.{Rejection}
use Rattle.sc_ledgers.specs.declared.elsewhere.Run.{Run}
use Rattle.sc_ledgers.specs.declared.elsewhere.Run.TheVariants.{Old, New}
use Rattle.sc_ledgers.specs.declared.elsewhere.Stance.{Stance}
use Rattle.sc_ledgers.specs.declared.following.Rows.{Rows}

-- no stance is of this student
abbrev pub IsAbsent : List Stance → ℕ → Type 0
IsAbsent list j = (x : Stance) → Contains list x → x.student ≡ j → ⊥

-- no two stances are of one student
abbrev pub AreApart : List Stance → Type 0
AreApart [] = ⊤
AreApart (x ∷ list) = IsAbsent list x.student × AreApart list

-- where a student stands in one run, and in the other
abbrev pub in_run : Run → Stance → Option ℕ
in_run Old x = x.old
in_run New x = x.new

abbrev pub in_other : Run → Stance → Option ℕ
in_other Old x = x.new
in_other New x = x.old

-- a run has rejected a student, who stands at the next school there: all others are as before
pub record HasMoved (list moved : List Stance) (run : Run) (e : Rejection) (next : Option ℕ) : Type 0 where
  pub kept : (x : Stance) → Contains list x → (x.student ≡ e.student → ⊥) → Contains moved x
  pub there : (x : Stance) × Contains moved x × (x.student ≡ e.student)
  pub only : (x : Stance) → Contains moved x → (Contains list x × (x.student ≡ e.student → ⊥)) ⊎ ((x.student ≡ e.student) × (in_run run x ≡ next) × (((y : Stance) × Contains list y × (y.student ≡ e.student) × (in_other run x ≡ in_other run y)) ⊎ (IsAbsent list e.student × (in_other run x ≡ Some e.school))))

-- a student's stance was put in the place of another one of theirs, if there was one
pub record HasPut (list put : List Stance) (x : Stance) : Type 0 where
  pub there : Contains put x
  pub kept : (y : Stance) → Contains list y → (y.student ≡ x.student → ⊥) → Contains put y
  pub only : (y : Stance) → Contains put y → (Contains list y × (y.student ≡ x.student → ⊥)) ⊎ (y ≡ x)

-- whether two places are one
abbrev pub is_same : Option ℕ → Option ℕ → Bool
is_same None None = true
is_same None (Some t) = false
is_same (Some s) None = false
is_same (Some s) (Some t) = s == t

-- whether a student stands elsewhere in one run than in the other, or is this one
abbrev pub is_kept : Option ℕ → Stance → Bool
is_kept but x = not (is_same x.old x.new) || is_same but (Some x.student)

-- one who stands alike in both runs, but for one student
abbrev pub IsAlikeBut : Option ℕ → Stance → Type 0
IsAlikeBut but x = (x.new ≡ x.old) × (but ≡ Some x.student → ⊥)

-- whoever stands alike was taken out, but for one
pub record HasDropped (list kept : List Stance) (but : Option ℕ) : Type 0 where
  pub only : (x : Stance) → Contains kept x → Contains list x
  pub gone : (x : Stance) → Contains list x → Contains kept x ⊎ IsAlikeBut but x
  pub apart : (x : Stance) → Contains kept x → is_kept but x ≡ true

-- the stances are of students who pass
abbrev pub AreAmong : (ℕ → Bool) → List Stance → Type 0
AreAmong test list = (x : Stance) → Contains list x → test x.student ≡ true

-- the stances are those of two logs, and whoever has none stands alike
pub record AreStances (m n : Market) (log other : List Rejection) (list : List Stance) : Type 0 where
  pub old : (x : Stance) → Contains list x → next_choice m log x.student ≡ x.old
  pub new : (x : Stance) → Contains list x → next_choice n other x.student ≡ x.new
  pub alike : (j : ℕ) → IsAbsent list j → next_choice n other j ≡ next_choice m log j

-- the choices of a student in a run, by the new papers; one who is amended had others in the old run
abbrev pub old_row : Market → Option ℕ → List ℕ → ℕ → List ℕ
old_row n None before j = choices_of n j
old_row n (Some i) before j = if i == j then before else choices_of n j

abbrev pub row_in : Run → Rows → ℕ → List ℕ
row_in New rows j = choices_of rows.papers.now j
row_in Old rows j = old_row rows.papers.now rows.amended rows.before.now j

-- whether a student enters in the new run
abbrev pub still_enters : Rows → ℕ → Bool
still_enters rows j = not (rows.leaves && is_same rows.amended (Some j))

-- the new papers, and who enters
abbrev pub cohort_of : Rows → Cohort
cohort_of rows = cohort rows.papers.now (still_enters rows)

-- where one who is amended stands first in the new run
abbrev pub first_of : Rows → ℕ → Option ℕ
first_of rows j = if rows.leaves then None else slice_get (choices_of rows.papers.now j) 0

-- whoever lists a school in the papers has these choices there
abbrev pub HasRows : Market → (ℕ → List ℕ) → Type 0
HasRows m row = (j s : ℕ) → Contains (choices_of m j) s → choices_of m j ≡ row j

-- the stances of the log of a run, and of that of the other one
abbrev pub InStep : Run → Market → Market → List Rejection → List Rejection → List Stance → Type 0
InStep Old m n log other list = AreStances m n log other list
InStep New m n log other list = AreStances n m other log list

-- one of the stances is of this student
abbrev pub is_aside : List Stance → ℕ → Bool
is_aside [] j = false
is_aside (x ∷ list) j = x.student == j || is_aside list j

-- the schools at which the stances are, in either run, are marked
pub record AreAtMarked (marked : ℕ → Bool) (list : List Stance) : Type 0 where
  pub old : (x : Stance) (s : ℕ) → Contains list x → x.old ≡ Some s → marked s ≡ true
  pub new : (x : Stance) (s : ℕ) → Contains list x → x.new ≡ Some s → marked s ≡ true
