-- What the keys of those who ever stood at a school tell of those who stand there.
use Rattle.std.specs.Prelude.{◌≡◌, ◌⊎◌, ℕ, ◌≤◌, ◌<◌, ◌+◌, ◌&&◌, ◌==◌, Bool, not, false, true, List, [], ◌∷◌, ◌++◌, Some, Contains, length, slice_get, take}
use Rattle.std.specs.Bool.{⊤}
use Rattle.sc_papers.specs.Market.{Market, choices_of, seats_of, students_of}
use Rattle.sc_papers.specs.Key.{is_ahead, key_of}
use Rattle.sc_papers.specs.Matching.{how_many, has}
use Rattle.sc_papers.specs.Log.{is_rejected, next_choice, matching_of, IsSettled, IsValidEntry}
use Rattle.sc_papers.specs.Chain.{held_by_others, InChain, PutsOut as OutOf}
use Rattle.sc_papers.specs.Restriction.{joined}
use Rattle.sc_ledgers.specs.Cohort.{Cohort, cut, IsRunTo}
use Rattle.sc_ledgers.specs.Known.{IsAnswer, IsByKey}
use Rattle.sc_papers.specs.WellFormed.{WellFormed}
use Rattle.sc_papers.specs.declared.rejection.Rejection.{Rejection}
use Rattle.sc_papers.specs.declared.key.Key.{Key}
use Rattle.sc_ledgers.specs.declared.ledger.Answer.{Answer}
use Rattle.sc_ledgers.specs.declared.ledger.Answer.TheVariants.{PutsOut, Refused, Seated}
use Rattle.sc_ledgers.specs.declared.ledger.Label.{Label}

-- the others who stand at s, ahead there of student i
abbrev pub others_ahead : Market → List Rejection → ℕ → ℕ → ℕ → ℕ
others_ahead m log hand i s = how_many m (λ j. (has (matching_of m log) s j && not (j == hand)) && is_ahead m s j i)

-- in the course of a chain, a school that has rejected a student is full of others who are ahead of that student
pub record StaysFullOfOthers (m : Market) (log : List Rejection) (hand : ℕ) : Type 0 where
  pub full : (i s : ℕ) → is_rejected log i s ≡ true → seats_of m s ≤ others_ahead m log hand i s

-- in the course of a chain: the keys of school s are those of students whom it holds or has rejected, and each student but the one in hand
-- whom it holds has one
pub record Tells (m : Market) (log : List Rejection) (hand s : ℕ) (keys : List Key) : Type 0 where
  pub own : (key : Key) → Contains keys key → key ≡ key_of m key.student s
  pub asked : (key : Key) → Contains keys key → (next_choice m log key.student ≡ Some s) ⊎ (is_rejected log key.student s ≡ true)
  pub apart : (key : Key) → Contains keys key → key.student ≡ hand → ⊥
  pub standing : (j : ℕ) → next_choice m log j ≡ Some s → (j ≡ hand → ⊥) → Contains keys (key_of m j s)

-- no two of these keys are of one student
abbrev pub IsApart : List Key → Type 0
IsApart [] = ⊤
IsApart (key ∷ keys) = ((other : Key) → Contains keys other → other.student ≡ key.student → ⊥) × IsApart keys

-- two papers that differ in the rows of those aside, in whether they have entered, and in the seats of the marked schools alone
pub record AlikeBeside (m n : Market) (marked aside : ℕ → Bool) : Type 0 where
  pub counts : (test : ℕ → Bool) → ((j : ℕ) → test j ≡ true → aside j ≡ false) → how_many n test ≡ how_many m test
  pub choices : (j : ℕ) → aside j ≡ false → choices_of n j ≡ choices_of m j
  pub seats : (s : ℕ) → marked s ≡ false → seats_of n s ≡ seats_of m s
  pub ahead : (s i j : ℕ) → Contains (choices_of m i) s → Contains (choices_of m j) s → aside i ≡ false → aside j ≡ false → is_ahead n s i j ≡ is_ahead m s i j

-- two logs over two papers that have rejected alike all but those aside, who stand at marked schools in both, or at none
pub record AgreeBeside (m n : Market) (log other : List Rejection) (marked aside : ℕ → Bool) : Type 0 where
  pub alike : (j s : ℕ) → aside j ≡ false → is_rejected other j s ≡ is_rejected log j s
  pub old : (j s : ℕ) → aside j ≡ true → next_choice m log j ≡ Some s → marked s ≡ true
  pub new : (j s : ℕ) → aside j ≡ true → next_choice n other j ≡ Some s → marked s ≡ true

-- a student has asked a school: it holds them, or has rejected them
abbrev pub HasAsked : Market → List Rejection → ℕ → ℕ → Type 0
HasAsked m log j s = (next_choice m log j ≡ Some s) ⊎ (is_rejected log j s ≡ true)

-- the log of the first k students
abbrev pub log_at : List (List Rejection) → ℕ → List Rejection
log_at segments k = joined (take k segments)

-- a student has asked a school by the first k turns
abbrev pub HasAskedBy : Cohort → List (List Rejection) → ℕ → ℕ → ℕ → Type 0
HasAskedBy m segments k j s = HasAsked (cut m k) (log_at segments k) j s

-- a student stands at a school after the first k turns
abbrev pub StandsAt : Cohort → List (List Rejection) → ℕ → ℕ → ℕ → Type 0
StandsAt m segments k j s = next_choice (cut m k) (log_at segments k) j ≡ Some s

-- the student of a label asked the school at its turn, and not before
pub record IsExact (m : Cohort) (segments : List (List Rejection)) (s : ℕ) (label : Label) : Type 0 where
  pub asked : HasAskedBy m segments (label.turn + 1) label.key.student s
  pub not_before : HasAskedBy m segments label.turn label.key.student s → ⊥

-- the labels of the turns before k are those of a run
pub record AreLabelsBefore (n : Cohort) (new : List (List Rejection)) (k : ℕ) (labels : ℕ → List Label) : Type 0 where
  pub exact : (s : ℕ) (label : Label) → Contains (labels s) label → label.turn < k → IsExact n new s label
  pub standing : (t j s : ℕ) → t ≤ k → StandsAt n new t j s → (turn : ℕ) × (turn < t) × Contains (labels s) (record { key = key_of n.papers j s; turn = turn })

-- the labels of the turns from k on are those of an older run, but of those who have asked the school before k in the new one
pub record AreLabelsFrom (m n : Cohort) (old new : List (List Rejection)) (k : ℕ) (amended : ℕ → Bool) (labels : ℕ → List Label) : Type 0 where
  pub exact : (s : ℕ) (label : Label) → Contains (labels s) label → k ≤ label.turn → (label.turn < length old) × IsExact m old s label
  pub complete : (t j s : ℕ) → k ≤ t → t < length old → amended j ≡ false → (HasAskedBy n new k j s → ⊥) → StandsAt m old (t + 1) j s → (HasAskedBy m old t j s → ⊥) → Contains (labels s) (record { key = key_of n.papers j s; turn = t })

-- entries that the new run makes too: each names a school that is not marked, or is valid there too, and of one who is not aside
abbrev pub AreMadeToo : Market → (ℕ → Bool) → (ℕ → Bool) → List Rejection → List Rejection → Type 0
AreMadeToo n marked aside log [] = ⊤
AreMadeToo n marked aside log (e ∷ rest) = ((marked e.school ≡ false) ⊎ ((aside e.student ≡ false) × IsValidEntry n log e)) × AreMadeToo n marked aside (log ++ e ∷ []) rest

-- a rejection refuses at once the student of the turn, also in the new run: the school is not marked, or refuses them by those who asked it before
abbrev pub IsRefusedToo : Market → (ℕ → Bool) → (ℕ → List Label) → ℕ → ℕ → Rejection → Type 0
IsRefusedToo n marked labels k i e = (e.student ≡ i) × ((marked e.school ≡ false) ⊎ ((t : ℕ) × (t + 1 ≡ k) × IsByKey (labels e.school) × IsAnswer t (labels e.school) (seats_of n e.school) (key_of n e.student e.school) Refused))

-- what is known where a student has their turn whose segment stays: the new run makes it too, and nobody came to stand at a marked school
pub record Stays (m n : Cohort) (old new : List (List Rejection)) (k i : ℕ) (rest : List Rejection) (labels : ℕ → List Label) (marked aside amended : ℕ → Bool) : Type 0 where
  pub well_m : WellFormed m.papers
  pub well_n : WellFormed n.papers
  pub here_m : slice_get (students_of m.papers) k ≡ Some i
  pub here_n : slice_get (students_of n.papers) k ≡ Some i
  pub turn_m : m.enters i ≡ true
  pub turn_n : n.enters i ≡ true
  pub papers : (t : ℕ) → AlikeBeside (cut m t) (cut n t) marked aside
  pub amended_aside : (j : ℕ) → amended j ≡ true → aside j ≡ true
  pub older : IsRunTo m (length (students_of m.papers)) old
  pub newer : IsRunTo n k new
  pub as_many : length new ≡ k
  pub logs : AgreeBeside (cut m k) (cut n k) (log_at old k) (joined new) marked aside
  pub before : AreLabelsBefore n new k labels
  pub from : AreLabelsFrom m n old new k amended labels
  pub enters : aside i ≡ false
  pub segment : slice_get old k ≡ Some rest
  pub made_too : AreMadeToo (cut n (k + 1)) marked aside (joined new) rest
  pub nobody : (j s : ℕ) → marked s ≡ true → StandsAt m old (k + 1) j s → HasAskedBy m old k j s

-- what is known before the turn at k, whatever the turn does
pub record AtTurn (m n : Cohort) (old new : List (List Rejection)) (k : ℕ) (labels : ℕ → List Label) (marked aside amended : ℕ → Bool) : Type 0 where
  pub newer : IsRunTo n k new
  pub as_many : length new ≡ k
  pub logs : AgreeBeside (cut m k) (cut n k) (log_at old k) (joined new) marked aside
  pub before : AreLabelsBefore n new k labels
  pub from : AreLabelsFrom m n old new k amended labels

-- the labels after a turn in which other students asked: those of the turn are theirs alone
pub record Relabels (n : Cohort) (new : List (List Rejection)) (chain : List Rejection) (k : ℕ) (labels relabelled : ℕ → List Label) : Type 0 where
  -- a label of another turn stays, unless its student has asked the school by now, and had not before
  pub kept : (s : ℕ) (label : Label) → Contains (labels s) label → (label.turn ≡ k → ⊥) → (HasAskedBy n (new ++ chain ∷ []) (k + 1) label.key.student s → HasAskedBy n new k label.key.student s) → Contains (relabelled s) label
  -- a label of another turn was there, and one of this turn is of a student who asked the school in it
  pub others : (s : ℕ) (label : Label) → Contains (relabelled s) label → (label.turn ≡ k → ⊥) → Contains (labels s) label
  pub own : (s : ℕ) (label : Label) → Contains (relabelled s) label → label.turn ≡ k → IsExact n (new ++ chain ∷ []) s label
  -- who stands at a school that they asked in this turn has a label of it
  pub noted : (j s : ℕ) → StandsAt n (new ++ chain ∷ []) (k + 1) j s → (HasAskedBy n new k j s → ⊥) → Contains (relabelled s) (record { key = key_of n.papers j s; turn = k })

-- what is known where a student has their turn and their chain is another one
pub record Turns (m n : Cohort) (old new : List (List Rejection)) (k i : ℕ) (chain : List Rejection) (labels relabelled : ℕ → List Label) (amended : ℕ → Bool) : Type 0 where
  pub well : WellFormed n.papers
  pub here : slice_get (students_of n.papers) k ≡ Some i
  pub newer : IsRunTo n k new
  pub as_many : length new ≡ k
  pub before : AreLabelsBefore n new k labels
  pub from : AreLabelsFrom m n old new k amended labels
  pub settled : IsSettled (cut n (k + 1)) (joined new ++ chain)
  pub relabels : Relabels n new chain k labels relabelled

-- in the course of a chain at a turn: what the labels up to the turn tell of all schools
pub record IsAsking (m : Market) (log : List Rejection) (hand k : ℕ) (labels : ℕ → List Label) : Type 0 where
  pub chain : InChain m log hand
  pub stays : StaysFullOfOthers m log hand
  pub asked : (s : ℕ) (label : Label) → Contains (labels s) label → label.turn ≤ k → HasAsked m log label.key.student s
  pub standing : (j s : ℕ) → next_choice m log j ≡ Some s → (j ≡ hand → ⊥) → (turn : ℕ) × (turn ≤ k) × Contains (labels s) (record { key = key_of m j s; turn = turn })

-- the labels of one school with one more of this turn, in the place of another of the same student, if there is one
pub record IsNoted (key : Key) (k s : ℕ) (labels noted : ℕ → List Label) : Type 0 where
  pub there : Contains (noted s) (record { key = key; turn = k })
  pub kept : (t : ℕ) (label : Label) → Contains (labels t) label → (label.key ≡ key → ⊥) ⊎ (t ≡ s → ⊥) → Contains (noted t) label
  pub only : (t : ℕ) (label : Label) → Contains (noted t) label → Contains (labels t) label ⊎ ((t ≡ s) × (label ≡ record { key = key; turn = k }))

-- what is known at the rewind point of an amendment: the labels are those of a whole run, but for those of who is amended
pub record StartsAt (m n : Cohort) (old : List (List Rejection)) (k : ℕ) (labels started : ℕ → List Label) (marked aside amended : ℕ → Bool) : Type 0 where
  pub well : WellFormed m.papers
  pub older : IsRunTo m (length (students_of m.papers)) old
  pub within : k ≤ length old
  pub newer : IsRunTo n k (take k old)
  pub next : (t j : ℕ) (log : List Rejection) → t ≤ k → next_choice (cut n t) log j ≡ next_choice (cut m t) log j
  pub whole : AreLabelsBefore m old (length old) labels
  pub turns : (s : ℕ) (label : Label) → Contains (labels s) label → label.turn < length old
  pub kept : (s : ℕ) (label : Label) → Contains (labels s) label → amended label.key.student ≡ false → Contains (started s) label
  pub only : (s : ℕ) (label : Label) → Contains (started s) label → Contains (labels s) label
  pub keys : (j s : ℕ) → amended j ≡ false → key_of n.papers j s ≡ key_of m.papers j s
  pub apart : (j s : ℕ) → aside j ≡ true → StandsAt m old k j s → marked s ≡ true
  pub others : (t j s : ℕ) → t ≤ k → StandsAt m old t j s → amended j ≡ false

-- in the course of a turn's chain, whose log is that of the turns before and of the chain so far: what the labels tell, and what has become of
-- those that there were
pub record InTurn (n : Cohort) (new : List (List Rejection)) (k : ℕ) (log : List Rejection) (hand : ℕ) (labels now : ℕ → List Label) : Type 0 where
  pub asking : IsAsking (cut n (k + 1)) log hand k now
  -- who had asked a school before the turn has asked it, and the one in hand was rejected there
  pub since : (j s : ℕ) → HasAskedBy n new k j s → HasAsked (cut n (k + 1)) log j s
  pub moved : (s : ℕ) → HasAskedBy n new k hand s → is_rejected log hand s ≡ true
  -- wherever the one in hand has a label of now or before, they were rejected
  pub behind : (s : ℕ) (label : Label) → Contains (now s) label → label.turn ≤ k → label.key.student ≡ hand → is_rejected log hand s ≡ true
  -- a label of another turn stays, or its student has asked the school in this one
  pub kept : (s : ℕ) (label : Label) → Contains (labels s) label → Contains (now s) label ⊎ (HasAsked (cut n (k + 1)) log label.key.student s × (HasAskedBy n new k label.key.student s → ⊥))
  pub others : (s : ℕ) (label : Label) → Contains (now s) label → (label.turn ≡ k → ⊥) → Contains (labels s) label
  -- the labels of this turn are of those who asked in it, and whoever stands where they asked in it has one
  pub own : (s : ℕ) (label : Label) → Contains (now s) label → label.turn ≡ k → HasAsked (cut n (k + 1)) log label.key.student s × (HasAskedBy n new k label.key.student s → ⊥)
  pub noted : (j s : ℕ) → next_choice (cut n (k + 1)) log j ≡ Some s → (j ≡ hand → ⊥) → (HasAskedBy n new k j s → ⊥) → Contains (now s) (record { key = key_of n.papers j s; turn = k })

-- each label of a school has the key of its student there
abbrev pub AreOwn : Market → (ℕ → List Label) → Type 0
AreOwn n labels = (s : ℕ) (label : Label) → Contains (labels s) label → label.key ≡ key_of n label.key.student s

-- what a school's answer to the student in hand means in the course of a chain
abbrev pub MeansStep : Market → List Rejection → ℕ → ℕ → Answer → Type 0
MeansStep m log hand s Seated = held_by_others m log hand s < seats_of m s
MeansStep m log hand s (PutsOut last) = OutOf m log hand s last.student × (hand ≡ last.student → ⊥)
MeansStep m log hand s Refused = OutOf m log hand s hand
