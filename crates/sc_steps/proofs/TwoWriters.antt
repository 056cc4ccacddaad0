-- What writes come to one after another.
use Rattle.std.proofs.Common.{append_assoc, append-nil, ◌≡◌, false, ℕ, inl, inr, List, [], ◌∷◌, ◌++◌, Option, None, Some, Result, Ok, Err, take, refl, sym, ◌∙◌, subst, ap}
use Rattle.std.proofs.KnownBytes.{Appends-trans}
use Rattle.std.specs.Io.KnownBytes.{Appends, Keeps}
use Rattle.std.specs.Prelude.{IfErr}
use Rattle.sc_report.specs.Whole.{AppendsPrefix}
use Rattle.sc_steps.proofs.Openings.{Appends-kept, Keeps-refl}
use Rattle.sc_steps.specs.Failing.{is_journal_fault}
use Rattle.sc_steps.specs.Opening.{WritesText}
use Rattle.sc_steps.specs.Script.{Writes}
use Rattle.sc_steps.specs.declared.fault.RunFault.{RunFault}
use Rattle.sc_steps.specs.declared.fault.RunFault.TheVariants.{Read, Intake, Journal, WriteOut, WriteJournal, OutOfMemory}
use Rattle.sc_steps.specs.TwoWriters.{Contents, Piece, journal_of, output_of, to_journal, to_output, GrowsByAll, GrowsByPrefix, IsPrefix}

-- where nothing was written, nothing was added
pub Appends-nothing : (a : Option (List ℕ)) → Appends a a []
Appends-nothing None = tt
Appends-nothing (Some xs) = sym (append-nil xs)

-- what a writer held, if it kept it, grew by nothing
pub Appends-keeps : (a b : Option (List ℕ)) → Keeps a b → Appends a b []
Appends-keeps None b kept = tt
Appends-keeps (Some xs) None kept = absurd kept
Appends-keeps (Some xs) (Some ys) kept = kept ∙ sym (append-nil xs)

pub journal_of-append : (xs ys : List Piece) → journal_of (xs ++ ys) ≡ journal_of xs ++ journal_of ys
journal_of-append [] ys = refl
journal_of-append (x ∷ xs) ys = ap (λ rest. x.journal ++ rest) (journal_of-append xs ys) ∙ sym (append_assoc x.journal (journal_of xs) (journal_of ys))

pub output_of-append : (xs ys : List Piece) → output_of (xs ++ ys) ≡ output_of xs ++ output_of ys
output_of-append [] ys = refl
output_of-append (x ∷ xs) ys = ap (λ rest. x.output ++ rest) (output_of-append xs ys) ∙ sym (append_assoc x.output (output_of xs) (output_of ys))

-- all of no writes
pub GrowsByAll-none : (old : Contents) → GrowsByAll [] old old
GrowsByAll-none old = (Appends-nothing old.journal, Appends-nothing old.output)

-- all of some writes and then all of others
pub GrowsByAll-trans : (xs ys : List Piece) (a b c : Contents) → GrowsByAll xs a b → GrowsByAll ys b c → GrowsByAll (xs ++ ys) a c
GrowsByAll-trans xs ys a b c first second = (
  subst (Appends a.journal c.journal) (sym (journal_of-append xs ys)) (Appends-trans a.journal b.journal c.journal (journal_of xs) (journal_of ys) first.0 second.0),
  subst (Appends a.output c.output) (sym (output_of-append xs ys)) (Appends-trans a.output b.output c.output (output_of xs) (output_of ys) first.1 second.1),
)

-- a prefix of the later writes, after all the earlier ones, is a prefix of all
IsPrefix-after : (xs ys : List Piece) (j o : List ℕ) → IsPrefix ys j o → IsPrefix (xs ++ ys) (journal_of xs ++ j) (output_of xs ++ o)
IsPrefix-after [] ys j o prefix = prefix
IsPrefix-after (x ∷ xs) ys j o prefix = inr (
  journal_of xs ++ j,
  output_of xs ++ o,
  append_assoc x.journal (journal_of xs) j,
  append_assoc x.output (output_of xs) o,
  IsPrefix-after xs ys j o prefix,
)

pub GrowsByPrefix-after : (xs ys : List Piece) (a b c : Contents) → GrowsByAll xs a b → GrowsByPrefix ys b c → GrowsByPrefix (xs ++ ys) a c
GrowsByPrefix-after xs ys a b c first (j, o, prefix, second) = (
  journal_of xs ++ j,
  output_of xs ++ o,
  IsPrefix-after xs ys j o prefix,
  (
    Appends-trans a.journal b.journal c.journal (journal_of xs) j first.0 second.0,
    Appends-trans a.output b.output c.output (output_of xs) o first.1 second.1,
  ),
)

-- nothing is a prefix of any writes
IsPrefix-nothing : (xs : List Piece) → IsPrefix xs [] []
IsPrefix-nothing [] = (refl, refl)
IsPrefix-nothing (x ∷ xs) = inl (0, 0, refl, refl)

pub GrowsByPrefix-nothing : (xs : List Piece) (a : Contents) → GrowsByPrefix xs a a
GrowsByPrefix-nothing xs a = ([], [], IsPrefix-nothing xs, (Appends-nothing a.journal, Appends-nothing a.output))

-- a prefix of some writes is one of more writes
IsPrefix-longer : (xs ys : List Piece) (j o : List ℕ) → IsPrefix xs j o → IsPrefix (xs ++ ys) j o
IsPrefix-longer [] ys j o (no_journal, no_output) =
    subst (λ j'. IsPrefix ys j' o) (sym no_journal) (subst (λ o'. IsPrefix ys [] o') (sym no_output) (IsPrefix-nothing ys))
IsPrefix-longer (x ∷ xs) ys j o (inl prefix) = inl prefix
IsPrefix-longer (x ∷ xs) ys j o (inr (j', o', journal, output, prefix)) = inr (j', o', journal, output, IsPrefix-longer xs ys j' o' prefix)

pub GrowsByPrefix-longer : (xs ys : List Piece) (a b : Contents) → GrowsByPrefix xs a b → GrowsByPrefix (xs ++ ys) a b
GrowsByPrefix-longer xs ys a b (j, o, prefix, grown) = (j, o, IsPrefix-longer xs ys j o prefix, grown)

-- all the writes are their own prefix
pub IsPrefix-all : (xs : List Piece) → IsPrefix xs (journal_of xs) (output_of xs)
IsPrefix-all [] = (refl, refl)
IsPrefix-all (x ∷ xs) = inr (journal_of xs, output_of xs, refl, refl, IsPrefix-all xs)

pub GrowsByPrefix-all : (xs : List Piece) (a b : Contents) → GrowsByAll xs a b → GrowsByPrefix xs a b
GrowsByPrefix-all xs a b grown = (journal_of xs, output_of xs, IsPrefix-all xs, grown)

-- one write to the journal, whole
pub GrowsByAll-journal : (text : List ℕ) (a : Contents) (after : Option (List ℕ)) → Appends a.journal after text
    → GrowsByAll (to_journal text ∷ []) a (record { journal = after; output = a.output })
GrowsByAll-journal text a after written =
    (subst (Appends a.journal after) (sym (append-nil text)) written, Appends-nothing a.output)

-- one write to the output, whole
pub GrowsByAll-output : (text : List ℕ) (a : Contents) (after : Option (List ℕ)) → Appends a.output after text
    → GrowsByAll (to_output text ∷ []) a (record { journal = a.journal; output = after })
GrowsByAll-output text a after written =
    (Appends-nothing a.journal, subst (Appends a.output after) (sym (append-nil text)) written)

-- a prefix of a text was written to the output, and the journal kept
pub GrowsByPrefix-text : (text same : List ℕ) (j j' o o' : Option (List ℕ)) → same ≡ text → Keeps j j' → AppendsPrefix o o' same
    → GrowsByPrefix (to_output text ∷ []) (record { journal = j; output = o }) (record { journal = j'; output = o' })
GrowsByPrefix-text text same j j' o o' is kept (count, written) = (
  [],
  take count text,
  inl (0, count, refl, refl),
  (Appends-keeps j j' kept, subst (λ t. Appends o o' (take count t)) is written),
)

-- nothing was written
pub GrowsByPrefix-kept : (pieces : List Piece) (j j' o o' : Option (List ℕ)) → Keeps j j' → Keeps o o'
    → GrowsByPrefix pieces (record { journal = j; output = o }) (record { journal = j'; output = o' })
GrowsByPrefix-kept pieces j j' o o' kept_journal kept_output = ([], [], IsPrefix-nothing pieces, (Appends-keeps j j' kept_journal, Appends-keeps o o' kept_output))

GrowsByPrefix-line : (line : List ℕ) (rest : List Piece) (j j' o o' : Option (List ℕ)) → Appends j j' line
    → GrowsByPrefix rest (record { journal = j'; output = o }) (record { journal = j'; output = o' })
    → GrowsByPrefix (to_journal line ∷ rest) (record { journal = j; output = o }) (record { journal = j'; output = o' })
GrowsByPrefix-line line rest j j' o o' written wrote =
    GrowsByPrefix-after (to_journal line ∷ []) rest (record { journal = j; output = o }) (record { journal = j'; output = o }) (record { journal = j'; output = o' })
    (GrowsByAll-journal line (record { journal = j; output = o }) j' written) wrote

-- one text was given to the output, whole or in part, by what was written of it
pub Writes-output : (text : List ℕ) (kept o o' : Option (List ℕ)) (result : Result (Unit {0}) RunFault) → WritesText (λ written. written ≡ text) o o' result
    → Writes (to_output text ∷ []) (record { journal = kept; output = o }) (record { journal = kept; output = o' }) result
Writes-output text kept o o' (Ok done) (same, is, written) = GrowsByAll-output text (record { journal = kept; output = o }) o' (subst (Appends o o') is written)
Writes-output text kept o o' (Err WriteOut) (same, is, written) = GrowsByPrefix-text text same kept kept o o' is (Keeps-refl kept) written
Writes-output text kept o o' (Err OutOfMemory) wrote = GrowsByPrefix-kept (to_output text ∷ []) kept kept o o' (Keeps-refl kept) wrote
Writes-output text kept o o' (Err _) wrote = absurd wrote

-- a text for the output does not end for the journal
pub is_journal_fault-text : (Is : List ℕ → Type 0) (o o' : Option (List ℕ)) (result : Result (Unit {0}) RunFault) → WritesText Is o o' result → is_journal_fault result ≡ false
is_journal_fault-text Is o o' (Err WriteJournal) wrote = absurd wrote
is_journal_fault-text Is o o' _ wrote = refl

-- the writes of pieces by another name
pub Writes-same : (xs ys : List Piece) (old new : Contents) (result : Result (Unit {0}) RunFault) → xs ≡ ys → Writes xs old new result → Writes ys old new result
Writes-same xs ys old new result same wrote = subst (λ pieces. Writes pieces old new result) same wrote

-- a write to the journal that was made whole, and then others
pub Writes-after : (line : List ℕ) (rest : List Piece) (j j' o o' : Option (List ℕ)) (result : Result (Unit {0}) RunFault)
    → Appends j j' line → Writes rest (record { journal = j'; output = o }) (record { journal = j'; output = o' }) result
    → Writes (to_journal line ∷ rest) (record { journal = j; output = o }) (record { journal = j'; output = o' }) result
Writes-after line rest j j' o o' (Ok done) written wrote =
    GrowsByAll-trans (to_journal line ∷ []) rest (record { journal = j; output = o }) (record { journal = j'; output = o }) (record { journal = j'; output = o' })
    (GrowsByAll-journal line (record { journal = j; output = o }) j' written) wrote
Writes-after line rest j j' o o' (Err WriteOut) written wrote = GrowsByPrefix-line line rest j j' o o' written wrote
Writes-after line rest j j' o o' (Err WriteJournal) written wrote = GrowsByPrefix-line line rest j j' o o' written wrote
Writes-after line rest j j' o o' (Err OutOfMemory) written wrote = GrowsByPrefix-line line rest j j' o o' written wrote
Writes-after line rest j j' o o' (Err (Journal fault)) written wrote = absurd wrote
Writes-after line rest j j' o o' (Err (Read source)) written wrote = absurd wrote
Writes-after line rest j j' o o' (Err (Intake fault)) written wrote = absurd wrote

-- writes that were made whole, and then both writers flushed
pub GrowsByAll-flushed : (pieces : List Piece) (j j' o o' o'' : Option (List ℕ)) → GrowsByAll pieces (record { journal = j; output = o }) (record { journal = j; output = o' })
    → Keeps j j' → Keeps o' o'' → GrowsByAll pieces (record { journal = j; output = o }) (record { journal = j'; output = o'' })
GrowsByAll-flushed pieces j j' o o' o'' (journal, output) kept_journal kept_output =
    (Appends-kept j j j' (journal_of pieces) journal kept_journal, Appends-kept o o' o'' (output_of pieces) output kept_output)

pub GrowsByPrefix-flushed : (pieces : List Piece) (j j' o o' o'' : Option (List ℕ)) → GrowsByAll pieces (record { journal = j; output = o }) (record { journal = j; output = o' })
    → Keeps j j' → Keeps o' o'' → GrowsByPrefix pieces (record { journal = j; output = o }) (record { journal = j'; output = o'' })
GrowsByPrefix-flushed pieces j j' o o' o'' grown kept_journal kept_output =
    GrowsByPrefix-all pieces (record { journal = j; output = o }) (record { journal = j'; output = o'' })
    (GrowsByAll-flushed pieces j j' o o' o'' grown kept_journal kept_output)

-- writes that were made whole, and then both writers flushed, the output last
pub Writes-flushed : (pieces : List Piece) (j j' o o' o'' : Option (List ℕ)) (result : Result (Unit {0}) RunFault)
    → GrowsByAll pieces (record { journal = j; output = o }) (record { journal = j; output = o' }) → Keeps j j' → Keeps o' o''
    → IfErr result (λ fault. fault ≡ WriteOut) → Writes pieces (record { journal = j; output = o }) (record { journal = j'; output = o'' }) result
Writes-flushed pieces j j' o o' o'' (Ok done) grown kept_journal kept_output kind = GrowsByAll-flushed pieces j j' o o' o'' grown kept_journal kept_output
Writes-flushed pieces j j' o o' o'' (Err fault) grown kept_journal kept_output kind =
    subst (λ f. Writes {A = Unit {0}} pieces (record { journal = j; output = o }) (record { journal = j'; output = o'' }) (Err f)) (sym kind)
    (GrowsByPrefix-flushed pieces j j' o o' o'' grown kept_journal kept_output)
