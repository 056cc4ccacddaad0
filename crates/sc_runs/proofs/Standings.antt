-- Calls that read an input after the opening, if there is one: reading it, and what those that tell of what stands then did.
use Rattle.std.proofs.Common.{◌≡◌, refl, ap, subst, ◌∙◌, sym, inl, inr, ℕ, Bool, true, false, ◌||◌, List, [], ◌∷◌, Option, Result, Err}
use Rattle.sc_papers.specs.Market.{Market}
use Rattle.sc_intake.specs.declared.fault.IntakeFault.{IntakeFault}
use Rattle.sc_steps.specs.Failing.{is_output_fault}
use Rattle.sc_steps.specs.Inputs.{in_order, Texts, Turn, AreRead, EndsAmong, EndsReading, IsReadIfAny}
use Rattle.sc_steps.specs.Opening.{papers_in}
use Rattle.sc_steps.specs.declared.fault.RunFault.{RunFault}
use Rattle.sc_steps.specs.declared.fault.RunFault.TheVariants.{Read, Intake, Journal, WriteOut, WriteJournal, OutOfMemory}
use Rattle.sc_runs.specs.Standing.{TellsFiles}
use Rattle.sc_runs.proofs.Calls.{papers_in-texts, AreTexts}

-- reading that ended early is no fault of the output
ends-no_output : (A : Type 0) (turn : Turn) (fault : RunFault) → EndsReading turn fault → is_output_fault {A = A} (Err fault) ≡ false
ends-no_output A turn (Read source) ended = refl
ends-no_output A turn (Intake fault) ended = refl
ends-no_output A turn (Journal fault) ended = absurd ended
ends-no_output A turn WriteOut ended = absurd ended
ends-no_output A turn WriteJournal ended = absurd ended
ends-no_output A turn OutOfMemory ended = refl

unread-no_output : (A : Type 0) (turns : List Turn) (fault : RunFault) → EndsAmong turns fault → is_output_fault {A = A} (Err fault) ≡ false
unread-no_output A [] fault ended = absurd ended
unread-no_output A (turn ∷ rest) fault (inl (ended, untouched)) = ends-no_output A turn fault ended
unread-no_output A (turn ∷ rest) fault (inr (text, read, ended)) = unread-no_output A rest fault ended

-- and leaves it as failed as it was
pub unfailed-unread : (A : Type 0) (before : Bool) (turns : List Turn) (fault : RunFault) → EndsAmong turns fault → before ≡ (before || is_output_fault {A = A} (Err fault))
unfailed-unread A before turns fault ended =
    sym (ap (λ b. before || b) (unread-no_output A turns fault ended) ∙ or-false before)
  where
    or-false : (b : Bool) → (b || false) ≡ b
    or-false true = refl
    or-false false = refl

-- the files and the journal were read, and a text of what stands was written
pub TellsFiles-read : {A : Type 0} (Does : Result Market IntakeFault → List ℕ → Option (List ℕ) → Option (List ℕ) → Result A RunFault → Type 0) (seed : List ℕ) (opening journal : List Turn) (texts : Texts) (given schools roster lists bytes : List ℕ)
    → (old new : Option (List ℕ)) (result : Result A RunFault)
    → AreRead opening (in_order texts) → IsReadIfAny journal given → AreTexts texts schools roster lists → bytes ≡ given
    → Does (papers_in seed schools roster lists) bytes old new result → TellsFiles Does seed opening journal old new result
TellsFiles-read Does seed opening journal texts given schools roster lists bytes old new result read journal_read same is wrote = inr (
  texts,
  given,
  read,
  journal_read,
  subst (λ reading. Does reading given old new result) (papers_in-texts seed texts schools roster lists same)
      (subst (λ text. Does (papers_in seed schools roster lists) text old new result) is wrote),
)
