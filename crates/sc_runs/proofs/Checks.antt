-- Faults of files, written or not.
use Rattle.std.proofs.Common.{◌≡◌, sym, ap, subst, ◌∙◌, inr, ℕ, ◌+◌, ◌<◌, Bool, true, false, ◌||◌, List, [], ◌∷◌, ◌++◌, length, Option, Result, Ok, Err, arith, append_assoc}
use Rattle.std.specs.Io.KnownBytes.{Appends, Keeps}
use Rattle.std.proofs.KnownBytes.{Appends-trans}
use Rattle.sc_intake.specs.declared.fault.IntakeFault.{IntakeFault}
use Rattle.sc_checks.specs.Checks.{every_fault}
use Rattle.sc_checks.specs.FaultLines.{faults_text, files_of, Files, Names}
use Rattle.sc_report.specs.Whole.{AppendsPrefix}
use Rattle.sc_steps.specs.Inputs.{in_order, Texts, Turn, AreRead, IsReadIfAny}
use Rattle.sc_steps.specs.Steps.{WritesExactly}
use Rattle.sc_steps.specs.declared.fault.RunFault.{RunFault}
use Rattle.sc_steps.specs.declared.fault.RunFault.TheVariants.{WriteOut}
use Rattle.sc_steps.proofs.Openings.{Appends-prefix-kept, AppendsPrefix-whole}
use Rattle.sc_runs.specs.Checking.{checked_of, ChecksFiles, WritesFaults}
use Rattle.sc_runs.specs.declared.checking.Checked.{Checked}
use Rattle.sc_runs.specs.declared.checking.Checked.TheVariants.{Clean, Faulty}
use Rattle.sc_runs.proofs.Calls.{AreTexts}
use Rattle.sc_runs.proofs.InPieces.{prefix-after, prefix-more}

-- the answer, after this one, where these faults are left
abbrev pub checked_with : Checked → List IntakeFault → Checked
checked_with Clean left = checked_of left
checked_with Faulty left = Faulty

-- what was written so far, and the faults that are left: their lines together are those of all faults
pub record AreWrittenTo (files : Files) (all : List IntakeFault) (old : Option (List ℕ)) (left : List IntakeFault) (now : Option (List ℕ)) (checked : Checked) : Type 0 where
  pub text : List ℕ
  pub wrote : Appends old now text
  pub lines : faults_text files all ≡ text ++ faults_text files left
  pub answer : checked_of all ≡ checked_with checked left

left-some : (all left later : List IntakeFault) (checked : Checked) → checked_of all ≡ checked_with checked left → length later < length left → checked_of all ≡ Faulty
left-some all (fault ∷ left) later Clean is fewer = is
left-some all [] later Clean is fewer = absurd (grind (arith, fewer))
left-some all left later Faulty is fewer = is

-- a piece more was written
pub AreWrittenTo-more : (files : Files) (all : List IntakeFault) (old : Option (List ℕ)) (left later : List IntakeFault) (now after : Option (List ℕ)) (checked : Checked) (piece : List ℕ)
    → AreWrittenTo files all old left now checked → length later < length left → piece ++ faults_text files later ≡ faults_text files left → Appends now after piece
    → AreWrittenTo files all old later after Faulty
AreWrittenTo-more files all old left later now after checked piece so fewer lines wrote = record {
  text = so.text ++ piece;
  wrote = Appends-trans old now after so.text piece so.wrote wrote;
  lines = so.lines ∙ ap (λ (t : List ℕ). so.text ++ t) (sym lines) ∙ sym (append_assoc so.text piece (faults_text files later));
  answer = left-some all left later checked so.answer fewer;
}

-- what was written so far is a prefix
pub AreWrittenTo-prefix : (files : Files) (all : List IntakeFault) (old : Option (List ℕ)) (left : List IntakeFault) (now : Option (List ℕ)) (checked : Checked)
    → AreWrittenTo files all old left now checked → AppendsPrefix old now (faults_text files all)
AreWrittenTo-prefix files all old left now checked so =
    subst (AppendsPrefix old now) (sym so.lines) (prefix-more old now so.text (faults_text files left) (AppendsPrefix-whole old now so.text so.wrote))

-- and so it is with a part of a piece
pub AreWrittenTo-failed : (files : Files) (all : List IntakeFault) (old : Option (List ℕ)) (left later : List IntakeFault) (now after : Option (List ℕ)) (checked : Checked) (piece : List ℕ) (fault : RunFault)
    → AreWrittenTo files all old left now checked → piece ++ faults_text files later ≡ faults_text files left → WritesExactly piece now after (Err fault) → WritesFaults files all old after (Err fault)
AreWrittenTo-failed files all old left later now after checked piece WriteOut so lines wrote =
    subst (AppendsPrefix old after) (sym (so.lines ∙ ap (λ (t : List ℕ). so.text ++ t) (sym lines)))
    (prefix-after old now after so.text (piece ++ faults_text files later) so.wrote (prefix-more now after piece (faults_text files later) wrote))
AreWrittenTo-failed files all old left later now after checked piece _ so lines wrote = absurd wrote

-- a writer that has not failed since did not fail at this call
pub unfailed-still : (before now after : Bool) → after ≡ (now || false) → now ≡ before → after ≡ before
unfailed-still before true after called since = called ∙ since
unfailed-still before false after called since = called ∙ since

-- or they were not
pub WritesFaults-unflushed : (files : Files) (all : List IntakeFault) (a b c : Option (List ℕ)) (checked : Checked) (fault : RunFault) → WritesFaults files all a b (Ok checked) → Keeps b c → fault ≡ WriteOut → WritesFaults files all a c (Err fault)
WritesFaults-unflushed files all a b c checked fault wrote kept is =
    subst (λ (f : RunFault). WritesFaults files all a c (Err f)) (sym is) (Appends-prefix-kept a b c (faults_text files all) wrote.1 kept)

every_fault-texts : (seed : List ℕ) (texts : Texts) (schools roster lists bytes given : List ℕ) → AreTexts texts schools roster lists → bytes ≡ given
    → every_fault seed schools roster lists bytes ≡ every_fault seed texts.schools texts.roster texts.lists given
every_fault-texts seed texts schools roster lists bytes given same is =
    ap (λ (s : List ℕ). every_fault seed s roster lists bytes) same.schools_same
    ∙ ap (λ (r : List ℕ). every_fault seed texts.schools r lists bytes) same.roster_same
    ∙ ap (λ (l : List ℕ). every_fault seed texts.schools texts.roster l bytes) same.lists_same
    ∙ ap (λ (b : List ℕ). every_fault seed texts.schools texts.roster texts.lists b) is

files-texts : (names : Names) (texts : Texts) (schools roster lists bytes given : List ℕ) → AreTexts texts schools roster lists → bytes ≡ given
    → files_of names schools roster lists bytes ≡ files_of names texts.schools texts.roster texts.lists given
files-texts names texts schools roster lists bytes given same is =
    ap (λ (s : List ℕ). files_of names s roster lists bytes) same.schools_same
    ∙ ap (λ (r : List ℕ). files_of names texts.schools r lists bytes) same.roster_same
    ∙ ap (λ (l : List ℕ). files_of names texts.schools texts.roster l bytes) same.lists_same
    ∙ ap (λ (b : List ℕ). files_of names texts.schools texts.roster texts.lists b) is

-- the files and the script were read, and every fault of them was written
pub ChecksFiles-read : (names : Names) (opening script : List Turn) (texts : Texts) (given schools roster lists bytes : List ℕ) (old new : Option (List ℕ)) (result : Result Checked RunFault)
    → AreRead opening (in_order texts) → IsReadIfAny script given → AreTexts texts schools roster lists → bytes ≡ given
    → ((seed : List ℕ) → WritesFaults (files_of names schools roster lists bytes) (every_fault seed schools roster lists bytes) old new result)
    → ChecksFiles names opening script old new result
ChecksFiles-read names opening script texts given schools roster lists bytes old new result read script_read same is wrote = inr (
  texts,
  given,
  read,
  script_read,
  λ seed. subst (λ (faults : List IntakeFault). WritesFaults (files_of names texts.schools texts.roster texts.lists given) faults old new result)
      (every_fault-texts seed texts schools roster lists bytes given same is)
      (subst (λ (files : Files). WritesFaults files (every_fault seed schools roster lists bytes) old new result)
      (files-texts names texts schools roster lists bytes given same is) (wrote seed)),
)
