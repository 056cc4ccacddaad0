-- What exporting papers answers: the texts of their files.
use Rattle.std.specs.Prelude.{◌≡◌, ◌⊎◌, ℕ, List, ◌++◌, Result, Ok, Err, IsErrAnd}
use Rattle.sc_papers.specs.Market.{Market}
use Rattle.sc_intake.specs.Papers.{papers_in}
use Rattle.sc_intake.specs.declared.fault.IntakeFault.{IntakeFault}
use Rattle.sc_export.specs.Files.{lists_text, roster_text, schools_text}
use Rattle.sc_export.specs.declared.files.PapersFiles.{PapersFiles}
use Rattle.sc_steps.specs.Inputs.{in_order, Texts, Turn, AreRead, EndsAmong, IsReadIfAny}
use Rattle.sc_steps.specs.Opening.{opening_in}
use Rattle.sc_steps.specs.declared.fault.RunFault.{RunFault}
use Rattle.sc_runs.specs.Standing.{IsStandingFault, Stands}
use Rattle.sc_runs.specs.declared.exporting.Exported.{Exported}

-- texts are those of the files of papers, and the papers are read back from them
pub record AreFilesOf (m : Market) (files : PapersFiles) : Type 0 where
  pub schools : files.schools.items ≡ schools_text m
  pub roster : files.roster.items ≡ roster_text m
  pub lists : files.lists.items ≡ lists_text m
  pub read_back : papers_in m.seed files.schools.items files.roster.items files.lists.items ≡ Ok m

-- exporting gives the files of the papers that stand after a journal over the papers that were read, and how the
-- journal ends; or nothing stands
abbrev pub ExportsStanding : Result Market IntakeFault → List ℕ → Result Exported RunFault → Type 0
ExportsStanding reading journal (Ok exported) = (now : Market) × Stands reading journal now exported.tail × AreFilesOf now exported.files
ExportsStanding reading journal (Err fault) = IsStandingFault reading journal fault

-- what exporting files did, given the turns of the opening and of the journal: reading them ended early; or they
-- were read, each whole, and the papers that stand were exported
abbrev pub ExportsFiles : List ℕ → List Turn → List Turn → Result Exported RunFault → Type 0
ExportsFiles seed opening journal result = IsErrAnd result (EndsAmong (opening ++ journal))
    ⊎ ((texts : Texts) × (text : List ℕ) × AreRead opening (in_order texts) × IsReadIfAny journal text × ExportsStanding (opening_in seed texts) text result)
