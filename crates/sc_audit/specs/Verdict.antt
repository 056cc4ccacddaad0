-- What an audit says of a log.
use Rattle.std.specs.Prelude.{◌≡◌, ℕ, ◌+◌, List, ◌∷◌, ◌++◌, length}
use Rattle.sc_papers.specs.Log.{matching_of, IsValidEntry, IsValidLog, IsSettled}
use Rattle.sc_papers.specs.Market.{Market}
use Rattle.sc_papers.specs.declared.rejection.Rejection.{Rejection}
use Rattle.sc_audit.specs.Over.{IsFirstOver}
use Rattle.sc_audit.specs.declared.verdict.Verdict.{Verdict}
use Rattle.sc_audit.specs.declared.verdict.Verdict.TheVariants.{BadEntry, Over, Certified}

-- the entry in this line, counted from 1, is not valid after those before it, which are valid
pub record IsBadLine (m : Market) (log : List Rejection) (line : ℕ) : Type 0 where
  pub before : List Rejection
  pub entry : Rejection
  pub rest : List Rejection
  pub parts : log ≡ before ++ entry ∷ rest
  pub counted : line ≡ length before + 1
  pub valid : IsValidLog m before
  pub invalid : IsValidEntry m before entry → ⊥

-- what a verdict says of a log
abbrev pub IsVerdict : Market → List Rejection → Verdict → Type 0
IsVerdict m log (BadEntry line) = IsBadLine m log line
IsVerdict m log (Over s) = IsValidLog m log × IsFirstOver m (matching_of m log) s
IsVerdict m log Certified = IsSettled m log
