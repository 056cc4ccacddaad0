-- Amendments that take others back.
use Rattle.std.specs.Prelude.{◌≡◌, Bool, true, false, None}
use Rattle.sc_papers.specs.Market.{Market}
use Rattle.sc_papers.specs.Verdict.{after, verdict}
use Rattle.sc_papers.specs.declared.amendment.Amendment.{Amendment}
use Rattle.sc_papers.specs.declared.amendment.Amendment.TheVariants.{Enter, Withdraw}

-- whether a student enters, which alone takes memory
abbrev pub is_entry : Amendment → Bool
is_entry (Enter i zone siblings choices continuing) = true
is_entry _ = false

-- whether a student withdraws: they come back only by entering
abbrev pub is_withdrawal : Amendment → Bool
is_withdrawal (Withdraw i) = true
is_withdrawal _ = false

-- an amendment takes the papers of now back to those before: it is allowed, takes no memory, and leaves
-- them as they were
pub record TakesBack (before now : Market) (back : Amendment) : Type 0 where
  pub allowed : verdict now back ≡ None
  pub no_entry : is_entry back ≡ false
  pub gives_back : after now back ≡ before
