-- What a call that may be refused does to a value.
use Rattle.std.specs.Prelude.{◌≡◌, Result, Ok, Err}

-- the change is made whole, or it is refused and nothing has changed
abbrev pub ChangesTo : {A E T : Type 0} → T → T → T → Result A E → Type 0
ChangesTo old new changed (Ok done) = new ≡ changed
ChangesTo old new changed (Err refused) = new ≡ old
