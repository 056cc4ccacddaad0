-- The subcommands with all the options that they need.
use Rattle.std.specs.Prelude.{◌≡◌, ◌⊎◌, ⊤, List, [], ◌∷◌, IsSome, codes}
use Rattle.clap.specs.Words.{Row, Text, first_of}
use Rattle.sc_words.specs.CommandLine.{check_names, opening_names, run_names, audit_names, replay_names, export_names, summary_names, explain_names, admissions_names, changes_names}

-- each option of these names has a text
abbrev pub HasOptions : List Row → List Text → Type 0
HasOptions rows [] = ⊤
HasOptions rows (name ∷ rest) = IsSome (first_of name rows) × HasOptions rows rest

-- each subcommand that does something with an opening, with the names of the options that must be given
abbrev pub opening_subcommands : List (Text × List Text)
opening_subcommands = (codes "match", opening_names) ∷ (codes "run", run_names)
    ∷ (codes "audit", audit_names) ∷ (codes "replay", replay_names)
    ∷ (codes "export", export_names) ∷ (codes "summary", summary_names)
    ∷ (codes "explain", explain_names) ∷ (codes "admissions", admissions_names)
    ∷ (codes "changes", changes_names) ∷ []

-- each subcommand, with the names of the options that must be given
abbrev pub needed_options : List (Text × List Text)
needed_options = (codes "check", check_names) ∷ opening_subcommands

-- one of these subcommands, with each option that must be given
abbrev pub IsOneOf : List (Text × List Text) → Text → List Row → Type 0
IsOneOf [] name rows = ⊥
IsOneOf (one ∷ rest) name rows =
    ((name ≡ one.0) × HasOptions rows one.1) ⊎ IsOneOf rest name rows

-- a subcommand, with each option that must be given
abbrev pub IsComplete : Text → List Row → Type 0
IsComplete name rows = IsOneOf needed_options name rows
