-- What a bundle holds: five sections, each after the line that is its marker.
use Rattle.std.specs.Prelude.{ℕ, true, List, Option, None, Some, codes}
use Rattle.std.specs.Option.{option_and_then, option_copied}
use Rattle.sc_intake.specs.Blanks.{trimmed}
use Rattle.sc_intake.specs.declared.blanks.Blanks.TheVariants.{WithLineEnds}
use Rattle.sc_runs.specs.Markers.{Parts, after_marker, cut_at}
use Rattle.sc_runs.specs.declared.bundle.Bundle.{Bundle}

-- the sections of a bundle
pub record Sections : Type 0 where
  pub seed : List ℕ
  pub schools : List ℕ
  pub roster : List ℕ
  pub lists : List ℕ
  pub script : Option (List ℕ)

-- the sections that the fields of a `Bundle` point to
abbrev pub sections_of : Bundle → Sections
sections_of bundle = record {
  seed = bundle.seed.now;
  schools = bundle.schools.now;
  roster = bundle.roster.now;
  lists = bundle.lists.now;
  script = option_copied bundle.script;
}

infixl 10 ◌>>=◌
abbrev ◌>>=◌ : {A B : Type 0} → Option A → (A → Option B) → Option B
m >>= next = option_and_then next m

-- the lists and the script of what stands after the lists' marker: without a script's marker all is lists
abbrev pub with_script : List ℕ → List ℕ → List ℕ → List ℕ → Option Parts → Sections
with_script seed schools roster rest None =
    record { seed = seed; schools = schools; roster = roster; lists = rest; script = None }
with_script seed schools roster rest (Some parts) =
    record { seed = seed; schools = schools; roster = roster; lists = parts.before; script = Some parts.after }

-- the bundle's sections: it begins with the seed's marker, and the next markers stand in this order
abbrev pub bundle_of : List ℕ → Option Sections
bundle_of input = do
  first ← after_marker (codes "%seed") input
  seed ← cut_at (codes "%schools") true first
  schools ← cut_at (codes "%roster") true seed.after
  roster ← cut_at (codes "%lists") true schools.after
  Some (with_script (trimmed WithLineEnds seed.before) schools.before roster.before roster.after (cut_at (codes "%script") true roster.after))
