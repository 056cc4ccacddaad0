-- Admission by cutoffs: which schools let a student in, and the first of their choices that does.
--
-- Source: E. M. Azevedo and J. D. Leshno, A Supply and Demand Framework for Two-Sided Matching Markets
-- (2016), where what a student has in a stable matching is its demand at the cutoffs.
use Rattle.std.specs.Prelude.{ℕ, Bool, true, false, not, Option, find}
use Rattle.sc_papers.specs.Key.{is_before, key_of}
use Rattle.sc_papers.specs.Market.{Market, choices_of}
use Rattle.sc_papers.specs.Matching.{Matching}
use Rattle.sc_papers.specs.declared.key.Key.{Key}
use Rattle.sc_reasons.specs.Cutoff.{cutoff}
use Rattle.sc_reasons.specs.declared.cutoff.Cutoff.{Cutoff}
use Rattle.sc_reasons.specs.declared.cutoff.Cutoff.TheVariants.{Closed, Free, Full}

-- whether a cutoff lets a key in: a closed school lets in none, a free one each, and a full one each
-- that is not after its last key
abbrev pub admits : Cutoff → Key → Bool
admits Closed key = false
admits Free key = true
admits (Full last) key = not (is_before last key)

-- whether i is admitted at s by the cutoffs of a matching
abbrev pub is_admitted : Market → Matching → ℕ → ℕ → Bool
is_admitted m a i s = admits (cutoff m a s) (key_of m i s)

-- the first of i's choices at which i is admitted, if there is one
abbrev pub first_admitting : Market → Matching → ℕ → Option ℕ
first_admitting m a i = find (is_admitted m a i) (choices_of m i)
