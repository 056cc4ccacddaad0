-- Segments as spans of one list of entries.
use Rattle.std.specs.Prelude.{◌≡◌, ℕ, ◌≤◌, ◌+◌, List, Some, map, length, slice_get, slice_range}
use Rattle.sc_papers.specs.declared.rejection.Rejection.{Rejection}
use Rattle.sc_checkpoint.specs.Chains.{Chain}
use Rattle.sc_checkpoint.specs.declared.span.Span.{Span}

-- the span lies within the entries
pub record IsWithin (entries : List Rejection) (span : Span) : Type 0 where
  pub ordered : span.start ≤ span.end
  pub below : span.end ≤ length entries

-- and so does each of these
pub record AreWithin (entries : List Rejection) (spans : List Span) : Type 0 where
  pub at : (k : ℕ) (span : Span) → slice_get spans k ≡ Some span → IsWithin entries span

-- a student's chain: the entries between the ends of the span
abbrev pub chain_in : List Rejection → Span → Chain
chain_in entries span = record { student = span.student; rejections = slice_range entries span.start span.end }

-- the chains of all of them
abbrev pub chains_in : List Rejection → List Span → List Chain
chains_in entries spans = map (chain_in entries) spans

-- the span, so many entries further on
abbrev pub shifted : ℕ → Span → Span
shifted by span = record { student = span.student; start = by + span.start; end = by + span.end }
