-- Segments as spans of one list of entries.
use Rattle.std.proofs.Common.{◌≡◌, refl, ap, sym, subst, ◌∙◌, ℕ, zero, suc, ◌+◌, ◌-◌, ◌<◌, ◌≤◌, List, [], ◌∷◌, ◌++◌, length, get_or, map, take, drop, set, Some, slice_get, slice_range, arith, length-drop}
use Rattle.std.proofs.Math.Seq.{drop-append_seam, drop-append-add}
use Rattle.std.proofs.lemmas.List.{drop-append-le, length-append, length-map, length-take-le, map_push, take-append-drop, take-append-le, take_all}
use Rattle.std.proofs.lemmas.Option.{same_Some, none-some, slice_get-map, slice_get_read}
use Rattle.std.specs.Option.{option_map}
use Rattle.std.specs.List.{remove}
use Rattle.sc_papers.specs.declared.rejection.Rejection.{Rejection}
use Rattle.sc_checkpoint.specs.Chains.{replaced, with_chain, Chain}
use Rattle.sc_checkpoint.specs.Spans.{chain_in, chains_in, shifted, AreWithin, IsWithin}
use Rattle.sc_checkpoint.specs.declared.span.Span.{Span}
use Rattle.sc_checkpoint.proofs.Replacing.{map-replaced}

-- the chain at a position, by the span that is read there
pub chain-read : (entries : List Rejection) (spans : List Span) (chains : List Chain) → chains_in entries spans ≡ chains → (k : ℕ) (span : Span) → k < length chains → span ≡ get_or spans k span
    → slice_get chains k ≡ Some (chain_in entries span)
chain-read entries spans chains are k span low is =
    let within : k < length spans = omega (arith, low, ap (λ (cs : List Chain). length cs) are, length-map spans (chain_in entries)) in
    ap (λ cs. slice_get cs k) (sym are) ∙ slice_get-map (chain_in entries) spans k ∙ ap (option_map (chain_in entries)) (slice_get_read spans (length spans) k span refl within is)

-- what lies in the first of two lists, what in the second, and the whole second
range-left : (xs ys : List Rejection) (from to : ℕ) → from ≤ to → to ≤ length xs → slice_range (xs ++ ys) from to ≡ slice_range xs from to
range-left xs ys from to ordered low =
    ap (take (to - from)) (drop-append-le from xs ys (omega (arith, ordered, low)))
    ∙ take-append-le (to - from) (drop from xs) ys (omega (arith, ordered, low, length-drop from xs))

range-right : (xs ys : List Rejection) (from to : ℕ) → slice_range (xs ++ ys) (length xs + from) (length xs + to) ≡ slice_range ys from to
range-right xs ys from to =
    ap (take (length xs + to - (length xs + from))) (drop-append-add xs ys from)
    ∙ ap (λ n. take n (drop from ys)) (fewer (length xs) from to)
  where
    fewer : (n a b : ℕ) → n + b - (n + a) ≡ b - a
    fewer n a b = omega arith

range-last : (xs ys : List Rejection) → slice_range (xs ++ ys) (length xs) (length xs + length ys) ≡ ys
range-last xs ys =
    ap (take (length xs + length ys - length xs)) (drop-append_seam xs ys)
    ∙ take_all (length xs + length ys - length xs) ys (omega arith)

abbrev chain-with : ℕ → List Rejection → Chain
chain-with i log = record { student = i; rejections = log }

-- spans within the entries, one by one
cons-at : (entries : List Rejection) (first : Span) (rest : List Span) → IsWithin entries first → AreWithin entries rest → (k : ℕ) (span : Span) → slice_get (first ∷ rest) k ≡ Some span → IsWithin entries span
cons-at entries first rest is are zero span here = subst (IsWithin entries) (same_Some first span here) is
cons-at entries first rest is are (suc k) span here = are.at k span here

cons-within : (entries : List Rejection) (first : Span) (rest : List Span) → IsWithin entries first → AreWithin entries rest → AreWithin entries (first ∷ rest)
cons-within entries first rest is are = record { at = cons-at entries first rest is are }

tail-within : (entries : List Rejection) (first : Span) (rest : List Span) → AreWithin entries (first ∷ rest) → AreWithin entries rest
tail-within entries first rest are = record { at = λ k span here. are.at (suc k) span here }

head-within : (entries : List Rejection) (first : Span) (rest : List Span) → AreWithin entries (first ∷ rest) → IsWithin entries first
head-within entries first rest are = are.at 0 first refl

pub none-within : (entries : List Rejection) → AreWithin entries []
none-within entries = record { at = λ k span here. absurd (none-some span here) }

-- more entries come after them
pub within-grown : (entries more : List Rejection) (spans : List Span) → AreWithin entries spans → AreWithin (entries ++ more) spans
within-grown entries more spans are = record {
  at = λ k span here. record {
    ordered = (are.at k span here).ordered;
    below = omega (arith, (are.at k span here).below, length-append entries more);
  };
}

pub chains-grown : (entries more : List Rejection) (spans : List Span) → AreWithin entries spans → chains_in (entries ++ more) spans ≡ chains_in entries spans
chains-grown entries more [] are = refl
chains-grown entries more (first ∷ rest) are =
    let is = head-within entries first rest are in
    ap (λ log. chain-with first.student log ∷ chains_in (entries ++ more) rest) (range-left entries more first.start first.end is.ordered is.below)
    ∙ ap (λ chains. chain_in entries first ∷ chains) (chains-grown entries more rest (tail-within entries first rest are))

-- spans of what comes after other entries
pub within-shifted : (entries more : List Rejection) (spans : List Span) → AreWithin more spans → AreWithin (entries ++ more) (map (shifted (length entries)) spans)
within-shifted entries more [] are = none-within (entries ++ more)
within-shifted entries more (first ∷ rest) are =
    let is = head-within more first rest are in
    cons-within (entries ++ more) (shifted (length entries) first) (map (shifted (length entries)) rest)
    (record {
      ordered = omega (arith, is.ordered);
      below = omega (arith, is.below, length-append entries more);
    })
    (within-shifted entries more rest (tail-within more first rest are))

pub chains-shifted : (entries more : List Rejection) (spans : List Span) → chains_in (entries ++ more) (map (shifted (length entries)) spans) ≡ chains_in more spans
chains-shifted entries more [] = refl
chains-shifted entries more (first ∷ rest) =
    ap (λ log. chain-with first.student log ∷ chains_in (entries ++ more) (map (shifted (length entries)) rest)) (range-right entries more first.start first.end)
    ∙ ap (λ chains. chain_in more first ∷ chains) (chains-shifted entries more rest)

-- one more student's rejections
pub chains_pushed : (entries more : List Rejection) (spans : List Span) (span : Span) → AreWithin entries spans → span.start ≡ length entries → span.end ≡ length entries + length more
    → chains_in (entries ++ more) (spans ++ span ∷ []) ≡ with_chain (chains_in entries spans) span.student more
chains_pushed entries more spans span are from to =
    map_push (chain_in (entries ++ more)) spans span
    ∙ ap (λ chains. chains ++ chain_in (entries ++ more) span ∷ []) (chains-grown entries more spans are)
    ∙ ap (λ log. chains_in entries spans ++ chain-with span.student log ∷ [])
    ((λ t. slice_range (entries ++ more) (from t) (to t)) ∙ range-last entries more)

-- and of entries that are there by now
pub chains_ended : (log : List Rejection) (spans : List Span) (at i : ℕ) → at ≤ length log → AreWithin (take at log) spans
    → with_chain (chains_in (take at log) spans) i (drop at log) ≡ chains_in log (spans ++ record { student = i; start = at; end = length log } ∷ [])
chains_ended log spans at i low are =
    let first : length (take at log) ≡ at = length-take-le at log low in
    let span : Span = record { student = i; start = at; end = length log } in
    sym (chains_pushed (take at log) (drop at log) spans span are (sym first) (omega (arith, first, length-drop at log, low)))
    ∙ ap (λ entries. chains_in entries (spans ++ span ∷ [])) (take-append-drop at log)

-- spans that give way to others
set-within : (entries : List Rejection) (spans : List Span) (k : ℕ) (span : Span) → AreWithin entries spans → IsWithin entries span → AreWithin entries (set spans k span)
set-within entries [] k span are is = are
set-within entries (first ∷ rest) zero span are is = cons-within entries span rest is (tail-within entries first rest are)
set-within entries (first ∷ rest) (suc k) span are is =
    cons-within entries first (set rest k span) (head-within entries first rest are) (set-within entries rest k span (tail-within entries first rest are) is)

within-replaced : (entries : List Rejection) (spans : List Span) (positions : List ℕ) (renewed : List Span) → AreWithin entries spans → AreWithin entries renewed → AreWithin entries (replaced spans positions renewed)
within-replaced entries spans [] renewed are new = are
within-replaced entries spans (position ∷ positions) [] are new = are
within-replaced entries spans (position ∷ positions) (first ∷ rest) are new =
    within-replaced entries (set spans position first) positions rest (set-within entries spans position first are (head-within entries first rest new)) (tail-within entries first rest new)

pub spans_replaced : (entries more : List Rejection) (spans : List Span) (positions : List ℕ) (renewed : List Span) → AreWithin entries spans → AreWithin more renewed
    → AreWithin (entries ++ more) (replaced spans positions (map (shifted (length entries)) renewed))
spans_replaced entries more spans positions renewed are new =
    within-replaced (entries ++ more) spans positions (map (shifted (length entries)) renewed) (within-grown entries more spans are) (within-shifted entries more renewed new)

pub chains_replaced : (entries more : List Rejection) (spans : List Span) (positions : List ℕ) (renewed : List Span) → AreWithin entries spans
    → chains_in (entries ++ more) (replaced spans positions (map (shifted (length entries)) renewed)) ≡ replaced (chains_in entries spans) positions (chains_in more renewed)
chains_replaced entries more spans positions renewed are =
    map-replaced (chain_in (entries ++ more)) spans positions (map (shifted (length entries)) renewed)
    ∙ ap (λ chains. replaced chains positions (chains_in (entries ++ more) (map (shifted (length entries)) renewed))) (chains-grown entries more spans are)
    ∙ ap (replaced (chains_in entries spans) positions) (chains-shifted entries more renewed)

-- one that is taken out
pub chains_without : (entries : List Rejection) (spans : List Span) (k : ℕ) → chains_in entries (remove spans k) ≡ remove (chains_in entries spans) k
chains_without entries [] zero = refl
chains_without entries [] (suc k) = refl
chains_without entries (first ∷ rest) zero = refl
chains_without entries (first ∷ rest) (suc k) = ap (λ chains. chain_in entries first ∷ chains) (chains_without entries rest k)
