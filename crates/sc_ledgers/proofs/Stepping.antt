-- Stances follow the entries of a turn.
use Rattle.std.proofs.Common.{◌≡◌, refl, ap, sym, subst, ◌∙◌, ℕ, ◌+◌, ◌==◌, zero, suc, List, [], ◌∷◌, ◌++◌, take, slice_get, position, Option, Some, None, Contains, append_assoc, append-nil}
use Rattle.std.proofs.lemmas.Option.{none-some, same_Some}
use Rattle.sc_papers.specs.Market.{Market, choices_of}
use Rattle.sc_papers.specs.WellFormed.{WellFormed}
use Rattle.sc_papers.specs.Log.{next_choice, IsValidAfter, IsValidEntry, IsValidLog}
use Rattle.sc_papers.specs.declared.rejection.Rejection.{Rejection}
use Rattle.sc_papers.proofs.Standings.{next-moves}
use Rattle.sc_papers.proofs.Validity.{next-listed}
use Rattle.sc_ledgers.specs.Elsewhere.{HasMoved, HasRows, InStep}
use Rattle.sc_ledgers.specs.declared.elsewhere.Run.{Run}
use Rattle.sc_ledgers.specs.declared.elsewhere.Run.TheVariants.{Old, New}
use Rattle.sc_ledgers.specs.declared.elsewhere.Stance.{Stance}
use Rattle.sc_ledgers.proofs.Coursing.{rank-found, rank-there}
use Rattle.sc_ledgers.proofs.Moving.{stances-new, stances-old}

moves-on : (run : Run) (m n : Market) (log other : List Rejection) (list moved : List Stance) (e : Rejection) (next : Option ℕ) → InStep run m n log other list → HasMoved list moved run e next → next_choice m log e.student ≡ Some e.school → next ≡ next_choice m (log ++ e ∷ []) e.student → InStep run m n (log ++ e ∷ []) other moved
moves-on Old m n log other list moved e next stances moves there goes = stances-old m n log other list moved e next stances moves there goes
moves-on New m n log other list moved e next stances moves there goes = stances-new n m other log list moved e next stances moves there goes

-- one entry
pub follows : (run : Run) (m n : Market) (row : ℕ → List ℕ) (log other : List Rejection) (list moved : List Stance) (e : Rejection) (next : Option ℕ) → WellFormed m → HasRows m row → IsValidLog m log → IsValidEntry m log e → ((rank : ℕ) → position (λ t. t == e.school) (row e.student) ≡ Some rank → next ≡ slice_get (row e.student) (rank + 1)) → HasMoved list moved run e next → InStep run m n log other list → InStep run m n (log ++ e ∷ []) other moved
follows run m n row log other list moved e next well rows valid entry told moves stances =
    moves-on run m n log other list moved e next stances moves entry.next (go (position (λ t. t == e.school) (choices_of m e.student)) refl)
  where
    listed : Contains (choices_of m e.student) e.school
    listed = next-listed m log e.student e.school entry.next

    go : (found : Option ℕ) → position (λ t. t == e.school) (choices_of m e.student) ≡ found → next ≡ next_choice m (log ++ e ∷ []) e.student
    go None none = absurd (rank-found (choices_of m e.student) e.school listed none)
    go (Some rank) at =
        told rank (ap (position (λ t. t == e.school)) (sym (rows e.student e.school listed)) ∙ at)
        ∙ ap (λ xs. slice_get xs (rank + 1)) (sym (rows e.student e.school listed))
        ∙ sym (next-moves m well log e rank valid entry (rank-there (choices_of m e.student) e.school rank at))

-- an entry of a valid log is valid after those before it
pub valid-at : (m : Market) (log entries : List Rejection) (k : ℕ) (e : Rejection) → slice_get entries k ≡ Some e → IsValidAfter m log entries → IsValidAfter m log (take k entries) × IsValidEntry m (log ++ take k entries) e
valid-at m log [] k e at valid = absurd (none-some e at)
valid-at m log (x ∷ xs) zero e at valid = (tt, subst (λ l. IsValidEntry m l e) (sym (append-nil log)) (subst (IsValidEntry m log) (same_Some x e at) valid.0))
valid-at m log (x ∷ xs) (suc k) e at valid =
    let rest = valid-at m (log ++ x ∷ []) xs k e at valid.1 in
    ((valid.0, rest.0), subst (λ l. IsValidEntry m l e) (append_assoc log (x ∷ []) (take k xs)) rest.1)
