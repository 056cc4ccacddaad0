-- Valid logs: what the entries keep, and one more entry.
use Rattle.std.proofs.Common.{◌≡◌, sym, subst, ℕ, not, List, [], ◌∷◌, ◌++◌, Some, Contains, append_assoc, append-nil}
use Rattle.sc_papers.specs.Market.{Market, choices_of, students_of}
use Rattle.sc_papers.specs.Log.{is_rejected, next_choice, IsValidEntry, IsValidAfter}
use Rattle.sc_papers.specs.declared.rejection.Rejection.{Rejection}
use Rattle.sc_papers.proofs.Choices.{found-among}
use Rattle.sc_papers.proofs.Students.{lister-among}

-- what each valid entry keeps, a valid log keeps
pub along : (m : Market) (P : List Rejection → Type 0) → ((log : List Rejection) (e : Rejection) → IsValidEntry m log e → P log → P (log ++ e ∷ [])) → (log rest : List Rejection) → P log → IsValidAfter m log rest → P (log ++ rest)
along m P step log [] start valid = subst P (sym (append-nil log)) start
along m P step log (e ∷ rest) start valid =
    subst P (append_assoc log (e ∷ []) rest) (along m P step (log ++ e ∷ []) rest (step log e valid.0 start) valid.1)

-- one more valid entry
pub valid-push : (m : Market) (log rest : List Rejection) (e : Rejection) → IsValidAfter m log rest → IsValidEntry m (log ++ rest) e → IsValidAfter m log (rest ++ e ∷ [])
valid-push m log [] e valid entry = (subst (λ l. IsValidEntry m l e) (append-nil log) entry, tt)
valid-push m log (f ∷ rest) e valid entry =
    (valid.0, valid-push m (log ++ f ∷ []) rest e valid.1 (subst (λ l. IsValidEntry m l e) (sym (append_assoc log (f ∷ []) rest)) entry))

-- a next choice is listed, by a student of the papers
pub next-listed : (m : Market) (log : List Rejection) (i s : ℕ) → next_choice m log i ≡ Some s → Contains (choices_of m i) s
unfolding next_choice
next-listed m log i s next = found-among (λ t. not (is_rejected log i t)) (choices_of m i) s next

pub next-among : (m : Market) (log : List Rejection) (i s : ℕ) → next_choice m log i ≡ Some s → Contains (students_of m) i
next-among m log i s next = lister-among m i s (next-listed m log i s next)
