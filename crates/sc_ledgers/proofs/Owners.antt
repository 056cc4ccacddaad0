-- Each renewed chain is its turn's student's.
use Rattle.std.proofs.Common.{◌≡◌, refl, ap, sym, ◌∙◌, ℕ, ◌≤◌, ◌<◌, List, [], ◌∷◌, ◌++◌, length, map, set, get_or, slice_get, take, Some, Contains}
use Rattle.std.proofs.lemmas.List.{map_push, take-set-le}
use Rattle.std.proofs.lemmas.Option.{get_or_from_slice_get}
use Rattle.std.proofs.Math.Seq.{set-get_or}
use Rattle.sc_papers.specs.declared.rejection.Rejection.{Rejection}
use Rattle.sc_papers.proofs.Counting.{contains-head, contains-tail}
use Rattle.sc_checkpoint.specs.Chains.{logs_in, replaced, students_in, with_chain, Chain}
use Rattle.sc_checkpoint.proofs.Replacing.{map-replaced}
use Rattle.sc_ledgers.specs.Renewed.{anew, AreTheirs, Renewed}

-- one chain more, of whoever's segment stands at the position
pub owners-push : (students : List ℕ) (old new : Renewed) (position student : ℕ) (chain : List Rejection) → slice_get students position ≡ Some student
    → new.positions ≡ old.positions ++ position ∷ [] → new.chains ≡ with_chain old.chains student chain → AreTheirs students old → AreTheirs students new
owners-push students old new position student chain here positions chains theirs =
    let owner : ℕ → ℕ = λ p. get_or students p 0 in
    let one : Chain = record { student = student; rejections = chain } in
    ap students_in chains
    ∙ map_push (λ (c : Chain). c.student) old.chains one
    ∙ ap (λ xs. xs ++ student ∷ []) theirs
    ∙ ap (λ i. map owner old.positions ++ i ∷ []) (sym (get_or_from_slice_get students position student 0 here))
    ∙ sym (map_push owner old.positions position)
    ∙ ap (map owner) (sym positions)

-- what stands at these positions gives way to itself
replaced-own : (xs positions : List ℕ) → replaced xs positions (map (λ p. get_or xs p 0) positions) ≡ xs
replaced-own xs [] = refl
replaced-own xs (position ∷ positions) =
    ap (λ ys. replaced ys positions (map (λ p. get_or xs p 0) positions)) (set-get_or xs position 0)
    ∙ replaced-own xs positions

-- the students of the segments stay, and the logs give way to the renewed ones
pub owners-stay : (old : List Chain) (renewed : Renewed) → length renewed.positions ≡ length renewed.chains → ((p : ℕ) → Contains renewed.positions p → p < length old) → AreTheirs (students_in old) renewed
    → students_in (replaced old renewed.positions renewed.chains) ≡ students_in old
owners-stay old renewed one_each within theirs =
    map-replaced (λ (chain : Chain). chain.student) old renewed.positions renewed.chains
    ∙ ap (replaced (students_in old) renewed.positions) theirs
    ∙ replaced-own (students_in old) renewed.positions

pub logs-replaced : (old : List Chain) (renewed : Renewed) → logs_in (replaced old renewed.positions renewed.chains) ≡ anew (logs_in old) renewed
logs-replaced old renewed = map-replaced (λ (chain : Chain). chain.rejections) old renewed.positions renewed.chains

-- what stands before each of the positions stays
before-replaced : {X : Type 0} (xs : List X) (positions : List ℕ) (renewed : List X) (point : ℕ) → ((p : ℕ) → Contains positions p → point ≤ p) → take point (replaced xs positions renewed) ≡ take point xs
before-replaced xs [] renewed point later = refl
before-replaced xs (position ∷ positions) [] point later = refl
before-replaced xs (position ∷ positions) (x ∷ renewed) point later =
    before-replaced (set xs position x) positions renewed point (λ p here. later p (contains-tail position positions p here))
    ∙ take-set-le point xs position x (later position (contains-head position positions))

pub stays-before : (old : List (List Rejection)) (renewed : Renewed) (point : ℕ) → ((p : ℕ) → Contains renewed.positions p → point ≤ p) → take point (anew old renewed) ≡ take point old
stays-before old renewed point later = before-replaced old renewed.positions (logs_in renewed.chains) point later
