-- What papers say of lists that are as long as they look at them.
use Rattle.std.proofs.Common.{◌≡◌, ℕ, ◌==◌, ◌||◌, Bool, true, false, nat_lt, List, ◌∷◌, length, take, inl, inr, refl, sym, ap, ◌∙◌, arith, Option, Some}
use Rattle.std.proofs.lemmas.Bool.{cases_Bool, or_parts}
use Rattle.std.proofs.lemmas.Bool.Decides.{nat_tests}
use Rattle.std.proofs.lemmas.List.{length-take, take_all}
use Rattle.sc_papers.specs.Market.{Market, is_student}
use Rattle.sc_papers.specs.Verdict.{first_of, refuse_if, verdict}
use Rattle.sc_papers.specs.declared.amendment.Amendment.TheVariants.{Enter}
use Rattle.sc_papers.specs.declared.amendment.Refusal.{Refusal}
use Rattle.sc_papers.specs.declared.amendment.Refusal.TheVariants.{StudentExists, EmptyList, ListTooLong}
use Rattle.sc_intake.specs.Papers.{amended, unless_refused}

-- where a list is too long, there is a refusal, whatever else could be said
long-refused : (known empty long long_too : Bool) → (long || long_too) ≡ true
    → (r : Refusal) × ((rest : List (Option Refusal))
    → first_of (refuse_if known StudentExists ∷ refuse_if empty EmptyList ∷ refuse_if long ListTooLong ∷ refuse_if long_too ListTooLong ∷ rest) ≡ Some r)
long-refused true empty long long_too some = (StudentExists, λ rest. refl)
long-refused false true long long_too some = (EmptyList, λ rest. refl)
long-refused false false true long_too some = (ListTooLong, λ rest. refl)
long-refused false false false true some = (ListTooLong, λ rest. refl)
long-refused false false false false some = cc some

-- a part is too long where the whole is, and empty where the whole is
part-long : (xs : List ℕ) → nat_lt 20 (length (take 21 xs)) ≡ nat_lt 20 (length xs)
part-long xs = grind (arith, nat_tests, length-take 21 xs)

part-empty : (xs : List ℕ) → (length (take 21 xs) == 0) ≡ (length xs == 0)
part-empty xs = grind (arith, nat_tests, length-take 21 xs)

-- a list that is not too long is its part
part-whole : (xs : List ℕ) → nat_lt 20 (length xs) ≡ false → take 21 xs ≡ xs
part-whole xs short = take_all 21 xs (grind (arith, nat_tests))

-- a student enters by the parts as by the whole lists
pub amended-part : (m : Market) (i zone : ℕ) (siblings choices : List ℕ) (continuing : Option ℕ)
    → amended m (Enter i zone (take 21 siblings) (take 21 choices) continuing) ≡ amended m (Enter i zone siblings choices continuing)
amended-part m i zone siblings choices continuing = elim (cases_Bool (nat_lt 20 (length choices) || nat_lt 20 (length siblings))) [
  | inl long ↦
      let refused = long-refused (is_student m i) (length choices == 0) (nat_lt 20 (length choices)) (nat_lt 20 (length siblings)) long in
      let whole : verdict m (Enter i zone siblings choices continuing) ≡ Some refused.0 = refused.1 _ in
      let part : verdict m (Enter i zone (take 21 siblings) (take 21 choices) continuing) ≡ Some refused.0 =
      rw (part-empty choices, part-long choices, part-long siblings) (refused.1 _) in
      ap (unless_refused m (Enter i zone (take 21 siblings) (take 21 choices) continuing)) part ∙ sym (ap (unless_refused m (Enter i zone siblings choices continuing)) whole)
  | inr short ↦
      let parts = or_parts (nat_lt 20 (length choices)) (nat_lt 20 (length siblings)) short in
      rw (part-whole choices parts.0, part-whole siblings parts.1) refl
]
