-- From what clap's getters answer to the rows of the matches.
use Rattle.std.proofs.Common.{◌≡◌, ◌∙◌, ◌↔◌, ℕ, Bool, true, false, [], Option, Some, None, option_map, unwrap_or, is_some, IfSome, IsSome, refl, sym, ap, true≢false, arith, slice_index, codes}
use Rattle.std.specs.Borrow.{Bor}
use Rattle.std.specs.Str.Parse.{ParsesBool}
use Rattle.clap.specs.Words.{Text, ReadsOne, first_of, first_value, one_text, rows_of}
use Rattle.clap.specs.declared.parser.matches.Found.{Found}
use Rattle.clap.proofs.WalkLemmas.{first_value-rows, one_text-rows}
use Rattle.sc_words.specs.Orders.{IsGiven, IsGivenOrNot, IsSet}

pub given : (f : Found) (id : Text) (r : Option (Bor Text)) → option_map (λ s. s.now) r ≡ first_value f id → IfSome r (IsGiven (rows_of f) id)
given f id None e = tt
given f id (Some t) e = sym (first_value-rows f id) ∙ sym e

pub found : (f : Found) (id : Text) (r : Option (Bor Text)) → option_map (λ s. s.now) r ≡ first_value f id → IsSome (first_of id (rows_of f)) → IsSome r
found f id None e some = absurd (true≢false (sym some ∙ sym (ap is_some (e ∙ first_value-rows f id))))
found f id (Some t) e some = refl

pub exact : (f : Found) (id : Text) (r : Option (Bor Text)) → option_map (λ s. s.now) r ≡ first_value f id → IsGivenOrNot (rows_of f) id r
exact f id r e = sym (e ∙ first_value-rows f id)

-- the first byte of a text, if there is one
abbrev head : Option Text → ℕ
head o = slice_index (unwrap_or o []) 0

read_true : (E : Type 0) (t : Text) (r : Option Bool) → ReadsOne {E = E} ParsesBool t r → (unwrap_or r false ≡ true) ↔ (Some t ≡ Some (codes "true"))
read_true E t (Some true) h = (λ _. ap Some h, λ _. refl)
read_true E t (Some false) h = (λ e. absurd (true≢false (sym e)), λ e. let bad : 102 ≡ 116 = sym (ap (λ (s : Text). head (Some s)) h) ∙ ap head e in absurd (omega arith))
read_true E t None h = (λ e. absurd (true≢false (sym e)), λ e. absurd (h.1.0 (ap (λ o. unwrap_or o []) e)))

pub set : (E : Type 0) (f : Found) (id : Text) (r : Option Bool) → (one_text f id ≡ None → r ≡ None) → ((t : Text) → one_text f id ≡ Some t → ReadsOne {E = E} ParsesBool t r)
    → (unwrap_or r false ≡ true) ↔ IsSet (rows_of f) id
set E f id r none some = go (one_text f id) refl
  where
    go : (o : Option Text) → one_text f id ≡ o → (unwrap_or r false ≡ true) ↔ IsSet (rows_of f) id
    go None e = (
      λ s. absurd (true≢false (sym s ∙ ap (λ o. unwrap_or o false) (none e))),
      λ s. let bad : 0 ≡ 116 = sym (ap head e) ∙ ap head (one_text-rows f id ∙ s) in absurd (omega arith),
    )
    go (Some t) e =
        let read = read_true E t r (some t e) in
        (λ s. sym (one_text-rows f id) ∙ e ∙ read.0 s, λ s. read.1 (sym e ∙ one_text-rows f id ∙ s))
