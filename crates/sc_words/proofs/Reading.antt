-- From the matches of a parse to the order.
use Rattle.std.proofs.Common.{◌≡◌, ◌∙◌, true, List, [], ◌∷◌, map, Option, IsSomeAnd, refl, sym, ap₂, subst}
use Rattle.std.proofs.lemmas.List.{map-id}
use Rattle.clap.specs.Words.{App, Row, Text, fault_of, is_simple, is_simple_and_free, subcommand_of}
use Rattle.clap.proofs.OnLiterals.{clap_on_literals}
use Rattle.sc_words.specs.CommandLine.{command_line}
use Rattle.sc_words.specs.Orders.{IsOrderIn, IsOrderOf, faults_of}
use Rattle.sc_words.specs.Complete.{IsComplete}
use Rattle.sc_words.proofs.Complete.{complete}
use Rattle.sc_words.specs.declared.order.Order.{Order}

pub line_is_simple : is_simple command_line ≡ true
unfolding clap_on_literals
line_is_simple = refl

pub line_is_free : is_simple_and_free command_line ≡ true
unfolding clap_on_literals
line_is_free = refl

pub same_faults : (words : List Text) (a : App) → (words ≡ [] → ⊥) → a ≡ command_line → fault_of a (map (λ w. w) words) ≡ faults_of words
same_faults [] a some is = absurd (some refl)
same_faults (w ∷ rest) a some is = ap₂ fault_of is (map-id (w ∷ rest))

-- where there is no fault, what clap reads is complete
pub whole : (words : List Text) (a : App) (found : Option (Text × List Row)) → (words ≡ [] → ⊥) → a ≡ command_line → found ≡ subcommand_of a (map (λ w. w) words)
    → faults_of words ≡ [] → IsSomeAnd found (λ p. IsComplete p.0 p.1)
whole [] a found some is reads none = absurd (some refl)
whole (w ∷ rest) a found some is reads none =
    subst (λ f. IsSomeAnd f (λ p. IsComplete p.0 p.1)) (sym (reads ∙ ap₂ subcommand_of is (map-id (w ∷ rest)))) (complete (w ∷ rest) none)

pub read : (words : List Text) (a : App) (found : Option (Text × List Row)) (order : Order) → (words ≡ [] → ⊥) → a ≡ command_line
    → found ≡ subcommand_of a (map (λ w. w) words) → IsSomeAnd found (λ f. IsOrderIn f.0 f.1 order) → IsOrderOf words order
read [] a found order some is reads ordered = absurd (some refl)
read (w ∷ rest) a found order some is reads ordered =
    subst (λ f. IsSomeAnd f (λ p. IsOrderIn p.0 p.1 order)) (reads ∙ ap₂ subcommand_of is (map-id (w ∷ rest))) ordered
