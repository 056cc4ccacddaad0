-- How a read of `csv` moves the cursor in a text.
use Rattle.std.proofs.Common.{◌≡◌, ℕ, ◌+◌, true, false, List, [], ◌∷◌, length, Option, Some, inl, refl, sym, ap, ◌∙◌}
use Rattle.std.specs.Prelude.{Bool, MatchBool}
use Rattle.std.specs.Borrow.{Bor}
use Rattle.csv.specs.Reading.{Reached, ReadRecord, default_config, is_flexible, reader_state, records_from, took_first}
use Rattle.csv.specs.declared.parser.State.{State}
use Rattle.csv.specs.declared.reader.Reader.{Reader}
use Rattle.csv.proofs.ReadFacts.{rows-end, rows-more}
use Rattle.sc_intake.specs.Reading.{IsReading, Moves, records_of, unread}
use Rattle.sc_intake.proofs.Cutting.{records_from-more, records_from-none}

joined : {f g : List (List ℕ)} {s t : State} {xs ys : List ℕ} {known : Option (List ℕ)} → f ≡ g → s ≡ t → xs ≡ ys → known ≡ Some ys
    → f ∷ records_of t known ≡ g ∷ records_from default_config (length xs + 1) s xs
joined fields state after known = rw (fields, state, after, known) refl

-- a read that found a record moves to the next
pub read-moves : (a b : Reader (Bor (List ℕ))) (f : List (List ℕ)) → IsReading a → ReadRecord (λ text. Some text.now) a b true f
    → took_first b ≡ true → is_flexible b ≡ is_flexible a → Moves a b f
unfolding Reached
read-moves a b f old read first flexible =
    let m = rows-more (λ (text : Bor (List ℕ)). Some text.now) a b f default_config a.state old.text old.text [] old.config old.unread (refl, refl) read in
    let z = m.0 in
    let rest = m.1 in
    let p = m.2.0 in
    let found = m.2.1 in
    let fields = m.2.2 in
    let state = m.2.3.0 in
    let after = m.2.3.1 in
    record {
      reading = record {
        trim = read.3 ∙ old.trim;
        config = read.2 ∙ old.config;
        flexible = flexible ∙ old.flexible;
        ready = inl first;
        text = z;
        unread = rest;
      };
      left = ap (records_of a.state) old.unread ∙ records_from-more a.state old.text p found ∙ sym (joined fields state after rest);
    }

-- what a read that found none says
pub read-ends : (a b : Reader (Bor (List ℕ))) (f : List (List ℕ)) → IsReading a → ReadRecord (λ text. Some text.now) a b false f
    → records_of (reader_state a) (unread a) ≡ []
read-ends a b f old read =
    rw old.unread (records_from-none a.state old.text (rows-end (λ (text : Bor (List ℕ)). Some text.now) a b f default_config old.text old.config old.unread read))

-- the two together
pub read-answers : (found : Bool) (a b : Reader (Bor (List ℕ))) (f : List (List ℕ)) → IsReading a → ReadRecord (λ text. Some text.now) a b found f
    → took_first b ≡ true → is_flexible b ≡ is_flexible a
    → MatchBool found (Moves a b f) (records_of (reader_state a) (unread a) ≡ [])
read-answers true a b f old read first flexible = read-moves a b f old read first flexible
read-answers false a b f old read first flexible = read-ends a b f old read
