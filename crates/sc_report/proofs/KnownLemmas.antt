-- Lemmas on texts that are written and inputs that are read piece by piece.
use Rattle.std.proofs.Common.{◌≡◌, ℕ, ◌+◌, ◌-◌, ◌≤◌, List, ◌++◌, Option, sym, ap, ◌∙◌, subst, length, take, drop, take-append-drop, arith}
use Rattle.std.proofs.lemmas.List.{drop-take, take-take, take_rest, length-append}
use Rattle.std.specs.Io.KnownBytes.{Appends, Consumes}
use Rattle.std.proofs.KnownBytes.{Appends-trans, Consumes-trans}
use Rattle.std.specs.Prelude.{Result, Ok, Err, IsErr}
use Rattle.sc_report.specs.Whole.{AppendsPrefix, GivesAtMost, ReadsWhole, WritesWhole}

-- a prefix and what was taken after it make a longer prefix
pub take-more : (at count : ℕ) (text : List ℕ) → take (at + count) text ≡ take at text ++ take count (drop at text)
take-more at count text =
    sym (take-append-drop at (take (at + count) text))
    ∙ ap (λ prefix. prefix ++ drop at (take (at + count) text)) (take-take at (at + count) text (omega arith))
    ∙ ap (λ rest. take at text ++ rest) (drop-take at count text)

-- a writer that has a prefix of the text, and took more after it, has a longer prefix
pub Appends-more : (a b c : Option (List ℕ)) (text : List ℕ) (at count : ℕ) → Appends a b (take at text)
    → Appends b c (take count (take (length text - at) (drop at text))) → Appends a c (take (at + count) text)
Appends-more a b c text at count first second =
    subst (Appends a c) (sym (take-more at count text ∙ ap (λ rest. take at text ++ take count rest) (sym (take_rest text at)))) (Appends-trans a b c _ _ first second)

-- a reader that gave `given` and then `came` gave both
pub Consumes-more : (a b c : Option (List ℕ)) (given came both : List ℕ) → Consumes a b given → Consumes b c came → both ≡ given ++ came → Consumes a c both
Consumes-more a b c given came both first second e = subst (Consumes a c) (sym e) (Consumes-trans a b c given came first second)

-- a reader that gave some bytes, and then at most some more, gave at most both together
pub GivesAtMost-more : (limit most : ℕ) (a b c : Option (List ℕ)) (given : List ℕ) → Consumes a b given → GivesAtMost most b c → length given + most ≤ limit → GivesAtMost limit a c
GivesAtMost-more limit most a b c given gave (came, second, few) within =
    (given ++ came, Consumes-trans a b c given came gave second, omega (arith, length-append given came))

-- a read that failed took no more than the limit
pub ReadsWhole-err : {V E : Type 0} (items : V → List ℕ) (limit : ℕ) (a b : Option (List ℕ)) (result : Result V E) → IsErr result → GivesAtMost limit a b → ReadsWhole items limit a b result
ReadsWhole-err items limit a b (Ok given) failed few = cc
ReadsWhole-err items limit a b (Err fault) failed few = few

-- a write that failed left a prefix of the text
pub WritesWhole-err : {T E : Type 0} (a b : Option (List ℕ)) (result : Result T E) (text : List ℕ) → IsErr result → AppendsPrefix a b text → WritesWhole a b result text
WritesWhole-err a b (Ok done) text failed prefix = cc
WritesWhole-err a b (Err fault) text failed prefix = prefix
