-- What the readers gave one after another is what the files make together.
use Rattle.std.proofs.Common.{◌≡◌, ℕ, inr, arith, Bool, List, Option, None, Some, Result, Ok, Err, length, refl, sym, ◌∙◌, subst}
use Rattle.std.proofs.lemmas.List.{take_all}
use Rattle.std.specs.Io.KnownBytes.{Appends, Keeps}
use Rattle.std.specs.Prelude.{IfErr}
use Rattle.sc_report.specs.Whole.{AppendsPrefix}
use Rattle.sc_steps.specs.Steps.{WritesExactly}
use Rattle.sc_steps.specs.declared.fault.RunFault.{RunFault}
use Rattle.sc_steps.specs.declared.fault.RunFault.TheVariants.{WriteOut}
use Rattle.sc_steps.specs.Inputs.{in_order, Texts, Turn, AreRead}
use Rattle.sc_steps.specs.Opening.{opening_in, MatchesFiles, WritesMatch, WritesText}

-- what a writer holds stays through a flush
pub Appends-kept : (a b c : Option (List ℕ)) (text : List ℕ) → Appends a b text → Keeps b c → Appends a c text
Appends-kept None b c text written kept = tt
Appends-kept (Some xs) None c text written kept = absurd written
Appends-kept (Some xs) (Some ys) None text written kept = absurd kept
Appends-kept (Some xs) (Some ys) (Some zs) text written kept = kept ∙ written

-- a text that was written whole was written as its own prefix
pub AppendsPrefix-whole : (a b : Option (List ℕ)) (text : List ℕ) → Appends a b text → AppendsPrefix a b text
AppendsPrefix-whole a b text written =
    (length text, subst (λ (prefix : List ℕ). Appends a b prefix) (sym (take_all (length text) text (omega arith))) written)

-- a text that was written whole, and then nothing, was written as its own prefix
pub Appends-prefix-kept : (a b c : Option (List ℕ)) (text : List ℕ) → Appends a b text → Keeps b c → AppendsPrefix a c text
Appends-prefix-kept a b c text written kept = AppendsPrefix-whole a c text (Appends-kept a b c text written kept)

-- a text that was written whole, and then flushed
pub WritesExactly-flushed : (text : List ℕ) (a b c : Option (List ℕ)) (result : Result (Unit {0}) RunFault) → Appends a b text → Keeps b c
    → IfErr result (λ fault. fault ≡ WriteOut) → WritesExactly text a c result
WritesExactly-flushed text a b c (Ok done) written kept kind = Appends-kept a b c text written kept
WritesExactly-flushed text a b c (Err fault) written kept kind =
    subst (λ f. WritesExactly text a c (Err f)) (sym kind) (Appends-prefix-kept a b c text written kept)

-- a device that was not touched keeps its bytes
pub Keeps-refl : (a : Option (List ℕ)) → Keeps a a
Keeps-refl None = tt
Keeps-refl (Some xs) = refl

-- what was written of a text is written of one of the texts that it is of
pub WritesText-of : (Is : List ℕ → Type 0) (text : List ℕ) (old new : Option (List ℕ)) (result : Result (Unit {0}) RunFault)
    → Is text → WritesExactly text old new result → WritesText Is old new result
WritesText-of Is text old new (Ok done) is wrote = (text, is, wrote)
WritesText-of Is text old new (Err WriteOut) is wrote = (text, is, wrote)
WritesText-of Is text old new (Err _) is wrote = absurd wrote

-- the files were read, and matched
pub MatchesFiles-read : {A : Type 0} (seed : List ℕ) (show_log : Bool) (turns : List Turn) (texts : Texts) (old new : Option (List ℕ)) (result : Result A RunFault)
    → AreRead turns (in_order texts) → WritesMatch show_log (opening_in seed texts) old new result → MatchesFiles seed show_log turns old new result
MatchesFiles-read seed show_log turns texts old new result read wrote = inr (texts, read, wrote)
