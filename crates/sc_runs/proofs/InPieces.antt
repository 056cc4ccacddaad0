-- Texts that are written in pieces.
use Rattle.std.proofs.Common.{◌≡◌, refl, sym, ap, subst, ◌∙◌, ℕ, ◌+◌, ◌<◌, List, [], ◌∷◌, ◌++◌, append_assoc, append-nil, length, get_or, take, drop, add-one, Option, Result, Ok, Err, arith}
use Rattle.std.specs.Prelude.{flat_map, min}
use Rattle.std.specs.Io.KnownBytes.{Appends}
use Rattle.std.proofs.KnownBytes.{Appends-nil, Appends-trans}
use Rattle.std.proofs.Math.Seq.{take-append-add, take-suc}
use Rattle.std.proofs.lemmas.Grind.{flat_map-append}
use Rattle.std.proofs.lemmas.List.{take-append-drop, take-append-le, take_min}
use Rattle.sc_report.specs.Whole.{AppendsPrefix}
use Rattle.sc_report.proofs.LineLemmas.{flat_map-one_more}
use Rattle.sc_notices.specs.Telling.{joined}
use Rattle.sc_steps.specs.Steps.{WritesExactly}
use Rattle.sc_steps.specs.declared.fault.RunFault.{RunFault}
use Rattle.sc_steps.specs.declared.fault.RunFault.TheVariants.{WriteOut}
use Rattle.sc_steps.proofs.Openings.{AppendsPrefix-whole}
use Rattle.sc_runs.specs.Pieces.{IsWrittenTo, WritesInPieces, WritesTo}

-- a prefix of a text is one of a longer text
pub prefix-more : (old now : Option (List ℕ)) (text more : List ℕ) → AppendsPrefix old now text → AppendsPrefix old now (text ++ more)
prefix-more old now text more wrote = (
  min wrote.0 (length text),
  subst (Appends old now) (sym (take-append-le (min wrote.0 (length text)) text more (omega arith) ∙ take_min wrote.0 text)) wrote.1,
)

-- and after another one
pub prefix-after : (old now after : Option (List ℕ)) (text more : List ℕ) → Appends old now text → AppendsPrefix now after more → AppendsPrefix old after (text ++ more)
prefix-after old now after text more first second = (
  length text + second.0,
  subst (Appends old after) (sym (take-append-add text more second.0)) (Appends-trans old now after text (take second.0 more) first second.1),
)

-- nothing was written of a text
pub IsWrittenTo-none : (text : List ℕ) (bytes : Option (List ℕ)) → IsWrittenTo text text bytes bytes
IsWrittenTo-none text bytes = record { written = []; wrote = Appends-nil bytes; all = refl }

-- a text that grew was written further
pub IsWrittenTo-more : (text left part later : List ℕ) (old now after : Option (List ℕ)) → IsWrittenTo text left old now → IsWrittenTo (left ++ part) later now after → IsWrittenTo (text ++ part) later old after
IsWrittenTo-more text left part later old now after so next = record {
  written = so.written ++ next.written;
  wrote = Appends-trans old now after so.written next.written so.wrote next.wrote;
  all = ap (λ t. t ++ part) so.all ∙ append_assoc so.written left part ∙ ap (λ t. so.written ++ t) next.all ∙ sym (append_assoc so.written next.written later);
}

-- what was written is a prefix, also of a longer text
pub IsWrittenTo-prefix : (text left more : List ℕ) (old now : Option (List ℕ)) → IsWrittenTo text left old now → AppendsPrefix old now (text ++ more)
IsWrittenTo-prefix text left more old now so =
    prefix-more old now text more (subst (AppendsPrefix old now) (sym so.all) (prefix-more old now so.written left (AppendsPrefix-whole old now so.written so.wrote)))

-- and so it is with a prefix of what was left
pub IsWrittenTo-failed : (text left part later more : List ℕ) (old now after : Option (List ℕ)) (fault : RunFault) → IsWrittenTo text left old now → WritesTo (left ++ part) later now after (Err fault)
    → WritesInPieces ((text ++ part) ++ more) old after (Err fault)
IsWrittenTo-failed text left part later more old now after WriteOut so wrote =
    prefix-more old after (text ++ part) more
    (subst (AppendsPrefix old after) (sym (ap (λ t. t ++ part) so.all ∙ append_assoc so.written left part)) (prefix-after old now after so.written (left ++ part) so.wrote wrote))
IsWrittenTo-failed text left part later more old now after _ so wrote = absurd wrote

-- and what is left was written at last
pub IsWrittenTo-last : (text left : List ℕ) (old now after : Option (List ℕ)) (result : Result (Unit {0}) RunFault) → IsWrittenTo text left old now → WritesExactly left now after result → WritesInPieces text old after result
IsWrittenTo-last text left old now after (Ok done) so wrote =
    subst (Appends old after) (sym so.all) (Appends-trans old now after so.written left so.wrote wrote)
IsWrittenTo-last text left old now after (Err WriteOut) so wrote =
    subst (AppendsPrefix old after) (sym so.all) (prefix-after old now after so.written left so.wrote wrote)
IsWrittenTo-last text left old now after (Err _) so wrote = absurd wrote

-- the header and the first parts, with one more
pub joined-more : (header : List ℕ) (parts : List (List ℕ)) (at : ℕ) → at < length parts → (header ++ joined (take at parts)) ++ get_or parts at [] ≡ header ++ joined (take (at + 1) parts)
joined-more header parts at low =
    let front : take (at + 1) parts ≡ take at parts ++ get_or parts at [] ∷ [] = rw (add-one, take-suc parts at [] low) refl in
    append_assoc header (joined (take at parts)) (get_or parts at [])
    ∙ ap (λ t. header ++ t) (sym (ap joined front ∙ flat_map-one_more (λ (part : List ℕ). part) (take at parts) (get_or parts at [])))

-- and the others
pub joined-cut : (header : List ℕ) (parts : List (List ℕ)) (at : ℕ) → (header ++ joined (take at parts)) ++ joined (drop at parts) ≡ header ++ joined parts
joined-cut header parts at =
    append_assoc header (joined (take at parts)) (joined (drop at parts))
    ∙ ap (λ t. header ++ t) (sym (flat_map-append (λ (part : List ℕ). part) (take at parts) (drop at parts)) ∙ ap joined (take-append-drop at parts))
