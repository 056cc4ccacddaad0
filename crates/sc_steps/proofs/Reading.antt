-- What reading inputs in their turn does, by what each reader gave.
use Rattle.std.proofs.Common.{◌≡◌, ℕ, ◌<◌, ◌≤◌, inl, inr, ap, arith, Bool, true, false, ◌||◌, List, [], ◌∷◌, ◌++◌, Option, None, Some, length, take, refl, sym, ◌∙◌, subst}
use Rattle.std.proofs.lemmas.Bool.{cases_lt}
use Rattle.std.proofs.lemmas.List.{take_all, drop_all, length-take, length-take-le, take-append-drop}
use Rattle.std.proofs.lemmas.List.Elements.{All-append, All-cons, All-nil, All-weaker}
use Rattle.std.specs.Io.KnownBytes.{Consumes}
use Rattle.std.specs.List.{All}
use Rattle.sc_intake.specs.declared.fault.Source.{Source}
use Rattle.sc_report.specs.Whole.{GivesAtMost, GivesFirst}
use Rattle.sc_report.specs.declared.watched.Watched.{Watched}
use Rattle.sc_steps.specs.Inputs.{turns_if_any, Turn, AreRead, EndsAmong, EndsReading, IsRead, IsTooLong, IsUntouched, IsWhole, ReadsToEnd, TakesWithin}
use Rattle.sc_steps.specs.declared.fault.RunFault.{RunFault}

-- a reader on which no call failed is as failed as it was
pub unfailed : (before after : Bool) → after ≡ (before || false) → after ≡ before
unfailed true after same = same
unfailed false after same = same

-- a reader on which a call failed has failed
pub failed : (before after : Bool) → after ≡ (before || true) → after ≡ true
failed true after same = same
failed false after same = same

-- a reader that gave fewer bytes than it was asked for gave all that it had
ReadsToEnd-short : (limit : ℕ) (bytes left : Option (List ℕ)) (given : List ℕ) → GivesFirst limit bytes left given → length given < limit → ReadsToEnd bytes left given
ReadsToEnd-short limit None left given gave short = tt
ReadsToEnd-short limit (Some bytes) None given gave short = absurd gave
ReadsToEnd-short limit (Some bytes) (Some left) given gave short =
    elim (cases_lt (length bytes) limit) [
      | inl all ↦ (gave.0 ∙ take_all limit bytes (omega arith), gave.1 ∙ drop_all limit bytes (omega arith))
      | inr more ↦
          let cut : length given ≡ limit = ap length gave.0 ∙ length-take-le limit bytes more in
          absurd (omega arith)
    ]

-- an input that gave fewer bytes than it was asked for was read
pub IsRead-short : (turn : Turn) (given : List ℕ) → GivesFirst 67108865 turn.left_before turn.left_after given → length given ≤ 67108864
    → turn.failed_after ≡ (turn.failed_before || false) → IsRead turn given
IsRead-short turn given gave short same = record {
  whole = ReadsToEnd-short 67108865 turn.left_before turn.left_after given gave (omega arith);
  within = short;
  unfailed = unfailed turn.failed_before turn.failed_after same;
}

-- a reader that gave more bytes than a limit had a text that is longer
whole-long : (limit most : ℕ) (bytes left : Option (List ℕ)) (given : List ℕ) → GivesFirst limit bytes left given → most < length given
    → (text : List ℕ) × IsWhole bytes text × (most < length text)
whole-long limit most None left given gave long = (given, tt, long)
whole-long limit most (Some bytes) None given gave long = absurd gave
whole-long limit most (Some bytes) (Some left) given gave long =
    let cut : length given ≡ length (take limit bytes) = ap length gave.0 in (
      bytes,
      refl,
      elim (cases_lt (length bytes) limit) [
        | inl all ↦
            let same = ap length (take_all limit bytes (omega arith)) in
            omega arith
        | inr more ↦
            let same = length-take-le limit bytes more in
            omega arith
      ],
    )

-- an input that gave a byte more than the limit is too long
pub IsTooLong-long : (turn : Turn) (given : List ℕ) → GivesFirst 67108865 turn.left_before turn.left_after given → 67108864 < length given
    → turn.failed_after ≡ (turn.failed_before || false) → IsTooLong turn
IsTooLong-long turn given gave long same =
    let (text, whole, longer) = whole-long 67108865 67108864 turn.left_before turn.left_after given gave long in
    record { text = text; whole = whole; longer = longer; unfailed = unfailed turn.failed_before turn.failed_after same }

-- the first bytes of a reader, up to a limit, are no more than the limit
pub GivesAtMost-first : (limit : ℕ) (bytes left : Option (List ℕ)) (given : List ℕ) → GivesFirst limit bytes left given → GivesAtMost limit bytes left
GivesAtMost-first limit None left given gave = ([], tt, omega arith)
GivesAtMost-first limit (Some bytes) None given gave = absurd gave
GivesAtMost-first limit (Some bytes) (Some left) given gave = (
  take limit bytes,
  sym (take-append-drop limit bytes) ∙ ap (λ rest. take limit bytes ++ rest) (sym gave.1),
  (let cut = length-take limit bytes in omega arith),
)

-- of a reader that is not come to, nothing is taken
GivesAtMost-none : (limit : ℕ) (bytes left : Option (List ℕ)) → left ≡ bytes → GivesAtMost limit bytes left
GivesAtMost-none limit None left same = ([], tt, omega arith)
GivesAtMost-none limit (Some bytes) left same = ([], subst (λ l. Consumes (Some bytes) l []) (sym same) refl, omega arith)

pub TakesWithin-untouched : (turn : Turn) → IsUntouched turn → TakesWithin turn
TakesWithin-untouched turn untouched = GivesAtMost-none 67108865 turn.left_before turn.left_after untouched.0

-- reading ended among the first inputs, and those after them were not come to
pub EndsAmong-first : (first later : List Turn) (fault : RunFault) → EndsAmong first fault → All IsUntouched later → EndsAmong (first ++ later) fault
EndsAmong-first [] later fault ended untouched = absurd ended
EndsAmong-first (turn ∷ rest) later fault (inl (ended, rest_untouched)) untouched = inl (ended, All-append IsUntouched rest later rest_untouched untouched)
EndsAmong-first (turn ∷ rest) later fault (inr (text, read, ended)) untouched = inr (text, read, EndsAmong-first rest later fault ended untouched)

-- the first inputs were read, and reading ended among those after them
pub EndsAmong-later : (first later : List Turn) (texts : List (List ℕ)) (fault : RunFault) → AreRead first texts → EndsAmong later fault → EndsAmong (first ++ later) fault
EndsAmong-later [] later texts fault read ended = ended
EndsAmong-later (turn ∷ rest) later [] fault read ended = absurd read
EndsAmong-later (turn ∷ rest) later (text ∷ texts) fault (first_read, read) ended = inr (text, first_read, EndsAmong-later rest later texts fault read ended)

-- the first inputs were read, and one more
pub AreRead-more : (first : List Turn) (turn : Turn) (texts : List (List ℕ)) (text : List ℕ) → AreRead first texts → IsRead turn text → AreRead (first ++ turn ∷ []) (texts ++ text ∷ [])
AreRead-more [] turn [] text read last = (last, tt)
AreRead-more [] turn (other ∷ texts) text read last = absurd read
AreRead-more (first ∷ rest) turn [] text read last = absurd read
AreRead-more (first ∷ rest) turn (other ∷ texts) text (first_read, read) last = (first_read, AreRead-more rest turn texts text read last)

-- of each file of an opening no more is taken than may be
pub TakesWithin-opening : (schools roster lists : Turn) → TakesWithin schools → TakesWithin roster → TakesWithin lists → All TakesWithin (schools ∷ roster ∷ lists ∷ [])
TakesWithin-opening schools roster lists first second third =
    All-cons TakesWithin schools (roster ∷ lists ∷ []) first (All-cons TakesWithin roster (lists ∷ []) second (All-cons TakesWithin lists [] third (All-nil TakesWithin)))

-- nor of the inputs of a call, of which one is read after those of the opening
pub TakesWithin-more : (first : List Turn) (turn : Turn) → All TakesWithin first → TakesWithin turn → All TakesWithin (first ++ turn ∷ [])
TakesWithin-more first turn within last = All-append TakesWithin first (turn ∷ []) within (All-cons TakesWithin turn [] last (All-nil TakesWithin))

-- an input that is not come to is the only one of its kind
pub All-untouched : (turn : Turn) → IsUntouched turn → All IsUntouched (turn ∷ [])
All-untouched turn untouched = All-cons IsUntouched turn [] untouched (All-nil IsUntouched)

-- the last of an opening's files ended the reading
pub EndsAmong-third : (schools roster lists : Turn) (first second : List ℕ) (fault : RunFault) → IsRead schools first → IsRead roster second → EndsReading lists fault
    → EndsAmong (schools ∷ roster ∷ lists ∷ []) fault
EndsAmong-third schools roster lists first second fault schools_read roster_read ended =
    inr (first, schools_read, inr (second, roster_read, inl (ended, All-nil IsUntouched)))

-- reading the files of the opening ended early, and the input after them was not come to
pub EndsAmong-opening : (turns : List Turn) (turn : Turn) (fault : RunFault) → EndsAmong turns fault → IsUntouched turn → EndsAmong (turns ++ turn ∷ []) fault
EndsAmong-opening turns turn fault ended untouched = EndsAmong-first turns (turn ∷ []) fault ended (All-untouched turn untouched)

-- reading the input after the files of the opening ended early
pub EndsAmong-last : (turns : List Turn) (turn : Turn) (texts : List (List ℕ)) (fault : RunFault) → AreRead turns texts → EndsReading turn fault → EndsAmong (turns ++ turn ∷ []) fault
EndsAmong-last turns turn texts fault read ended = EndsAmong-later turns (turn ∷ []) texts fault read (inl (ended, All-nil IsUntouched))

-- an input that is not come to is untouched
pub any-untouched : {R : Type 0} (remaining : R → Option (List ℕ)) (source : Source) (last : Option (Watched R)) → All IsUntouched (turns_if_any remaining source last last)
any-untouched remaining source None = All-nil IsUntouched
any-untouched remaining source (Some reader) = All-untouched _ (refl, refl)

-- of inputs that are not come to nothing is taken
pub TakesWithin-later : (first later : List Turn) → All TakesWithin first → All IsUntouched later → All TakesWithin (first ++ later)
TakesWithin-later first later within untouched = All-append TakesWithin first later within (All-weaker IsUntouched TakesWithin TakesWithin-untouched later untouched)
