-- The endings of the reasons' lines, and the lines that are made of pieces.
use Rattle.std.proofs.Common.{◌≡◌, refl, sym, subst, ◌∙◌, ap, ℕ, ◌+◌, ◌-◌, ◌<◌, ◌≤◌, List, [], ◌∷◌, ◌++◌, length, drop, get_or, map, replicate, take, add-one, append_assoc, arith, codes, decimal, slice_get, Option, None, Some}
use Rattle.std.specs.Prelude.{◌%◌, ◌^◌, nat_lt, if◌then◌else◌, true, false, Bool}
use Rattle.std.specs.List.{AllZip}
use Rattle.std.specs.Option.{IsSomeAnd}
use Rattle.std.proofs.Math.Seq.{take-suc}
use Rattle.std.proofs.lemmas.Fmt.{length-decimal-le}
use Rattle.std.proofs.lemmas.Nat.{mod_below}
use Rattle.std.proofs.lemmas.List.{drop-take, drop_at, length-append, length-drop, length-map, length-take-le, take_all, take-append-drop, take-append-le, take-take}
use Rattle.std.proofs.lemmas.Map.Entries.{length-keys_of}
use Rattle.std.proofs.lemmas.Option.{get_or_from_slice_get, slice_get_read, MatchOption-at_some}
use Rattle.std.proofs.lemmas.Slice.{take-put_mid_below}
use Rattle.std.proofs.lemmas.Slice.Zip.{all_zipped_more, AllZip-left, AllZip-long}
use Rattle.sc_papers.specs.Market.{Market, schools_of}
use Rattle.sc_papers.specs.Matching.{Matching}
use Rattle.sc_papers.specs.declared.key.Key.{Key}
use borrow.Rule.Slice.PartMut.{put_mid, post_of}
use Rattle.sc_report.specs.Endings.{line_ending, piece_text, place_ending, EndsAt, HasEndings, HaveEndings}
use Rattle.sc_reasons.specs.Entrants.{Holds}
use Rattle.sc_reasons.specs.Reason.{reason_by}
use Rattle.sc_report.specs.ReasonText.{reason_line, reason_word}
use Rattle.sc_report.specs.Text.{assignment_line, place_text}
use Rattle.sc_reasons.specs.declared.cutoff.CutoffRow.{CutoffRow}
use Rattle.sc_report.specs.declared.endings.Endings.{Endings}
use Rattle.sc_report.specs.declared.endings.SchoolEndings.{SchoolEndings}
use Rattle.sc_reasons.specs.declared.entrants.Entrant.{Entrant}
use Rattle.sc_report.specs.declared.piece.Piece.{Piece}
use Rattle.sc_reasons.specs.declared.reason.Reason.{Reason}
use Rattle.sc_reasons.specs.declared.reason.Reason.TheVariants.{Seats, Class, Lottery}
use Rattle.sc_reasons.specs.declared.reason.ReasonRow.{ReasonRow}

-- a short text stands in what it begins
pub piece-made : (text more : List ℕ) (n : ℕ) → length text < 16 → n ≡ length text → take (n % 16) (text ++ more) ≡ text
piece-made text more n short count =
    let small : n % 16 ≡ length text = omega (arith, short, count) in
    ap (λ k. take k (text ++ more)) small ∙ take-append-le (length text) text more (omega arith) ∙ take_all (length text) text (omega arith)

-- a number has fewer digits than fill a block, and there is room for a byte after it
pub number-short : (n : ℕ) → n < 2 ^ 32 → length (decimal n) ≤ 10
number-short n low = length-decimal-le 10 n (omega arith) (omega (arith, low)) (omega (arith, low))

-- a number that was written before many times one byte stands with one of these in a block
pub number-made : (n byte start : ℕ) (written block : List ℕ) → n < 2 ^ 32 → start + length (decimal n) ≡ 15 → drop start written ≡ decimal n ++ replicate 17 byte
    → block ≡ take 16 (drop start written) → take ((16 - start) % 16) block ≡ decimal n ++ byte ∷ []
number-made n byte start written block low place is block_is =
    let text = decimal n ++ byte ∷ [] in
    let short : length text ≡ 16 - start = omega (arith, length-append (decimal n) (byte ∷ []), place, number-short n low) in
    ap (take ((16 - start) % 16)) (block_is ∙ ap (take 16) (is ∙ sym (append_assoc (decimal n) (byte ∷ []) (replicate 16 byte))))
    ∙ take-take ((16 - start) % 16) 16 (text ++ replicate 16 byte) (omega (arith, mod_below (16 - start) 16 (omega arith)))
    ∙ piece-made text (replicate 16 byte) (16 - start) (omega (arith, short, place, number-short n low)) (sym short)

-- how long a part is
pub part-long : (xs : List ℕ) (a k : ℕ) → a + k ≤ length xs → length (take (a + k - a) (drop a xs)) ≡ k
part-long xs a k within =
    length-take-le (a + k - a) (drop a xs) (omega (arith, within, length-drop a xs)) ∙ omega arith

-- what stands up to some place in the part that was written over
pub put-taken : (xs ys : List ℕ) (a k c : ℕ) → a ≤ length xs → c ≤ length ys → take (a + c) (put_mid a k xs ys) ≡ take a xs ++ take c ys
put-taken xs ys a k c low within =
    let all = put_mid a k xs ys in
    let first : take a (take (a + c) all) ≡ take a xs = take-take a (a + c) all (omega arith) ∙ take-put_mid_below a k xs ys a (omega arith) low in
    let rest = drop-take a c all ∙ ap (take c) (drop_at (take a xs) (ys ++ post_of a k xs) a (length-take-le a xs low)) ∙ take-append-le c ys (post_of a k xs) within in
    sym (take-append-drop a (take (a + c) all)) ∙ (λ t. first t ++ rest t)

-- a school's number, a comma, a word and a newline are fewer bytes than a block has
pub ending-short : (s : ℕ) (reason : Reason) → s ≤ 99_999 → length (line_ending s reason) < 16
ending-short s reason low =
    let number = length-decimal-le 5 s (omega arith) (omega (arith, low)) (omega (arith, low)) in
    let comma : length (codes ",") ≡ 1 = refl in
    let newline : length (codes "\n") ≡ 1 = refl in
    omega (arith, number, comma, newline, word reason, length-append (decimal s) (codes ","), length-append (decimal s ++ codes ",") (reason_word reason), length-append (decimal s ++ codes "," ++ reason_word reason) (codes "\n"))
  where
    word : (r : Reason) → length (reason_word r) ≤ 7
    word Seats = omega arith
    word Class = omega arith
    word Lottery = omega arith

-- the endings that are made with the reasons of either class
pub endings-made : (row : CutoffRow) (last : ℕ) (place within beyond : Piece) (first second : Reason) → piece_text place ≡ place_ending row.school → piece_text within ≡ line_ending row.school first → piece_text beyond ≡ line_ending row.school second
    → ((key : Key) → (if nat_lt last key.class then second else first) ≡ reason_by row.cutoff key) → HasEndings row (record { last = last; counts = within.count ∷ beyond.count ∷ []; blocks = within.bytes ∷ beyond.bytes ∷ []; place = place })
endings-made row last place within beyond first second is_place is_within is_beyond reasons = record { place = is_place; missed = λ key. go key (nat_lt last key.class) (reasons key) }
  where
    go : (key : Key) (greater : Bool) → (if greater then second else first) ≡ reason_by row.cutoff key
        → EndsAt (record { last = last; counts = within.count ∷ beyond.count ∷ []; blocks = within.bytes ∷ beyond.bytes ∷ []; place = place }) (if greater then 1 else 0) (line_ending row.school (reason_by row.cutoff key))
    go key true is = is_beyond ∙ ap (line_ending row.school) is
    go key false is = is_within ∙ ap (line_ending row.school) is

-- the ending that stands at the place of a class
pub ending-at : (row : CutoffRow) (school : SchoolEndings) (key : Key) (k : ℕ) (block : List ℕ) (count : ℕ) → HasEndings row school → k ≡ (if nat_lt school.last key.class then 1 else 0)
    → take (get_or school.counts k count % 16) (get_or school.blocks k block) ≡ line_ending row.school (reason_by row.cutoff key)
ending-at row school key k block count has place = go (slice_get school.blocks k) refl (slice_get school.counts k) refl (subst (λ n. EndsAt school n text) (sym place) (has.missed key))
  where
    text : List ℕ
    text = line_ending row.school (reason_by row.cutoff key)

    go : (b : Option (List ℕ)) → slice_get school.blocks k ≡ b → (n : Option ℕ) → slice_get school.counts k ≡ n → IsSomeAnd b (λ bytes. IsSomeAnd n (λ m. take (m % 16) bytes ≡ text))
        → take (get_or school.counts k count % 16) (get_or school.blocks k block) ≡ text
    go None there n is ends = elim ends [ ]
    go (Some bytes) there None is ends = elim ends [ ]
    go (Some bytes) there (Some m) is ends = (λ t. take (get_or_from_slice_get school.counts k m count is t % 16) (get_or_from_slice_get school.blocks k bytes block there t)) ∙ ends

-- the endings of the first rows, and of one more
pub endings-more : (rows : List CutoffRow) (k : ℕ) (row : CutoffRow) (before new : List SchoolEndings) (made : SchoolEndings) → AllZip HasEndings (take k rows) before → HasEndings row made
    → k < length rows → row ≡ get_or rows k row → new ≡ before ++ made ∷ [] → AllZip HasEndings (take (k + 1) rows) new
endings-more rows k row before new made so_far one low is new_is =
    let front : take (k + 1) rows ≡ take k rows ++ row ∷ [] = rw (add-one, take-suc rows k row low) (ap (λ r. take k rows ++ r ∷ []) (sym is)) in
    subst (AllZip HasEndings (take (k + 1) rows)) (sym new_is)
    (subst (λ xs. AllZip HasEndings xs (before ++ made ∷ [])) (sym front) (all_zipped_more HasEndings (take k rows) before row made so_far one))

-- the endings that stand at the place of a row are its
pub endings-there : (rows : List CutoffRow) (schools : List SchoolEndings) (k : ℕ) (row : CutoffRow) (school : SchoolEndings) → AllZip HasEndings rows schools → slice_get rows k ≡ Some row
    → k < length schools → school ≡ get_or schools k school → HasEndings row school
endings-there rows schools k row school all here low is =
    let there : slice_get schools k ≡ Some school = slice_get_read schools (length schools) k school refl low is in
    subst (λ o. IsSomeAnd o (HasEndings row)) there
    (MatchOption-at_some (Unit {0}) (λ r. IsSomeAnd (slice_get schools k) (HasEndings r)) row here (AllZip-left HasEndings rows schools all k))

-- the endings of the rows of a matching, where those are what they were made by
pub endings-long : (m : Market) (rows : List CutoffRow) (endings : Endings) → HaveEndings rows endings → map (λ row. row.school) rows ≡ schools_of m
    → length endings.schools.items ≡ length m.schools
endings-long m rows endings have schools =
    AllZip-long HasEndings rows endings.schools.items have ∙ sym (length-map rows (λ (row : CutoffRow). row.school)) ∙ ap length schools ∙ length-keys_of m.schools

five-parts : (a b c d e : List ℕ) → a ++ (b ++ c ++ d ++ e) ≡ a ++ b ++ c ++ d ++ e
five-parts a b c d e =
    sym (append_assoc a (b ++ c ++ d) e) ∙ ap (λ t. t ++ e) (sym (append_assoc a (b ++ c) d) ∙ ap (λ t. t ++ d) (sym (append_assoc a b c)))

-- the student's number with a comma, and an ending, are the row's line
pub line-joined : (row : ReasonRow) (number ending old new : List ℕ) → number ≡ decimal row.student ++ codes "," → ending ≡ line_ending row.school row.reason
    → new ≡ old ++ (number ++ ending) → new ≡ old ++ reason_line row
line-joined row number ending old new number_is ending_is new_is =
    new_is ∙ (λ t. old ++ (number_is t ++ ending_is t))
    ∙ ap (λ more. old ++ more) (five-parts (decimal row.student ++ codes ",") (decimal row.school) (codes ",") (reason_word row.reason) (codes "\n"))

-- the student's number with a comma, and what they have or a dash with a newline, are the student's line
pub assignment-joined : (a : Matching) (one : Entrant) (number ending old new : List ℕ) → Holds a one → number ≡ decimal one.student ++ codes "," → ending ≡ place_text one.held ++ codes "\n"
    → new ≡ old ++ (number ++ ending) → new ≡ old ++ assignment_line a one.student
assignment-joined a one number ending old new holds number_is ending_is new_is =
    let first = decimal one.student ++ codes "," in
    new_is ∙ (λ t. old ++ (number_is t ++ ending_is t))
    ∙ ap (λ line. old ++ line) (sym (append_assoc first (place_text one.held) (codes "\n")) ∙ ap (λ held. first ++ place_text held ++ codes "\n") (sym holds))
