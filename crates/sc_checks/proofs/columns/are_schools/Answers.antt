use Rattle.std.proofs.Common.{◌≡◌, ◌==◌, ◌+◌, ◌++◌, ◌∷◌, ℕ, Bool, true, false, List, [], drop, length, get_or, slice_range, ap, ◌∙◌, arith, rules, refl, Ok, Err}
use Rattle.std.specs.Prelude.{if◌then◌else◌}
use Rattle.std.proofs.lemmas.List.{length-drop}
use Rattle.sc_papers.specs.declared.school_no.TheConstants.SchoolNo.{GREATEST as greatest_school}
use Rattle.sc_intake.specs.Field.{first_number, first_word, is_within}
use Rattle.sc_intake.specs.declared.fault.Cause.TheVariants.{Range}
use Rattle.sc_intake.proofs.Listing.{SoFar-bad, SoFar-end, SoFar-none, SoFar-other, SoFar-school, SoFar-space}
use Rattle.sc_intake.proofs.Words.{first_number-err, first_number-ok, first_word-short, first_word-some, number_of-some, slice_range-rest, words-next, words-space}
use Rattle.sc_checks.specs.Columns.{cause_of_list, cause_of_range}
use Rattle.sc_checks.proofs.columns.are_schools.Goals as goal
use Rattle.sc_checks.proofs.columns.are_schools.Goals.{in-Some, in-None}

-- the cause of a list of numbers
cause-of : (in_range : Bool) (schools : List ℕ) → cause_of_list (Ok (if in_range then Ok schools else Err Range)) ≡ cause_of_range in_range
cause-of true schools = refl
cause-of false schools = refl

pub loop-start-init : goal.loop-start-init
loop-start-init c = ([], SoFar-none c.args.text.now)

pub overflow_add-start : goal.overflow_add-start
overflow_add-start c =
    let text = c.args.text.now in
    let start = c.loop-start.start in
    let read : first_number (slice_range text start (length text)) ≡ Ok (c.in-Ok.number, c.in-Ok.digits) = search rules in
    let word = (first_number-ok (drop start text) _ _ (rw (slice_range-rest text start) at read)).1 in
    let within = c.loop-start-test.true in
    omega (arith, first_word-short (drop start text), length-drop start text)

pub overflow_add-start-in-Ok : goal.overflow_add-start-in-Ok
overflow_add-start-in-Ok c =
    let text = c.args.text.now in
    let start = c.loop-start.start in
    let read : first_number (slice_range text start (length text)) ≡ Ok (c.in-Ok.number, c.in-Ok.digits) = search rules in
    let word = (first_number-ok (drop start text) _ _ (rw (slice_range-rest text start) at read)).1 in
    let within = c.loop-start-test.true in
    omega (arith, first_word-short (drop start text), length-drop start text)

pub loop-start-preserved-in-Ok : goal.loop-start-preserved-in-Ok
loop-start-preserved-in-Ok c =
    let text = c.args.text.now in
    let start = c.loop-start.start in
    let n = c.in-Ok.number in
    let digits = c.in-Ok.digits in
    let schools = c.loop-start.invariant.0 in
    let so_far = c.loop-start.invariant.1 in
    let read : first_number (slice_range text start (length text)) ≡ Ok (n, digits) = search rules in
    let word = first_number-ok (drop start text) n digits (rw (slice_range-rest text start) at read) in
    let some = number_of-some (first_word (drop start text)) n word.0 in
    let next = start + (digits + 1) in
    let at : next ≡ start + (length (first_word (drop start text)) + 1) = rw word.1 refl in
    let cut = words-next text start next at in
    elim c.match-new.branch [
      | in-Some w ↦
          let school : is_within 1 greatest_school n ≡ true = search rules in
          rw w.in_range-is (schools ++ n ∷ [], SoFar-school text start next schools _ _ (first_word (drop start text)) n so_far cut some word.0 school refl)
      | in-None w ↦
          let out : is_within 1 greatest_school n ≡ false = search rules in
          rw w.in_range-is (schools, SoFar-other text start next _ _ (first_word (drop start text)) n so_far cut some word.0 out)
    ]

pub loop-start-preserved : goal.loop-start-preserved
loop-start-preserved c =
    let text = c.args.text.now in
    let start = c.loop-start.start in
    let space : get_or text start 0 ≡ 32 = search rules in
    let within = c.loop-start-test.true in
    (c.loop-start.invariant.0, SoFar-space text start (start + 1) _ _ c.loop-start.invariant.1 (words-space text start 0 within space))

pub returns-in-Err-2-clause-bad : goal.returns-in-Err-2-clause-bad
returns-in-Err-2-clause-bad c =
    let text = c.args.text.now in
    let start = c.loop-start.start in
    let other : (get_or text start 0 == 32) ≡ false = search rules in
    let read : first_number (slice_range text start (length text)) ≡ Err c.in-Err.field-0 = search rules in
    let word = first_number-err (drop start text) _ (rw (slice_range-rest text start) at read) in
    SoFar-bad text start (start + (length (first_word (drop start text)) + 1)) _ _ (first_word (drop start text)) _ c.loop-start.invariant.1
    (words-next text start _ refl) (first_word-some text start 0 c.loop-start-test.true other) word

pub returns-clause-read : goal.returns-clause-read
returns-clause-read c =
    ap cause_of_list (SoFar-end c.args.text.now c.loop-start.start _ _ c.loop-start.invariant.1 c.loop-start-test.false)
    ∙ cause-of c.loop-start.in_range c.loop-start.invariant.0
