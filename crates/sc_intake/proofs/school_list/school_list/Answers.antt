use Rattle.std.proofs.Common.{◌≡◌, ◌==◌, ◌+◌, ◌++◌, ◌∷◌, true, false, [], drop, length, get_or, slice_range, arith, rules, refl, inl, Ok, Err}
use Rattle.sc_papers.specs.declared.school_no.TheConstants.SchoolNo.{GREATEST as greatest_school}
use Rattle.sc_intake.specs.Field.{first_number, first_word, is_within}
use Rattle.sc_intake.proofs.Listing.{SoFar-bad, SoFar-end, SoFar-other, SoFar-school, SoFar-space}
use Rattle.sc_intake.proofs.Words.{ReadsNumber, first_number-err, first_word-some, reads-number, slice_range-rest, words-next, words-space}
use Rattle.sc_intake.proofs.school_list.school_list.Goals as goal
use Rattle.sc_intake.proofs.school_list.school_list.Goals.{in-Some+in_ok-push-in-Some, in-None}

pub overflow_add-start : goal.overflow_add-start
overflow_add-start c =
    let text = c.args.text.now in
    let start = c.loop-start.start in
    let read : first_number (slice_range text start (length text)) ≡ Ok (c.in-Ok.number, c.in-Ok.digits) = search rules in
    omega (arith, (reads-number text start _ _ read).short, c.loop-start-test.true)

pub overflow_add-start-in-Ok : goal.overflow_add-start-in-Ok
overflow_add-start-in-Ok c =
    let text = c.args.text.now in
    let start = c.loop-start.start in
    let read : first_number (slice_range text start (length text)) ≡ Ok (c.in-Ok.number, c.in-Ok.digits) = search rules in
    omega (arith, (reads-number text start _ _ read).short, c.loop-start-test.true)

pub loop-start-preserved-in-Ok : goal.loop-start-preserved-in-Ok
loop-start-preserved-in-Ok c =
    let text = c.args.text.now in
    let start = c.loop-start.start in
    let n = c.in-Ok.number in
    let digits = c.in-Ok.digits in
    let read : first_number (slice_range text start (length text)) ≡ Ok (n, digits) = search rules in
    let word : ReadsNumber text start n digits = reads-number text start n digits read in
    let next = start + (digits + 1) in
    elim c.match-new.branch [
      | in-Some+in_ok-push-in-Some w ↦
          let school : is_within 1 greatest_school n ≡ true = search rules in
          let items : w.push.new.self.items ≡ c.loop-start.schools.items ++ n ∷ [] = search rules in
          rw (w.schools-is, w.in_range-is) (SoFar-school text start next _ _ _ (first_word (drop start text)) n c.loop-start.invariant word.cut word.some word.number school items)
      | in-None w ↦
          let out : is_within 1 greatest_school n ≡ false = search rules in
          rw (w.schools-is, w.in_range-is) (SoFar-other text start next _ _ (first_word (drop start text)) n c.loop-start.invariant word.cut word.some word.number out)
    ]

pub loop-start-preserved : goal.loop-start-preserved
loop-start-preserved c =
    let text = c.args.text.now in
    let start = c.loop-start.start in
    let space : get_or text start 0 ≡ 32 = search rules in
    SoFar-space text start (start + 1) _ _ c.loop-start.invariant (words-space text start 0 c.loop-start-test.true space)

pub returns-in-Err-2 : goal.returns-in-Err-2
returns-in-Err-2 c =
    let text = c.args.text.now in
    let start = c.loop-start.start in
    let other : (get_or text start 0 == 32) ≡ false = search rules in
    let read : first_number (slice_range text start (length text)) ≡ Err c.in-Err.field-0 = search rules in
    let word = first_number-err (drop start text) _ (rw (slice_range-rest text start) at read) in
    inl (SoFar-bad text start (start + (length (first_word (drop start text)) + 1)) _ _ (first_word (drop start text)) _ c.loop-start.invariant
    (words-next text start _ refl) (first_word-some text start 0 c.loop-start-test.true other) word)

pub returns-then-not-in_range : goal.returns-then-not-in_range
returns-then-not-in_range c =
    let out : c.loop-start.in_range ≡ false = search rules in
    rw out at (SoFar-end c.args.text.now c.loop-start.start _ _ c.loop-start.invariant c.loop-start-test.false)

pub returns : goal.returns
returns c =
    let all : c.loop-start.in_range ≡ true = search rules in
    let kept : c.loop-start.schools.items ≡ c.from_vec.result = search rules in
    (rw (all, kept) at (SoFar-end c.args.text.now c.loop-start.start _ _ c.loop-start.invariant c.loop-start-test.false))
