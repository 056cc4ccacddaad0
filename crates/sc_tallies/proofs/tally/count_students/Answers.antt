use Rattle.std.proofs.Common.{◌∙◌, ◌<◌, ap, arith, get_or, length, map, replicate, sym, List}
use Rattle.std.proofs.lemmas.List.{get_or-map, get_or-replicate, length-map, length-replicate, take_all}
use Rattle.std.proofs.lemmas.Map.Entries.{length-keys_of}
use Rattle.std.proofs.lemmas.Option.{slice_get-get_or}
use Rattle.sc_papers.specs.Market.{schools_of, students_of}
use Rattle.sc_tallies.specs.Tally.{no_tally, tally}
use Rattle.sc_tallies.specs.declared.tally.Tally.{Tally}
use Rattle.sc_tallies.proofs.Tallying.{tallies-none}
use Rattle.sc_tallies.proofs.tally.count_students.Goals as goal

pub loop-position-init : goal.loop-position-init
loop-position-init c =
    let m = c.args.papers.now in
    let none = c.requires.nobody in
    let count = ap length none ∙ length-replicate (length m.schools) no_tally in (
      count,
      (λ k d low. let held = ap (λ (ts : List Tally). (get_or ts k d).held) none ∙ ap (λ t. t.held) (get_or-replicate (length m.schools) k no_tally d (omega (arith, low, count))) in omega (arith, held)),
      (λ a is. none ∙ ap (λ n. replicate n no_tally) (sym (length-keys_of m.schools)) ∙ tallies-none m a (schools_of m)),
    )

pub loop-position-preserved : goal.loop-position-preserved
loop-position-preserved c =
    let m = c.args.papers.now in
    let k = c.loop-position.position in (
      c.count_student.ensures.schools,
      c.count_student.ensures.few,
      (λ a is.
          let low : k < length (students_of m) = omega (arith, c.loop-position-test.true, ap length is, length-map (students_of m) a) in
          c.count_student.ensures.counted a (get_or (students_of m) k 0) (slice_get-get_or (students_of m) k 0 low)
          (sym (c.index-places-position.is ∙ ap (λ xs. get_or xs k c.index-places-position.result) is ∙ get_or-map a (students_of m) k 0 c.index-places-position.result low))
          (c.loop-position.invariant.2 a is)),
    )

pub returns-clause-tallies : goal.returns-clause-tallies
returns-clause-tallies c a is =
    let m = c.args.papers.now in
    c.loop-position.invariant.2 a is
    ∙ ap (λ students. map (tally m a students) (schools_of m)) (take_all c.loop-position.position (students_of m) (omega (arith, c.loop-position-test.false, ap length is, length-map (students_of m) a)))
