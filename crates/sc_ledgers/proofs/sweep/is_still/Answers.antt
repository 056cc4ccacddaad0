use Rattle.std.proofs.Common.{◌≡◌, Bool, not, true, false, refl, IfSome, Option, None, Some, ℕ, sym, subst, ◌∙◌, ◌-◌, All, drop, get_or, length, arith}
use Rattle.std.proofs.lemmas.List.{length-drop, take_all}
use Rattle.std.proofs.lemmas.Bool.{false≢true}
use Rattle.sc_ledgers.specs.Marks.{marked_in}
use Rattle.sc_ledgers.proofs.sweep.is_still.Goals as goal

not-true : (b : Bool) → not b ≡ true → b ≡ false
not-true true is = absurd (false≢true is)
not-true false is = refl

-- what is told of a place, if there is one
fails : (found : Option ℕ) (test : ℕ → Bool) (b : Bool) → IfSome found (λ place. b ≡ test place) → b ≡ false → IfSome found (λ place. test place ≡ false)
fails None test b told is = tt
fails (Some place) test b told is = sym told ∙ is

pub returns-clause-unended : goal.returns-clause-unended
returns-clause-unended c is =
    fails c.args.end (λ place. get_or c.args.marks.now.flags place false) c.is_marked.result c.is_marked.ensures (not-true c.is_marked.result is)

pub returns-clause-made_too : goal.returns-clause-made_too
returns-clause-made_too c is =
    let rest = c.args.segment.now in
    let p : ℕ = c.refusals_too-refused.result in (
      p,
      c.refusals_too-refused.ensures.refused,
      subst (All (λ e. marked_in c.args.rows.now.papers.now c.args.marks.now.flags e.school ≡ false)) (take_all (length rest - p) (drop p rest) (omega (arith, length-drop p rest))) (c.have_any.ensures c.if-have_any.false),
    )
