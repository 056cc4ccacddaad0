use Rattle.std.proofs.Common.{◌≡◌, ◌<◌, ◌++◌, ◌+◌, ◌==◌, ap, sym, ◌∙◌, drop, length, map, set, take, arith}
use Rattle.std.proofs.lemmas.Bool.{cond-false, cond-true, eq-eqb, ne_eqb}
use Rattle.std.proofs.lemmas.List.{set-get_or}
use Rattle.std.proofs.lemmas.List.Edits.{map_over_more}
use Rattle.sc_region.specs.Groups.{moved}
use Rattle.sc_region.proofs.grouping.renumber.Goals as goal
use Rattle.sc_region.proofs.grouping.renumber.Goals.{then-index-lost, else-index-lost}

pub loop-position-preserved : goal.loop-position-preserved
loop-position-preserved c =
    let kept = c.args.kept in
    let lost = c.args.lost in
    let old = c.args.groups.now.items in
    let now = c.loop-position.groups.items in
    let at = c.loop-position.position in
    let x = c.index.result.now in
    let low : at < length old = omega (arith, c.loop-position-test.true, c.len-position-end.ensures, c.args.groups.now.ok.0) in
    let more : set now at (moved kept lost x) ≡ map (moved kept lost) (take (at + 1) old) ++ drop (at + 1) old =
    map_over_more (moved kept lost) old now at x low c.loop-position.invariant c.index.ensures in
    elim c.if-index-lost.branch [
      | then-index-lost w ↦
          ap (λ (v : _). v.items) w.groups-is ∙ ap (set now at) (sym (cond-true (x == lost) kept x (eq-eqb x lost w.if-index-lost.true))) ∙ more
      | else-index-lost w ↦
          ap (λ (v : _). v.items) w.groups-is ∙ sym (set-get_or now at x) ∙ ap (set now at) (sym c.index.ensures ∙ sym (cond-false (x == lost) kept x (ne_eqb x lost w.if-index-lost.false))) ∙ more
    ]
