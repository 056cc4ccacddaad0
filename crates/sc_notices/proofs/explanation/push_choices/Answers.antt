use Rattle.std.proofs.Common.{◌≡◌, refl, sym, ◌∙◌, ap, ℕ, ◌≤◌, ◌||◌, ◌++◌, None, Some, length, slice_get, arith}
use Rattle.std.specs.Prelude.{flat_map}
use Rattle.std.proofs.lemmas.List.{take_all}
use Rattle.std.proofs.lemmas.Option.{slice_get_within}
use Rattle.sc_papers.specs.Key.{key_of}
use Rattle.sc_papers.specs.Market.{choices_of}
use Rattle.sc_papers.proofs.Choices.{places-end}
use Rattle.sc_papers.proofs.Hands.{hand-is}
use Rattle.sc_papers.proofs.Students.{choices-short}
use Rattle.sc_reasons.specs.Reason.{reason_by}
use Rattle.sc_notices.specs.Explanation.{is_given, outcome_by}
use Rattle.sc_notices.specs.Lottery.{ticket_of}
use Rattle.sc_notices.specs.ExplanationText.{choice_line}
use Rattle.sc_notices.proofs.LotteryLemmas.{rank-read}
use Rattle.sc_notices.proofs.ExplanationLemmas.{before-more, choices-more, ranked, ranked-length}
use Rattle.sc_notices.proofs.explanation.push_choices.Goals as goal

pub push_choice-requires : goal.push_choice-requires
push_choice-requires c =
    let m = c.args.papers.now in
    let i = c.args.entrant.student in
    let here : slice_get (choices_of m i) c.ranks.rank ≡ Some c.in-Some.choice.school =
    sym (c.in-Some.ensures.school ∙ ap (λ (j : ℕ). slice_get (choices_of m j) c.ranks.rank) (hand-is m c.args.entrant.position i c.requires.stands)) in
    omega (arith, slice_get_within (choices_of m i) c.ranks.rank c.in-Some.choice.school here, choices-short m c.students_len.ensures.within_limits i)

pub overflow_add-rank : goal.overflow_add-rank
overflow_add-rank c =
    let m = c.args.papers.now in
    let i = c.args.entrant.student in
    let here : slice_get (choices_of m i) c.ranks.rank ≡ Some c.in-Some.choice.school =
    sym (c.in-Some.ensures.school ∙ ap (λ (j : ℕ). slice_get (choices_of m j) c.ranks.rank) (hand-is m c.args.entrant.position i c.requires.stands)) in
    omega (arith, slice_get_within (choices_of m i) c.ranks.rank c.in-Some.choice.school here, choices-short m c.students_len.ensures.within_limits i)

pub ranks-smaller : goal.ranks-smaller
ranks-smaller c =
    let m = c.args.papers.now in
    let i = c.args.entrant.student in
    let here : slice_get (choices_of m i) c.ranks.rank ≡ Some c.in-Some.choice.school =
    sym (c.in-Some.ensures.school ∙ ap (λ (j : ℕ). slice_get (choices_of m j) c.ranks.rank) (hand-is m c.args.entrant.position i c.requires.stands)) in
    omega (arith, slice_get_within (choices_of m i) c.ranks.rank c.in-Some.choice.school here)

pub ranks-preserved : goal.ranks-preserved
ranks-preserved c =
    let m = c.args.papers.now in
    let i = c.args.entrant.student in
    let k = c.ranks.rank in
    let s = c.in-Some.choice.school in
    let cut = c.cutoff_of-cutoff.result in
    let key = c.in-Some.choice.key in
    let held = c.args.entrant.held in
    let same = hand-is m c.args.entrant.position i c.requires.stands in
    let here : slice_get (choices_of m i) k ≡ Some s = sym (c.in-Some.ensures.school ∙ ap (λ (j : ℕ). slice_get (choices_of m j) k) same) in
    record {
      past = λ a are holds.
          let given = ap (λ o. is_given o s) (sym holds) in
          c.in_ok-is_past.ensures.past ∙ (λ t. c.ranks.invariant.past a are holds t || given t) ∙ sym (before-more m a i k s here);
      lines = λ a are holds.
          let given = ap (λ o. is_given o s) (sym holds) in
          choices-more m a i k s key c.rank_of-own.result cut c.cutoff_rank_at-last.result (outcome_by (is_given held s) c.ranks.is_past (reason_by cut key)) (is_given held s) c.ranks.is_past c.args.number.now
          c.args.text.now.items c.ranks.text.items c.extend_from_slice.new.self.items c.push_choice.new.text.items
          here c.requires.number (c.in-Some.ensures.key ∙ ap (λ (j : ℕ). key_of m j s) same)
          (c.rank_of-own.ensures i (c.ticket_at-ticket.ensures ∙ ap (ticket_of m) same))
          (c.cutoff_of-cutoff.ensures m a are c.in-Some.ensures.position)
          (rank-read m a c.args.rows.now c.args.lottery.now s c.in-Some.choice.position cut c.cutoff_rank_at-last.result c.requires.lottery are c.in-Some.ensures.position
          (c.cutoff_of-cutoff.ensures m a are c.in-Some.ensures.position) c.cutoff_rank_at-last.ensures)
          given (c.ranks.invariant.past a are holds) refl (c.ranks.invariant.lines a are holds) c.in_ok-extend_from_slice.ensures.items c.in_ok-is_past.ensures.text;
      within = omega (arith, slice_get_within (choices_of m i) k s here);
    }

pub returns : goal.returns
returns c a are holds =
    let m = c.args.papers.now in
    let i = c.args.entrant.student in
    let k = c.ranks.rank in
    let none : slice_get (choices_of m i) k ≡ None =
    sym (c.in_default.ensures.school ∙ ap (λ (j : ℕ). slice_get (choices_of m j) k) (hand-is m c.args.entrant.position i c.requires.stands)) in
    let past : length (choices_of m i) ≤ k = places-end (choices_of m i) k none in
    c.ranks.invariant.lines a are holds
    ∙ ap (λ choices. c.args.text.now.items ++ flat_map (λ (choice : ℕ × ℕ). choice_line m a i choice.0 choice.1) choices)
    (take_all k (ranked m i) (omega (arith, past, ranked-length m i)))
