use Rattle.std.proofs.Common.{ℕ, List, [], ◌∷◌, subst}
use Rattle.std.proofs.lemmas.List.Elements.{All-head}
use Rattle.sc_papers.specs.Market.{student_at}
use Rattle.sc_engine.specs.Round.{view_of}
use Rattle.sc_engine.specs.RoundView.{IsPutOut}
use Rattle.sc_engine.specs.Together.{entries_of, Waits}
use Rattle.sc_engine.specs.declared.round.chains.PutOut.{PutOut}
use Rattle.sc_engine.proofs.Together.{put_out_away, waits_noted_first}
use Rattle.sc_engine.proofs.round.Round.work_off.Given as given
use Rattle.sc_engine.proofs.round.Round.work_off.Goals as goal
use Rattle.sc_engine.proofs.round.Round.work_off.Goals.{In-Some, In_ok-at}

-- who is taken out is the first of those who have been put out
first : (g : given.Over) (c : In-Some g) (hands : List ℕ) → Waits c.args.papers.now (view_of g.R.Roll.keys g.R.Roll.seats c.args.self.now) hands (entries_of c.args.waiting.now.items)
    → Waits c.args.papers.now (view_of g.R.Roll.keys g.R.Roll.seats c.loop-self.self) hands (c.in-Some.out.entry ∷ entries_of c.pop_front.new.self.items)
first g c hands waits = subst (λ (l : List PutOut). Waits c.args.papers.now (view_of g.R.Roll.keys g.R.Roll.seats c.loop-self.self) hands (entries_of l)) c.in-Some.ensures.items (c.loop-self.invariant hands waits)

-- and is to propose once that is noted
noted : (g : given.Over) (c : In_ok-at g) (hands : List ℕ) → Waits c.args.papers.now (view_of g.R.Roll.keys g.R.Roll.seats c.loop-self.self) hands (c.in-Some.out.entry ∷ entries_of c.pop_front.new.self.items)
    → Waits c.args.papers.now (view_of g.R.Roll.keys g.R.Roll.seats c.note.new.self) (student_at c.args.papers.now c.in_ok-at.at ∷ hands) (entries_of c.pop_front.new.self.items)
noted g c hands waits =
    waits_noted_first c.args.papers.now (view_of g.R.Roll.keys g.R.Roll.seats c.loop-self.self) (view_of g.R.Roll.keys g.R.Roll.seats c.note.new.self) hands c.in-Some.out.entry (entries_of c.pop_front.new.self.items) c.in_ok-at.at c.in_ok-at.ensures.found c.in_ok-at.ensures.noted waits

pub note-requires-clause-away : goal.note-requires-clause-away
note-requires-clause-away g c =
    let (hands, waits) = c.requires.wait in
    (_, put_out_away c.args.papers.now (view_of g.R.Roll.keys g.R.Roll.seats c.loop-self.self) hands c.in-Some.out.entry (entries_of c.pop_front.new.self.items) (first g (goal.at.note-requires-clause-away g c).In-Some hands waits))

pub note-requires-clause-out : goal.note-requires-clause-out
note-requires-clause-out g c =
    let (hands, waits) = c.requires.wait in
    All-head (IsPutOut c.args.papers.now (view_of g.R.Roll.keys g.R.Roll.seats c.loop-self.self)) c.in-Some.out.entry (entries_of c.pop_front.new.self.items) (first g (goal.at.note-requires-clause-out g c).In-Some hands waits).put_out

pub propose_on-requires-clause-wait : goal.propose_on-requires-clause-wait
propose_on-requires-clause-wait g c =
    let (hands, waits) = c.requires.wait in
    let at = goal.at.propose_on-requires-clause-wait g c in
    (hands, entries_of c.pop_front.new.self.items, noted g at.In_ok-at hands (first g at.In-Some hands waits))

pub loop-self-preserved : goal.loop-self-preserved
loop-self-preserved g c hands waits =
    let at = goal.at.loop-self-preserved g c in
    c.in_ok-propose_on.ensures.wait hands [] (noted g at.In_ok-at hands (first g at.In-Some hands waits))
