use Rattle.std.proofs.Common.{[], ◌∷◌, ◌∙◌}
use Rattle.sc_papers.specs.Interleaving.{after_list}
use Rattle.sc_papers.proofs.Weaving.{after-lists, after-accepted, after-refused, verdict-at, well-list}
use Rattle.sc_papers.proofs.laws.amendments_are_answered_in_turn.Goals as goal

pub returns-clause-verdicts : goal.returns-clause-verdicts
returns-clause-verdicts c = verdict-at

pub returns-clause-accepted : goal.returns-clause-accepted
returns-clause-accepted c = λ m list a accepted. after-lists m list (a ∷ []) ∙ after-accepted (after_list m list) a accepted

pub returns-clause-refused : goal.returns-clause-refused
returns-clause-refused c = λ m list a refusal refused. after-lists m list (a ∷ []) ∙ after-refused (after_list m list) a refusal refused

pub returns-clause-well_formed : goal.returns-clause-well_formed
returns-clause-well_formed c = well-list
