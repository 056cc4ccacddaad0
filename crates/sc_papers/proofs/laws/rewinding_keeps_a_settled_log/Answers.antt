use Rattle.sc_papers.proofs.Rewinding.{settled-rewound}
use Rattle.sc_papers.proofs.laws.rewinding_keeps_a_settled_log.Goals as goal

pub returns-clause-log : goal.returns-clause-log
returns-clause-log c = settled-rewound

pub returns-clause-segments : goal.returns-clause-segments
returns-clause-segments c = λ m n k segments alike segmented low. settled-rewound m n k _ alike (segmented.settled k low)
