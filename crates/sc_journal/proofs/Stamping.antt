-- What an accepted amendment does to the count of accepted amendments.
use Rattle.std.proofs.Common.{◌≡◌, ◌+◌, refl}
use Rattle.sc_papers.specs.declared.amendment.Amendment.{Amendment}
use Rattle.sc_papers.specs.declared.amendment.Amendment.TheVariants.{Enter, Withdraw, Rerank, Add, Close, Correct}
use Rattle.sc_stamps.specs.Verdict.{StampedPapers, stamped_after}

-- it is one more
pub accepted-after : (p : StampedPapers) (a : Amendment) → (stamped_after p a).stamps.accepted ≡ p.stamps.accepted + 1
accepted-after p (Enter i zone siblings choices continuing) = refl
accepted-after p (Withdraw i) = refl
accepted-after p (Rerank i choices) = refl
accepted-after p (Add s count) = refl
accepted-after p (Close s count) = refl
accepted-after p (Correct i zone siblings continuing) = refl
