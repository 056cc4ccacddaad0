-- What is known of a stamped amendment that is accepted.
use Rattle.std.proofs.Common.{◌≡◌, ◌<◌, arith, Bool, true, false, not, [], ◌∷◌, Option, None, Some, refl}
use Rattle.std.specs.Prelude.{nat_le, ◌==◌}
use Rattle.std.proofs.lemmas.Bool.Decides.{nat_tests}
use Rattle.sc_papers.specs.Verdict.{first_of, refuse_if, verdict}
use Rattle.sc_papers.specs.declared.amendment.Refusal.{Refusal}
use Rattle.sc_papers.specs.declared.amendment.Refusal.TheVariants.{Stale, Spent}
use Rattle.sc_papers.specs.declared.amendment.Stamped.{Stamped}
use Rattle.sc_stamps.specs.Record.{record_of}
use Rattle.sc_stamps.specs.Stamps.{stamp_of}
use Rattle.sc_stamps.specs.Verdict.{StampedPapers, stamp_verdict, stamped_verdict}

-- where neither of two objects, the first does not
first-none : (first second : Option Refusal) → first_of (first ∷ second ∷ []) ≡ None → first ≡ None
first-none None second none = refl
first-none (Some refusal) second none = cc

second-none : (first second : Option Refusal) → first_of (first ∷ second ∷ []) ≡ None → second ≡ None
second-none None None none = refl
second-none None (Some refusal) none = cc
second-none (Some refusal) second none = cc

-- the papers allow it
pub allowed-papers : (p : StampedPapers) (stamped : Stamped) → stamped_verdict p stamped ≡ None → verdict p.papers stamped.amendment ≡ None
allowed-papers p stamped none =
    first-none (verdict p.papers stamped.amendment) (stamp_verdict (stamp_of p.papers p.stamps (record_of stamped.amendment)) stamped.stamp p.stamps.accepted) none

not-refused : (test : Bool) (refusal : Refusal) → refuse_if test refusal ≡ None → test ≡ false
not-refused true refusal none = cc
not-refused false refusal none = refl

-- and there is a stamp left
pub allowed-room : (p : StampedPapers) (stamped : Stamped) → stamped_verdict p stamped ≡ None → p.stamps.accepted < 999999999
allowed-room p stamped none =
    let stands = stamp_of p.papers p.stamps (record_of stamped.amendment) in
    let stamps = second-none (verdict p.papers stamped.amendment) (stamp_verdict stands stamped.stamp p.stamps.accepted) none in
    let unspent = second-none (refuse_if (not (stands == stamped.stamp)) (Stale stands)) (refuse_if (nat_le 999999999 p.stamps.accepted) Spent) stamps in
    let room : nat_le 999999999 p.stamps.accepted ≡ false = not-refused (nat_le 999999999 p.stamps.accepted) Spent unspent in
    grind (arith, nat_tests)
