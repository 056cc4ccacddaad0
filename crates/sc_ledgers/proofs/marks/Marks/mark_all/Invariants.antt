use Rattle.std.proofs.Common.{◌≡◌, ◌⊎◌, ◌<◌, ℕ, Bool, nat_eq, position, Some, true, slice_get}
use Rattle.sc_papers.specs.Market.{schools_of}
use Rattle.sc_ledgers.specs.Marks.{marked_in, FlagsPass, IsNamed, MarksMore}
use Rattle.sc_ledgers.specs.declared.elsewhere.Stance.{Stance}
use Rattle.sc_ledgers.proofs.marks.Marks.mark_all.Given as goal

abbrev pub invariant-loop-stance : goal.invariant-loop-stance
invariant-loop-stance l =
    MarksMore l.fn.self l.self
    × ((j : ℕ) (x : Stance) (s : ℕ) → j < l.stance-index → slice_get l.stances j ≡ Some x → (x.old ≡ Some s) ⊎ (x.new ≡ Some s) → marked_in l.papers l.self.flags s ≡ true)
    × ((test : ℕ → Bool) → ((s p : ℕ) → IsNamed l.stances s → position (nat_eq s) (schools_of l.papers) ≡ Some p → test p ≡ true) → FlagsPass test l.fn.self.flags → FlagsPass test l.self.flags)
