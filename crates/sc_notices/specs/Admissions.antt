-- Whom each school admits, and who waits for it.
use Rattle.std.specs.Prelude.{ℕ, Bool, ◌==◌, List, map, filter}
use Rattle.std.specs.List.{list_any}
use Rattle.sc_papers.specs.Key.{key_of}
use Rattle.sc_papers.specs.Market.{Market, students_of}
use Rattle.sc_papers.specs.Matching.{Matching, has}
use Rattle.sc_papers.specs.declared.key.Key.{Key}
use Rattle.sc_reasons.specs.Reason.{preferred}
use Rattle.sc_seats.specs.Roll.{in_order}

-- whether i waits for s: whether i prefers s to what i has
abbrev pub waits : Market → Matching → ℕ → ℕ → Bool
waits m a s i = list_any (λ t. t == s) (preferred m a i)

-- the keys at s of those of the students who pass a test
abbrev pub keys_passing : Market → (ℕ → Bool) → List ℕ → ℕ → List Key
keys_passing m passes students s = map (λ i. key_of m i s) (filter passes students)

-- the class list of s: the keys of those who have it, best first
unfoldable pub class_list : Market → Matching → ℕ → List Key
class_list m a s = in_order (keys_passing m (has a s) (students_of m) s)

-- the waiting list of s: the keys of those who wait for it, best first
unfoldable pub waiting_list : Market → Matching → ℕ → List Key
waiting_list m a s = in_order (keys_passing m (waits m a s) (students_of m) s)
