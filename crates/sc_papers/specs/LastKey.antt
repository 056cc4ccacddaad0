-- The last of some keys.
use Rattle.std.specs.Prelude.{◌≡◌, false, List, [], All, Contains, Option, IfNone, IfSome}
use Rattle.sc_papers.specs.Key.{is_before}
use Rattle.sc_papers.specs.declared.key.Key.{Key}

-- the last of these keys, which is ahead of none of them; none where there are none
pub record IsLastOf (last : Option Key) (keys : List Key) : Type 0 where
  pub held : IfSome last (Contains keys)
  pub behind : IfSome last (λ key. All (λ other. is_before key other ≡ false) keys)
  pub none : IfNone last (keys ≡ [])
