-- Where the walk over the words has no fault, each of its rows has a value.
use Rattle.std.proofs.Common.{◌≡◌, ◌<◌, ◌++◌, ◌||◌, ◌&&◌, ℕ, Bool, cond, zero, suc, true, false, List, [], ◌∷◌, length, Option, Some, None, IfSome, is_some, refl, sym, ap, true≢false, arith, nat_lt, ltb-true}
use Rattle.std.specs.Prelude.{⊤, fold, if◌then◌else◌}
use Rattle.std.specs.List.{find, list_all}
use Rattle.std.specs.Option.{option_map_or}
use Rattle.std.specs.Str.{bytes_eq, chars}
use Rattle.std.specs.Prelude.{encode_utf8, drop, slice_get}
use Rattle.std.proofs.lemmas.List.{length-append}
use Rattle.clap.proofs.WalkLemmas.{both}
use Rattle.clap.specs.Facts.{unwrap_or_range}
use Rattle.clap.specs.Values.{is_request}
use Rattle.clap.specs.Walk.{Held, Names, Outcome, Row, Rule, Step, Text, Waiting, Walk, action_of, after_flag, after_step, arg_by_id, arg_by_index, arg_by_long, arg_by_short, at_row, attached_value, bundle, bundle_met, bundle_step, is_pending, flag_met, long_met, long_or_other, more_values, nothing_held, option_met, option_word, plain_word, positional_held, pushed, reacted, settled, settled_rows, short_met, short_or_plain, subcommand_met, subcommand_or_other, takes_several, takes_values, to_positional, default_rows, has_row, reading_by, rows_after, walk, walk_from, walked_from, used, used_as, used_by_id, walked, with_default, with_values, without, word_met}
use Rattle.clap.specs.Walk.{done, waits, plain, refused, idle, option, positional, next, trailing, subcommand, value}
use Rattle.clap.specs.Lexer.{long_of, short_of}
use Rattle.clap.specs.Kinds.{Kinds, or_else}
use Rattle.clap.specs.Faults.{bundle_fault, level_fault, stray_fault, bundle_step_fault, flag_word_fault, flags_fault, long_fault, option_fault, other_fault, positional_fault, react_fault, settle_fault, short_fault, step_fault, turn_fault, use_fault, walk_fault, word_fault}
use Rattle.clap.specs.Simple.{Shape}
use Rattle.clap.specs.declared.builder.action.ArgAction.{ArgAction}
use Rattle.clap.specs.declared.builder.action.ArgAction.TheVariants as action
use Rattle.clap.specs.declared.error.kind.ErrorKind.TheVariants as kind

abbrev pub IsFilled : List Row → Type 0
IsFilled [] = ⊤
IsFilled (r ∷ rs) = (0 < length r.values) × IsFilled rs

-- ---- kinds of fault

pub cons_some : (k : _) (ks : Kinds) → k ∷ ks ≡ [] → ⊥
cons_some k ks e = let bad : suc (length ks) ≡ 0 = ap length e in absurd (omega arith)

pub no_first : (a b : Kinds) → or_else a b ≡ [] → a ≡ []
no_first [] b e = refl
no_first (k ∷ ks) b e = e

pub no_next : (a b : Kinds) → or_else a b ≡ [] → b ≡ []
no_next [] b e = e
no_next (k ∷ ks) b e = absurd (cons_some k ks e)

-- ---- rows

choose : (b : Bool) (xs ys : List Row) → IsFilled xs → IsFilled ys → IsFilled (cond b xs ys)
choose true xs ys f g = f
choose false xs ys f g = g

joined : (xs ys : List Row) → IsFilled xs → IsFilled ys → IsFilled (xs ++ ys)
joined [] ys f g = g
joined (x ∷ xs) ys f g = (f.0, joined xs ys f.1 g)

at_filled : (id : Text) (change : Row → List Row) (missing rows : List Row) → ((r : Row) → 0 < length r.values → IsFilled (change r)) → IsFilled missing → IsFilled rows
    → IsFilled (at_row id change missing rows)
at_filled id change missing [] changed m f = m
at_filled id change missing (r ∷ rs) changed m f =
    choose (bytes_eq r.id id) (change r ++ rs) (r ∷ at_row id change missing rs) (joined (change r) rs (changed r f.0) f.1) (f.0, at_filled id change missing rs changed m f.1)

without_filled : (id : Text) (rows : List Row) → IsFilled rows → IsFilled (without id rows)
without_filled id rows f = at_filled id (λ _. []) [] rows (λ r lt. tt) tt f

values_filled : (id : Text) (how : _) (s : _) (values : List Text) (rows : List Row) → 0 < length values → IsFilled rows → IsFilled (with_values id how s values rows)
values_filled id how s values rows lt f = at_filled id (more_values s values) _ rows (λ r some. (omega (arith, length-append r.values values), tt)) (lt, tt) f

used_filled : (x : ArgAction) (id : Text) (how : _) (values : List Text) (rows : List Row) → 0 < length values → IsFilled rows → IsFilled (used_as x id how values rows)
used_filled action.Set id how values rows lt f = values_filled id how _ values (without id rows) lt (without_filled id rows f)
used_filled action.SetTrue id how values rows lt f = values_filled id how _ values (without id rows) lt (without_filled id rows f)
used_filled action.SetFalse id how values rows lt f = values_filled id how _ values (without id rows) lt (without_filled id rows f)
used_filled action.Append id how values rows lt f = values_filled id how _ values rows lt f
used_filled action.Count id how [] rows lt f = absurd (omega arith)
used_filled action.Count id how (v ∷ vs) rows lt f = values_filled id how _ (v ∷ vs) (without id rows) lt (without_filled id rows f)
used_filled action.Help id how values rows lt f = f
used_filled action.HelpShort id how values rows lt f = f
used_filled action.HelpLong id how values rows lt f = f
used_filled action.Version id how values rows lt f = f

request_filled : (x : ArgAction) (id : Text) (how : _) (values : List Text) (rows : List Row) → is_request x ≡ true → IsFilled rows → IsFilled (used_as x id how values rows)
request_filled action.Set id how values rows is f = absurd (true≢false (sym is))
request_filled action.SetTrue id how values rows is f = absurd (true≢false (sym is))
request_filled action.SetFalse id how values rows is f = absurd (true≢false (sym is))
request_filled action.Append id how values rows is f = absurd (true≢false (sym is))
request_filled action.Count id how values rows is f = absurd (true≢false (sym is))
request_filled action.Help id how values rows is f = f
request_filled action.HelpShort id how values rows is f = f
request_filled action.HelpLong id how values rows is f = f
request_filled action.Version id how values rows is f = f

abbrev least : Rule → ℕ
least a = (unwrap_or_range a.range).start_inclusive

-- a use of the argument gives its row a value, or is no more than a request
abbrev pub fills : Rule → Bool
fills a = nat_lt 0 (least a) || (nat_lt 0 (length a.missing) || is_request (action_of a))

use_filled : (again : Bool) (a : Rule) (values : List Text) (rows : List Row) → fills a ≡ true → use_fault again a values rows ≡ [] → IsFilled rows → IsFilled (used a values rows)
use_filled again a (v ∷ vs) rows is none f = used_filled (action_of a) a.id _ (v ∷ vs) rows (omega arith) f
use_filled again a [] rows is none f = go (nat_lt 0 (least a)) (nat_lt 0 (length a.missing)) (is_request (action_of a)) refl refl refl is
  where
    go : (x y z : Bool) → nat_lt 0 (least a) ≡ x → nat_lt 0 (length a.missing) ≡ y → is_request (action_of a) ≡ z → (x || (y || z)) ≡ true → IsFilled (used a [] rows)
    go true y z l m r h = absurd (cons_some _ _ (rw l at none))
    go false true z l m r h = used_filled (action_of a) a.id _ a.missing rows (ltb-true _ _ m) f
    go false false true l m r h = request_filled (action_of a) a.id _ a.missing rows r f
    go false false false l m r h = absurd (true≢false (sym h))

-- ---- the walk

pick : (p : Bool) (a : Rule) (o : Option Rule) → fills a ≡ true → IfSome o (λ x. fills x ≡ true) → IfSome (cond p (Some a) o) (λ x. fills x ≡ true)
pick true a o is rest = is
pick false a o is rest = rest

found : (p : Rule → Bool) (c : List Rule) → list_all fills c ≡ true → IfSome (find p c) (λ a. fills a ≡ true)
found p [] all = tt
found p (a ∷ rest) all =
    let parts = both (fills a) (list_all fills rest) all in
    pick (p a) a (find p rest) parts.0 (found p rest parts.1)

module _ (c : List Rule) (again : Bool) (all : list_all fills c ≡ true) where
  by_id : (o : Option Rule) (values : List Text) (rows : List Row) → IfSome o (λ a. fills a ≡ true) → option_map_or (λ a. use_fault again a values rows) o [] ≡ [] → IsFilled rows
      → IsFilled (used_by_id o values rows)
  by_id None values rows is none f = f
  by_id (Some a) values rows is none f = use_filled again a values rows is none f

  rows_settled : (p : Option (Text × List Text)) (rows : List Row)
      → option_map_or (λ q. option_map_or (λ a. use_fault again a q.1 rows) (arg_by_id c q.0) []) p [] ≡ [] → IsFilled rows → IsFilled (settled_rows c p rows)
  rows_settled None rows none f = f
  rows_settled (Some q) rows none f = by_id (arg_by_id c q.0) q.1 rows (found _ c all) none f

  settles : (h : Held) → settle_fault c again h ≡ [] → IsFilled h.rows → IsFilled (settled c h).rows
  settles h none f = rows_settled h.pending h.rows none f

  reacts : (a : Rule) (values : List Text) (h : Held) → fills a ≡ true → react_fault c again a values h ≡ [] → IsFilled h.rows → IsFilled (reacted c a values h).rows
  reacts a values h is none f = use_filled again a values (settled c h).rows is (no_next (settle_fault c again h) _ none) (settles h (no_first (settle_fault c again h) _ none) f)

  option_fills : (a : Rule) (v : Option Text) (h : Held) → fills a ≡ true → option_fault c again a v h ≡ [] → IsFilled h.rows → IsFilled (option_met c a v h).0.rows
  option_fills a (Some v) h is none f = reacts a (v ∷ []) h is none f
  option_fills a None h is none f = settles h none f

  long_fills : (o : Option Rule) (v : Option Text) (h : Held) → IfSome o (λ a. fills a ≡ true) → long_fault c again o v h ≡ [] → IsFilled h.rows → IsFilled (long_met c o v h).0.rows
  long_fills None v h is none f = f
  long_fills (Some a) v h is none f = go (takes_values a) v none
    where
      go : (b : Bool) (v : Option Text) → cond b (option_fault c again a v h) (if is_some v then kind.TooManyValues ∷ [] else react_fault c again a [] h) ≡ []
          → IsFilled (if b then option_met c a v h else flag_met c a v h).0.rows
      go true v none = option_fills a v h is none f
      go false (Some v) none = f
      go false None none = reacts a [] h is none f

  short_fills : (o : Option Rule) (rest : Text) (h : Held) (below : Held → Kinds) (met : Held → Held × Outcome) → IfSome o (λ a. fills a ≡ true)
      → ((k : Held) → below k ≡ [] → IsFilled k.rows → IsFilled (met k).0.rows) → short_fault c again o rest h below ≡ [] → IsFilled h.rows → IsFilled (short_met c o rest h met).0.rows
  short_fills None rest h below met is more none f = f
  short_fills (Some a) rest h below met is more none f = go (takes_values a) none
    where
      go : (b : Bool) → cond b (option_fault c again a (attached_value rest) h) (or_else (react_fault c again a [] h) (below (reacted c a [] h))) ≡ []
          → IsFilled (cond b (option_met c a (attached_value rest) h) (met (reacted c a [] h))).0.rows
      go true none = option_fills a (attached_value rest) h is none f
      go false none = more (reacted c a [] h) (no_next (react_fault c again a [] h) _ none) (reacts a [] h is (no_first (react_fault c again a [] h) _ none) f)

  step_fills : (o : Option ℕ) (flags : Text) (skip : ℕ) (so_far : Outcome) (h : Held) (below : Text → ℕ → Held → Kinds) (met : Text → ℕ → Outcome → Held → Held × Outcome)
      → ((flags : Text) (skip : ℕ) (so_far : Outcome) (i : Held) → below flags skip i ≡ [] → IsFilled i.rows → IsFilled (met flags skip so_far i).0.rows)
      → bundle_step_fault c again o flags skip h below ≡ [] → IsFilled h.rows → IsFilled (bundle_step c o flags skip so_far h met).0.rows
  step_fills None flags skip so_far h below met more none f = f
  step_fills (Some x) flags zero so_far h below met more none f =
      let rest = drop (length (encode_utf8 x)) flags in
      short_fills (arg_by_short c x) rest h (below rest 0) (met rest 0 done) (found _ c all) (more rest 0 done) none f
  step_fills (Some x) flags (suc skip) so_far h below met more none f = more (drop (length (encode_utf8 x)) flags) skip so_far h none f

  bundle_fills : (k : ℕ) (flags : Text) (skip : ℕ) (so_far : Outcome) (h : Held) → flags_fault c again k flags skip h ≡ [] → IsFilled h.rows
      → IsFilled (bundle_met c k flags skip so_far h).0.rows
  unfolding flags_fault bundle_met
  bundle_fills zero flags skip so_far h none f = f
  bundle_fills (suc k) flags skip so_far h none f =
      step_fills (slice_get (chars flags) 0) flags skip so_far h (flags_fault c again k) (bundle_met c k) (bundle_fills k) none f

  option_word_fills : (o : Option Rule) (id word : Text) (h : Held) → IsFilled h.rows → IsFilled (option_word o id word h).0.rows
  option_word_fills None id word h f = f
  option_word_fills (Some a) id word h f = f

  plain_fills : (waiting : Waiting) (word : Text) (h : Held) → IsFilled h.rows → IsFilled (plain_word c waiting word h).0.rows
  plain_fills idle word h f = f
  plain_fills (option id) word h f = option_word_fills (arg_by_id c id) id word h f
  plain_fills positional word h f = f

  after_fills : (waiting : Waiting) (word : Text) (h : Held) (o : Outcome) → IsFilled h.rows → IsFilled (after_flag c waiting word h o).0.rows
  after_fills waiting word h done f = f
  after_fills waiting word h (waits id) f = f
  after_fills waiting word h plain f = plain_fills waiting word h f
  after_fills waiting word h refused f = plain_fills waiting word h f

  short_word_fills : (waiting : Waiting) (word : Text) (o : Option Text) (h : Held) → option_map_or (λ flags. bundle_fault c again flags h) o [] ≡ [] → IsFilled h.rows
      → IsFilled (short_or_plain c waiting word o h).0.rows
  short_word_fills waiting word None h none f = plain_fills waiting word h f
  short_word_fills waiting word (Some flags) h none f =
      after_fills waiting word (bundle c flags h).0 (bundle c flags h).1 (bundle_fills (length flags) flags h.skip plain (record h { skip = 0 }) none f)

  flag_word_fills : (waiting : Waiting) (word : Text) (o : Option (Text × Option Text)) (h : Held) → flag_word_fault c again o word h ≡ [] → IsFilled h.rows
      → IsFilled (long_or_other c waiting word o h).0.rows
  flag_word_fills waiting word (Some p) h none f =
      let met = long_met c (arg_by_long c p.0) p.1 h in
      after_fills waiting word met.0 met.1 (long_fills (arg_by_long c p.0) p.1 h (found _ c all) none f)
  flag_word_fills waiting word None h none f = short_word_fills waiting word (short_of word) h none f

  goes_on : (a : Rule) (word : Text) (h : Held) → positional_fault c again a h ≡ [] → IsFilled h.rows → IsFilled (positional_held c a word h).rows
  goes_on a word h none f = go (is_pending a h.pending && takes_several a) none
    where
      go : (b : Bool) → cond b [] (settle_fault c again h) ≡ [] → IsFilled (pushed a.id word (cond b h (settled c h))).rows
      go true none = f
      go false none = settles h none f

module _ (s : Shape) (names : Names) (all : list_all fills s.rules ≡ true) where
  other_fills : (o : Option Text) (waiting : Waiting) (position : ℕ) (word : Text) (h : Held) → other_fault s o word h ≡ [] → IsFilled h.rows
      → IsFilled (subcommand_or_other s.rules o waiting position word h).0.rows
  other_fills (Some name) waiting position word h none f = f
  other_fills None waiting position word h none f = go (bytes_eq word (45 ∷ 45 ∷ [])) none
    where
      go : (b : Bool) → cond b [] (flag_word_fault s.rules s.args_override_self (long_of word) word h) ≡ []
          → IsFilled (cond b (h, trailing position) (long_or_other s.rules waiting word (long_of word) h)).0.rows
      go true none = f
      go false none = flag_word_fills s.rules s.args_override_self all waiting word (long_of word) h none f

  word_fills : (is_trailing : Bool) (waiting : Waiting) (position : ℕ) (word : Text) (h : Held) → word_fault s names is_trailing waiting word h ≡ [] → IsFilled h.rows
      → IsFilled (word_met s.rules names is_trailing waiting position word h).0.rows
  word_fills true waiting position word h none f = f
  word_fills false waiting position word h none f = other_fills (subcommand_met names waiting word) waiting position word h none f

  positional_fills : (o : Option Rule) (word : Text) (w : Walk) (h : Held) → option_map_or (λ a. positional_fault s.rules s.args_override_self a h) o (stray_fault s) ≡ [] → IsFilled h.rows
      → IsFilled (to_positional s.rules o word w h).held.rows
  positional_fills None word w h none f = f
  positional_fills (Some a) word w h none f = goes_on s.rules s.args_override_self all a word h none f

  step_kept : (step : Step) (word : Text) (w : Walk) (h : Held) → step_fault s w.position h step ≡ [] → IsFilled h.rows → IsFilled (after_step s.rules word w h step).held.rows
  step_kept (next waiting) word w h none f = f
  step_kept (trailing p) word w h none f = f
  step_kept (subcommand name) word w h none f = f
  step_kept value word w h none f = positional_fills (arg_by_index s.rules w.position) word w h none f

  turn_fills : (w : Walk) (word : Text) → turn_fault s names w word ≡ [] → IsFilled w.held.rows → IsFilled (walked s.rules names w word).held.rows
  unfolding walked
  turn_fills w word none f = go w.stopped none
    where
      go : (o : Option (Text × List Text))
          → (let met = word_met s.rules names w.is_trailing w.waiting w.position word w.held in
          cond (is_some o) [] (or_else (word_fault s names w.is_trailing w.waiting word w.held) (step_fault s w.position met.0 met.1)) ≡ [])
          → IsFilled (walked_from s.rules names o w word).held.rows
      go (Some p) none = f
      go None none =
          let met = word_met s.rules names w.is_trailing w.waiting w.position word w.held in
          let fault = word_fault s names w.is_trailing w.waiting word w.held in
          step_kept met.1 word w met.0 (no_next fault _ none) (word_fills w.is_trailing w.waiting w.position word w.held (no_first fault _ none) f)

  pub walk_fills : (words : List Text) (w : Walk) → walk_fault s names w words ≡ [] → IsFilled w.held.rows → IsFilled (fold (walked s.rules names) w words).held.rows
  unfolding walk_fault
  walk_fills [] w none f = f
  walk_fills (x ∷ xs) w none f =
      walk_fills xs (walked s.rules names w x) (no_next (turn_fault s names w x) _ none) (turn_fills w x (no_first (turn_fault s names w x) _ none) f)

-- ---- the end of the walk

defaults_fill : (c : List Rule) (rows : List Row) → IsFilled rows → IsFilled (fold with_default rows c)
defaults_fill [] rows f = f
defaults_fill (a ∷ rest) rows f = defaults_fill rest (with_default rows a) (choose (has_row a.id rows) rows (default_rows a.id (reading_by a) a.defaults rows) f (given a.defaults))
  where
    given : (vs : List Text) → IsFilled (default_rows a.id (reading_by a) vs rows)
    given [] = f
    given (v ∷ vs) = values_filled a.id (reading_by a) _ (v ∷ vs) rows (omega arith) f

-- the rows of a level that has no fault
pub level_fills : (s : Shape) (words : List Text) → list_all fills s.rules ≡ true → level_fault s [] nothing_held words false [] ≡ [] → IsFilled (rows_after s.rules [] words)
level_fills s words all none =
    let end = (walk s.rules [] nothing_held words).held in
    let walks = walk_fault s [] (walk_from nothing_held) words in
    let settles_fault = settle_fault s.rules s.args_override_self end in
    defaults_fill s.rules (settled s.rules end).rows
    (settles s.rules s.args_override_self all end (no_first settles_fault _ (no_next walks _ none)) (walk_fills s [] all words (walk_from nothing_held) (no_first walks _ none) tt))
