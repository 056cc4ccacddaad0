-- Where clap finds no fault in the words, a subcommand is there with each option that it needs.
use Rattle.std.proofs.Common.{◌≡◌, ◌∙◌, ◌<◌, ◌||◌, ◌&&◌, ◌++◌, ℕ, Bool, cond, not, true, false, List, [], ◌∷◌, length, Option, Some, None, IfSome, IsSome, IsSomeAnd, inl, inr, is_some, option_map, unwrap_or, refl, sym, subst, true≢false, arith, codes}
use Rattle.std.specs.Prelude.{⊤, fold, slice_get, option_and_then}
use Rattle.std.specs.List.{find, list_all, list_any}
use Rattle.std.specs.Option.{option_map_or}
use Rattle.std.specs.Str.{bytes_eq}
use Rattle.std.proofs.lemmas.Slice.Eq.{bytes_eq-Decides}
use Rattle.clap.specs.Facts.{explicit_source}
use Rattle.clap.specs.Walk.{Held, Names, Outcome, Row, Rule, Step, Text, Waiting, Walk, after_flag, after_step, answers_to, arg_by_index, arg_by_long, bundle, first_of, long_met, long_or_other, nothing_held, plain_word, rows_after, settled, stop_after, short_or_plain, subcommand_met, subcommand_or_other, to_positional, walk, walk_from, walked, walked_from, word_met}
use Rattle.clap.specs.Walk.{done, waits, plain, refused, idle, option, positional, next, trailing, subcommand, value}
use Rattle.clap.specs.Lexer.{long_of, short_of}
use Rattle.clap.specs.Takes.{is_given}
use Rattle.clap.specs.Kinds.{Kinds, check_kinds, or_else}
use Rattle.clap.specs.Faults.{built_fault, defaults_fault, entered_fault, fault_of, level_fault, other_fault, settle_fault, step_fault, turn_fault, walk_fault, word_fault}
use Rattle.clap.specs.Simple.{App, Shape, built, entered, label_of, names_of, rows_at, subcommand_of}
use Rattle.clap.proofs.OnLiterals.{clap_on_literals}
use Rattle.sc_words.specs.CommandLine.{check_names, command_line, opening_names, run_names, audit_names, replay_names, export_names, summary_names, explain_names, admissions_names, changes_names}
use Rattle.sc_words.specs.Complete.{HasOptions, IsComplete, IsOneOf, needed_options}
use Rattle.sc_words.proofs.Filled.{IsFilled, cons_some, fills, level_fills, no_first, no_next}

-- ---- no word asks for the subcommand `help`

abbrev IsNoHelp : Text → Type 0
IsNoHelp name = bytes_eq name (codes "help") ≡ false

abbrev AsksNoHelp : Step → Type 0
AsksNoHelp (subcommand name) = IsNoHelp name
AsksNoHelp _ = ⊤

abbrev StopsAtNoHelp : Option (Text × List Text) → Type 0
StopsAtNoHelp stop = IfSome stop (λ p. IsNoHelp p.0)

plain_asks : (c : List Rule) (waiting : Waiting) (word : Text) (h : Held) → AsksNoHelp (plain_word c waiting word h).1
plain_asks c idle word h = tt
plain_asks c (option id) word h = tt
plain_asks c positional word h = tt

after_asks : (c : List Rule) (waiting : Waiting) (word : Text) (h : Held) (o : Outcome) → AsksNoHelp (after_flag c waiting word h o).1
after_asks c waiting word h done = tt
after_asks c waiting word h (waits id) = tt
after_asks c waiting word h plain = plain_asks c waiting word h
after_asks c waiting word h refused = plain_asks c waiting word h

short_asks : (c : List Rule) (waiting : Waiting) (word : Text) (o : Option Text) (h : Held) → AsksNoHelp (short_or_plain c waiting word o h).1
short_asks c waiting word None h = plain_asks c waiting word h
short_asks c waiting word (Some flags) h = after_asks c waiting word (bundle c flags h).0 (bundle c flags h).1

long_asks : (c : List Rule) (waiting : Waiting) (word : Text) (o : Option (Text × Option Text)) (h : Held) → AsksNoHelp (long_or_other c waiting word o h).1
long_asks c waiting word (Some p) h = after_asks c waiting word (long_met c (arg_by_long c p.0) p.1 h).0 (long_met c (arg_by_long c p.0) p.1 h).1
long_asks c waiting word None h = short_asks c waiting word (short_of word) h

module _ (s : Shape) (names : Names) (enabled : s.disable_help_subcommand ≡ false) where
  other_asks : (o : Option Text) (waiting : Waiting) (position : ℕ) (word : Text) (h : Held) → other_fault s o word h ≡ []
      → AsksNoHelp (subcommand_or_other s.rules o waiting position word h).1
  other_asks (Some name) waiting position word h none = go (bytes_eq name (codes "help")) refl
    where
      go : (b : Bool) → bytes_eq name (codes "help") ≡ b → bytes_eq name (codes "help") ≡ false
      go false e = e
      go true e = absurd (cons_some _ _ (rw (e, enabled) at none))
  other_asks None waiting position word h none = go (bytes_eq word (45 ∷ 45 ∷ []))
    where
      go : (b : Bool) → AsksNoHelp (cond b (h, trailing position) (long_or_other s.rules waiting word (long_of word) h)).1
      go true = tt
      go false = long_asks s.rules waiting word (long_of word) h

  word_asks : (is_trailing : Bool) (waiting : Waiting) (position : ℕ) (word : Text) (h : Held) → word_fault s names is_trailing waiting word h ≡ []
      → AsksNoHelp (word_met s.rules names is_trailing waiting position word h).1
  word_asks true waiting position word h none = tt
  word_asks false waiting position word h none = other_asks (subcommand_met names waiting word) waiting position word h none

  positional_stops : (o : Option Rule) (word : Text) (w : Walk) (h : Held) → StopsAtNoHelp w.stopped → StopsAtNoHelp (to_positional s.rules o word w h).stopped
  positional_stops None word w h f = f
  positional_stops (Some a) word w h f = tt

  step_stops : (step : Step) (word : Text) (w : Walk) (h : Held) → AsksNoHelp step → StopsAtNoHelp w.stopped → StopsAtNoHelp (after_step s.rules word w h step).stopped
  step_stops (next waiting) word w h asks f = f
  step_stops (trailing p) word w h asks f = f
  step_stops (subcommand name) word w h asks f = asks
  step_stops value word w h asks f = positional_stops (arg_by_index s.rules w.position) word w h f

  turn_stops : (w : Walk) (word : Text) → turn_fault s names w word ≡ [] → StopsAtNoHelp w.stopped → StopsAtNoHelp (walked s.rules names w word).stopped
  unfolding walked
  turn_stops w word none f = go w.stopped none f
    where
      go : (o : Option (Text × List Text))
          → (let met = word_met s.rules names w.is_trailing w.waiting w.position word w.held in
          cond (is_some o) [] (or_else (word_fault s names w.is_trailing w.waiting word w.held) (step_fault s w.position met.0 met.1)) ≡ [])
          → StopsAtNoHelp o → StopsAtNoHelp (walked_from s.rules names o w word).stopped
      go (Some p) none g = g
      go None none g =
          let met = word_met s.rules names w.is_trailing w.waiting w.position word w.held in
          let fault = word_fault s names w.is_trailing w.waiting word w.held in
          step_stops met.1 word w met.0 (word_asks w.is_trailing w.waiting w.position word w.held (no_first fault _ none)) f

  walk_stops : (words : List Text) (w : Walk) → walk_fault s names w words ≡ [] → StopsAtNoHelp w.stopped → StopsAtNoHelp (fold (walked s.rules names) w words).stopped
  unfolding walk_fault
  walk_stops [] w none f = f
  walk_stops (x ∷ xs) w none f =
      walk_stops xs (walked s.rules names w x) (no_next (turn_fault s names w x) _ none) (turn_stops w x (no_first (turn_fault s names w x) _ none) f)

-- ---- what must be given is given

no_third : (x y z : Bool) → check_kinds x y z ≡ [] → z ≡ false
no_third true y z e = absurd (cons_some _ _ e)
no_third false true z e = absurd (cons_some _ _ e)
no_third false false true e = absurd (cons_some _ _ e)
no_third false false false e = refl

no_second : (x y z : Bool) → check_kinds x y z ≡ [] → y ≡ false
no_second true y z e = absurd (cons_some _ _ e)
no_second false true z e = absurd (cons_some _ _ e)
no_second false false z e = refl

abbrev needed : List Rule → List Text
needed [] = []
needed (a ∷ rest) = cond a.required (a.id ∷ needed rest) (needed rest)

has_first : (vs : List Text) → 0 < length vs → IsSome (slice_get vs 0)
has_first [] lt = absurd (omega arith)
has_first (v ∷ vs) lt = refl

abbrev IsExplicit : Option Row → Type 0
IsExplicit o = option_map_or (λ r. explicit_source r.source) o false ≡ true

abbrev HasValue : Option Row → Type 0
HasValue o = IsSome (option_and_then (λ r. slice_get r.values 0) o)

here_or_later : (b : Bool) (r : Row) (later : Option Row) → 0 < length r.values → (IsExplicit later → HasValue later) → IsExplicit (cond b (Some r) later) → HasValue (cond b (Some r) later)
here_or_later true r later lt below e = has_first r.values lt
here_or_later false r later lt below e = below e

find_filled : (p : Row → Bool) (rows : List Row) → IsFilled rows → IsExplicit (find p rows) → HasValue (find p rows)
find_filled p [] f e = absurd (true≢false (sym e))
find_filled p (r ∷ rs) f e = here_or_later (p r) r (find p rs) f.0 (find_filled p rs f.1) e

all_given : (rows : List Row) (rules : List Rule) → IsFilled rows → list_any (λ a. a.required && not (is_given a.id rows)) rules ≡ false → HasOptions rows (needed rules)
all_given rows [] f none = tt
all_given rows (a ∷ rest) f none = go a.required (is_given a.id rows) (all_given rows rest f) (find_filled (λ r. bytes_eq r.id a.id) rows f) none
  where
    go : (x y : Bool) → (list_any (λ a. a.required && not (is_given a.id rows)) rest ≡ false → HasOptions rows (needed rest))
        → (y ≡ true → IsSome (first_of a.id rows)) → ((x && not y) || list_any (λ a. a.required && not (is_given a.id rows)) rest) ≡ false
        → HasOptions rows (cond x (a.id ∷ needed rest) (needed rest))
    go true true later one e = (one refl, later e)
    go true false later one e = absurd (true≢false e)
    go false y later one e = later e

-- a subcommand that has no fault has each option that it needs
pub leaf_has : (s : Shape) (ids : List Text) (words : List Text) → list_all fills s.rules ≡ true → s.subcommand_negates_reqs ≡ false → needed s.rules ≡ ids
    → level_fault s [] nothing_held words false [] ≡ [] → HasOptions (rows_after s.rules [] words) ids
leaf_has s ids words all keeps wants none =
    let rows = rows_after s.rules [] words in
    let end = (walk s.rules [] nothing_held words).held in
    let checks = no_next (defaults_fault (settled s.rules end).rows s.rules) _ (no_next (settle_fault s.rules s.args_override_self end) _ (no_next (walk_fault s [] (walk_from nothing_held) words) _ none)) in
    let any : (not (s.subcommand_negates_reqs && false) && list_any (λ a. a.required && not (is_given a.id rows)) s.rules) ≡ false = no_third _ _ _ checks in
    subst (HasOptions rows) wants (all_given rows s.rules (level_fills s words all none) (rw keeps at any))

-- ---- the whole command line

record IsLeaf (s : Shape) (name : Text) (ids : List Text) : Type 0 where
  name_is : s.name ≡ name
  all : list_all fills s.rules ≡ true
  keeps : s.subcommand_negates_reqs ≡ false
  wants : needed s.rules ≡ ids

leaf_given : (s : Shape) (name : Text) (ids : List Text) (words : List Text) → IsLeaf s name ids → level_fault s [] nothing_held words false [] ≡ []
    → (s.name ≡ name) × HasOptions (rows_after s.rules [] words) ids
leaf_given s name ids words is none = (is.name_is, leaf_has s ids words is.all is.keeps is.wants none)

has_it : (x y : Bool) → (not x && y) ≡ false → y ≡ true → x ≡ true
has_it true y e is = refl
has_it false y e is = absurd (true≢false (sym is ∙ e))

abbrev AllLeaves : List Shape → List (Text × List Text) → Type 0
AllLeaves [] [] = ⊤
AllLeaves (s ∷ ss) (n ∷ ns) = IsLeaf s n.0 n.1 × AllLeaves ss ns
AllLeaves [] (n ∷ ns) = ⊥
AllLeaves (s ∷ ss) [] = ⊥

abbrev fault_at : List Text → Option Shape → Kinds
fault_at words o = option_map_or (λ s. level_fault s [] nothing_held words false []) o []

abbrev read_at : List Text → Option Shape → Option (Text × List Row)
read_at words o = option_map (λ s. rows_at s words) o

abbrev AnswersBy : List (Text × List Text) → List Text → Option Shape → Type 0
AnswersBy ns words o = fault_at words o ≡ [] → is_some (read_at words o) ≡ true → IsSomeAnd (read_at words o) (λ p. IsOneOf ns p.0 p.1)

also_of_more : (n : Text × List Text) (ns : List (Text × List Text)) (words : List Text) (o : Option Shape) → AnswersBy ns words o → AnswersBy (n ∷ ns) words o
also_of_more n ns words None by none some = absurd (true≢false (sym some))
also_of_more n ns words (Some s) by none some = inr (by none some)

here_or_after : (n : Text × List Text) (ns : List (Text × List Text)) (words : List Text) (b : Bool) (s : Shape) (o : Option Shape) → IsLeaf s n.0 n.1
    → AnswersBy ns words o → AnswersBy (n ∷ ns) words (cond b (Some s) o)
here_or_after n ns words true s o leaf by = λ none some. inl (leaf_given s _ _ words leaf none)
here_or_after n ns words false s o leaf by = also_of_more n ns words o by

nobody : (words : List Text) (b : Bool) (h : Shape) → (b ≡ true → ⊥) → AnswersBy [] words (cond b (Some h) None)
nobody words true h no_help none some = absurd (no_help refl)
nobody words false h no_help none some = absurd (true≢false (sym some))

one_of : (name : Text) (words : List Text) (h : Shape) → (answers_to name (label_of h) ≡ true → ⊥) → (ss : List Shape) (ns : List (Text × List Text)) → AllLeaves ss ns
    → AnswersBy ns words (find (λ s. answers_to name (label_of s)) (ss ++ h ∷ []))
one_of name words h no_help [] [] all = nobody words (answers_to name (label_of h)) h no_help
one_of name words h no_help (s ∷ ss) (n ∷ ns) all =
    here_or_after n ns words (answers_to name (label_of s)) s (find (λ s. answers_to name (label_of s)) (ss ++ h ∷ [])) all.0 (one_of name words h no_help ss ns all.1)
one_of name words h no_help [] (n ∷ ns) all = absurd all
one_of name words h no_help (s ∷ ss) [] all = absurd all

abbrev with_help : Shape → List Shape → Shape → App
with_help top ss h = record { top = top; subs = ss ++ h ∷ [] }

module _ (top : Shape) (ss : List Shape) (h : Shape) (ns : List (Text × List Text)) (enabled : top.disable_help_subcommand ≡ false) (needs : top.subcommand_required ≡ true)
    (helps : label_of h ≡ (codes "help", [])) (leaves_are : AllLeaves ss ns) where
  abbrev line : App
  line = with_help top ss h

  asks_help : (name : Text) → IsNoHelp name → answers_to name (label_of h) ≡ true → ⊥
  asks_help name other e = go (bytes_eq (codes "help") name) refl (subst (λ l. answers_to name l ≡ true) helps e)
    where
      go : (b : Bool) → bytes_eq (codes "help") name ≡ b → (b || false) ≡ true → ⊥
      go false is e = true≢false (sym e)
      go true is e = true≢false (subst (λ n. bytes_eq n (codes "help") ≡ false) (sym ((bytes_eq-Decides (codes "help") name).0 is)) other)

  stop_complete : (stop : Option (Text × List Text)) → StopsAtNoHelp stop → entered_fault line stop ≡ [] → is_some (entered line stop) ≡ true
      → IsSomeAnd (entered line stop) (λ p. IsOneOf ns p.0 p.1)
  stop_complete None other none some = absurd (true≢false (sym some))
  stop_complete (Some p) other none some = one_of p.0 p.1 h (asks_help p.0 other) ss ns leaves_are none some

  line_complete : (words : List Text) → built_fault line nothing_held words ≡ []
      → IsSomeAnd (entered line (stop_after top.rules (names_of line) words)) (λ p. IsOneOf ns p.0 p.1)
  line_complete words none =
      let stop = stop_after top.rules (names_of line) words in
      let end = (walk top.rules (names_of line) nothing_held words).held in
      let walks = walk_fault top (names_of line) (walk_from nothing_held) words in
      let after = no_next walks _ none in
      let checks = no_next (defaults_fault (settled top.rules end).rows top.rules) _ (no_next (settle_fault top.rules top.args_override_self end) _ (no_next (entered_fault line stop) _ after)) in
      stop_complete stop (walk_stops top (names_of line) enabled words (walk_from nothing_held) (no_first walks _ none) tt)
      (no_first (entered_fault line stop) _ after) (has_it _ _ (no_second _ _ _ checks) needs)

abbrev top : Shape
top = (built command_line).top

abbrev leaf : ℕ → Shape
leaf k = unwrap_or (slice_get (built command_line).subs k) top

abbrev leaves : List Shape
leaves = leaf 0 ∷ leaf 1 ∷ leaf 2 ∷ leaf 3 ∷ leaf 4 ∷ leaf 5 ∷ leaf 6 ∷ leaf 7 ∷ leaf 8 ∷ leaf 9 ∷ []

-- what clap adds of its own
abbrev helper : Shape
helper = leaf 10

-- nothing cites it: it shows a reader that these pieces are the whole command as clap builds it
built_is : with_help top leaves helper ≡ built command_line
unfolding clap_on_literals
built_is = refl

check_leaf : IsLeaf (leaf 0) (codes "check") check_names
unfolding clap_on_literals
check_leaf = record { name_is = refl; all = refl; keeps = refl; wants = refl }

match_leaf : IsLeaf (leaf 1) (codes "match") opening_names
unfolding clap_on_literals
match_leaf = record { name_is = refl; all = refl; keeps = refl; wants = refl }

run_leaf : IsLeaf (leaf 2) (codes "run") run_names
unfolding clap_on_literals
run_leaf = record { name_is = refl; all = refl; keeps = refl; wants = refl }

audit_leaf : IsLeaf (leaf 3) (codes "audit") audit_names
unfolding clap_on_literals
audit_leaf = record { name_is = refl; all = refl; keeps = refl; wants = refl }

replay_leaf : IsLeaf (leaf 4) (codes "replay") replay_names
unfolding clap_on_literals
replay_leaf = record { name_is = refl; all = refl; keeps = refl; wants = refl }

export_leaf : IsLeaf (leaf 5) (codes "export") export_names
unfolding clap_on_literals
export_leaf = record { name_is = refl; all = refl; keeps = refl; wants = refl }

summary_leaf : IsLeaf (leaf 6) (codes "summary") summary_names
unfolding clap_on_literals
summary_leaf = record { name_is = refl; all = refl; keeps = refl; wants = refl }

explain_leaf : IsLeaf (leaf 7) (codes "explain") explain_names
unfolding clap_on_literals
explain_leaf = record { name_is = refl; all = refl; keeps = refl; wants = refl }

admissions_leaf : IsLeaf (leaf 8) (codes "admissions") admissions_names
unfolding clap_on_literals
admissions_leaf = record { name_is = refl; all = refl; keeps = refl; wants = refl }

changes_leaf : IsLeaf (leaf 9) (codes "changes") changes_names
unfolding clap_on_literals
changes_leaf = record { name_is = refl; all = refl; keeps = refl; wants = refl }

all_leaves : AllLeaves leaves needed_options
all_leaves = (check_leaf, (match_leaf, (run_leaf, (audit_leaf, (replay_leaf, (export_leaf, (summary_leaf, (explain_leaf, (admissions_leaf, (changes_leaf, tt))))))))))

pub complete : (words : List Text) → fault_of command_line words ≡ [] → IsSomeAnd (subcommand_of command_line words) (λ p. IsComplete p.0 p.1)
complete words none = line_complete top leaves helper needed_options refl refl refl all_leaves words none
