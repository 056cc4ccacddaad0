-- Texts with more fields than a line has.
use Rattle.std.proofs.Common.{◌≡◌, ℕ, ◌<◌, ◌≤◌, ◌==◌, Bool, true, false, List, length, refl, ap, arith}
use Rattle.std.specs.Prelude.{◌&&◌, nat_le, ok_or, Option, None, Some, Result, Ok, Err, codes, if◌then◌else◌}
use Rattle.std.proofs.lemmas.Bool.Decides.{nat_tests}
use Rattle.sc_papers.specs.declared.amendment.Amendment.{Amendment}
use Rattle.sc_decimal.specs.Fields.{field_at}
use Rattle.sc_lines.specs.Reading.{add_in, ◌>>=◌, amendment_in, close_in, correct_in, enter_in, is_named, line_of, number_in, ranged_in, rerank_in, withdraw_in, within}
use Rattle.sc_decimal.specs.Number.{read_plain_number}
use Rattle.sc_lines.specs.declared.line_no.TheConstants.LineNo.{GREATEST as greatest_line}
use Rattle.sc_lines.specs.declared.reading.JournalLine.{JournalLine}
use Rattle.sc_lines.specs.declared.unread.Unread.{Unread}
use Rattle.sc_lines.specs.declared.unread.Unread.TheVariants.{NoLine}

-- a test of two cases that come to the same
either : {A : Type 0} (b : Bool) (x y e : A) → x ≡ e → y ≡ e → (if b then x else y) ≡ e
either true x y e here there = here
either false x y e here there = there

-- fields that are more than any line has
module _ (fields : List (List ℕ)) (many : 7 < length fields) where
  other : (n : ℕ) → n ≤ 7 → (length fields == n) ≡ false
  other n few = grind (arith, nat_tests)

  no-enter : enter_in fields ≡ Err NoLine
  unfolding enter_in
  no-enter = rw (other 6 (omega arith), other 7 (omega arith)) refl

  no-withdraw : withdraw_in fields ≡ Err NoLine
  unfolding withdraw_in
  no-withdraw = rw (other 3 (omega arith)) refl

  no-rerank : rerank_in fields ≡ Err NoLine
  unfolding rerank_in
  no-rerank = rw (other 4 (omega arith)) refl

  no-add : add_in fields ≡ Err NoLine
  unfolding add_in
  no-add = rw (other 4 (omega arith)) refl

  no-close : close_in fields ≡ Err NoLine
  unfolding close_in
  no-close = rw (other 4 (omega arith)) refl

  no-correct : correct_in fields ≡ Err NoLine
  unfolding correct_in
  no-correct = rw (other 5 (omega arith), other 6 (omega arith)) refl

  -- they are no amendment
  no-amendment : amendment_in fields ≡ Err NoLine
  unfolding amendment_in
  no-amendment =
      either (is_named fields (codes "enter")) (enter_in fields) _ (Err NoLine) no-enter
      (either (is_named fields (codes "withdraw")) (withdraw_in fields) _ (Err NoLine) no-withdraw
      (either (is_named fields (codes "rerank")) (rerank_in fields) _ (Err NoLine) no-rerank
      (either (is_named fields (codes "add")) (add_in fields) _ (Err NoLine) no-add
      (either (is_named fields (codes "close")) (close_in fields) _ (Err NoLine) no-close
      (either (is_named fields (codes "correct")) (correct_in fields) (Err NoLine) (Err NoLine) no-correct refl)))))

-- a text that writes no number of a range is no line
no-number : (least greatest : ℕ) (text : List ℕ) (e : Unread) → ranged_in least greatest text ≡ Err e → e ≡ NoLine
unfolding number_in
no-number least greatest text e bad = by (read_plain_number text) bad
  where
    out : (b : Bool) (n : ℕ) → (if b then Ok n else Err NoLine) ≡ Err e → e ≡ NoLine
    out true n bad = cc bad
    out false n bad = cc bad

    by : (found : Option ℕ) → (ok_or found NoLine >>= within least greatest) ≡ Err e → e ≡ NoLine
    by None bad = cc bad
    by (Some n) bad = out (nat_le least n && nat_le n greatest) n bad

abbrev nothing : Result Amendment Unread
nothing = Err NoLine

abbrev numbered : ℕ → Amendment → Result JournalLine Unread
numbered n amendment = Ok (record { number = n; amendment = amendment })

-- fields that are more than any line has are no line
pub line_of-many : (fields : List (List ℕ)) → 7 < length fields → line_of fields ≡ Err NoLine
unfolding line_of
line_of-many fields many = rw (no-amendment fields many) (by (ranged_in 1 greatest_line (field_at fields 0)) refl)
  where
    by : (number : Result ℕ Unread) → ranged_in 1 greatest_line (field_at fields 0) ≡ number → (number >>= λ n. nothing >>= numbered n) ≡ Err NoLine
    by (Ok n) is = refl
    by (Err e) is = ap Err (no-number 1 greatest_line (field_at fields 0) e is)
