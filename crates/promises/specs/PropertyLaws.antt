-- The promises of `Property`, proved, and that no second answer and no second row fits.
--     check_table_promise, check_table_has_one_answer
--     read_table_promise, read_table_has_one_answer
-- Assumes nothing.
use Rattle.std.specs.Prelude.{ℕ, ◌<◌, ◌≤◌, ◌≡◌, refl, List, length, Result, Ok, Err}
use Rattle.std.proofs.Common.{arith, sym, ap, subst, ◌∙◌}
use borrow.Author.Tests.{lt-ltb, le-ltb}
use Rattle.base.specs.PickLaws.{by_lt}
use Rattle.base.specs.Refusal.{none}
use Rattle.fitness.specs.Fit.{table_check}
use Rattle.fitness.specs.FitLaws.{bad_count, bad_run, bad_ascii, fit_by_lem}
use Rattle.fitness.specs.First.{first_bad}
use Rattle.table_file.specs.File as file
use Rattle.table_file.specs.File.{mark_ok, count_of, numbers_of, end_of, on_fit, read_table, row_after, ReadTableIs}
use Rattle.table_file.specs.FileLaws.{one_answer, row_of_file}
use Rattle.fitness.specs.declared.TableError.{TableError}
use Rattle.fitness.specs.declared.TableError.TheVariants.{BadTable}
use Rattle.table_file.specs.declared.TableFileError.{TableFileError}
use Rattle.table_file.specs.declared.TableFileError.TheVariants as answer
use Rattle.promises.specs.Property.{CheckTableEnsures, table_says, CheckTablePromise, file_says, Framed, ReadTablePromise}

-- ---- `check_table`

pub check_table_promise : (t : List ℕ) (r : Result (Unit {0}) TableError) → CheckTableEnsures t r → CheckTablePromise t r
check_table_promise t r e =
    record {
      bad_count = λ n. ap table_says (e ∙ bad_count t n);
      bad_run = λ m i h good bad. ap table_says (e ∙ bad_run t m i h good bad);
      bad_ascii = λ m runs c h bad. ap table_says (e ∙ bad_ascii t m runs c h bad);
      fit = λ m runs same. ap table_says (e ∙ fit_by_lem t m runs same);
    }

pub check_table_has_one_answer : (t : List ℕ) (r q : Result (Unit {0}) TableError) → CheckTableEnsures t r → CheckTableEnsures t q → r ≡ q
check_table_has_one_answer t r q e f = e ∙ sym f

-- ---- `read_table`

module _ (f : List ℕ) (room : ℕ) where
  marked_wrong : first_bad (mark_ok f) 0 6 < 6 → read_table f room ≡ Err (answer.BadFile (first_bad (mark_ok f) 0 6))
  unfolding read_table
  marked_wrong h = rw (lt-ltb (first_bad (mark_ok f) 0 6) 6 h)

  too_short : first_bad (mark_ok f) 0 6 ≡ 6 → length f < 8 → read_table f room ≡ Err (answer.BadFile (length f))
  unfolding read_table
  too_short m h = rw (m, lt-ltb (length f) 8 h)

  numbers_lack : first_bad (mark_ok f) 0 6 ≡ 6 → 8 ≤ length f → length f < end_of f → read_table f room ≡ Err (answer.BadFile (length f))
  unfolding read_table
  numbers_lack m k h = rw (m, le-ltb (length f) 8 k, lt-ltb (length f) (end_of f) h)

  one_too_many : first_bad (mark_ok f) 0 6 ≡ 6 → end_of f < length f → read_table f room ≡ Err (answer.BadFile (end_of f))
  unfolding read_table
  one_too_many m h =
      rw (m, le-ltb (length f) 8 (omega arith), le-ltb (length f) (end_of f) (omega arith), lt-ltb (end_of f) (length f) h)

  module _ (g : Framed f) where
    no_room_left : room < count_of f → read_table f room ≡ Err answer.ListFull
    unfolding read_table
    no_room_left h =
        rw (
          g.mark,
          le-ltb (length f) 8 (omega (arith, g.end)),
          le-ltb (length f) (end_of f) (omega (arith, g.end)),
          le-ltb (end_of f) (length f) (omega (arith, g.end)),
          lt-ltb room (count_of f) h,
        )

    checked : count_of f ≤ room → read_table f room ≡ on_fit (table_check (numbers_of f)) (Ok (count_of f))
    unfolding read_table
    checked h =
        rw (
          g.mark,
          le-ltb (length f) 8 (omega (arith, g.end)),
          le-ltb (length f) (end_of f) (omega (arith, g.end)),
          le-ltb (end_of f) (length f) (omega (arith, g.end)),
          le-ltb room (count_of f) h,
        )

  -- an answer that is no refusal is the count
  abbrev Counted : Result ℕ TableFileError → Type 0
  Counted r = file.number_of r ≡ none → r ≡ Ok (count_of f)

  by_fit : (c : Result (Unit {0}) TableError) → Counted (on_fit c (Ok (count_of f)))
  by_fit (Ok _) e = refl
  by_fit (Err (BadTable i)) e = absurd (omega arith)

  counted : Counted (read_table f room)
  unfolding read_table
  counted =
      by_lt Counted (first_bad (mark_ok f) 0 6) 6 (λ h e. absurd (omega arith))
      (λ _. by_lt Counted (length f) 8 (λ h e. absurd (omega arith))
      (λ _. by_lt Counted (length f) (end_of f) (λ h e. absurd (omega arith))
      (λ _. by_lt Counted (end_of f) (length f) (λ h e. absurd (omega arith))
      (λ _. by_lt Counted room (count_of f) (λ h e. absurd (omega arith)) (λ _. by_fit (table_check (numbers_of f)))))))

-- a refusal leaves the row
refusal_keeps : (r : Result ℕ TableFileError) (f row : List ℕ) → (file.number_of r ≡ none → ⊥) → row_after r f row ≡ row
refusal_keeps (Ok n) f row h = absurd (h refl)
refusal_keeps (Err (answer.BadFile i)) f row h = refl
refusal_keeps (Err answer.ListFull) f row h = refl
refusal_keeps (Err (answer.BadTable i)) f row h = refl

pub read_table_promise : (f old new : List ℕ) (r : Result ℕ TableFileError) → ReadTableIs f old new r → ReadTablePromise f old new r
read_table_promise f old new r p =
    let room = length old in
    let a = p.answer in
    record {
      bad_mark_lem = λ h. ap file_says (a ∙ marked_wrong f room h);
      short_head = λ m h. ap file_says (a ∙ too_short f room m h);
      short = λ m k h. ap file_says (a ∙ numbers_lack f room m k h);
      surplus = λ m h. ap file_says (a ∙ one_too_many f room m h);
      no_room_lem = λ g h. ap file_says (a ∙ no_room_left f room g h);
      unfit = λ g h i e. ap file_says (a ∙ checked f room g h ∙ ap (λ (c : Result (Unit {0}) TableError). on_fit c (Ok (count_of f))) e);
      read = λ g h e. a ∙ checked f room g h ∙ ap (λ (c : Result (Unit {0}) TableError). on_fit c (Ok (count_of f))) e;
      counted = λ e. a ∙ counted f room (ap file.number_of (sym a) ∙ e);
      written = λ e. p.row ∙ ap (λ (x : Result ℕ TableFileError). row_after x f old) (counted f room (ap file.number_of (sym a) ∙ e));
      kept = λ h. p.row ∙ refusal_keeps (read_table f room) f old (λ e. h (ap file.number_of a ∙ e));
      back = λ t fit h e. row_of_file t old new r fit h (subst (λ (x : List ℕ). ReadTableIs x old new r) e p);
    }

pub read_table_has_one_answer : (f old new new' : List ℕ) (r r' : Result ℕ TableFileError) → ReadTableIs f old new r → ReadTableIs f old new' r'
    → (r ≡ r') × (new ≡ new')
read_table_has_one_answer f old new new' r r' p q = one_answer f old new new' r r' p q
