-- What the calls of `is_pool_fit`, of `add_to_fit_row` and of `add_row` come to, over lists and numbers.
--     no_entries, no_bytes, fit_is       the tests of the row are those of the flat pool
--     in_bytes                           what `add_to_fit` asks of a fit pool
--     is_free                            where a new index is handed out, an entry is free and the string's length is a number of 32 bits
--     fit_old, fit_new                   a return: nothing is written to the entries, or the new one
--     fine_fit                           where nothing is refused, the pool is fit
--     settled_fine, settled_refused      a return: after the addition, or with a refusal
-- Assumes nothing.
use Rattle.std.specs.Prelude.{Result, Ok, Err}
use Prim.Native.Nat.{ℕ, ◌<◌, ◌≤◌, ◌^◌}
use native.Mathlib.Omega.{arith}
use mathlib.Core.Path.{◌≡◌, refl, sym, ap, ◌∙◌}
use mathlib.Core.Bool.{Bool, true, false}
use mathlib.Core.List.{List}
use lib.ListN.{length, set}
use Rattle.base.specs.Pick.{pick}
use borrow.Author.Tests.{lt-ltb, le-ltb}
use Rattle.utf8.specs.Chars.{check_from}
use Rattle.utf8.specs.declared.Utf8Error.{Utf8Error}
use Rattle.utf8.specs.declared.Utf8Error.TheVariants as utf8
use Rattle.pool_rows.specs.Rows.{index_of, strings_of, room_of, byte_room, entry_room, runs_to, fit_in, fit_pool}
use Rattle.pool.specs.Pool.{on_utf8, placed, added_to_fit, added, refused_as, refusal_at}
use Rattle.pool.specs.Pool.{is_new, bytes_after, AddsToFit, AddsString}
use Rattle.pool_rows.specs.FitLaws.{room_within, fit_of}
use Rattle.pool.specs.PoolLaws.{settled, adds_fine, placed_same, old_bytes, old_entries, new_entries_lem}
use Rattle.pool_rows.specs.declared.Counts.{Counts}
use Rattle.pool.specs.declared.Added.{Added}
use Rattle.pool.specs.declared.AddError.{AddError}
use Rattle.pool.specs.declared.AddError.TheVariants.{BadState}
use Rattle.std.specs.Prelude.{Result, Err}
use Rattle.pool_lent.specs.Entries.{numbers_of, entry_of}
use Rattle.pool_lent.specs.Decided.{fine_by, fine_at}
use Rattle.pool_lent.specs.EntriesLaws.{numbers_long, numbers_set}
use Rattle.pool_lent.specs.declared.Entry.{Entry}
use Rattle.pool_lent.proofs.Numbers.{new_room}

room_is : (es : List Entry) → entry_room (numbers_of es) ≡ room_of (length es)
room_is es = ap room_of (omega (arith, numbers_long es))

-- the tests of the row's room, and then of its entries
module _ (bytes : List ℕ) (es : List Entry) (counts : Counts) where
  pub no_entries : room_of (length es) < counts.entries → fit_pool bytes (numbers_of es) counts ≡ false
  unfolding fit_in
  no_entries h = rw (room_is es, lt-ltb (room_of (length es)) counts.entries h)

  module _ (h : counts.entries ≤ room_of (length es)) where
    pub no_bytes : byte_room bytes < counts.bytes → fit_pool bytes (numbers_of es) counts ≡ false
    unfolding fit_in
    no_bytes k = rw (room_is es, le-ltb (room_of (length es)) counts.entries h, lt-ltb (byte_room bytes) counts.bytes k)

    pub fit_is : counts.bytes ≤ byte_room bytes → fit_pool bytes (numbers_of es) counts ≡ runs_to (numbers_of es) 0 counts.entries 0 counts.bytes
    unfolding fit_in
    fit_is k = rw (room_is es, le-ltb (room_of (length es)) counts.entries h, le-ltb (byte_room bytes) counts.bytes k)

-- ---- for a string that is well formed, in a pool that is fit

module _ (bytes : List ℕ) (es : List Entry) (counts : Counts) (fit : fit_pool bytes (numbers_of es) counts ≡ true) where
  within : (counts.entries ≤ room_of (length es)) × (counts.bytes ≤ byte_room bytes)
  within =
      let f = fit_of (numbers_of es) counts (entry_room (numbers_of es)) (byte_room bytes) fit in
      (omega (arith, f.entries_fit, room_is es), f.bytes_fit)

  pub in_bytes : counts.bytes ≤ byte_room bytes
  in_bytes = within.1

  module _ (string : List ℕ) (found : ℕ) (found_as : found ≡ index_of string (strings_of bytes (numbers_of es) counts.entries))
      (r : Result Added AddError) (r-as : r ≡ placed (length string) found counts (room_of (length es)) (byte_room bytes)) where
    fit_answer : r ≡ added_to_fit string bytes (numbers_of es) counts
    fit_answer = r-as ∙ placed_same _ _ _ _ _ _ _ _ found_as (sym (room_is es)) refl

    pub is_free : is_new counts r ≡ true → (counts.entries < length es) × (length string < 2 ^ 32)
    is_free e =
        let p = new_room (length string) found counts (room_of (length es)) (byte_room bytes) (ap (is_new counts) (sym r-as) ∙ e) in
        (omega (arith, p.0, (room_within (length es)).0), omega (arith, p.1, (room_within (length bytes)).1))

    module _ (new_bytes : List ℕ) (bytes-as : new_bytes ≡ bytes_after string counts r bytes) where
      pub fit_old : is_new counts r ≡ false → AddsToFit string counts bytes (numbers_of es) new_bytes (numbers_of es) r
      fit_old e =
          record { answer = fit_answer; bytes_left = bytes-as; entries_left = sym (old_entries string counts r e (numbers_of es)) }

      pub fit_new : (ds : List Entry) → ds ≡ set es counts.entries (entry_of counts.bytes (length string)) → is_new counts r ≡ true
          → AddsToFit string counts bytes (numbers_of es) new_bytes (numbers_of ds) r
      fit_new ds ds-as e =
          record {
            answer = fit_answer;
            bytes_left = bytes-as;
            entries_left =
                ap numbers_of ds-as
                ∙ numbers_set es counts.entries counts.bytes (length string)
                ∙ sym (new_entries_lem string counts r e (numbers_of es));
          }

-- ---- for any string and pool

module _ (string bytes : List ℕ) (es : List Entry) (counts : Counts) (fit : Bool) (fit-as : fit ≡ fit_pool bytes (numbers_of es) counts) where
  all_fine : (u : Result (Unit {0}) Utf8Error) → fine_by u fit ≡ true → (u ≡ Ok tt) × (fit ≡ true)
  all_fine (Ok _) e = (refl, e)
  all_fine (Err _) e = absurd (let z : ◌≡◌ {A = ℕ} 0 1 = cc in omega arith)

  pub fine_fit : fine_at string fit ≡ true → fit_pool bytes (numbers_of es) counts ≡ true
  fine_fit e = sym fit-as ∙ (all_fine (check_from 0 string) e).1

  pub settled_fine : fine_at string fit ≡ true → {new_bytes new_entries : List ℕ} {r : Result Added AddError}
      → AddsToFit string counts bytes (numbers_of es) new_bytes new_entries r → AddsString string counts bytes (numbers_of es) new_bytes new_entries r
  settled_fine e a = adds_fine _ _ _ _ (all_fine (check_from 0 string) e).0 (fine_fit e) a

  -- a refusal is the answer
  refuses : (u : Result (Unit {0}) Utf8Error) → fine_by u fit ≡ false
      → (Err (refused_as u) ≡ on_utf8 u (pick (fit_pool bytes (numbers_of es) counts) (added_to_fit string bytes (numbers_of es) counts) (Err BadState)))
  refuses (Ok _) e = rw (sym fit-as ∙ e)
  refuses (Err (utf8.BadAt i)) e = refl
  refuses (Err (utf8.CutAt i)) e = refl

  pub settled_refused : fine_at string fit ≡ false → (e : AddError) → e ≡ refusal_at string
      → AddsString string counts bytes (numbers_of es) bytes (numbers_of es) (Err e)
  unfolding added
  settled_refused f e q =
      settled _ _ _ _ (ap Err q ∙ refuses (check_from 0 string) f) (sym (old_bytes string counts (Err e) refl bytes))
      (sym (old_entries string counts (Err e) refl (numbers_of es)))
