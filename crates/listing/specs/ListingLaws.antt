-- Laws of `Listing`.
--     lists_long, lists_scan    a source that is too long; one that is not, and is scanned with the small table
--     lists_within              no more records are counted than the list has room for
--     one_listing               no second answer and no second list fits
--     long_stays                a source that is too long is told so, and leaves every word of the list
-- Assumes nothing.
use Rattle.std.specs.Prelude.{ℕ, ◌≤◌, ◌<◌, ◌≡◌, Err, ltb, length}
use Rattle.std.proofs.Common.{arith, sym, ◌∙◌, lt-ltb, le-ltb}
use Rattle.std.proofs.Math.Path.{subst}
use mathlib.Core.List.{List}
use Rattle.base.specs.PickLaws.{by_test}
use Rattle.fitness.specs.Small.{small_table}
use Rattle.input.specs.Input.{with_gb9c}
use Rattle.input.specs.declared.Refusal.TheVariants.{TooLong}
use Rattle.rows.specs.Row.{room}
use Rattle.rows.specs.RowLaws.{same_room, rows_none}
use Rattle.reading.specs.Scan.{Scans, count_of}
use Rattle.reading.specs.ScanLaws.{count_room}
use Rattle.reading.specs.Scan.{Scanned}
use Rattle.reading.specs.declared.ScanError.TheVariants.{Refused}
use Rattle.listing.specs.Listing.{list_most, listed, listed_rows, Lists}

module _ {source old : List ℕ} where
  pub lists_long : list_most < length source → Lists source old (Err (Refused TooLong)) old
  unfolding listed listed_rows
  lists_long h =
      record { answer = rw (lt-ltb list_most (length source) h); words = rw (lt-ltb list_most (length source) h) (sym (rows_none old)) }

  pub lists_scan : {table : List ℕ} {r : Scanned} {new : List ℕ} → length source ≤ list_most → table ≡ small_table → Scans source table with_gb9c old r new
      → Lists source old r new
  unfolding listed listed_rows
  lists_scan {table} {r} {new} h e s =
      let small : Scans source small_table with_gb9c old r new = subst (λ (t : List ℕ). Scans source t with_gb9c old r new) e s in
      record {
        answer = rw (le-ltb list_most (length source) h) small.answer;
        words = rw (le-ltb list_most (length source) h) small.words;
      }

listed_count : (source : List ℕ) (n : ℕ) → count_of (listed source n) ≤ n
unfolding listed
listed_count source n =
    by_test (λ (r : Scanned). count_of r ≤ n) (ltb list_most (length source)) (λ _. omega arith) (λ _. count_room n source small_table with_gb9c)

pub lists_within : {source old new : List ℕ} {r : Scanned} → Lists source old r new → length new ≡ length old → count_of r ≤ room new
lists_within {source} {old} {new} {r} f long =
    let same : room old ≡ room new = same_room old new (sym long) in
    subst (λ (n : ℕ). count_of r ≤ n) same (subst (λ (x : Scanned). count_of x ≤ room old) (sym f.answer) (listed_count source (room old)))

pub one_listing : (source old : List ℕ) (r q : Scanned) (new other : List ℕ) → Lists source old r new → Lists source old q other
    → (r ≡ q) × (new ≡ other)
one_listing source old r q new other a b = (a.answer ∙ sym b.answer, a.words ∙ sym b.words)

pub long_stays : (source old : List ℕ) (r : Scanned) (new : List ℕ) → list_most < length source → Lists source old r new
    → (r ≡ Err (Refused TooLong)) × (new ≡ old)
long_stays source old r new h f = one_listing source old r (Err (Refused TooLong)) new old f (lists_long h)
