-- A scan that is not refused has read the whole source: its bytes and its table are fit, every record has room, and each is written.
--     end_whole, stuck_whole    of a scan that says End, and of one that says Stuck
-- Assumes nothing.
use Rattle.std.specs.Prelude.{ℕ, ◌+◌, ◌≤◌, ◌≡◌, List, Result, Ok, Err, ltb, length, take}
use Rattle.std.proofs.Common.{arith, sym, subst, ◌∙◌, take_all}
use Rattle.std.proofs.Math.Path.{refl, ap}
use Rattle.base.specs.PickLaws.{by_test, by_lt}
use Rattle.base.specs.Refusal.{source_most}
use Rattle.input.specs.Input.{input_check, Readable, on_input}
use Rattle.input.specs.InputLaws.{fine_of}
use Rattle.input.specs.declared.Refusal.{Refusal}
use Rattle.rows.specs.Row.{put_rows}
use Rattle.half_rows.specs.Half.{put_halves}
use Rattle.layout.specs.Layout.{room_in}
use Rattle.layout.specs.declared.Layout.{Layout}
use Rattle.layout.specs.declared.Layout.TheVariants.{Whole, Half}
use Rattle.reading.specs.Reading.{Stop, ended, stuck, deep}
use Rattle.reading.specs.Scan.{Scanned, marked_rows, end_of, whole, by_room, reading_of, scanned, written_by, written, written_marked, writes_in, holds_in, ScansIn}
use Rattle.reading.specs.StartsLaws.{marks_length}
use Rattle.reading.specs.declared.Scan.TheVariants.{End, Stuck}
use Rattle.reading.specs.declared.ScanError.TheVariants.{Refused}

-- a source that is read whole, into a list with room for so many records: n of them, and how it stops
pub record ReadWhole (source table : List ℕ) (edition room n : ℕ) (stop : Stop) : Type 0 where
  pub readable : Readable source_most source table edition
  pub counted : n ≡ length (reading_of source table edition).rows
  pub has_room : n ≤ room
  pub stops : (reading_of source table edition).stop ≡ stop

-- what an answer means, if it is no refusal
abbrev Means : List ℕ → List ℕ → ℕ → ℕ → Scanned → Type 0
Means source table edition room (Ok (End n b)) = ReadWhole source table edition room n ended
Means source table edition room (Ok (Stuck n b)) = ReadWhole source table edition room n stuck
Means source table edition room (Err e) = Unit {0}

module _ (source table : List ℕ) (edition room : ℕ) where
  module _ (g : Readable source_most source table edition) where
    by_stop_lem : (b : ℕ) → length (reading_of source table edition).rows ≤ room → (why : Stop) → (reading_of source table edition).stop ≡ why
        → Means source table edition room (whole room (0 + length (reading_of source table edition).rows) b why)
    by_stop_lem b k ended e = record { readable = g; counted = omega arith; has_room = omega arith; stops = e }
    by_stop_lem b k stuck e = record { readable = g; counted = omega arith; has_room = omega arith; stops = e }
    by_stop_lem b k deep e =
        by_test (Means source table edition room) (ltb (0 + length (reading_of source table edition).rows) room) (λ _. tt) (λ _. tt)

    read_means : Means source table edition room (by_room room 0 0 (reading_of source table edition))
    read_means =
        by_lt (Means source table edition room) room (0 + length (reading_of source table edition).rows) (λ _. tt)
        (λ k. by_stop_lem (end_of 0 (reading_of source table edition).rows) (omega arith) (reading_of source table edition).stop refl)

  scanned_means : Means source table edition room (scanned source table edition room)
  unfolding scanned
  scanned_means = by_check_lem (input_check source_most source table edition) refl
    where
      by_check_lem : (c : Result (Unit {0}) Refusal) → input_check source_most source table edition ≡ c
          → Means source table edition room (on_input (λ x. Err (Refused x)) c (by_room room 0 0 (reading_of source table edition)))
      by_check_lem (Ok _) e = read_means (fine_of source_most source table edition e)
      by_check_lem (Err x) e = tt

-- all records are written
module _ (old source table : List ℕ) (edition n : ℕ) (h : length (reading_of source table edition).rows ≤ n) {r : Scanned}
    (a : r ≡ scanned source table edition n) (e : (A : Type 0) (rows : List A) → written_by r rows ≡ rows) where
  -- those that have room are all
  writes_them : {A : Type 0} (rows : List A) → length rows ≤ n → written_by (scanned source table edition n) (take n rows) ≡ rows
  writes_them {A} rows k = ap (λ (x : Scanned). written_by x (take n rows)) (sym a) ∙ e A (take n rows) ∙ take_all n rows k

  writes_whole : (layout : Layout) → writes_in layout old source table edition n ≡ holds_in layout old (reading_of source table edition)
  unfolding written written_marked
  writes_whole Whole = ap (put_rows old) (writes_them (reading_of source table edition).rows h)
  writes_whole Half =
      let q = reading_of source table edition in ap (put_halves old) (writes_them (marked_rows q) (omega (arith, marks_length q.stop q.rows)))

module _ {layout : Layout} (source table : List ℕ) (edition : ℕ) (old new : List ℕ) (n b : ℕ) where
  meant : {r : Scanned} → ScansIn layout source table edition old r new → Means source table edition (room_in layout old) r
  meant p = subst (Means source table edition (room_in layout old)) (sym p.answer) (scanned_means source table edition (room_in layout old))

  all_written : {r : Scanned} → ScansIn layout source table edition old r new → length (reading_of source table edition).rows ≤ room_in layout old
      → ((A : Type 0) (rows : List A) → written_by r rows ≡ rows) → new ≡ holds_in layout old (reading_of source table edition)
  all_written p h e = p.words ∙ writes_whole old source table edition (room_in layout old) h p.answer e layout

  pub end_whole : ScansIn layout source table edition old (Ok (End n b)) new
      → ReadWhole source table edition (room_in layout old) n ended × (new ≡ holds_in layout old (reading_of source table edition))
  end_whole p = let w = meant p in (w, all_written p (omega (arith, w.counted, w.has_room)) (λ A rows. refl))

  pub stuck_whole : ScansIn layout source table edition old (Ok (Stuck n b)) new
      → ReadWhole source table edition (room_in layout old) n stuck × (new ≡ holds_in layout old (reading_of source table edition))
  stuck_whole p = let w = meant p in (w, all_written p (omega (arith, w.counted, w.has_room)) (λ A rows. refl))
