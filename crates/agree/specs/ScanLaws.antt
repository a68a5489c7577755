-- C-14, of the calls over a source: fit tables that agree on its code points give the same scan in every respect.
--     inputs_agree                         the refusals before any work
--     on_rest_agrees, on_reading_agrees    an answer by them, or else by what is left to read from a state, or by the reading
--     scan_agrees                          answer and words of a scan
-- Assumes nothing.
use Rattle.std.specs.Prelude.{ℕ, ◌≡◌, refl, List, [], Err, take, Result, Ok}
use Rattle.std.proofs.Common.{sym, ◌∙◌}
use Rattle.std.proofs.Math.Path.{ap}
use Rattle.base.specs.Refusal.{source_most}
use Rattle.utf8.specs.Chars.{chars}
use Rattle.property.specs.Table.{properties_at}
use Rattle.fitness.specs.Fit.{table_check}
use Rattle.input.specs.Input.{input_check, on_input}
use Rattle.input.specs.InputLaws.{fine_of}
use Rattle.input.specs.declared.Refusal.{Refusal}
use Rattle.cluster.specs.FirstLaws.{Agree}
use Rattle.rows.specs.Row.{put_rows}
use Rattle.half_rows.specs.Half.{put_halves}
use Rattle.layout.specs.Layout.{room_in}
use Rattle.layout.specs.declared.Layout.{Layout}
use Rattle.layout.specs.declared.Layout.TheVariants.{Whole, Half}
use Rattle.state.specs.State.{start_state}
use Rattle.state.specs.declared.State.{State}
use Rattle.reading.specs.Reading.{Reading, read_from}
use Rattle.reading.specs.Scan.{marked_rows, by_room, reading_of, scanned, written_by, written, written_marked, writes_in, ScansIn}
use Rattle.reading.specs.Scan.{Scanned}
use Rattle.reading.specs.declared.ScanError.TheVariants.{Refused}
use Rattle.agree.specs.ReadingLaws.{left_agrees, read_agrees}

-- of a table the refusals ask only whether it is fit
pub inputs_agree : (most : ℕ) (bytes t u : List ℕ) (edition : ℕ) → table_check t ≡ Ok tt → table_check u ≡ Ok tt
    → input_check most bytes t edition ≡ input_check most bytes u edition
unfolding input_check
inputs_agree most bytes t u edition e f = rw (e, f)

module _ (source t u : List ℕ) (edition : ℕ) (fit : table_check t ≡ Ok tt) (also : table_check u ≡ Ok tt)
    (agree : Agree (properties_at t) (properties_at u) (chars source)) where
  same_input : input_check source_most source t edition ≡ input_check source_most source u edition
  same_input = inputs_agree source_most source t u edition fit also

  -- where none of the refusals is given
  rests : input_check source_most source t edition ≡ Ok tt → (st : State)
      → read_from (properties_at t) edition source st ≡ read_from (properties_at u) edition source st
  rests e st =
      let well = (fine_of source_most source t edition e).well in
      read_agrees (properties_at t) (properties_at u) edition source (left_agrees (properties_at t) (properties_at u) source (chars source) refl well agree) st

  pub on_rest_agrees : {A : Type 0} (f : Refusal → A) (st : State) (g : Reading → A)
      → on_input f (input_check source_most source t edition) (g (read_from (properties_at t) edition source st))
      ≡ on_input f (input_check source_most source u edition) (g (read_from (properties_at u) edition source st))
  on_rest_agrees f st g = go (input_check source_most source t edition) refl
    where
      go : (c : Result (Unit {0}) Refusal) → input_check source_most source t edition ≡ c
          → on_input f (input_check source_most source t edition) (g (read_from (properties_at t) edition source st))
          ≡ on_input f (input_check source_most source u edition) (g (read_from (properties_at u) edition source st))
      go (Ok _) e = λ i. on_input f (same_input i) (g (rests e st i))
      go (Err x) e = rw (e, sym same_input ∙ e)

  pub on_reading_agrees : {A : Type 0} (f : Refusal → A) (g : Reading → A)
      → on_input f (input_check source_most source t edition) (g (reading_of source t edition))
      ≡ on_input f (input_check source_most source u edition) (g (reading_of source u edition))
  on_reading_agrees f = on_rest_agrees f start_state

  pub scanned_agrees : (n : ℕ) → scanned source t edition n ≡ scanned source u edition n
  unfolding scanned
  scanned_agrees n = on_reading_agrees (λ x. Err (Refused x)) (by_room n 0 0)

  -- nothing is written where a refusal comes before any work
  none_written : {A : Type 0} (v : List ℕ) (n : ℕ) {x : Refusal} → input_check source_most source v edition ≡ Err x → (rows : List A)
      → written_by (scanned source v edition n) rows ≡ []
  unfolding scanned
  none_written v n e rows = rw e

  -- of the readings' records, whatever is told of them
  writes_agree : {A : Type 0} (told : Reading → List A) (n : ℕ)
      → written_by (scanned source t edition n) (take n (told (reading_of source t edition)))
      ≡ written_by (scanned source u edition n) (take n (told (reading_of source u edition)))
  writes_agree {A} told n = go (input_check source_most source t edition) refl
    where
      go : (c : Result (Unit {0}) Refusal) → input_check source_most source t edition ≡ c
          → written_by (scanned source t edition n) (take n (told (reading_of source t edition)))
          ≡ written_by (scanned source u edition n) (take n (told (reading_of source u edition)))
      go (Ok _) e = λ i. written_by (scanned_agrees n i) (take n (told (rests e start_state i)))
      go (Err x) e =
          none_written t n e (take n (told (reading_of source t edition)))
          ∙ sym (none_written u n (sym same_input ∙ e) (take n (told (reading_of source u edition))))

  pub written_agrees : (n : ℕ) → written source t edition n ≡ written source u edition n
  unfolding written
  written_agrees = writes_agree (λ r. r.rows)

  words_agree : (layout : Layout) (old : List ℕ) (n : ℕ) → writes_in layout old source t edition n ≡ writes_in layout old source u edition n
  unfolding written_marked
  words_agree Whole old n = ap (put_rows old) (written_agrees n)
  words_agree Half old n = ap (put_halves old) (writes_agree marked_rows n)

  pub scan_agrees : {layout : Layout} {old new : List ℕ} {r : Scanned} → ScansIn layout source t edition old r new
      → ScansIn layout source u edition old r new
  scan_agrees {layout} {old} p =
      record {
        answer = p.answer ∙ scanned_agrees (room_in layout old);
        words = p.words ∙ words_agree layout old (room_in layout old);
      }
