-- What the code uses of a rescan, and that no second answer fits it.
--     kept_ok                                               reading may go on behind the kept records, whoever made the list
--     kind_low, behind_short, behind_long                   records that do not all have room, and records that have
--     is_bad_edit, is_bad_state, is_behind, is_behind_by    where the new source was not refused
--     is_refused, is_readable                               the whole
--     one_answer                                            no second answer and no second list
-- Assumes nothing.
use Rattle.std.specs.Prelude as result
use Rattle.std.specs.Prelude.{ℕ, zero, suc, ◌+◌, ◌-◌, ◌≤◌, ◌<◌, ◌≡◌, refl, true, false, List, length, take, drop, Err}
use Rattle.std.proofs.Common.{arith, sym, ap, subst, ◌∙◌, length-take-le, lt-ltb, le-ltb}
use Rattle.base.specs.PickLaws.{by_lt}
use Rattle.base.specs.Refusal.{source_most}
use Rattle.utf8.specs.Encode.{WellFormed}
use Rattle.property.specs.Table.{properties_at}
use Rattle.input.specs.Input.{input_check}
use Rattle.input.specs.declared.Refusal.{Refusal}
use Rattle.rows.specs.Row.{room, row_at, first_at, copy_rows, put_rows_at}
use Rattle.rows.specs.RowLaws.{copy_room, puts_none}
use Rattle.rows.specs.declared.Row.{Row}
use Rattle.state.specs.State.{start_state}
use Rattle.state.specs.declared.State.{State}
use Rattle.stepping.specs.Invariant.{Ok}
use Rattle.stepping.specs.InvariantLaws.{start_ok_lem}
use Rattle.reading.specs.Reading.{Reading}
use Rattle.reading.specs.Scan.{end_of, by_room, Fills, ReadsOn}
use Rattle.reading.specs.Scan.{Scanned}
use Rattle.reading.specs.declared.ScanError.TheVariants.{Refused, ListFull}
use Rattle.line.specs.Line.{line}
use Rattle.kept.specs.Kept.{resumed}
use Rattle.kept.proofs.RescanLaws.{resumes_in, source_line}
use Rattle.edit.specs.Edit.{edit_fits, start_of_line}
use Rattle.edit.specs.EditLaws.{line_within, line_newline}
use Rattle.edit.specs.declared.Edit.{Edit}
use Rattle.keep.specs.Keep.{no_row, row_before, kept_rows, Keeps}
use Rattle.keep.specs.KeepLaws.{keeps_of, keeps_within, last_is, over_some, link_forward}
use Rattle.rescan.specs.Rescan.{within, read_behind, ReadsBehind, kept, rest, Rescans, RescansReadable}
use Rattle.rescan.specs.Rescan.{Rescanned, as_scan}
use Rattle.rescan.specs.declared.RescanError.TheVariants.{BadEdit, BadState}

-- before the first record, the state is the start
from_start : resumed no_row ≡ start_state
from_start = refl

module _ (t : List ℕ) (p : ℕ) (from : List ℕ) (count : ℕ) (inside : p ≤ length t) (short : length t ≤ source_most) (well : WellFormed t) where
  behind_last : (k : ℕ) → Keeps t (start_of_line t p) from count k → Ok t (resumed (row_at from k))
  behind_last k keeps = go (start_of_line t p) refl
    where
      go : (l : ℕ) → start_of_line t p ≡ l → Ok t (resumed (row_at from k))
      go zero e =
          let l = last_is t (start_of_line t p) (first_at from k) (row_at from k) keeps.last in
          absurd (omega (arith, l.end, over_some t (row_at from k) l.over))
      go (suc n) e =
          let l = last_is t (start_of_line t p) (first_at from k) (row_at from k) keeps.last in
          let h : n < length t = omega (arith, line_within t p) in
          let one : t ≡ line (take n t) (drop (suc n) t) = source_line t n h (line_newline t p n e) in
          let long : length (take n t) ≡ n = length-take-le n t (omega arith) in
          subst (λ (z : List ℕ). Ok z (resumed (row_at from k))) (sym one)
          (resumes_in (take n t) (drop (suc n) t) (row_at from k)
          (record {
            ends = omega (arith, l.end);
            on = link_forward from k (keeps.linked k (omega arith));
            lines = l.lines;
            columns = l.column;
          })
          (subst (λ (z : List ℕ). length z ≤ source_most) one short) (subst WellFormed one well))

  pub kept_ok : Ok t (resumed (row_before from (kept_rows t (start_of_line t p) from count)))
  kept_ok = go (kept_rows t (start_of_line t p) from count) refl
    where
      go : (k : ℕ) → kept_rows t (start_of_line t p) from count ≡ k → Ok t (resumed (row_before from k))
      go zero e = start_ok_lem t short well
      go (suc k) e = behind_last k (keeps_of t (start_of_line t p) from count k e)

-- ---- reading behind records

-- a kind has 8 bits
pub kind_low : (list : List ℕ) (i : ℕ) → (row_before list i).kind < 256
unfolding row_at
kind_low list zero = omega arith
kind_low list (suc i) = omega arith

within_room : (list : List ℕ) (k : ℕ) → (within list k ≤ room list) × (within list k ≤ k)
within_room list k =
    by_lt (λ (n : ℕ). (n ≤ room list) × (n ≤ k)) (room list) k (λ h. (omega arith, omega arith)) (λ h. (omega arith, omega arith))

-- a list that has no room for record k is not written to
fills_over : (l : List ℕ) (k b : ℕ) (rd : Reading) → room l < k → {n c : ℕ} {new : List ℕ} → n ≡ room l → new ≡ l → c ≡ b
    → Fills l k b rd (result.Err (ListFull n c)) new
unfolding end_of
fills_over l k b rd h {n} {c} {new} m e d =
    let z : room l - k ≡ 0 = omega arith in
    record {
      answer = rw (lt-ltb (room l) (k + length rd.rows) (omega arith), z) (λ i. result.Err (ListFull (m i) (d i)));
      words = e ∙ sym (ap (λ (x : ℕ). put_rows_at l k (take x rd.rows)) z ∙ puts_none l k);
    }

module _ (look : ℕ → ℕ) (edition : ℕ) (t from : List ℕ) (k : ℕ) (list : List ℕ) where
  -- they do not all have room
  pub behind_short : k ≤ room from → room list < k → {n : ℕ} {row : Row} {new : List ℕ} → n ≡ room list → new ≡ copy_rows n from list
      → row ≡ row_before from n → ReadsBehind look edition t from k list (result.Err (ListFull n row.end)) new
  behind_short h o {n} {row} {new} e c q =
      let w : within list k ≡ n = rw (lt-ltb (room list) k o) (sym e) in
      let same : room (copy_rows n from list) ≡ room list = copy_room n from list (omega arith) (omega arith) in
      subst (λ (m : ℕ). Fills (copy_rows m from list) k (row_before from m).end (read_behind look edition t from k) (result.Err (ListFull n row.end)) new) (sym w)
      (fills_over (copy_rows n from list) k (row_before from n).end (read_behind look edition t from k) (omega arith) (e ∙ sym same) c
      (ap (λ (r : Row). r.end) q))

  -- they have
  pub behind_long : k ≤ room list → {row : Row} {start : State} {copied : List ℕ} {r : Scanned} {new : List ℕ} → row ≡ row_before from k → start ≡ resumed row
      → copied ≡ copy_rows k from list → ReadsOn look edition t start k copied r new → ReadsBehind look edition t from k list r new
  behind_long h {row} {start} {copied} {r} {new} q e c f =
      let w : within list k ≡ k = rw (le-ltb (room list) k h) in
      subst (λ (m : ℕ). Fills (copy_rows m from list) k (row_before from m).end (read_behind look edition t from k) r new) (sym w)
      (subst (λ (st : State). ReadsOn look edition t st k (copy_rows k from list) r new) (e ∙ ap resumed q)
      (subst (λ (l : List ℕ). ReadsOn look edition t start k l r new) c f))

-- ---- the call

module _ {s from : List ℕ} {count : ℕ} {e : Edit} {t table : List ℕ} {edition : ℕ} {list : List ℕ} where
  pub is_bad_edit : edit_fits s e t ≡ false → RescansReadable s from count e t table edition list (result.Err BadEdit) list
  is_bad_edit f = record { answer = rw f; words = rw f }

  pub is_bad_state : edit_fits s e t ≡ true → room from < count → RescansReadable s from count e t table edition list (result.Err BadState) list
  is_bad_state f h = let n = lt-ltb (room from) count h in record { answer = rw (f, n); words = rw (f, n) }

  pub is_behind : edit_fits s e t ≡ true → count ≤ room from → {line k : ℕ} {r : Scanned} {new : List ℕ} → line ≡ start_of_line t e.place
      → k ≡ kept_rows t line from count → ReadsBehind (properties_at table) edition t from k list r new
      → RescansReadable s from count e t table edition list (as_scan r) new
  is_behind f h {line} {k} {r} {new} l q b =
      let n = le-ltb (room from) count h in
      let m : k ≡ kept s from count e t table edition = q ∙ ap (λ (x : ℕ). kept_rows t x from count) l in
      let g = subst (λ (x : ℕ). ReadsBehind (properties_at table) edition t from x list r new) m b in
      let w = within_room list (kept s from count e t table edition) in
      let same : room (copy_rows (within list (kept s from count e t table edition)) from list) ≡ room list =
      copy_room (within list (kept s from count e t table edition)) from list
      (omega (arith, w.1, keeps_within t (start_of_line t e.place) from count)) w.0 in
      record {
        answer = rw (f, n)
            (ap as_scan (g.answer ∙ ap (λ (x : ℕ). by_room x (kept s from count e t table edition) (row_before from (within list (kept s from count e t table edition))).end (rest s from count e t table edition)) same));
        words = rw (f, n)
            (g.words
            ∙ ap (λ (x : ℕ). put_rows_at (copy_rows (within list (kept s from count e t table edition)) from list) (kept s from count e t table edition)
            (take (x - kept s from count e t table edition) (rest s from count e t table edition).rows)) same);
      }

  -- by what the reading behind them answers
  pub is_behind_by : edit_fits s e t ≡ true → count ≤ room from → {line k : ℕ} {r y : Scanned} {z : Rescanned} {new : List ℕ} → line ≡ start_of_line t e.place
      → k ≡ kept_rows t line from count → ReadsBehind (properties_at table) edition t from k list r new → r ≡ y → z ≡ as_scan y
      → RescansReadable s from count e t table edition list z new
  is_behind_by f h {line} {k} {r} {y} {z} {new} l q b i j =
      subst (λ (x : Rescanned). RescansReadable s from count e t table edition list x new) (ap as_scan i ∙ sym j) (is_behind f h l q b)

  pub is_refused : {x : Refusal} {r : Rescanned} → input_check source_most t table edition ≡ Err x → r ≡ as_scan (result.Err (Refused x))
      → Rescans s from count e t table edition list r list
  is_refused c q = record { answer = rw c q; words = rw c }

  pub is_readable : {r : Rescanned} {new : List ℕ} → input_check source_most t table edition ≡ result.Ok tt
      → RescansReadable s from count e t table edition list r new → Rescans s from count e t table edition list r new
  is_readable c p = record { answer = rw c p.answer; words = rw c p.words }

-- no second answer and no second list fits
pub one_answer : {s from : List ℕ} {count : ℕ} {e : Edit} {t table : List ℕ} {edition : ℕ} {list : List ℕ} {r q : Rescanned} {new other : List ℕ}
    → Rescans s from count e t table edition list r new → Rescans s from count e t table edition list q other → (r ≡ q) × (new ≡ other)
one_answer a b = (a.answer ∙ sym b.answer, a.words ∙ sym b.words)
