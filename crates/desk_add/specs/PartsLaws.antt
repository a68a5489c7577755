-- An addition to the part of the rows that a desk may fill is an addition to the rows with so much room. `rb` bytes and `re` entries are lent.
--     part_byte_room, part_entry_room     the part's room
--     part_added                          the answer
--     part_bytes, part_entries            the rows
-- Assumes nothing.
use Rattle.std.specs.Prelude.{ℕ, zero, suc, ◌+◌, ◌*◌, ◌-◌, ◌/◌, ◌<◌, ◌≤◌, ◌≡◌, refl, Bool, true, false, List, [], ◌∷◌, ◌++◌, length, get_or, set, take, drop, Result}
use Rattle.std.proofs.Common.{arith, sym, ◌∙◌, append_assoc, length-set, take-append-drop, length-take-le, get_or-take, take-take, le-ltb}
use Rattle.std.proofs.Math.Path.{ap}
use Rattle.std.proofs.Math.Seq.{take-nil}
use Rattle.std.proofs.lemmas.List.{drop-append-le, set-append_left}
use Rattle.utf8.specs.Chars.{check_from}
use Rattle.pool_rows.specs.Rows.{start_of, length_of, string_at, strings_of, index_of, room_most, room_of, byte_room, entry_room, fit_pool}
use Rattle.pool.specs.Pool.{placed}
use Rattle.pool.specs.Pool.{on_utf8, added, is_new, written, entered, bytes_after, entries_after}
use Rattle.pool_rows.specs.StringsLaws.{strings_same}
use Rattle.pool_rows.specs.FitLaws.{room_within, entry_room_lem, Fit, fit_by_lem, within, runs_same}
use Rattle.pool.specs.PoolLaws.{placed_same, old_bytes, old_entries, new_bytes_lem, new_entries_lem}
use Rattle.pool_rows.specs.declared.Counts.{Counts}
use Rattle.pool.specs.declared.Added.{Added}
use Rattle.pool.specs.declared.AddError.{AddError}

room_small : (n : ℕ) → n ≤ room_most → room_of n ≡ n
unfolding room_of
room_small n h = rw (le-ltb room_most n h)

half : (n : ℕ) → (2 * n) / 2 ≡ n
half n = omega arith

drop_take : (i j : ℕ) (l : List ℕ) → drop i (take (i + j) l) ≡ take j (drop i l)
drop_take zero j l = let z : 0 + j ≡ j = omega arith in rw z
drop_take (suc i) j [] = rw (take-nil {A = ℕ} (suc i + j)) (sym (take-nil j))
drop_take (suc i) j (x ∷ xs) = let z : suc i + j ≡ suc (i + j) = omega arith in rw z (drop_take i j xs)

-- a part that lies in the first m elements
part_of : (l : List ℕ) (m start long : ℕ) → start + long ≤ m → take long (drop start (take m l)) ≡ take long (drop start l)
part_of l m start long h =
    let e : start + (m - start) ≡ m = omega arith in
    ap (λ (k : ℕ). take long (drop start (take k l))) (sym e)
    ∙ ap (take long) (drop_take start (m - start) l)
    ∙ take-take long (m - start) (drop start l) (omega arith)

-- a string written into the first m elements
written_part : (l string : List ℕ) (m at : ℕ) → at + length string ≤ m → length (take m l) ≡ m
    → written (take m l) at string ++ drop m l ≡ written l at string
written_part l string m at h e =
    let q = at + length string in
    append_assoc (take at (take m l)) (string ++ drop q (take m l)) (drop m l)
    ∙ ap (λ (k : List ℕ). k ++ ((string ++ drop q (take m l)) ++ drop m l)) (take-take at m l (omega arith))
    ∙ ap (λ (k : List ℕ). take at l ++ k)
    (append_assoc string (drop q (take m l)) (drop m l)
    ∙ ap (λ (k : List ℕ). string ++ k)
    (sym (drop-append-le q (take m l) (drop m l) (omega arith)) ∙ ap (drop q) (take-append-drop m l)))

-- an entry written into the first m entries
entered_part : (l : List ℕ) (m n start long : ℕ) → n + 1 ≤ m → length (take (2 * m) l) ≡ 2 * m
    → entered (take (2 * m) l) n start long ++ drop (2 * m) l ≡ entered l n start long
entered_part l m n start long h e =
    let inner = set (take (2 * m) l) (2 * n) start in
    sym (set-append_left inner (drop (2 * m) l) (2 * n + 1) long (omega (arith, length-set (take (2 * m) l) (2 * n) start)))
    ∙ ap (λ (k : List ℕ). set k (2 * n + 1) long)
    (sym (set-append_left (take (2 * m) l) (drop (2 * m) l) (2 * n) start (omega arith))
    ∙ ap (λ (k : List ℕ). set k (2 * n) start) (take-append-drop (2 * m) l))

module _ (bytes entries : List ℕ) (counts : Counts) (re rb : ℕ) where
  abbrev some_bytes : List ℕ
  some_bytes = take rb bytes

  abbrev some_entries : List ℕ
  some_entries = take (2 * re) entries

  module _ (he : re ≤ entry_room entries) (hb : rb ≤ byte_room bytes) where
    long_bytes : length some_bytes ≡ rb
    long_bytes = length-take-le rb bytes (omega (arith, (room_within (length bytes)).0))

    long_entries : length some_entries ≡ 2 * re
    long_entries = length-take-le (2 * re) entries (entry_room_lem entries re he)

    pub part_byte_room : byte_room some_bytes ≡ rb
    part_byte_room = rw long_bytes (room_small rb (omega (arith, (room_within (length bytes)).1)))

    pub part_entry_room : entry_room some_entries ≡ re
    part_entry_room = rw (long_entries, half re) (room_small re (omega (arith, (room_within (length entries / 2)).1)))

    module _ (f : Fit entries counts re rb) where
      word_same : (j : ℕ) → j < 2 * counts.entries → get_or some_entries j 0 ≡ get_or entries j 0
      word_same j h = get_or-take (2 * re) entries j 0 (omega (arith, f.entries_fit))

      entry_same : (k : ℕ) → k < counts.entries → (start_of some_entries k ≡ start_of entries k) × (length_of some_entries k ≡ length_of entries k)
      entry_same k h = (word_same (2 * k) (omega arith), word_same (2 * k + 1) (omega arith))

      string_same : (k : ℕ) → k < counts.entries → string_at some_bytes some_entries k ≡ string_at bytes entries k
      string_same k h =
          let e = entry_same k h in
          let w = within entries counts re rb f k h in
          rw (e.0, e.1)
          (part_same (start_of entries k) (length_of entries k) (omega (arith, w, f.bytes_fit)))
        where
          part_same : (start long : ℕ) → start + long ≤ rb → take long (drop start (take rb bytes)) ≡ take long (drop start bytes)
          part_same start long h = part_of bytes rb start long h

      part_strings : strings_of some_bytes some_entries counts.entries ≡ strings_of bytes entries counts.entries
      part_strings = strings_same bytes entries some_bytes some_entries 0 counts.entries (λ j h. string_same j (omega arith))

      pub part_fit : fit_pool some_bytes some_entries counts ≡ true
      part_fit =
          fit_by_lem some_entries counts (entry_room some_entries) (byte_room some_bytes)
          record {
            entries_fit = rw part_entry_room f.entries_fit;
            bytes_fit = rw part_byte_room f.bytes_fit;
            runs = runs_same entries some_entries 0 counts.entries 0 counts.bytes (λ j h. entry_same j (omega arith)) ∙ f.runs;
          }

      module _ (string : List ℕ) where
        abbrev fits : Result Added AddError
        fits = placed (length string) (index_of string (strings_of bytes entries counts.entries)) counts re rb

        pub part_added : added string some_bytes some_entries counts ≡ on_utf8 (check_from 0 string) fits
        unfolding added
        part_added =
            ap (λ (r : Result Added AddError). on_utf8 (check_from 0 string) r)
            (rw part_fit
            (placed_same (length string) _ _ counts _ _ _ _ (ap (index_of string) part_strings) part_entry_room part_byte_room))

        -- where the answer is new, it has room in the part
        module _ (r : Result Added AddError) (room : is_new counts r ≡ true → (counts.bytes + length string ≤ rb) × (counts.entries + 1 ≤ re)) where
          pub part_bytes : bytes_after string counts r some_bytes ++ drop rb bytes ≡ bytes_after string counts r bytes
          part_bytes =
              go (is_new counts r) refl
            where
              go : (t : Bool) → is_new counts r ≡ t → bytes_after string counts r some_bytes ++ drop rb bytes ≡ bytes_after string counts r bytes
              go true e =
                  rw (new_bytes_lem string counts r e some_bytes, new_bytes_lem string counts r e bytes)
                  (written_part bytes string rb counts.bytes (room e).0 long_bytes)
              go false e =
                  rw (old_bytes string counts r e some_bytes, old_bytes string counts r e bytes) (take-append-drop rb bytes)

          pub part_entries : entries_after string counts r some_entries ++ drop (2 * re) entries ≡ entries_after string counts r entries
          part_entries =
              go (is_new counts r) refl
            where
              go : (t : Bool) → is_new counts r ≡ t
                  → entries_after string counts r some_entries ++ drop (2 * re) entries ≡ entries_after string counts r entries
              go true e =
                  rw (new_entries_lem string counts r e some_entries, new_entries_lem string counts r e entries)
                  (entered_part entries re counts.entries counts.bytes (length string) (room e).1 long_entries)
              go false e =
                  rw (old_entries string counts r e some_entries, old_entries string counts r e entries) (take-append-drop (2 * re) entries)
