-- What `slide`'s loop keeps: the first i entries are compacted.
--     Room, room_at       what a fit pool says of entry i
--     none_done, asked, turned, end_long      how the loop starts, what a turn asks for, one turn, and how long the rows are at the end
--     turn_gone, turn_kept                    `keep_one`: the turn of an entry that goes, and of one that stays
-- Assumes nothing.
use Prim.Native.Nat.{ℕ, suc, ◌+◌, ◌*◌, ◌/◌, ◌<◌, ◌≤◌}
use native.Mathlib.Omega.{arith}
use mathlib.Core.Path.{◌≡◌, refl, sym, ap, ◌∙◌}
use mathlib.Core.Bool.{Bool, true, false}
use mathlib.Core.List.{List, [], ◌∷◌, ◌++◌}
use lib.Dec.{eqb}
use lib.ListN.{length, get_or, set, drop, length-append, length-drop}
use lib.Seq.{length-take-le, set-get_or}
use borrow.Author.Tests.{eqb-true, eq-eqb, ne_eqb, not-false}
use Rattle.pool_rows.specs.Rows.{start_of, length_of, string_at, byte_room, entry_room, fit_pool}
use Rattle.pool.specs.Pool.{one_more, written, entered}
use Rattle.pool_rows.specs.FitLaws.{room_within, fit_of, within, searchable}
use Rattle.pool_rows.specs.declared.Counts.{Counts}
use Rattle.slide.specs.Slide.{kept, kept_strings, kept_owners, new_index, gone, translated, joined, laid_out, headed}
use Rattle.slide.specs.Slide.{Compacted, stays, Turning, Turns}
use Rattle.slide.specs.HeadLaws.{head_long, head_get, head_part, head_set, head_written, head_entered}
use Rattle.slide.specs.SlideLaws.{kept_long, kept_with, kept_without, new_most, translated_long, translated_more, joined_more, laid_more}
use Rattle.slide.specs.SlideLaws.{laid_long, kept_bytes}
use Rattle.desks.specs.SpentLaws.{spent, start_spent, all_spent}

-- what is known of entry i of the rows as they were
pub record Room (bytes entries owners moved : List ℕ) (i : ℕ) : Type 0 where
  pub entry_in : 2 * i + 1 < length entries
  pub owner_in : i < length owners
  pub word_in : i < length moved
  pub starts : start_of entries i ≡ spent entries i
  pub string_in : start_of entries i + length_of entries i ≤ length bytes
  pub small : start_of entries i + length_of entries i ≤ 4294967295
  pub index_small : i < 4294967295

pub room_at : (bytes entries owners moved : List ℕ) (counts : Counts) → fit_pool bytes entries counts ≡ true
    → counts.entries ≤ length owners → counts.entries ≤ length moved → (i : ℕ) → i < counts.entries → Room bytes entries owners moved i
room_at bytes entries owners moved counts e h k i l =
    let f = fit_of entries counts (entry_room entries) (byte_room bytes) e in
    let w = within entries counts (entry_room entries) (byte_room bytes) f i l in
    let s = searchable bytes entries counts e in
    record {
      entry_in = omega (arith, s.1);
      owner_in = omega arith;
      word_in = omega arith;
      starts = start_spent entries counts.entries counts.bytes f.runs i l;
      string_in = s.0 i l;
      small = omega (arith, w, f.bytes_fit, (room_within (length bytes)).1);
      index_small = omega (arith, f.entries_fit, (room_within (length entries / 2)).1);
    }

module _ (b₀ e₀ o₀ m₀ b e o m : List ℕ) (i : ℕ) (laid : Counts) where
  abbrev keep : ℕ → Bool
  keep = stays m₀

  abbrev strings : List (List ℕ)
  strings = kept_strings keep b₀ e₀ i

  abbrev Done : Type 0
  Done = Compacted keep i b₀ e₀ o₀ m₀ b e o m laid

  module _ (d : Done) (r : Room b₀ e₀ o₀ m₀ i) where
    laid_entries : laid.entries ≡ length strings
    laid_entries = ap (λ (c : Counts). c.entries) d.counts_are

    laid_bytes : laid.bytes ≡ length (joined strings)
    laid_bytes = ap (λ (c : Counts). c.bytes) d.counts_are

    few : length strings ≤ i
    few = omega (arith, kept_long keep (string_at b₀ e₀) i, new_most keep i)

    low : length (joined strings) ≤ start_of e₀ i
    low = omega (arith, kept_bytes keep b₀ e₀ i, r.starts)

    entry_words : length (laid_out 0 strings) ≡ 2 * length strings
    entry_words = laid_long 0 strings

    word_of : (j : ℕ) → 2 * i ≤ j → get_or e j 0 ≡ get_or e₀ j 0
    word_of j h =
        ap (λ (l : List ℕ). get_or l j 0) d.entries_left
        ∙ head_get (laid_out 0 strings) e₀ j (omega (arith, entry_words, few))

    start_is : start_of e i ≡ start_of e₀ i
    start_is = word_of (2 * i) (omega arith)

    length_is : length_of e i ≡ length_of e₀ i
    length_is = word_of (2 * i + 1) (omega arith)

    string_is : string_at b e i ≡ string_at b₀ e₀ i
    string_is =
        rw (start_is, length_is, d.bytes_left)
        (head_part (joined strings) b₀ (start_of e₀ i) (length_of e₀ i) low)

    string_long : length (string_at b₀ e₀ i) ≡ length_of e₀ i
    string_long =
        length-take-le (length_of e₀ i) (drop (start_of e₀ i) b₀)
        (omega (arith, length-drop (start_of e₀ i) b₀, r.string_in))

    owner_is : get_or o i 0 ≡ get_or o₀ i 0
    owner_is =
        ap (λ (l : List ℕ). get_or l i 0) d.owners_left
        ∙ head_get (kept_owners keep o₀ i) o₀ i
        (omega (arith, kept_long keep (λ (k : ℕ). get_or o₀ k 0) i, new_most keep i))

    word_is : get_or m i 0 ≡ get_or m₀ i 0
    word_is =
        ap (λ (l : List ℕ). get_or l i 0) d.moved_left
        ∙ head_get (translated keep i) m₀ i (omega (arith, translated_long keep i))

    stays_same : stays m i ≡ keep i
    stays_same = rw word_is

    module _ (b' e' o' m' : List ℕ) (laid' : Counts) (t : Turns b e o m i laid b' e' o' m' laid') where
      -- entry i stays
      turned_kept : keep i ≡ true → Compacted keep (suc i) b₀ e₀ o₀ m₀ b' e' o' m' laid'
      turned_kept t1 =
          let s = string_at b₀ e₀ i in
          let stay : stays m i ≡ true = stays_same ∙ t1 in
          let more = kept_with keep (string_at b₀ e₀) i t1 in
          let owned = kept_with keep (λ (k : ℕ). get_or o₀ k 0) i t1 in
          let count : laid.entries ≡ new_index keep i = laid_entries ∙ kept_long keep (string_at b₀ e₀) i in
          let end : 0 + length (joined strings) ≡ laid.bytes = omega (arith, laid_bytes) in
          let laying : laid_out 0 strings ++ (laid.bytes ∷ length_of e₀ i ∷ []) ≡ laid_out 0 (strings ++ (s ∷ [])) =
          sym
          (laid_more 0 strings s
          ∙ ap (λ (k : ℕ). laid_out 0 strings ++ (k ∷ length s ∷ [])) end
          ∙ ap (λ (k : ℕ). laid_out 0 strings ++ (laid.bytes ∷ k ∷ [])) string_long) in
          record {
            counts_are =
                t.counts_are
                ∙ rw (stay, ← more)
                (λ j. record {
                  entries = (ap (λ (k : ℕ). k + 1) laid_entries ∙ sym (length-append strings (s ∷ []))) j;
                  bytes =
                      (ap (λ (k : ℕ). laid.bytes + k) length_is
                      ∙ ap (λ (k : ℕ). k + length_of e₀ i) laid_bytes
                      ∙ ap (λ (k : ℕ). length (joined strings) + k) (sym string_long)
                      ∙ sym (length-append (joined strings) s)
                      ∙ ap (λ (l : List ℕ). length l) (sym (joined_more strings s))) j;
                });
            bytes_left =
                t.bytes_left
                ∙ rw (stay, ← more, string_is, d.bytes_left)
                (head_written (joined strings) b₀ laid.bytes s laid_bytes
                ∙ ap (λ (l : List ℕ). headed l b₀) (sym (joined_more strings s)));
            entries_left =
                t.entries_left
                ∙ rw (stay, ← more, length_is, d.entries_left)
                (head_entered (laid_out 0 strings) e₀ laid.entries laid.bytes (length_of e₀ i) (omega (arith, laid_entries, entry_words))
                (omega (arith, laid_entries, few, r.entry_in))
                ∙ ap (λ (l : List ℕ). headed l e₀) laying);
            owners_left =
                t.owners_left
                ∙ rw (stay, ← owned, owner_is, d.owners_left)
                (head_set (kept_owners keep o₀ i) o₀ laid.entries (get_or o₀ i 0)
                (count ∙ sym (kept_long keep (λ (k : ℕ). get_or o₀ k 0) i))
                (omega (arith, laid_entries, few, r.owner_in)));
            moved_left =
                t.moved_left
                ∙ rw (stay, d.moved_left)
                (head_set (translated keep i) m₀ i laid.entries (sym (translated_long keep i)) r.word_in
                ∙ ap (λ (l : List ℕ). headed l m₀) (translated_more keep i laid.entries (rw t1 (sym count))));
          }

      -- entry i goes
      turned_gone : keep i ≡ false → Compacted keep (suc i) b₀ e₀ o₀ m₀ b' e' o' m' laid'
      turned_gone t0 =
          let stay : stays m i ≡ false = stays_same ∙ t0 in
          let less = kept_without keep (string_at b₀ e₀) i t0 in
          let owned = kept_without keep (λ (k : ℕ). get_or o₀ k 0) i t0 in
          let word : get_or m i 0 ≡ gone = word_is ∙ eqb-true (get_or m₀ i 0) gone (not-false (eqb (get_or m₀ i 0) gone) t0) in
          record {
            counts_are = t.counts_are ∙ rw (stay, ← less) d.counts_are;
            bytes_left = t.bytes_left ∙ rw (stay, ← less) d.bytes_left;
            entries_left = t.entries_left ∙ rw (stay, ← less) d.entries_left;
            owners_left = t.owners_left ∙ rw (stay, ← owned) d.owners_left;
            moved_left =
                t.moved_left
                ∙ rw stay
                (sym (set-get_or m i 0)
                ∙ ap (λ (v : ℕ). set m i v) word
                ∙ ap (λ (l : List ℕ). set l i gone) d.moved_left
                ∙ head_set (translated keep i) m₀ i gone (sym (translated_long keep i)) r.word_in
                ∙ ap (λ (l : List ℕ). headed l m₀) (translated_more keep i gone (rw t0)));
          }

      pub turned : Compacted keep (suc i) b₀ e₀ o₀ m₀ b' e' o' m' laid'
      turned = go (keep i) refl
        where
          go : (q : Bool) → keep i ≡ q → Compacted keep (suc i) b₀ e₀ o₀ m₀ b' e' o' m' laid'
          go true q = turned_kept q
          go false q = turned_gone q

-- the rows are as long as they were
pub done_long : (b₀ e₀ o₀ m₀ b e o m : List ℕ) (i : ℕ) (laid : Counts) → Compacted (stays m₀) i b₀ e₀ o₀ m₀ b e o m laid
    → 2 * i ≤ length e₀ → i ≤ length o₀ → i ≤ length m₀ → length (joined (kept_strings (stays m₀) b₀ e₀ i)) ≤ length b₀
    → (length b ≡ length b₀) × (length e ≡ length e₀) × (length o ≡ length o₀) × (length m ≡ length m₀)
done_long b₀ e₀ o₀ m₀ b e o m i laid d h k l j =
    let keep = stays m₀ in
    let strings = kept_strings keep b₀ e₀ i in
    let n = new_most keep i in (
      ap (λ (r : List ℕ). length r) d.bytes_left ∙ head_long (joined strings) b₀ j,
      ap (λ (r : List ℕ). length r) d.entries_left
          ∙ head_long (laid_out 0 strings) e₀ (omega (arith, laid_long 0 strings, kept_long keep (string_at b₀ e₀) i)),
      ap (λ (r : List ℕ). length r) d.owners_left
          ∙ head_long (kept_owners keep o₀ i) o₀ (omega (arith, kept_long keep (λ (k : ℕ). get_or o₀ k 0) i)),
      ap (λ (r : List ℕ). length r) d.moved_left ∙ head_long (translated keep i) m₀ (omega (arith, translated_long keep i)),
    )

-- nothing is kept yet
pub none_done : (b e o m : List ℕ) → Compacted (stays m) 0 b e o m b e o m (record { entries = 0; bytes = 0 })
unfolding kept joined laid_out translated
none_done b e o m = record { counts_are = refl; bytes_left = refl; entries_left = refl; owners_left = refl; moved_left = refl }

module _ (b e o m : List ℕ) (i : ℕ) (laid : Counts) where
  -- the turn of an entry that goes, and of one that stays
  pub turn_gone : get_or m i 0 ≡ gone → Turns b e o m i laid b e o m laid
  turn_gone h =
      let t : stays m i ≡ false = rw (eq-eqb (get_or m i 0) gone h) in
      record { counts_are = rw t; bytes_left = rw t; entries_left = rw t; owners_left = rw t; moved_left = rw t }

  pub turn_kept : (b' : List ℕ) → (get_or m i 0 ≡ gone → ⊥) → b' ≡ written b laid.bytes (string_at b e i)
      → Turns b e o m i laid b' (entered e laid.entries laid.bytes (length_of e i)) (set o laid.entries (get_or o i 0))
      (set m i laid.entries) (one_more laid (length_of e i))
  turn_kept b' h q =
      let t : stays m i ≡ true = rw (ne_eqb (get_or m i 0) gone h) in
      record { counts_are = rw t; bytes_left = rw t q; entries_left = rw t; owners_left = rw t; moved_left = rw t }

-- entry i may have its turn
pub asked : (b₀ e₀ o₀ m₀ b e o m : List ℕ) (i : ℕ) (laid : Counts) → Compacted (stays m₀) i b₀ e₀ o₀ m₀ b e o m laid → Room b₀ e₀ o₀ m₀ i
    → Turning b e o m i laid
asked b₀ e₀ o₀ m₀ b e o m i laid d r =
    let n = laid_entries b₀ e₀ o₀ m₀ b e o m i laid d r in
    let u = laid_bytes b₀ e₀ o₀ m₀ b e o m i laid d r in
    let f = few b₀ e₀ o₀ m₀ b e o m i laid d r in
    let l = low b₀ e₀ o₀ m₀ b e o m i laid d r in
    let s = start_is b₀ e₀ o₀ m₀ b e o m i laid d r in
    let g = length_is b₀ e₀ o₀ m₀ b e o m i laid d r in
    let long = done_long b₀ e₀ o₀ m₀ b e o m i laid d (omega (arith, r.entry_in)) (omega (arith, r.owner_in)) (omega (arith, r.word_in)) (omega (arith, l, r.string_in)) in
    record {
      entry_in = omega (arith, long.1, r.entry_in);
      owner_in = omega (arith, long.2, r.owner_in);
      word_in = omega (arith, long.3, r.word_in);
      few = omega (arith, n, f);
      low = omega (arith, u, l, s);
      string_in = omega (arith, long.0, s, g, r.string_in);
      index_small = r.index_small;
      end_small = omega (arith, u, l, g, r.small);
    }

-- when all have had theirs, the rows are as long as they were
pub end_long : (b₀ e₀ o₀ m₀ b e o m : List ℕ) (counts : Counts) (i : ℕ) (laid : Counts) → fit_pool b₀ e₀ counts ≡ true
    → counts.entries ≤ length o₀ → counts.entries ≤ length m₀ → i ≡ counts.entries
    → Compacted (stays m₀) i b₀ e₀ o₀ m₀ b e o m laid
    → (length b ≡ length b₀) × (length e ≡ length e₀) × (length o ≡ length o₀) × (length m ≡ length m₀)
end_long b₀ e₀ o₀ m₀ b e o m counts i laid fits h k q d =
    let f = fit_of e₀ counts (entry_room e₀) (byte_room b₀) fits in
    let s = searchable b₀ e₀ counts fits in
    let all = all_spent e₀ counts.entries counts.bytes f.runs in
    let few : length (joined (kept_strings (stays m₀) b₀ e₀ i)) ≤ spent e₀ counts.entries = rw q (kept_bytes (stays m₀) b₀ e₀ counts.entries) in
    done_long b₀ e₀ o₀ m₀ b e o m i laid d (omega (arith, s.1)) (omega arith) (omega arith)
    (omega (arith, all, f.bytes_fit, (room_within (length b₀)).0))
