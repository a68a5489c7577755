-- An empty pool that has room: two entries and twice as many bytes as the format string has are enough for its parse.
--     Free, adds_free     room for so many entries and bytes more, and what an addition leaves of it
--     empty_is_fit        a pool with nothing in use is fit
--     parse_has_room      with two entries and twice the bytes free, no addition of a parse finds no room
-- Assumes nothing.
use Rattle.std.specs.Prelude.{ℕ, ◌+◌, ◌*◌, ◌≤◌, ◌≡◌, refl, Bool, true, false, ltb, drop, set, Option, Some, None, Result, Ok, Err}
use native.Mathlib.Omega.{arith}
use Rattle.std.proofs.Common.{sym, ap, ◌∙◌, length-drop, length-take-le}
use Rattle.std.proofs.Math.Path.{subst}
use mathlib.Core.List.{List}
use Rattle.std.proofs.Math.ListN.{length, length-set}
use Rattle.base.specs.Pick.{pick}
use Rattle.base.specs.PickLaws.{by_test, by_lt}
use Rattle.utf8.specs.Encode.{WellFormed}
use Rattle.utf8.specs.Chars.{check_from}
use Rattle.utf8.specs.declared.Utf8Error.{Utf8Error}
use Rattle.utf8.specs.declared.Utf8Error.TheVariants as utf8
use Rattle.property.specs.Table.{properties_at}
use Rattle.pool_rows.specs.Rows.{byte_room, entry_room, runs_to, fit_pool}
use Rattle.pool_rows.specs.FitLaws.{room_within, fit_by_lem}
use Rattle.pool_rows.specs.declared.Counts.{Counts}
use Rattle.pool.specs.Pool.{placed, on_utf8, added, is_new, bytes_after, entries_after}
use Rattle.pool.specs.WrittenLaws.{length_written}
use Rattle.pool.specs.declared.Added.{Added}
use Rattle.pool.specs.declared.AddError.{AddError}
use Rattle.pool.specs.declared.AddError.TheVariants.{BadUtf8, CutUtf8, BadState, PoolFull}
use Rattle.format.specs.Parse.{string_of, add_fill, add_part, FillIn, OnePass}
use Rattle.format.specs.ReadLaws.{added_in}
use Rattle.parse.specs.Call.{Pool, on_added, add_to, parsed}
use Rattle.parse.specs.CallLaws.{two_stages}
use Rattle.parse.specs.Plan.{read_of}
use Rattle.format_options.specs.declared.Part.{Part}

-- nothing in use
abbrev pub nothing_used : Counts
nothing_used = record { entries = 0; bytes = 0 }

-- no addition has found no room, and so many entries and bytes are free
pub record Free (n b : ℕ) (p : Pool) : Type 0 where
  pub not_full : p.full ≡ false
  pub entries_free : p.counts.entries + n ≤ entry_room p.entries
  pub bytes_free : p.counts.bytes + b ≤ byte_room p.bytes

module _ (x : List ℕ) (counts : Counts) (forEntries forBytes : ℕ) (h : counts.entries + 1 ≤ forEntries) (k : counts.bytes + length x ≤ forBytes) where
  -- what an answer with room is
  abbrev Few : Result Added AddError → Type 0
  Few (Ok added) = (added.counts.entries ≤ counts.entries + 1) × (added.counts.bytes ≤ counts.bytes + length x)
  Few (Err (BadUtf8 i)) = Unit {0}
  Few (Err (CutUtf8 i)) = Unit {0}
  Few (Err BadState) = Unit {0}
  Few (Err PoolFull) = ⊥

  placed_few : (found : ℕ) → Few (placed (length x) found counts forEntries forBytes)
  unfolding placed
  placed_few found =
      by_test Few (ltb found counts.entries) (λ _. (omega arith, omega arith))
      (λ _. by_lt Few forEntries (counts.entries + 1) (λ l. omega arith)
      (λ _. by_lt Few forBytes (counts.bytes + length x) (λ l. omega arith) (λ _. (omega arith, omega arith))))

  checked_few : (found : ℕ) (c : Result (Unit {0}) Utf8Error) (t : Bool) → Few (on_utf8 c (pick t (placed (length x) found counts forEntries forBytes) (Err BadState)))
  checked_few found (Ok _) true = placed_few found
  checked_few found (Ok _) false = tt
  checked_few found (Err (utf8.BadAt i)) t = tt
  checked_few found (Err (utf8.CutAt i)) t = tt

module _ (p : Pool) (x : List ℕ) (n b : ℕ) (f : Free (n + 1) (b + length x) p) where
  one_entry : p.counts.entries + 1 ≤ entry_room p.entries
  one_entry = omega (arith, f.entries_free)

  its_bytes : p.counts.bytes + length x ≤ byte_room p.bytes
  its_bytes = omega (arith, f.bytes_free)

  few : Few x p.counts (entry_room p.entries) (byte_room p.bytes) one_entry its_bytes (added x p.bytes p.entries p.counts)
  unfolding added
  few = checked_few x p.counts (entry_room p.entries) (byte_room p.bytes) one_entry its_bytes _ (check_from 0 x) (fit_pool p.bytes p.entries p.counts)

  -- the rows stay as long as they are
  bytes_long : (r : Result Added AddError) → length (bytes_after x p.counts r p.bytes) ≡ length p.bytes
  unfolding bytes_after
  bytes_long r =
      by_test (λ (l : List ℕ). length l ≡ length p.bytes) (is_new p.counts r)
      (λ _. length_written p.bytes p.counts.bytes x (omega (arith, its_bytes, (room_within (length p.bytes)).0))) (λ _. refl)

  entries_long : (r : Result Added AddError) → length (entries_after x p.counts r p.entries) ≡ length p.entries
  unfolding entries_after
  entries_long r =
      by_test (λ (l : List ℕ). length l ≡ length p.entries) (is_new p.counts r)
      (λ _. length-set (set p.entries (2 * p.counts.entries) p.counts.bytes) (2 * p.counts.entries + 1) (length x)
      ∙ length-set p.entries (2 * p.counts.entries) p.counts.bytes) (λ _. refl)

  pub adds_free : Free n b (add_to p x)
  unfolding add_to
  adds_free =
      let r = added x p.bytes p.entries p.counts in
      subst (Free n b) (sym (ap (λ (t : Bool). pick t p (on_added p x r)) f.not_full)) (go r few)
    where
      kept : Free n b p
      kept = record { not_full = f.not_full; entries_free = omega (arith, f.entries_free); bytes_free = omega (arith, f.bytes_free) }

      go : (r : Result Added AddError) → Few x p.counts (entry_room p.entries) (byte_room p.bytes) one_entry its_bytes r → Free n b (on_added p x r)
      go (Ok added) v =
          record {
            not_full = refl;
            entries_free = rw (entries_long (Ok added)) (omega (arith, f.entries_free, v.0));
            bytes_free = rw (bytes_long (Ok added)) (omega (arith, f.bytes_free, v.1));
          }
      go (Err (BadUtf8 i)) v = kept
      go (Err (CutUtf8 i)) v = kept
      go (Err BadState) v = kept
      go (Err PoolFull) v = absurd v

-- a string of the format string s, if there is one
fill_free : (s : List ℕ) (p : Pool) (fill : Option Part) (n b : ℕ) → FillIn s fill → Free (n + 1) (b + length s) p → Free n b (add_fill (add_part s add_to) p fill)
fill_free s p (Some part) n b i f =
    let short : length (string_of s part) ≤ length s =
    omega (arith, i.within, length-take-le part.len (drop part.place s) (omega (arith, i.within, length-drop part.place s))) in
    adds_free p (string_of s part) n b
    (record { not_full = f.not_full; entries_free = f.entries_free; bytes_free = omega (arith, f.bytes_free) })
fill_free s p None n b i f =
    record { not_full = f.not_full; entries_free = omega (arith, f.entries_free); bytes_free = omega (arith, f.bytes_free) }

module _ (s table : List ℕ) (edition : ℕ) (w : WellFormed s) where
  pub parse_has_room : (p : Pool) → Free 2 (2 * length s) p → (parsed s table edition p).pool.full ≡ false
  parse_has_room p f =
      let r = (read_of s table edition).added in
      let i = added_in s (properties_at table) edition w in
      let one = fill_free s p r.first 1 (length s) i.first (record { not_full = f.not_full; entries_free = f.entries_free; bytes_free = omega (arith, f.bytes_free) }) in
      let two = fill_free s (add_fill (add_part s add_to) p r.first) r.second 0 0 i.second (record { not_full = one.not_full; entries_free = one.entries_free; bytes_free = omega (arith, one.bytes_free) }) in
      ap (λ (x : OnePass Pool). x.pool.full) (two_stages s table edition p w) ∙ two.not_full

pub empty_is_fit : (bytes entries : List ℕ) → fit_pool bytes entries nothing_used ≡ true
unfolding runs_to
empty_is_fit bytes entries =
    fit_by_lem entries nothing_used (entry_room entries) (byte_room bytes) (record { entries_fit = omega arith; bytes_fit = omega arith; runs = refl })
