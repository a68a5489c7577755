-- Laws of room and of fit pools.
--     room_within, entry_room_lem     room is no more than the row has, nor than 32 bits count
--     Fit, fit_of, fit_by_lem         what `fit_in` says, part by part
--     runs_more, runs_same        entries that run end to end, with one more, and with other entries behind them
--     within, searchable          the strings of a fit pool lie in the bytes in use, and in its rows
-- Assumes nothing.
use Prim.Native.Nat.{ℕ, zero, suc, ◌+◌, ◌*◌, ◌/◌, ◌<◌, ◌≤◌}
use native.Mathlib.Omega.{arith}
use Rattle.std.proofs.Common.{div-mul-le_self, subst}
use Rattle.std.proofs.Math.Path.{◌≡◌}
use Rattle.std.specs.Prelude.{refl, Bool, List, length}
use Rattle.std.proofs.Math.Bool.{true}
use borrow.Author.Tests.{eqb-true, eq-eqb, le-ltb}
use Rattle.base.specs.PickLaws.{by_lt, by_eq, split_eq}
use Rattle.pool_rows.specs.Rows.{start_of, length_of, room_most, room_of, byte_room, entry_room, runs_to, Within, fit_in, fit_pool}
use Rattle.pool_rows.specs.declared.Counts.{Counts}

-- ---- room

pub room_within : (most : ℕ) → (room_of most ≤ most) × (room_of most ≤ room_most)
unfolding room_of
room_within most =
    by_lt (λ (r : ℕ). (r ≤ most) × (r ≤ room_most)) room_most most (λ h. (omega arith, omega arith)) (λ h. (omega arith, omega arith))

-- two numbers of the row for each entry that has room
pub entry_room_lem : (entries : List ℕ) (n : ℕ) → n ≤ entry_room entries → 2 * n ≤ length entries
entry_room_lem entries n h = omega (arith, (room_within (length entries / 2)).0, div-mul-le_self (length entries) 2)

-- ---- fit pools, part by part

module _ (entries : List ℕ) (counts : Counts) (forEntries forBytes : ℕ) where
  -- what a fit pool is, part by part
  pub record Fit : Type 0 where
    pub entries_fit : counts.entries ≤ forEntries
    pub bytes_fit : counts.bytes ≤ forBytes
    pub runs : runs_to entries 0 counts.entries 0 counts.bytes ≡ true

  pub fit_of : fit_in entries counts forEntries forBytes ≡ true → Fit
  unfolding fit_in
  fit_of =
      by_lt (λ (t : Bool). t ≡ true → Fit) forEntries counts.entries
      (λ h e. let z : ◌≡◌ {A = ℕ} 0 1 = cc in absurd (omega arith))
      (λ h. by_lt (λ (t : Bool). t ≡ true → Fit) forBytes counts.bytes
      (λ k e. let z : ◌≡◌ {A = ℕ} 0 1 = cc in absurd (omega arith))
      (λ k e. record { entries_fit = h; bytes_fit = k; runs = e }))

  pub fit_by_lem : Fit → fit_in entries counts forEntries forBytes ≡ true
  unfolding fit_in
  fit_by_lem f = rw (le-ltb forEntries counts.entries f.entries_fit, le-ltb forBytes counts.bytes f.bytes_fit) f.runs

-- ---- entries that run end to end

module _ (entries : List ℕ) where
  -- the first of some entries that run end to end, and the others
  runs_parts : (k n start end : ℕ) → runs_to entries k (suc n) start end ≡ true
      → (start_of entries k ≡ start) × (runs_to entries (suc k) n (start + length_of entries k) end ≡ true)
  unfolding runs_to
  runs_parts k n start end =
      by_eq (λ (t : Bool). t ≡ true → (start_of entries k ≡ start) × (runs_to entries (suc k) n (start + length_of entries k) end ≡ true))
      (start_of entries k) start
      (λ h e. (h, e))
      (λ h e. let z : ◌≡◌ {A = ℕ} 0 1 = cc in absurd (omega arith))

  runs_end : (k start end : ℕ) → runs_to entries k zero start end ≡ true → start ≡ end
  unfolding runs_to
  runs_end k start end e = eqb-true start end e

  runs_on : (k n start end : ℕ) → runs_to entries k n start end ≡ true → start ≤ end
  runs_on k zero start end e = omega (arith, runs_end k start end e)
  runs_on k (suc n) start end e = omega (arith, runs_on (suc k) n (start + length_of entries k) end (runs_parts k n start end e).1)

  runs_within : (k n start end j : ℕ) → runs_to entries k n start end ≡ true → k ≤ j → j < k + n → start_of entries j + length_of entries j ≤ end
  runs_within k zero start end j e h l = absurd (omega arith)
  runs_within k (suc n) start end j e h l =
      let p = runs_parts k n start end e in
      split_eq k j
      (λ q. subst (λ (i : ℕ). start_of entries i + length_of entries i ≤ end) q
      (omega (arith, p.0, runs_on (suc k) n (start + length_of entries k) end p.1)))
      (λ q. runs_within (suc k) n (start + length_of entries k) end j p.1 (omega arith) (omega arith))

  -- one entry more, that starts where they end
  pub runs_more : (k n j start end : ℕ) → j ≡ k + n → runs_to entries k n start end ≡ true → start_of entries j ≡ end
      → runs_to entries k (suc n) start (end + length_of entries j) ≡ true
  unfolding runs_to
  runs_more k zero j start end a e f =
      let b : j ≡ k = omega arith in
      let g : start_of entries k ≡ end = rw b at f in
      let m = runs_end k start end e in
      rw (b, eq-eqb (start_of entries k) start (omega arith)) (eq-eqb (start + length_of entries k) (end + length_of entries k) (omega arith))
  runs_more k (suc n) j start end a e f =
      let p = runs_parts k n start end e in
      rw (eq-eqb (start_of entries k) start p.0)
      (runs_more (suc k) n j (start + length_of entries k) end (omega arith) p.1 f)

  pub within : (counts : Counts) (forEntries forBytes : ℕ) → Fit entries counts forEntries forBytes
      → Within entries counts.entries counts.bytes
  within counts forEntries forBytes f k h = runs_within 0 counts.entries 0 counts.bytes k f.runs (omega arith) (omega arith)

-- the strings of a fit pool lie in its row of bytes, and its entries in theirs
pub searchable : (bytes entries : List ℕ) (counts : Counts) → fit_pool bytes entries counts ≡ true
    → Within entries counts.entries (length bytes) × (2 * counts.entries ≤ length entries)
searchable bytes entries counts e =
    let f = fit_of entries counts (entry_room entries) (byte_room bytes) e in (
      λ k h. omega (arith, within entries counts (entry_room entries) (byte_room bytes) f k h, f.bytes_fit, (room_within (length bytes)).0),
      omega (arith, f.entries_fit, (room_within (length entries / 2)).0, div-mul-le_self (length entries) 2),
    )

-- entries that are the same run the same way
pub runs_same : (entries entries' : List ℕ) (k n start end : ℕ)
    → ((j : ℕ) → j < k + n → (start_of entries' j ≡ start_of entries j) × (length_of entries' j ≡ length_of entries j))
    → runs_to entries' k n start end ≡ runs_to entries k n start end
unfolding runs_to
runs_same entries entries' k zero start end h = refl
runs_same entries entries' k (suc n) start end h =
    let p = h k (omega arith) in
    rw (p.0, p.1, runs_same entries entries' (suc k) n (start + length_of entries k) end (λ j l. h j (omega arith)))
