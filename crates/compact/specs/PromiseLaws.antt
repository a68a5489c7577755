-- What document 02 promises of a compaction. `keep` is what either desk marked.
--     kept_at             the things kept, one by one
--     row_says            the translation row: the new index of a kept one, and gone of the others
--     shows_same          every kept index, after translation, shows the same string
--     owner_same          and has the same owner
--     fit_kept            a compaction leaves a fit state
--     entries_grow, bytes_grow    what is free for a desk grows by no less than what its own strings gave back
-- Assumes nothing.
use Prim.Native.Nat.{ℕ, zero, suc, ◌+◌, ◌-◌, ◌<◌, ◌≤◌}
use Rattle.std.proofs.Common.{arith, sym, ◌∙◌, length-drop, length-take-le}
use Rattle.std.specs.Prelude.{◌≡◌, refl, Bool, length, get_or, drop}
use Rattle.std.proofs.Math.Path.{ap}
use Rattle.std.proofs.Math.Bool.{true}
use mathlib.Core.List.{List, [], ◌∷◌}
use Rattle.std.proofs.Math.ListN.{get_or-append}
use Rattle.std.proofs.lemmas.List.{get_or_at}
use Rattle.base.specs.Pick.{pick}
use Rattle.base.specs.PickLaws.{split_eq}
use Rattle.pool_rows.specs.Rows.{start_of, length_of, string_at, strings_of, byte_room, entry_room}
use Rattle.pool_rows.specs.StringsLaws.{strings_at}
use Rattle.pool_rows.specs.FitLaws as pool
use Rattle.pool_rows.specs.declared.Counts.{Counts}
use Rattle.desks.specs.Desks.{owner_of, held_by, desk_of, beyond, common_room, Shared}
use Rattle.desks.specs.RoomLaws.{Out, out_of, out_by, swap, frees}
use Rattle.desk_add.specs.Add.{free_entries, free_bytes}
use Rattle.desks.specs.FitLaws.{Fit}
use Rattle.desks.specs.declared.Which.{Which}
use Rattle.desks.specs.declared.Which.TheVariants.{First, Second}
use Rattle.compact.specs.Compact.{compacted}
use Rattle.slide.specs.Slide.{kept, kept_strings, kept_owners, new_index, gone, translated, joined, laid_out, headed}
use Rattle.slide.specs.SlideLaws.{kept_long, translated_long}
use Rattle.compact.specs.LaidLaws.{runs_there, strings_there}
use Rattle.compact.specs.CallLaws.{Left, left_of_lem}
use Rattle.compact.specs.HeldKeptLaws.{held_kept, held_laid, kept_most, kept_adds_up}

-- ---- what is kept, one by one

module _ (keep : ℕ → Bool) where
  new_suc : (n : ℕ) → keep n ≡ true → new_index keep (suc n) ≡ new_index keep n + 1
  unfolding new_index
  new_suc n e = rw e

  new_below : (n k : ℕ) → k < n → keep k ≡ true → new_index keep k < new_index keep n
  unfolding new_index
  new_below zero k h e = absurd (omega arith)
  new_below (suc n) k h e =
      split_eq k n
      (λ q. let f : keep n ≡ true = ap keep (sym q) ∙ e in rw (q, f) (omega arith))
      (λ q. omega (arith, new_below n k (omega arith) e))

  -- kept thing k stands at its new index
  pub kept_at : {A : Type 0} (f : ℕ → A) (d : A) (n k : ℕ) → k < n → keep k ≡ true → get_or (kept keep f n) (new_index keep k) d ≡ f k
  unfolding kept
  kept_at f d zero k h e = absurd (omega arith)
  kept_at f d (suc n) k h e =
      split_eq k n
      (λ q.
      let g : keep n ≡ true = ap keep (sym q) ∙ e in
      rw (q, g) (get_or_at (kept keep f n) (f n) [] d (new_index keep n) (kept_long keep f n)))
      (λ q.
      get_or-append (kept keep f n) (pick (keep n) (f n ∷ []) []) d (new_index keep k)
      (omega (arith, kept_long keep f n, new_below n k (omega arith) e))
      ∙ kept_at f d n k (omega arith) e)

  -- the translation row
  translated_at : (n k : ℕ) → k < n → get_or (translated keep n) k 0 ≡ pick (keep k) (new_index keep k) gone
  unfolding translated
  translated_at zero k h = absurd (omega arith)
  translated_at (suc n) k h =
      split_eq k n
      (λ q. rw q (get_or_at (translated keep n) (pick (keep n) (new_index keep n) gone) [] 0 n (translated_long keep n)))
      (λ q.
      get_or-append (translated keep n) (pick (keep n) (new_index keep n) gone ∷ []) 0 k (omega (arith, translated_long keep n))
      ∙ translated_at n k (omega arith))

  pub row_says : (moved : List ℕ) (n k : ℕ) → k < n → get_or (headed (translated keep n) moved) k 0 ≡ pick (keep k) (new_index keep k) gone
  row_says moved n k h =
      get_or-append (translated keep n) (drop (length (translated keep n)) moved) 0 k (omega (arith, translated_long keep n))
      ∙ translated_at n k h

  -- every kept index, after translation, shows the same string
  pub shows_same : (s : Shared) (k : ℕ) → k < s.counts.entries → keep k ≡ true
      → get_or (strings_of (compacted keep s).bytes (compacted keep s).entries (compacted keep s).counts.entries) (new_index keep k) []
      ≡ get_or (strings_of s.bytes s.entries s.counts.entries) k []
  shows_same s k h e =
      let n = s.counts.entries in
      let z : 0 + k ≡ k = omega arith in
      ap (λ (l : List (List ℕ)). get_or l (new_index keep k) []) (strings_there (kept_strings keep s.bytes s.entries n) s.bytes s.entries)
      ∙ kept_at (string_at s.bytes s.entries) [] n k h e
      ∙ sym (strings_at s.bytes s.entries 0 n k h ∙ ap (string_at s.bytes s.entries) z)

  -- and has the same owner
  pub owner_same : (s : Shared) (k : ℕ) → k < s.counts.entries → keep k ≡ true
      → get_or (compacted keep s).owners (new_index keep k) 0 ≡ get_or s.owners k 0
  owner_same s k h e =
      let n = s.counts.entries in
      let f : ℕ → ℕ = λ (j : ℕ). get_or s.owners j 0 in
      get_or-append (kept keep f n) (drop (length (kept keep f n)) s.owners) 0 (new_index keep k)
      (omega (arith, kept_long keep f n, new_below n k h e))
      ∙ kept_at f 0 n k h e

-- ---- a compaction leaves a fit state

-- charges that shrink still share the room
shrinks : (room count g c h d count' c' d' : ℕ) → Out room count g c h d → c' ≤ c → d' ≤ d → c' + d' ≡ count' → Out room count' g c' h d'
shrinks room count g c h d count' c' d' o p q e =
    record { guarantees_fit = o.guarantees_fit; adds_up = e; common_fits = less (beyond g c) (beyond h d) o.common_fits (omega arith) (omega arith) }
  where
    less : (x y : ℕ) → x + y ≤ common_room room g h → beyond g c' ≤ x → beyond h d' ≤ y → beyond g c' + beyond h d' ≤ common_room room g h
    less x y a b k = omega arith

module _ (keep : ℕ → Bool) (s : Shared) (f : Fit s) where
  abbrev n : ℕ
  n = s.counts.entries

  abbrev strings : List (List ℕ)
  strings = kept_strings keep s.bytes s.entries n

  abbrev then : Shared
  then = compacted keep s

  fit_pool_lem : pool.Fit s.entries s.counts (entry_room s.entries) (byte_room s.bytes)
  fit_pool_lem = pool.fit_of s.entries s.counts (entry_room s.entries) (byte_room s.bytes) f.pool_fit

  long : (k : ℕ) → k < n → length (string_at s.bytes s.entries k) ≡ length_of s.entries k
  long k h =
      let w = (pool.searchable s.bytes s.entries s.counts f.pool_fit).0 k h in
      length-take-le (length_of s.entries k) (drop (start_of s.entries k) s.bytes)
      (omega (arith, length-drop (start_of s.entries k) s.bytes))

  rows : Left s.bytes s.entries s.owners then.bytes then.entries then.owners s.counts then.counts
  rows =
      left_of_lem keep s.bytes s.entries s.owners s.owners then.bytes then.entries then.owners
      (headed (translated keep n) s.owners) s.counts then.counts s.desks f
      (record { counts_are = refl; bytes_left = refl; entries_left = refl; owners_left = refl; moved_left = refl })

  -- what an owner holds then
  held_then : (owner : ℕ) → held_by then.entries then.owners owner then.counts.entries ≡ held_kept keep s.entries s.owners owner n
  held_then owner =
      rw (kept_long keep (string_at s.bytes s.entries) n)
      (held_laid keep s.bytes s.entries s.owners owner n long
      (drop (length (laid_out 0 strings)) s.entries) (drop (length (kept_owners keep s.owners n)) s.owners))

  entries_out : Out (entry_room s.entries) n s.desks.first.guaranteed.entries s.desks.first.charged.entries
      s.desks.second.guaranteed.entries s.desks.second.charged.entries
  entries_out = out_of _ _ _ _ _ _ f.entries_shared_lem

  bytes_out : Out (byte_room s.bytes) s.counts.bytes s.desks.first.guaranteed.bytes s.desks.first.charged.bytes
      s.desks.second.guaranteed.bytes s.desks.second.charged.bytes
  bytes_out = out_of _ _ _ _ _ _ f.bytes_shared_lem

  held_all : (held_by s.entries s.owners 0 n).entries + (held_by s.entries s.owners 1 n).entries ≡ n
  held_all =
      let a = ap (λ (c : Counts). c.entries) (f.charged First) in
      let b = ap (λ (c : Counts). c.entries) (f.charged Second) in
      omega (arith, a, b, entries_out.adds_up)

  pub fit_kept : Fit then
  fit_kept =
      let l = rows in
      let p = fit_pool_lem in
      let sum = kept_adds_up keep s.bytes s.entries s.owners n long held_all in
      let one = kept_most keep s.bytes s.entries s.owners 0 n in
      let two = kept_most keep s.bytes s.entries s.owners 1 n in
      let ae = ap (λ (c : Counts). c.entries) (f.charged First) in
      let be = ap (λ (c : Counts). c.entries) (f.charged Second) in
      let ab = ap (λ (c : Counts). c.bytes) (f.charged First) in
      let bb = ap (λ (c : Counts). c.bytes) (f.charged Second) in
      let count = kept_long keep (string_at s.bytes s.entries) n in
      let re : entry_room then.entries ≡ entry_room s.entries = rw l.entries_long in
      let rb : byte_room then.bytes ≡ byte_room s.bytes = rw l.bytes_long in
      record {
        pool_fit =
            pool.fit_by_lem then.entries then.counts (entry_room then.entries) (byte_room then.bytes)
            (record {
              entries_fit = omega (arith, re, l.fewer, p.entries_fit);
              bytes_fit = omega (arith, rb, l.less, p.bytes_fit);
              runs = runs_there strings s.bytes s.entries;
            });
        owned = omega (arith, re, l.owners_long, f.owned);
        charged = same;
        entries_shared_lem =
            rw (re, held_then 0, held_then 1)
            (out_by _ _ _ _ _ _
            (shrinks _ _ _ _ _ _ (length strings) _ _ entries_out (omega (arith, ae, one.0)) (omega (arith, be, two.0)) (omega (arith, sum.0, count))));
        bytes_shared_lem =
            rw (rb, held_then 0, held_then 1)
            (out_by _ _ _ _ _ _
            (shrinks _ _ _ _ _ _ (length (joined strings)) _ _ bytes_out (omega (arith, ab, one.1)) (omega (arith, bb, two.1)) sum.1));
      }
    where
      same : (w : Which) → (desk_of w then.desks).charged ≡ held_by then.entries then.owners (owner_of w) then.counts.entries
      same First = refl
      same Second = refl

-- ---- later additions use the freed room

module _ (keep : ℕ → Bool) (s : Shared) (f : Fit s) where
  abbrev state : Shared
  state = compacted keep s

  less_charged : (w : Which) → ((desk_of w state.desks).charged.entries ≤ (desk_of w s.desks).charged.entries)
      × ((desk_of w state.desks).charged.bytes ≤ (desk_of w s.desks).charged.bytes)
  less_charged w =
      let p = kept_most keep s.bytes s.entries s.owners (owner_of w) s.counts.entries in
      let q = (fit_kept keep s f).charged w ∙ held_then keep s f (owner_of w) in
      let r = f.charged w in (
        omega (arith, p.0, ap (λ (c : Counts). c.entries) q, ap (λ (c : Counts). c.entries) r),
        omega (arith, p.1, ap (λ (c : Counts). c.bytes) q, ap (λ (c : Counts). c.bytes) r),
      )

  room_same : (entry_room state.entries ≡ entry_room s.entries) × (byte_room state.bytes ≡ byte_room s.bytes)
  room_same = let l = rows keep s f in (rw l.entries_long, rw l.bytes_long)

  entries_out_then : Out (entry_room s.entries) state.counts.entries s.desks.first.guaranteed.entries state.desks.first.charged.entries
      s.desks.second.guaranteed.entries state.desks.second.charged.entries
  entries_out_then = rw room_same.0 at (out_of _ _ _ _ _ _ (fit_kept keep s f).entries_shared_lem)

  bytes_out_then : Out (byte_room s.bytes) state.counts.bytes s.desks.first.guaranteed.bytes state.desks.first.charged.bytes
      s.desks.second.guaranteed.bytes state.desks.second.charged.bytes
  bytes_out_then = rw room_same.1 at (out_of _ _ _ _ _ _ (fit_kept keep s f).bytes_shared_lem)

  -- what is free for a desk grows by no less than what its own strings gave back
  pub entries_grow : (w : Which)
      → free_entries w s + ((desk_of w s.desks).charged.entries - (desk_of w state.desks).charged.entries) ≤ free_entries w state
  entries_grow First =
      rw room_same.0 (frees _ _ _ _ _ _ _ _ _ (entries_out keep s f) entries_out_then (less_charged First).0 (less_charged Second).0)
  entries_grow Second =
      rw room_same.0
      (frees _ _ _ _ _ _ _ _ _ (swap _ _ _ _ _ _ (entries_out keep s f)) (swap _ _ _ _ _ _ entries_out_then) (less_charged Second).0 (less_charged First).0)

  pub bytes_grow : (w : Which)
      → free_bytes w s + ((desk_of w s.desks).charged.bytes - (desk_of w state.desks).charged.bytes) ≤ free_bytes w state
  bytes_grow First =
      rw room_same.1 (frees _ _ _ _ _ _ _ _ _ (bytes_out keep s f) bytes_out_then (less_charged First).1 (less_charged Second).1)
  bytes_grow Second =
      rw room_same.1
      (frees _ _ _ _ _ _ _ _ _ (swap _ _ _ _ _ _ (bytes_out keep s f)) (swap _ _ _ _ _ _ bytes_out_then) (less_charged Second).1 (less_charged First).1)
