-- What document 02 promises of two desks and one pool.
--     base_agrees         what a desk is given, the pool alone would give: so all that is known of an addition to a pool holds
--     strings_after, index_kept, index_shows      no addition changes what an index means, and the string stands at the index answered
--     by_added            an addition changes nothing, or puts a new string in
--     fit_kept            an addition, refused or not, leaves a fit state
--     means_same          and every index keeps its string
--     other_kept          it changes nothing of the other desk
--     answer_in_words     the answer with 13 in document 02's words
--     within_guarantee    a desk that stays within its guarantee is not refused with 13
--     alone               where the other desk is guaranteed nothing, the pool alone answers so
-- Assumes nothing.
use Rattle.std.specs.Prelude.{ℕ, ◌+◌, ◌*◌, ◌<◌, ◌≤◌, refl, true, false, List, [], eqb, length, get_or, set, Result, Err, Ok}
use Rattle.std.proofs.Common.{arith, add-one, sym, ap, subst, ◌∙◌, length-set, length-append, length-drop, get_or-set_same, get_or-set_other, length-take-le, eq-eqb, ne_eqb}
use Rattle.std.proofs.Math.Path.{◌≡◌}
use Rattle.base.specs.Pick.{pick}
use Rattle.base.specs.PickLaws.{by_lt, by_test}
use Rattle.utf8.specs.Chars.{check_from}
use Rattle.utf8.specs.declared.Utf8Error.{Utf8Error}
use Rattle.utf8.specs.declared.Utf8Error.TheVariants as utf8
use Rattle.pool_rows.specs.StringsLaws.{strings_at}
use Rattle.pool_rows.specs.Rows.{string_at, length_of, strings_of, index_of, byte_room, entry_room, fit_pool}
use Rattle.pool.specs.Pool.{one_more, indexed, placed, on_utf8, added, is_new, written, entered}
use Rattle.pool.specs.Pool.{bytes_after, entries_after, counts_after, Grown}
use Rattle.pool_rows.specs.FitLaws as pool
use Rattle.pool.specs.PoolLaws.{placed_there, placed_new, grows, old_bytes, old_entries, new_bytes_lem, new_entries_lem}
use Rattle.pool.specs.PoolLaws as pools
use Rattle.pool_rows.specs.declared.Counts.{Counts}
use Rattle.pool.specs.declared.Added.{Added}
use Rattle.pool.specs.declared.AddError.{AddError}
use Rattle.pool.specs.declared.AddError.TheVariants.{BadUtf8, CutUtf8, BadState, PoolFull}
use Rattle.desks.specs.Desks.{Shared, shared, Fits, owner_of, held_by, desk_of, other, entries_for, bytes_for, entries_shared, bytes_shared}
use Rattle.desk_add.specs.Add.{free_entries, free_bytes, in_words, added_for, with_more, shared_after, add_for}
use Rattle.desks.specs.RoomLaws.{Out, out_of, out_by, in_words_lem, owed, takes, swap}
use Rattle.desks.specs.HeldLaws.{held_more, held_same}
use Rattle.desks.specs.FitLaws.{Fit, fit_of, fit_by_lem}
use Rattle.desk_add.specs.AddLaws.{fitting, less_entries, less_bytes}
use Rattle.desks.specs.declared.Desks.{Desks}
use Rattle.desks.specs.declared.Which.{Which}
use Rattle.desks.specs.declared.Which.TheVariants.{First, Second}

-- ---- an answer, and what it says

-- more room changes no answer that has an index
wider : (long found : ℕ) (counts : Counts) (e b e' b' : ℕ) (i : ℕ) (after : Counts) → e ≤ e' → b ≤ b'
    → placed long found counts e b ≡ indexed i after → placed long found counts e' b' ≡ indexed i after
unfolding placed
wider long found counts e b e' b' i after he hb =
    by_lt Claim found counts.entries
    (λ h q. placed_there long found counts e' b' h ∙ q)
    (λ h. by_lt Claim e (counts.entries + 1)
    (λ l q. let z : ◌≡◌ {A = ℕ} 0 1 = cc in absurd (omega arith))
    (λ l. by_lt Claim b (counts.bytes + long)
    (λ m q. let z : ◌≡◌ {A = ℕ} 0 1 = cc in absurd (omega arith))
    (λ m q. placed_new long found counts e' b' h (omega arith) (omega arith) ∙ q)))
  where
    Claim : Result Added AddError → Type 0
    Claim r = r ≡ indexed i after → placed long found counts e' b' ≡ indexed i after

module _ (which : Which) (s : Shared) (string : List ℕ) (f : Fit s) where
  fits : Fits s
  fits = fit_by_lem s f

  -- what a desk is given, the pool alone would give
  pub base_agrees : (i : ℕ) (after : Counts) → added_for which s string ≡ indexed i after → added string s.bytes s.entries s.counts ≡ indexed i after
  unfolding added
  base_agrees i after e =
      go (check_from 0 string) (sym (fitting s which string fits) ∙ e)
    where
      go : (u : Result (Unit {0}) Utf8Error)
          → on_utf8 u (placed (length string) (index_of string (strings_of s.bytes s.entries s.counts.entries)) s.counts
          (entries_for (entry_room s.entries) which s.desks) (bytes_for (byte_room s.bytes) which s.desks)) ≡ indexed i after
          → on_utf8 u (pick (fit_pool s.bytes s.entries s.counts)
          (placed (length string) (index_of string (strings_of s.bytes s.entries s.counts.entries)) s.counts (entry_room s.entries) (byte_room s.bytes))
          (Err BadState)) ≡ indexed i after
      go (Ok _) q =
          rw f.pool_fit
          (wider (length string) _ s.counts _ _ _ _ i after
          (less_entries s which)
          (less_bytes s which) q)
      go (Err (utf8.BadAt n)) q = let z : ◌≡◌ {A = ℕ} 0 1 = cc in absurd (omega arith)
      go (Err (utf8.CutAt n)) q = let z : ◌≡◌ {A = ℕ} 0 1 = cc in absurd (omega arith)

  -- so the pool has grown as it does without desks
  pub strings_after : (i : ℕ) (after : Counts) → added_for which s string ≡ indexed i after
      → Grown string s.bytes s.entries s.counts (add_for which s string).bytes (add_for which s string).entries i after
  strings_after i after e =
      let a = base_agrees i after e in
      grows string s.bytes s.entries s.counts (add_for which s string).bytes (add_for which s string).entries (indexed i after)
      (record {
        answer = sym a;
        bytes_left = ap (λ (r : Result Added AddError). bytes_after string s.counts r s.bytes) (e ∙ sym a);
        entries_left = ap (λ (r : Result Added AddError). entries_after string s.counts r s.entries) (e ∙ sym a);
      }) i after refl

  -- an index that had a meaning keeps it
  pub index_kept : (i : ℕ) (after : Counts) → added_for which s string ≡ indexed i after → (k : ℕ) → k < s.counts.entries
      → get_or (strings_of (add_for which s string).bytes (add_for which s string).entries after.entries) k []
      ≡ get_or (strings_of s.bytes s.entries s.counts.entries) k []
  index_kept i after e = pools.index_kept string s.bytes s.entries s.counts _ _ i after (strings_after i after e)

  pub index_shows : (i : ℕ) (after : Counts) → added_for which s string ≡ indexed i after
      → get_or (strings_of (add_for which s string).bytes (add_for which s string).entries after.entries) i [] ≡ string
  index_shows i after e = pools.index_shows string s.bytes s.entries s.counts _ _ i after (strings_after i after e)

-- ---- within its guarantee a desk has room

placed_full : (long found : ℕ) (counts : Counts) (e b : ℕ) → counts.entries + 1 ≤ e → counts.bytes + long ≤ b → placed long found counts e b ≡ Err PoolFull → ⊥
unfolding placed
placed_full long found counts e b he hb =
    by_lt (λ (r : Result Added AddError). r ≡ Err PoolFull → ⊥) found counts.entries
    (λ h q. let z : ◌≡◌ {A = ℕ} 0 1 = cc in omega arith)
    (λ h. by_lt (λ (r : Result Added AddError). r ≡ Err PoolFull → ⊥) e (counts.entries + 1)
    (λ l q. omega arith)
    (λ l. by_lt (λ (r : Result Added AddError). r ≡ Err PoolFull → ⊥) b (counts.bytes + long)
    (λ m q. omega arith)
    (λ m q. let z : ◌≡◌ {A = ℕ} 0 1 = cc in omega arith)))

words_placed : (long found : ℕ) (counts : Counts) (e b entries bytes : ℕ) → e ≡ counts.entries + entries → b ≡ counts.bytes + bytes
    → placed long found counts e b ≡ in_words long found counts entries bytes
unfolding placed
words_placed long found counts e b entries bytes he hb =
    by_lt Claim found counts.entries (λ h. placed_there long found counts e b h)
    (λ h. by_lt Claim entries 1
    (λ l. pools.placed_no_entry long found counts e b h (omega arith))
    (λ l. by_lt Claim bytes long
    (λ m. pools.placed_few_bytes long found counts e b h (omega arith) (omega arith))
    (λ m. placed_new long found counts e b h (omega arith) (omega arith))))
  where
    Claim : Result Added AddError → Type 0
    Claim r = placed long found counts e b ≡ r

module _ (s : Shared) (f : Fit s) where
  entries_out : Out (entry_room s.entries) s.counts.entries s.desks.first.guaranteed.entries s.desks.first.charged.entries
      s.desks.second.guaranteed.entries s.desks.second.charged.entries
  entries_out = out_of _ _ _ _ _ _ f.entries_shared_lem

  bytes_out : Out (byte_room s.bytes) s.counts.bytes s.desks.first.guaranteed.bytes s.desks.first.charged.bytes
      s.desks.second.guaranteed.bytes s.desks.second.charged.bytes
  bytes_out = out_of _ _ _ _ _ _ f.bytes_shared_lem

  -- 13 exactly when the string is absent and would, in entries or in bytes, pass what is left of the common room and of the desk's guarantee
  pub answer_in_words : (which : Which) (string : List ℕ)
      → added_for which s string
      ≡ on_utf8 (check_from 0 string)
      (in_words (length string) (index_of string (strings_of s.bytes s.entries s.counts.entries)) s.counts (free_entries which s) (free_bytes which s))
  answer_in_words which string =
      fitting s which string (fit_by_lem s f)
      ∙ ap (on_utf8 (check_from 0 string)) (words_placed (length string) _ s.counts _ _ _ _ (go which).0 (go which).1)
    where
      go : (w : Which) → (entries_for (entry_room s.entries) w s.desks ≡ s.counts.entries + free_entries w s)
          × (bytes_for (byte_room s.bytes) w s.desks ≡ s.counts.bytes + free_bytes w s)
      go First = (in_words_lem _ _ _ _ _ _ entries_out, in_words_lem _ _ _ _ _ _ bytes_out)
      go Second = (in_words_lem _ _ _ _ _ _ (swap _ _ _ _ _ _ entries_out), in_words_lem _ _ _ _ _ _ (swap _ _ _ _ _ _ bytes_out))

  room_owed : (which : Which) (long : ℕ)
      → (desk_of which s.desks).charged.entries + 1 ≤ (desk_of which s.desks).guaranteed.entries
      → (desk_of which s.desks).charged.bytes + long ≤ (desk_of which s.desks).guaranteed.bytes
      → (s.counts.entries + 1 ≤ entries_for (entry_room s.entries) which s.desks)
      × (s.counts.bytes + long ≤ bytes_for (byte_room s.bytes) which s.desks)
  room_owed First long h k = (owed _ _ _ _ _ _ entries_out 1 h, owed _ _ _ _ _ _ bytes_out long k)
  room_owed Second long h k =
      (owed _ _ _ _ _ _ (swap _ _ _ _ _ _ entries_out) 1 h, owed _ _ _ _ _ _ (swap _ _ _ _ _ _ bytes_out) long k)

  pub within_guarantee : (which : Which) (string : List ℕ)
      → (desk_of which s.desks).charged.entries + 1 ≤ (desk_of which s.desks).guaranteed.entries
      → (desk_of which s.desks).charged.bytes + length string ≤ (desk_of which s.desks).guaranteed.bytes
      → added_for which s string ≡ Err PoolFull → ⊥
  within_guarantee which string h k e =
      let r = room_owed which (length string) h k in
      go (check_from 0 string)
      (sym (fitting s which string
      (fit_by_lem s f)) ∙ e)
      (placed_full (length string) _ s.counts _ _ r.0 r.1)
    where
      go : (u : Result (Unit {0}) Utf8Error) {q : Result Added AddError} → on_utf8 u q ≡ Err PoolFull → (q ≡ Err PoolFull → ⊥) → ⊥
      go (Ok _) p n = n p
      go (Err (utf8.BadAt i)) p n = let z : ◌≡◌ {A = ℕ} 0 1 = cc in omega arith
      go (Err (utf8.CutAt i)) p n = let z : ◌≡◌ {A = ℕ} 0 1 = cc in omega arith

-- ---- an addition leaves a fit state

-- the answer in a fit state is one that changes nothing, or a new index that has room
by_placed : (P : Result Added AddError → Type 0) (long found : ℕ) (counts : Counts) (e b : ℕ)
    → ((r : Result Added AddError) → is_new counts r ≡ false → counts_after counts r ≡ counts → P r)
    → (counts.entries + 1 ≤ e → counts.bytes + long ≤ b → P (indexed counts.entries (one_more counts long)))
    → P (placed long found counts e b)
unfolding placed
by_placed P long found counts e b quiet fresh =
    by_lt P found counts.entries
    (λ h. quiet (indexed found counts) (ne_eqb found counts.entries (λ q. omega arith)) refl)
    (λ h. by_lt P e (counts.entries + 1)
    (λ l. quiet (Err PoolFull) refl refl)
    (λ l. by_lt P b (counts.bytes + long)
    (λ m. quiet (Err PoolFull) refl refl)
    (λ m. fresh l m)))

-- the numbers of a row of entries with one more
module _ (entries : List ℕ) (n start long : ℕ) (h : 2 * n + 1 < length entries) where
  entered_long : length (entered entries n start long) ≡ length entries
  entered_long = simp length-set

  entered_new : length_of (entered entries n start long) n ≡ long
  entered_new = get_or-set_same (set entries (2 * n) start) (2 * n + 1) long 0 (omega (arith, length-set entries (2 * n) start))

  entered_old : (k : ℕ) → k < n → length_of (entered entries n start long) k ≡ length_of entries k
  entered_old k l =
      get_or-set_other (set entries (2 * n) start) (2 * n + 1) (2 * k + 1) long 0 (λ e. omega arith)
      ∙ get_or-set_other entries (2 * n) (2 * k + 1) start 0 (λ e. omega arith)

pub written_long : (bytes string : List ℕ) (at : ℕ) → at + length string ≤ length bytes → length (written bytes at string) ≡ length bytes
written_long bytes string at h =
    simp length-append (omega (arith, length-take-le at bytes (omega arith), length-drop (at + length string) bytes))

-- what the desks are charged when one of them adds entry n
held_then : (entries owners : List ℕ) (n start long : ℕ) (which w : Which) (desks : Desks) → 2 * n + 1 < length entries → n < length owners
    → (desk_of w desks).charged ≡ held_by entries owners (owner_of w) n
    → (desk_of w (with_more which desks long)).charged
    ≡ held_by (entered entries n start long) (set owners n (owner_of which)) (owner_of w) (n + 1)
held_then entries owners n start long which w desks he ho q =
    let es = entered entries n start long in
    let os = set owners n (owner_of which) in
    let before : held_by es os (owner_of w) n ≡ held_by entries owners (owner_of w) n =
    held_same entries owners es os (owner_of w) n (entered_old entries n start long he)
    (λ k l. get_or-set_other owners n k (owner_of which) 0 (λ e. omega arith)) in
    go which w q
    ∙ ap (λ (c : Counts). pick (eqb (owner_of which) (owner_of w)) (one_more c long) c) (sym before)
    ∙ ap (λ (k : ℕ). pick (eqb (owner_of which) (owner_of w)) (one_more (held_by es os (owner_of w) n) k) (held_by es os (owner_of w) n))
    (sym (entered_new entries n start long he))
    ∙ ap (λ (k : ℕ). pick (eqb k (owner_of w)) (one_more (held_by es os (owner_of w) n) (length_of es n)) (held_by es os (owner_of w) n))
    (sym (get_or-set_same owners n (owner_of which) 0 ho))
    ∙ held_more es os (owner_of w) n
    ∙ ap (held_by es os (owner_of w)) (sym (add-one n))
  where
    go : (a b : Which) {h : Counts} → (desk_of b desks).charged ≡ h
        → (desk_of b (with_more a desks long)).charged ≡ pick (eqb (owner_of a) (owner_of b)) (one_more h long) h
    go First First e = ap (λ (c : Counts). one_more c long) e
    go First Second e = e
    go Second First e = e
    go Second Second e = ap (λ (c : Counts). one_more c long) e

module _ (which : Which) (s : Shared) (string : List ℕ) (f : Fit s) where
  abbrev n : ℕ
  n = s.counts.entries

  abbrev FitAfter : Result Added AddError → Type 0
  FitAfter r = Fit (shared_after which s string r)

  quiet_fit : (r : Result Added AddError) → is_new s.counts r ≡ false → counts_after s.counts r ≡ s.counts → FitAfter r
  quiet_fit r e q =
      rw (old_bytes string s.counts r e s.bytes, old_entries string s.counts r e s.entries, e, q) f

  -- with one entry more for a desk, the desks share the room again
  more_entries : (w : Which) → n + 1 ≤ entries_for (entry_room s.entries) w s.desks
      → entries_shared (entry_room s.entries) (one_more s.counts (length string)) (with_more w s.desks (length string)) ≡ true
  more_entries First h =
      let t = takes _ _ _ _ _ _ (entries_out s f) 1 h in
      out_by _ _ _ _ _ _ (record { guarantees_fit = t.0; adds_up = t.1; common_fits = t.2 })
  more_entries Second h =
      let t = takes _ _ _ _ _ _ (swap _ _ _ _ _ _ (entries_out s f)) 1 h in
      out_by _ _ _ _ _ _ (swap _ _ _ _ _ _ (record { guarantees_fit = t.0; adds_up = t.1; common_fits = t.2 }))

  more_bytes : (w : Which) → s.counts.bytes + length string ≤ bytes_for (byte_room s.bytes) w s.desks
      → bytes_shared (byte_room s.bytes) (one_more s.counts (length string)) (with_more w s.desks (length string)) ≡ true
  more_bytes First h =
      let t = takes _ _ _ _ _ _ (bytes_out s f) (length string) h in
      out_by _ _ _ _ _ _ (record { guarantees_fit = t.0; adds_up = t.1; common_fits = t.2 })
  more_bytes Second h =
      let t = takes _ _ _ _ _ _ (swap _ _ _ _ _ _ (bytes_out s f)) (length string) h in
      out_by _ _ _ _ _ _ (swap _ _ _ _ _ _ (record { guarantees_fit = t.0; adds_up = t.1; common_fits = t.2 }))

  abbrev new_index : Result Added AddError
  new_index = indexed n (one_more s.counts (length string))

  is_new_lem : is_new s.counts new_index ≡ true
  is_new_lem = eq-eqb n n refl

  module _ (he : n + 1 ≤ entries_for (entry_room s.entries) which s.desks)
      (hb : s.counts.bytes + length string ≤ bytes_for (byte_room s.bytes) which s.desks) where
    abbrev bytes_then : List ℕ
    bytes_then = written s.bytes s.counts.bytes string

    abbrev entries_then : List ℕ
    entries_then = entered s.entries n s.counts.bytes (length string)

    room : 2 * n + 1 < length s.entries
    room =
        omega (
          arith,
          pool.entry_room_lem s.entries (n + 1) (omega (arith, less_entries s which)),
        )

    entry_room_same : entry_room entries_then ≡ entry_room s.entries
    entry_room_same = rw (entered_long s.entries n s.counts.bytes (length string) room)

    byte_room_same : byte_room bytes_then ≡ byte_room s.bytes
    byte_room_same =
        rw (written_long s.bytes string s.counts.bytes
        (omega (arith, less_bytes s which, (pool.room_within (length s.bytes)).0)))

    fit_then : fit_pool bytes_then entries_then (one_more s.counts (length string)) ≡ true
        → Fit (shared bytes_then entries_then (set s.owners n (owner_of which)) (one_more s.counts (length string))
        (with_more which s.desks (length string)))
    fit_then g =
        record {
          pool_fit = g;
          owned = omega (arith, entry_room_same, length-set s.owners n (owner_of which), f.owned);
          charged =
              λ w. held_then s.entries s.owners n s.counts.bytes (length string) which w s.desks room
              (omega (arith, f.owned, less_entries s which)) (f.charged w);
          entries_shared_lem = rw entry_room_same (more_entries which he);
          bytes_shared_lem = rw byte_room_same (more_bytes which hb);
        }

    fresh_fit : added_for which s string ≡ new_index → FitAfter new_index
    fresh_fit e =
        let grown = strings_after which s string f n (one_more s.counts (length string)) e in
        let g : fit_pool (bytes_after string s.counts new_index s.bytes) (entries_after string s.counts new_index s.entries)
        (one_more s.counts (length string)) ≡ true =
        subst
        (λ (r : Result Added AddError). fit_pool (bytes_after string s.counts r s.bytes) (entries_after string s.counts r s.entries)
        (one_more s.counts (length string)) ≡ true)
        e grown.fit in
        let b = new_bytes_lem string s.counts new_index is_new_lem s.bytes in
        let d = new_entries_lem string s.counts new_index is_new_lem s.entries in
        rw (b, d, is_new_lem) (fit_then (rw (b, d) at g))

  -- the answer where the string is well formed
  abbrev fine : Result Added AddError
  fine =
      placed (length string) (index_of string (strings_of s.bytes s.entries n)) s.counts
      (entries_for (entry_room s.entries) which s.desks) (bytes_for (byte_room s.bytes) which s.desks)

  -- what holds after an answer that changes nothing, and after a new index, holds after the addition
  pub by_added : (P : Result Added AddError → Type 0) → ((r : Result Added AddError) → is_new s.counts r ≡ false → counts_after s.counts r ≡ s.counts → P r)
      → (n + 1 ≤ entries_for (entry_room s.entries) which s.desks
      → s.counts.bytes + length string ≤ bytes_for (byte_room s.bytes) which s.desks → added_for which s string ≡ new_index → P new_index)
      → P (added_for which s string)
  by_added P quiet fresh =
      let e = fitting s which string (fits which s string f) in
      subst P (sym e) (go (check_from 0 string) e)
    where
      go : (u : Result (Unit {0}) Utf8Error) → added_for which s string ≡ on_utf8 u fine → P (on_utf8 u fine)
      go (Err (utf8.BadAt i)) e = quiet (Err (BadUtf8 i)) refl refl
      go (Err (utf8.CutAt i)) e = quiet (Err (CutUtf8 i)) refl refl
      go (Ok _) e =
          by_placed (λ (r : Result Added AddError). added_for which s string ≡ r → P r) (length string) _ s.counts _ _ (λ r q k a. quiet r q k) fresh e

  pub fit_kept : FitAfter (added_for which s string)
  fit_kept =
      by_added FitAfter
      (λ r e q. rw (old_bytes string s.counts r e s.bytes, old_entries string s.counts r e s.entries, e, q) f)
      fresh_fit

  -- no addition changes what an index means, refused or not
  pub means_same : (k : ℕ) → k < n
      → string_at (add_for which s string).bytes (add_for which s string).entries k ≡ string_at s.bytes s.entries k
  means_same k h =
      by_added (λ (r : Result Added AddError). string_at (shared_after which s string r).bytes (shared_after which s string r).entries k ≡ string_at s.bytes s.entries k)
      (λ r e q. rw (old_bytes string s.counts r e s.bytes, old_entries string s.counts r e s.entries))
      (λ he hb e.
      let t = add_for which s string in
      let z : 0 + k ≡ k = omega arith in
      subst (λ (r : Result Added AddError). string_at (shared_after which s string r).bytes (shared_after which s string r).entries k ≡ string_at s.bytes s.entries k) e
      (rw z at
      (sym (strings_at t.bytes t.entries 0 (n + 1) k (omega arith))
      ∙ index_kept which s string f n (one_more s.counts (length string)) e k h
      ∙ strings_at s.bytes s.entries 0 n k h)))

-- ---- the other desk

pub other_kept : (which : Which) (s : Shared) (string : List ℕ) → desk_of (other which) (add_for which s string).desks ≡ desk_of (other which) s.desks
other_kept which s string =
    by_test (λ (d : Desks). desk_of (other which) d ≡ desk_of (other which) s.desks) (is_new s.counts (added_for which s string))
    (λ e. go which) (λ e. refl)
  where
    go : (w : Which) → desk_of (other w) (with_more w s.desks (length string)) ≡ desk_of (other w) s.desks
    go First = refl
    go Second = refl

-- ---- one desk alone

-- where the other desk is guaranteed nothing, a desk is answered as the pool alone answers: so demand 2's indices hold for one desk alone
pub alone : (which : Which) (s : Shared) (string : List ℕ) → Fits s
    → (desk_of (other which) s.desks).guaranteed.entries ≡ 0 → (desk_of (other which) s.desks).guaranteed.bytes ≡ 0
    → added_for which s string ≡ added string s.bytes s.entries s.counts
unfolding added
alone which s string fits h k =
    let f = fit_of s fits in
    let e : entries_for (entry_room s.entries) which s.desks ≡ entry_room s.entries = omega arith in
    let b : bytes_for (byte_room s.bytes) which s.desks ≡ byte_room s.bytes = omega arith in
    fitting s which string fits ∙ rw (f.pool_fit, e, b)
