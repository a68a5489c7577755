-- A pool in the part of the rows that a desk may fill, beside the shared pool: b bytes and e entries are lent, and s is the shared pool before.
--     Beside              the part is a beginning of the rows; behind it they are as before; what was added is owned by the desk and charged to it
--     beside_at_first     before anything is added
--     same_answer         an addition to the part answers as one for the desk
--     beside_after        and after it the two stand beside each other again
-- Assumes nothing.
use Rattle.std.specs.Prelude.{ℕ, ◌+◌, ◌*◌, ◌-◌, ◌/◌, ◌<◌, ◌≤◌, ◌≡◌, refl, Bool, true, false, List, length, set, take, drop, Result}
use Rattle.std.proofs.Common.{arith, sym, ap, ◌∙◌, length-set, length-take-le, take_at, drop_at}
use Rattle.pool_rows.specs.Rows.{string_at, room_of, byte_room, entry_room}
use Rattle.pool_rows.specs.FitLaws.{room_within}
use Rattle.pool_rows.specs.FitLaws as rows
use Rattle.pool_rows.specs.declared.Counts.{Counts}
use Rattle.pool.specs.Pool.{one_more, added, is_new, bytes_after, entries_after, counts_after}
use Rattle.pool.specs.PoolLaws.{old_bytes, old_entries, new_bytes_lem, new_entries_lem}
use Rattle.pool.specs.declared.Added.{Added}
use Rattle.pool.specs.declared.AddError.{AddError}
use Rattle.desks.specs.Desks.{Shared, owner_of, desk_of, other, Fits, entries_for, bytes_for}
use Rattle.desks.specs.FitLaws.{fit_of, fit_by_lem}
use Rattle.desks.specs.declared.Desks.{Desks}
use Rattle.desks.specs.declared.Which.{Which}
use Rattle.desks.specs.declared.Which.TheVariants.{First, Second}
use Rattle.desk_add.specs.Add.{added_for, with_more, shared_after}
use Rattle.desk_add.specs.AddLaws.{less_entries, less_bytes, OnParts, on_parts}
use Rattle.desk_add.specs.PromiseLaws.{written_long, fit_kept, other_kept}
use Rattle.desk_add.specs.PromiseLaws as add
use Rattle.desk_parse.specs.Own.{owned_up, desks_up}
use Rattle.desk_parse.specs.OwnLaws.{owned_none, owned_more}

-- ---- charges

nothing_more : (c : Counts) (d : Counts) → record { entries = d.entries + (c.entries - c.entries); bytes = d.bytes + (c.bytes - c.bytes) } ≡ d
nothing_more c d =
    let x : d.entries + (c.entries - c.entries) ≡ d.entries = omega arith in
    let y : d.bytes + (c.bytes - c.bytes) ≡ d.bytes = omega arith in
    λ i. record { entries = x i; bytes = y i }

-- nothing was added
desks_none : (which : Which) (desks : Desks) (c : Counts) → desks ≡ desks_up which desks c c
desks_none First desks c =
    ap (λ (d : Counts). record { first = record { guaranteed = desks.first.guaranteed; charged = d }; second = desks.second })
    (sym (nothing_more c desks.first.charged))
desks_none Second desks c =
    ap (λ (d : Counts). record { first = desks.first; second = record { guaranteed = desks.second.guaranteed; charged = d } })
    (sym (nothing_more c desks.second.charged))

one_charge : (d c before : Counts) (long : ℕ) → before.entries ≤ c.entries → before.bytes ≤ c.bytes
    → one_more (record { entries = d.entries + (c.entries - before.entries); bytes = d.bytes + (c.bytes - before.bytes) }) long
    ≡ record { entries = d.entries + (c.entries + 1 - before.entries); bytes = d.bytes + (c.bytes + long - before.bytes) }
one_charge d c before long h k =
    let x : d.entries + (c.entries - before.entries) + 1 ≡ d.entries + (c.entries + 1 - before.entries) = omega arith in
    let y : d.bytes + (c.bytes - before.bytes) + long ≡ d.bytes + (c.bytes + long - before.bytes) = omega arith in
    λ i. record { entries = x i; bytes = y i }

-- one string more
desks_more : (which : Which) (desks : Desks) (before c : Counts) (long : ℕ) → before.entries ≤ c.entries → before.bytes ≤ c.bytes
    → with_more which (desks_up which desks before c) long ≡ desks_up which desks before (one_more c long)
desks_more First desks before c long h k =
    ap (λ (d : Counts). record { first = record { guaranteed = desks.first.guaranteed; charged = d }; second = desks.second })
    (one_charge desks.first.charged c before long h k)
desks_more Second desks before c long h k =
    ap (λ (d : Counts). record { first = desks.first; second = record { guaranteed = desks.second.guaranteed; charged = d } })
    (one_charge desks.second.charged c before long h k)

-- ---- what an answer does to the rows

-- a row that a new string is written into keeps its length
bytes_long : (x : List ℕ) (counts : Counts) (r : Result Added AddError) (row : List ℕ) → (is_new counts r ≡ true → counts.bytes + length x ≤ length row)
    → length (bytes_after x counts r row) ≡ length row
bytes_long x counts r row h = go (is_new counts r) refl
  where
    go : (t : Bool) → is_new counts r ≡ t → length (bytes_after x counts r row) ≡ length row
    go true e = ap length (new_bytes_lem x counts r e row) ∙ written_long row x counts.bytes (h e)
    go false e = ap length (old_bytes x counts r e row)

entries_long : (x : List ℕ) (counts : Counts) (r : Result Added AddError) (row : List ℕ) → length (entries_after x counts r row) ≡ length row
entries_long x counts r row = go (is_new counts r) refl
  where
    go : (t : Bool) → is_new counts r ≡ t → length (entries_after x counts r row) ≡ length row
    go true e = ap length (new_entries_lem x counts r e row) ∙ (simp length-set)
    go false e = ap length (old_entries x counts r e row)

-- ---- beside each other

module _ (which : Which) (s : Shared) (b e : ℕ) where
  pub record Beside (t : Shared) : Type 0 where
    pub fits : Fits t
    pub bytes_behind : drop b t.bytes ≡ drop b s.bytes
    pub entries_behind : drop (2 * e) t.entries ≡ drop (2 * e) s.entries
    pub byte_room_lem : b ≡ bytes_for (byte_room t.bytes) which t.desks
    pub entry_room_lem : e ≡ entries_for (entry_room t.entries) which t.desks
    pub more_entries : s.counts.entries ≤ t.counts.entries
    pub more_bytes : s.counts.bytes ≤ t.counts.bytes
    pub owners_long : length t.owners ≡ length s.owners
    pub owners_are : t.owners ≡ owned_up (owner_of which) s.owners s.counts.entries t.counts.entries
    pub desks_are : t.desks ≡ desks_up which s.desks s.counts t.counts
    pub means_same : (k : ℕ) → k < s.counts.entries → string_at t.bytes t.entries k ≡ string_at s.bytes s.entries k

  pub beside_at_first : Fits s → b ≡ bytes_for (byte_room s.bytes) which s.desks → e ≡ entries_for (entry_room s.entries) which s.desks
      → Beside s
  beside_at_first f eb ee =
      record {
        fits = f;
        bytes_behind = refl;
        entries_behind = refl;
        byte_room_lem = eb;
        entry_room_lem = ee;
        more_entries = omega arith;
        more_bytes = omega arith;
        owners_long = refl;
        owners_are = owned_none (owner_of which) s.owners s.counts.entries;
        desks_are = desks_none which s.desks s.counts;
        means_same = λ k h. refl;
      }

  module _ (t : Shared) (n : Beside t) (x : List ℕ) where
    abbrev some_bytes : List ℕ
    some_bytes = take b t.bytes

    abbrev some_entries : List ℕ
    some_entries = take (2 * e) t.entries

    abbrev said : Result Added AddError
    said = added x some_bytes some_entries t.counts

    parts : OnParts x which t b e (bytes_after x t.counts said some_bytes) (entries_after x t.counts said some_entries) said
    parts =
        on_parts x which t b e _ _ _ n.fits n.entry_room_lem n.byte_room_lem
        (record { answer = refl; bytes_left = refl; entries_left = refl })

    pub same_answer : said ≡ added_for which t x
    same_answer = parts.answer

    abbrev then : Shared
    then = shared_after which t x said

    byte_count : length some_bytes ≡ b
    byte_count = length-take-le b t.bytes (omega (arith, n.byte_room_lem, less_bytes t which, (room_within (length t.bytes)).0))

    entry_count : length some_entries ≡ 2 * e
    entry_count =
        length-take-le (2 * e) t.entries (rows.entry_room_lem t.entries e (omega (arith, n.entry_room_lem, less_entries t which)))

    part_bytes_long : length (bytes_after x t.counts said some_bytes) ≡ b
    part_bytes_long = bytes_long x t.counts said some_bytes (λ q. omega (arith, (parts.free q).0, byte_count)) ∙ byte_count

    part_entries_long : length (entries_after x t.counts said some_entries) ≡ 2 * e
    part_entries_long = entries_long x t.counts said some_entries ∙ entry_count

    -- the part after the addition is that much of the rows after it
    pub bytes_then_lem : bytes_after x t.counts said some_bytes ≡ take b then.bytes
    bytes_then_lem = sym (take_at _ (drop b t.bytes) b part_bytes_long) ∙ ap (take b) parts.bytes_left

    pub entries_then_lem : entries_after x t.counts said some_entries ≡ take (2 * e) then.entries
    entries_then_lem = sym (take_at _ (drop (2 * e) t.entries) (2 * e) part_entries_long) ∙ ap (take (2 * e)) parts.entries_left

    -- the other desk, and so this one's room, stay
    others : desk_of (other which) then.desks ≡ desk_of (other which) t.desks
    others = rw same_answer (other_kept which t x)

    bytes_stay : byte_room then.bytes ≡ byte_room t.bytes
    bytes_stay =
        ap room_of
        (bytes_long x t.counts said t.bytes
        (λ q. omega (arith, (parts.free q).0, n.byte_room_lem, less_bytes t which, (room_within (length t.bytes)).0)))

    entries_stay : entry_room then.entries ≡ entry_room t.entries
    entries_stay = ap (λ (k : ℕ). room_of (k / 2)) (entries_long x t.counts said t.entries)

    owner_free : is_new t.counts said ≡ true → t.counts.entries < length t.owners
    owner_free q = omega (arith, parts.entry_free q, (fit_of t n.fits).owned)

    -- what is owned and charged, by whether the index is new
    pub record Owned : Type 0 where
      pub more_entries : s.counts.entries ≤ then.counts.entries
      pub more_bytes : s.counts.bytes ≤ then.counts.bytes
      pub owners_long : length then.owners ≡ length s.owners
      pub owners_are : then.owners ≡ owned_up (owner_of which) s.owners s.counts.entries then.counts.entries
      pub desks_are : then.desks ≡ desks_up which s.desks s.counts then.counts

    owned : (new : Bool) → is_new t.counts said ≡ new → Owned
    owned true q =
        let c : counts_after t.counts said ≡ one_more t.counts (length x) = parts.counted.1 q in
        record {
          more_entries = rw c (omega (arith, n.more_entries));
          more_bytes = rw c (omega (arith, n.more_bytes));
          owners_long = rw q (length-set t.owners t.counts.entries (owner_of which) ∙ n.owners_long);
          owners_are =
              rw (q, c)
              (ap (λ (o : List ℕ). set o t.counts.entries (owner_of which)) n.owners_are
              ∙ owned_more (owner_of which) s.owners s.counts.entries t.counts.entries n.more_entries
              (omega (arith, owner_free q, n.owners_long)));
          desks_are =
              rw (q, c)
              (ap (λ (d : Desks). with_more which d (length x)) n.desks_are
              ∙ desks_more which s.desks s.counts t.counts (length x) n.more_entries n.more_bytes);
        }
    owned false q =
        let c : counts_after t.counts said ≡ t.counts = parts.counted.0 q in
        record {
          more_entries = rw c n.more_entries;
          more_bytes = rw c n.more_bytes;
          owners_long = rw q n.owners_long;
          owners_are = rw (q, c) n.owners_are;
          desks_are = rw (q, c) n.desks_are;
        }

    means : (k : ℕ) → k < t.counts.entries → string_at then.bytes then.entries k ≡ string_at t.bytes t.entries k
    means = rw same_answer (add.means_same which t x (fit_of t n.fits))

    pub beside_after : Beside then
    beside_after =
        let o = owned (is_new t.counts said) refl in
        record {
          fits = fit_by_lem then (rw same_answer (fit_kept which t x (fit_of t n.fits)));
          bytes_behind = ap (drop b) (sym parts.bytes_left) ∙ drop_at (bytes_after x t.counts said some_bytes) (drop b t.bytes) b part_bytes_long ∙ n.bytes_behind;
          entries_behind =
              ap (drop (2 * e)) (sym parts.entries_left) ∙ drop_at (entries_after x t.counts said some_entries) (drop (2 * e) t.entries) (2 * e) part_entries_long ∙ n.entries_behind;
          byte_room_lem = n.byte_room_lem ∙ rw (bytes_stay, others);
          entry_room_lem = n.entry_room_lem ∙ rw (entries_stay, others);
          more_entries = o.more_entries;
          more_bytes = o.more_bytes;
          owners_long = o.owners_long;
          owners_are = o.owners_are;
          desks_are = o.desks_are;
          means_same = λ k h. means k (omega (arith, n.more_entries)) ∙ n.means_same k h;
        }
