-- Laws of an addition for a desk.
--     wrong, cut, unfit, fitting      the answer where the string is wrong or cut, or else where the desks are unfit, and where they are fit
--     unwritten, uncounted    a refusal of the state or of the string hands out no new index, and leaves the counts
--     Counted                 what an answer does to the counts
--     fills_pool              what is in use does not pass the desk's room
--     has_room                a new string has room there
--     charge_fits             and can be charged
--     on_parts                an addition to the part of the rows that the desk may fill is an addition for the desk
--     settled                 a return of `add_string`, from its answer
--     one_answer              no second answer, and no second rows and desks, fit `AddsFor`
-- Assumes nothing.
use Rattle.std.specs.Prelude.{ℕ, ◌+◌, ◌*◌, ◌/◌, ◌<◌, ◌≤◌, ◌≡◌, refl, true, false, List, ◌++◌, length, take, drop, Result, Err, Ok}
use Rattle.std.proofs.Common.{arith, sym, ap, subst, ◌∙◌, eqb-true, eq-eqb}
use Rattle.base.specs.PickLaws.{by_lt}
use Rattle.utf8.specs.Chars.{check_from}
use Rattle.utf8.specs.declared.Utf8Error.{Utf8Error}
use Rattle.utf8.specs.declared.Utf8Error.TheVariants as utf8
use Rattle.pool_rows.specs.Rows.{strings_of, index_of, room_most, byte_room, entry_room}
use Rattle.pool.specs.Pool.{one_more, placed, on_utf8, refused_as, refusal_at, is_new, bytes_after, entries_after, counts_after, AddsString}
use Rattle.pool_rows.specs.FitLaws as pool
use Rattle.pool_rows.specs.declared.Counts.{Counts}
use Rattle.pool.specs.declared.Added.{Added}
use Rattle.pool.specs.declared.AddError.{AddError}
use Rattle.pool.specs.declared.AddError.TheVariants.{BadUtf8, CutUtf8, BadState}
use Rattle.desks.specs.Desks.{Shared, desk_of, entries_for, bytes_for, fit_desks}
use Rattle.desks.specs.RoomLaws.{Out, out_of, fills, swap}
use Rattle.desks.specs.FitLaws.{Fit, fit_of}
use Rattle.desk_add.specs.Add.{added_for, shared_after, AddsFor}
use Rattle.desk_add.specs.PartsLaws.{part_added, part_bytes, part_entries}
use Rattle.desks.specs.declared.Which.{Which}
use Rattle.desks.specs.declared.Which.TheVariants.{First, Second}
use Rattle.desk_add.specs.declared.AddedFor.{AddedFor}

pub unwritten : (counts : Counts) (u : Result (Unit {0}) Utf8Error) → is_new counts (on_utf8 u (Err BadState)) ≡ false
unwritten counts (Ok _) = refl
unwritten counts (Err (utf8.BadAt i)) = refl
unwritten counts (Err (utf8.CutAt i)) = refl

pub uncounted : (counts : Counts) (u : Result (Unit {0}) Utf8Error) → counts_after counts (on_utf8 u (Err BadState)) ≡ counts
uncounted counts (Ok _) = refl
uncounted counts (Err (utf8.BadAt i)) = refl
uncounted counts (Err (utf8.CutAt i)) = refl

-- a refusal of the string, or of the state
refused_is : (u : Result (Unit {0}) Utf8Error) → on_utf8 u (Err BadState) ≡ Err (refused_as u)
refused_is (Ok _) = refl
refused_is (Err (utf8.BadAt i)) = refl
refused_is (Err (utf8.CutAt i)) = refl

-- the counts after an answer are those before, or have one string more where its index is new
abbrev pub Counted : Counts → ℕ → Result Added AddError → Type 0
Counted counts long r = (is_new counts r ≡ false → counts_after counts r ≡ counts) × (is_new counts r ≡ true → counts_after counts r ≡ one_more counts long)

counted : (counts : Counts) (u : Result (Unit {0}) Utf8Error) (long found re rb : ℕ) → Counted counts long (on_utf8 u (placed long found counts re rb))
unfolding placed
counted counts (Err (utf8.BadAt i)) long found re rb = (λ _. refl, λ e. let z : ◌≡◌ {A = ℕ} 0 1 = cc in absurd (omega arith))
counted counts (Err (utf8.CutAt i)) long found re rb = (λ _. refl, λ e. let z : ◌≡◌ {A = ℕ} 0 1 = cc in absurd (omega arith))
counted counts (Ok _) long found re rb =
    by_lt (Counted counts long) found counts.entries
    (λ h. (λ _. refl, λ f. absurd (omega (arith, eqb-true found counts.entries f))))
    (λ h. by_lt (Counted counts long) re (counts.entries + 1)
    (λ l. (λ _. refl, λ e. let z : ◌≡◌ {A = ℕ} 0 1 = cc in absurd (omega arith)))
    (λ l. by_lt (Counted counts long) rb (counts.bytes + long)
    (λ m. (λ _. refl, λ e. let z : ◌≡◌ {A = ℕ} 0 1 = cc in absurd (omega arith)))
    (λ m. (
      λ e.
          let y : true ≡ false = sym (eq-eqb counts.entries counts.entries refl) ∙ e in
          let z : ◌≡◌ {A = ℕ} 0 1 = cc in absurd (omega arith),
      λ _. refl,
    ))))

-- a new string has room
pub has_room : (counts : Counts) (u : Result (Unit {0}) Utf8Error) (long found re rb : ℕ) → is_new counts (on_utf8 u (placed long found counts re rb)) ≡ true
    → (counts.bytes + long ≤ rb) × (counts.entries + 1 ≤ re)
unfolding placed
has_room counts (Err (utf8.BadAt i)) long found re rb e = let z : ◌≡◌ {A = ℕ} 0 1 = cc in absurd (omega arith)
has_room counts (Err (utf8.CutAt i)) long found re rb e = let z : ◌≡◌ {A = ℕ} 0 1 = cc in absurd (omega arith)
has_room counts (Ok _) long found re rb e =
    let Claim : Result Added AddError → Type 0 = λ r. is_new counts r ≡ true → (counts.bytes + long ≤ rb) × (counts.entries + 1 ≤ re) in
    by_lt Claim found counts.entries
    (λ h f. absurd (omega (arith, eqb-true found counts.entries f)))
    (λ h. by_lt Claim re (counts.entries + 1)
    (λ l f. let z : ◌≡◌ {A = ℕ} 0 1 = cc in absurd (omega arith))
    (λ l. by_lt Claim rb (counts.bytes + long)
    (λ m f. let z : ◌≡◌ {A = ℕ} 0 1 = cc in absurd (omega arith))
    (λ m f. (m, l)))) e

module _ (s : Shared) (which : Which) where
  abbrev re : ℕ
  re = entries_for (entry_room s.entries) which s.desks

  abbrev rb : ℕ
  rb = bytes_for (byte_room s.bytes) which s.desks

  module _ (string : List ℕ) where
    pub wrong : (i : ℕ) → check_from 0 string ≡ Err (utf8.BadAt i) → added_for which s string ≡ Err (BadUtf8 i)
    unfolding added_for
    wrong i e = rw e

    pub cut : (i : ℕ) → check_from 0 string ≡ Err (utf8.CutAt i) → added_for which s string ≡ Err (CutUtf8 i)
    unfolding added_for
    cut i e = rw e

    pub unfit : fit_desks s ≡ false
        → added_for which s string ≡ Err (refusal_at string)
    unfolding added_for
    unfit e = rw e (refused_is (check_from 0 string))

    pub fitting : fit_desks s ≡ true
        → added_for which s string
        ≡ on_utf8 (check_from 0 string) (placed (length string) (index_of string (strings_of s.bytes s.entries s.counts.entries)) s.counts re rb)
    unfolding added_for
    fitting e = rw e

  -- the room that a desk has is no more than the pool's
  pub less_entries : re ≤ entry_room s.entries
  less_entries = omega arith

  pub less_bytes : rb ≤ byte_room s.bytes
  less_bytes = omega arith

  module _ (f : Fit s) where
    entries_out : Out (entry_room s.entries) s.counts.entries s.desks.first.guaranteed.entries s.desks.first.charged.entries
        s.desks.second.guaranteed.entries s.desks.second.charged.entries
    entries_out = out_of _ _ _ _ _ _ f.entries_shared_lem

    bytes_out : Out (byte_room s.bytes) s.counts.bytes s.desks.first.guaranteed.bytes s.desks.first.charged.bytes
        s.desks.second.guaranteed.bytes s.desks.second.charged.bytes
    bytes_out = out_of _ _ _ _ _ _ f.bytes_shared_lem

    pub fills_pool : pool.Fit s.entries s.counts re rb
    fills_pool =
        record {
          entries_fit = (go which).0;
          bytes_fit = (go which).1;
          runs = (pool.fit_of s.entries s.counts (entry_room s.entries) (byte_room s.bytes) f.pool_fit).runs;
        }
      where
        go : (w : Which) → (s.counts.entries ≤ entries_for (entry_room s.entries) w s.desks) × (s.counts.bytes ≤ bytes_for (byte_room s.bytes) w s.desks)
        go First = (fills _ _ _ _ _ _ entries_out, fills _ _ _ _ _ _ bytes_out)
        go Second = (fills _ _ _ _ _ _ (swap _ _ _ _ _ _ entries_out), fills _ _ _ _ _ _ (swap _ _ _ _ _ _ bytes_out))

    pub charges_within : (w : Which) → ((desk_of w s.desks).charged.entries ≤ s.counts.entries) × ((desk_of w s.desks).charged.bytes ≤ s.counts.bytes)
    charges_within First = (omega (arith, entries_out.adds_up), omega (arith, bytes_out.adds_up))
    charges_within Second = (omega (arith, entries_out.adds_up), omega (arith, bytes_out.adds_up))

    pub charge_fits : (long : ℕ) → (s.counts.bytes + long ≤ rb) × (s.counts.entries + 1 ≤ re)
        → ((desk_of which s.desks).charged.entries < 4294967295) × ((desk_of which s.desks).charged.bytes + long ≤ 4294967295)
    charge_fits long h =
        let p = charges_within which in (
          omega (arith, p.0, h.1, less_entries, (pool.room_within (length s.entries / 2)).1),
          omega (arith, p.1, h.0, less_bytes, (pool.room_within (length s.bytes)).1),
        )

-- what an addition to the part of the rows says of the rows: n bytes and m entries are lent
pub record OnParts (string : List ℕ) (which : Which) (s : Shared) (n m : ℕ) (new_bytes new_entries : List ℕ) (r : Result Added AddError) : Type 0 where
  pub answer : r ≡ added_for which s string
  pub bytes_left : new_bytes ++ drop n s.bytes ≡ bytes_after string s.counts r s.bytes
  pub entries_left : new_entries ++ drop (2 * m) s.entries ≡ entries_after string s.counts r s.entries
  pub counted : Counted s.counts (length string) r
  pub free : is_new s.counts r ≡ true → (s.counts.bytes + length string ≤ n) × (s.counts.entries + 1 ≤ m)
  pub entry_free : is_new s.counts r ≡ true → s.counts.entries < entry_room s.entries
  pub small : is_new s.counts r ≡ true → length string ≤ room_most
  pub countable : is_new s.counts r ≡ true → (s.counts.entries < 4294967295) × (s.counts.bytes + length string ≤ 4294967295)
  pub chargeable : is_new s.counts r ≡ true
      → ((desk_of which s.desks).charged.entries < 4294967295) × ((desk_of which s.desks).charged.bytes + length string ≤ 4294967295)

pub on_parts : (string : List ℕ) (which : Which) (s : Shared) (n m : ℕ) (new_bytes new_entries : List ℕ) (r : Result Added AddError) → fit_desks s ≡ true
    → m ≡ entries_for (entry_room s.entries) which s.desks → n ≡ bytes_for (byte_room s.bytes) which s.desks
    → AddsString string s.counts (take n s.bytes) (take (2 * m) s.entries) new_bytes new_entries r
    → OnParts string which s n m new_bytes new_entries r
on_parts string which s n m new_bytes new_entries r fits em en a =
    let bytes = s.bytes in
    let entries = s.entries in
    let counts = s.counts in
    let f = fit_of s fits in
    let he : m ≤ entry_room entries = omega (arith, less_entries s which) in
    let hb : n ≤ byte_room bytes = omega (arith, less_bytes s which) in
    let full = fills_pool s which f in
    let fill : pool.Fit entries counts m n =
    record { entries_fit = omega (arith, full.entries_fit); bytes_fit = omega (arith, full.bytes_fit); runs = full.runs } in
    let found = index_of string (strings_of bytes entries counts.entries) in
    let on : r ≡ on_utf8 (check_from 0 string) (placed (length string) found counts m n) =
    a.answer ∙ part_added bytes entries counts m n he hb fill string in
    let free : is_new counts r ≡ true → (counts.bytes + length string ≤ n) × (counts.entries + 1 ≤ m) =
    λ e. has_room counts (check_from 0 string) (length string) found m n (ap (is_new counts) (sym on) ∙ e) in
    record {
      answer = on ∙ sym (fitting s which string fits ∙ rw (← em, ← en));
      bytes_left =
          ap (λ (l : List ℕ). l ++ drop n bytes) (a.bytes_left ∙ ap (λ (q : Result Added AddError). bytes_after string counts q (take n bytes)) (sym a.answer))
          ∙ part_bytes bytes entries counts m n he hb fill string r free;
      entries_left =
          ap (λ (l : List ℕ). l ++ drop (2 * m) entries)
          (a.entries_left ∙ ap (λ (q : Result Added AddError). entries_after string counts q (take (2 * m) entries)) (sym a.answer))
          ∙ part_entries bytes entries counts m n he hb fill string r free;
      counted = subst (Counted counts (length string)) (sym on) (counted counts (check_from 0 string) (length string) found m n);
      free = free;
      entry_free = λ e. omega (arith, (free e).1);
      small = λ e. omega (arith, (free e).0, (pool.room_within (length bytes)).1);
      countable =
          λ e. (
            omega (arith, (free e).1, (pool.room_within (length entries / 2)).1),
            omega (arith, (free e).0, (pool.room_within (length bytes)).1),
          );
      chargeable = λ e. charge_fits s which f (length string) (omega (arith, (free e).0), omega (arith, (free e).1));
    }

-- a return, from the answer
pub settled : (string : List ℕ) (which : Which) (s : Shared) (new_bytes new_entries newOwners : List ℕ) (r : AddedFor)
    → r.added ≡ added_for which s string → r.counts ≡ (shared_after which s string r.added).counts → r.desks ≡ (shared_after which s string r.added).desks
    → new_bytes ≡ (shared_after which s string r.added).bytes → new_entries ≡ (shared_after which s string r.added).entries
    → newOwners ≡ (shared_after which s string r.added).owners → AddsFor string which s new_bytes new_entries newOwners r
settled string which s new_bytes new_entries newOwners r e c d b n o =
    let then : (x : Result Added AddError) → Shared = shared_after which s string in
    record {
      answer = e;
      counts_left = c ∙ ap (λ (x : Result Added AddError). (then x).counts) e;
      desks_left = d ∙ ap (λ (x : Result Added AddError). (then x).desks) e;
      bytes_left = b ∙ ap (λ (x : Result Added AddError). (then x).bytes) e;
      entries_left = n ∙ ap (λ (x : Result Added AddError). (then x).entries) e;
      owners_left = o ∙ ap (λ (x : Result Added AddError). (then x).owners) e;
    }

pub one_answer : {string new_bytes new_entries newOwners newBytes' newEntries' newOwners' : List ℕ} {which : Which} {s : Shared} {r q : AddedFor}
    → AddsFor string which s new_bytes new_entries newOwners r → AddsFor string which s newBytes' newEntries' newOwners' q
    → (r.added ≡ q.added) × (r.counts ≡ q.counts) × (r.desks ≡ q.desks) × (new_bytes ≡ newBytes') × (new_entries ≡ newEntries') × (newOwners ≡ newOwners')
one_answer v w = (
  v.answer ∙ sym w.answer,
  v.counts_left ∙ sym w.counts_left,
  v.desks_left ∙ sym w.desks_left,
  v.bytes_left ∙ sym w.bytes_left,
  v.entries_left ∙ sym w.entries_left,
  v.owners_left ∙ sym w.owners_left,
)
