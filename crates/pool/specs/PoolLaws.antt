-- Laws of an addition.
--     placed_there, placed_no_entry, placed_few_bytes, placed_new, placed_same    the answer in a fit pool, on numbers
--     old_bytes, old_entries, new_bytes_lem, new_entries_lem    the rows after an answer
--     new_has_room                where a new index is handed out, the rows have room
--     wrong, cut, refused, unfit, unrefused             the answer, from what the checks of the string and of the pool say
--     settled, adds_fine          what `add_string` ensures, by the answer, and by `AddsToFit` where no check refuses
--     grows                       an index answered leaves a pool that has grown so
--     there_costs_nothing, refused_writes_nothing       when counts and rows stay
--     index_kept, index_shows     no addition changes what an index means, and the string stands at the index answered
--     added_again                 a string that was added is there: adding it again answers the same
--     one_answer                  no second answer and no second rows fit `AddsString`
-- Assumes nothing.
use Rattle.std.specs.Prelude.{ℕ, suc, ◌+◌, ◌*◌, ◌<◌, ◌≤◌, ◌≡◌, true, false, Result, Ok, Err, List, [], ◌++◌, get_or, set, take, drop}
use Rattle.std.proofs.Common.{arith, add-one, sym, ap, subst, ◌∙◌, length-append, length-drop, length-set, take-append-drop, take_at, drop_at, get_or-set_same, get_or-set_other, length-take-le}
use Rattle.std.proofs.Math.Path.{refl}
use Rattle.std.proofs.Math.ListN.{length}
use Rattle.std.proofs.lemmas.List.{take-append-le, drop-append-le}
use borrow.Author.Tests.{eqb-true, eq-eqb, ne_eqb, lt-ltb, le-ltb}
use Rattle.base.specs.Pick.{pick}
use Rattle.base.specs.PickLaws.{by_test, by_lt}
use Rattle.base.specs.Refusal.{none}
use Rattle.utf8.specs.Encode.{WellFormed}
use Rattle.utf8.specs.Chars.{check_from}
use Rattle.utf8.specs.CharsLaws.{fine_of_well}
use Rattle.utf8.specs.declared.Utf8Error.{Utf8Error}
use Rattle.utf8.specs.declared.Utf8Error.TheVariants as utf8
use Rattle.pool_rows.specs.Rows.{start_of, length_of, string_at, strings_of, index_of, room_most, byte_room, entry_room, runs_to, fit_pool}
use Rattle.pool.specs.Pool.{one_more, indexed, placed, of_utf8, on_utf8, added_to_fit, added, is_new, written, entered, bytes_after, entries_after}
use Rattle.pool.specs.Pool.{AddsToFit, AddsString, Grown, number_of}
use Rattle.pool_rows.specs.StringsLaws.{index_most, kept_with, shown_with_lem, index_with, strings_long, strings_more, strings_same}
use Rattle.pool_rows.specs.FitLaws.{room_within, entry_room_lem, Fit, fit_of, fit_by_lem, runs_more, runs_same, within}
use Rattle.pool_rows.specs.declared.Counts.{Counts}
use Rattle.pool.specs.declared.Added.{Added}
use Rattle.pool.specs.declared.AddError.{AddError}
use Rattle.pool.specs.declared.AddError.TheVariants.{BadUtf8, CutUtf8, BadState, PoolFull}

-- ---- what an addition makes of a pool

-- a part of a list lies in any beginning that reaches so far
part_of : (x y : List ℕ) (start long : ℕ) → start + long ≤ length x → take long (drop start (x ++ y)) ≡ take long (drop start x)
part_of x y start long h =
    ap (take long) (drop-append-le start x y (omega arith))
    ∙ take-append-le long (drop start x) y (omega (arith, length-drop start x))

module _ (string bytes entries : List ℕ) (counts : Counts) (f : Fit entries counts (entry_room entries) (byte_room bytes)) where
  -- the string was there: nothing is written
  grown_none : index_of string (strings_of bytes entries counts.entries) < counts.entries
      → Grown string bytes entries counts bytes entries (index_of string (strings_of bytes entries counts.entries)) counts
  grown_none h =
      let ss = strings_of bytes entries counts.entries in
      record {
        fit = fit_by_lem entries counts (entry_room entries) (byte_room bytes) f;
        strings = rw (lt-ltb (index_of string ss) (length ss) (omega (arith, strings_long bytes entries 0 counts.entries)));
        index_is = refl;
      }

  -- the rows with the string behind what is in use
  abbrev new_bytes : List ℕ
  new_bytes = written bytes counts.bytes string

  abbrev new_entries : List ℕ
  new_entries = entered entries counts.entries counts.bytes (length string)

  module _ (entry_free : counts.entries + 1 ≤ entry_room entries) (bytes_free : counts.bytes + length string ≤ byte_room bytes) where
    entries_long : length new_entries ≡ length entries
    entries_long = simp length-set

    room : 2 * counts.entries + 1 < length entries
    room = omega (arith, entry_room_lem entries (counts.entries + 1) entry_free)

    used_long : length (take counts.bytes bytes) ≡ counts.bytes
    used_long = length-take-le counts.bytes bytes (omega (arith, (room_within (length bytes)).0))

    bytes_long : length new_bytes ≡ length bytes
    bytes_long =
        simp length-append
        (omega (arith, used_long, length-drop (counts.bytes + length string) bytes, (room_within (length bytes)).0))

    old_entry : (j : ℕ) → j < counts.entries
        → (start_of new_entries j ≡ start_of entries j) × (length_of new_entries j ≡ length_of entries j)
    old_entry j h = (other (2 * j) (omega arith), other (2 * j + 1) (omega arith))
      where
        other : (m : ℕ) → m < 2 * counts.entries → get_or new_entries m 0 ≡ get_or entries m 0
        other m l =
            get_or-set_other (set entries (2 * counts.entries) counts.bytes) (2 * counts.entries + 1) m (length string) 0 (λ e. omega arith)
            ∙ get_or-set_other entries (2 * counts.entries) m counts.bytes 0 (λ e. omega arith)

    new_start : start_of new_entries counts.entries ≡ counts.bytes
    new_start =
        get_or-set_other (set entries (2 * counts.entries) counts.bytes) (2 * counts.entries + 1) (2 * counts.entries) (length string) 0
        (λ e. omega arith)
        ∙ get_or-set_same entries (2 * counts.entries) counts.bytes 0 (omega (arith, room))

    new_length : length_of new_entries counts.entries ≡ length string
    new_length =
        get_or-set_same (set entries (2 * counts.entries) counts.bytes) (2 * counts.entries + 1) (length string) 0
        (omega (arith, room, length-set entries (2 * counts.entries) counts.bytes))

    old_string : (j : ℕ) → j < counts.entries → string_at new_bytes new_entries j ≡ string_at bytes entries j
    old_string j h =
        let used = take counts.bytes bytes in
        let p = old_entry j h in
        let fits : start_of entries j + length_of entries j ≤ length used =
        omega (arith, within entries counts (entry_room entries) (byte_room bytes) f j h, used_long) in
        rw (p.0, p.1)
        (part_of used (string ++ drop (counts.bytes + length string) bytes) (start_of entries j) (length_of entries j) fits
        ∙ sym (part_of used (drop counts.bytes bytes) (start_of entries j) (length_of entries j) fits)
        ∙ ap (λ (l : List ℕ). take (length_of entries j) (drop (start_of entries j) l)) (take-append-drop counts.bytes bytes))

    new_string : string_at new_bytes new_entries counts.entries ≡ string
    new_string =
        let rest = drop (counts.bytes + length string) bytes in
        rw (new_start, new_length)
        (ap (take (length string)) (drop_at (take counts.bytes bytes) (string ++ rest) counts.bytes used_long)
        ∙ take_at string rest (length string) refl)

    new_runs : runs_to new_entries 0 (counts.entries + 1) 0 (counts.bytes + length string) ≡ true
    new_runs =
        let old = runs_same entries new_entries 0 counts.entries 0 counts.bytes (λ j h. old_entry j (omega arith)) ∙ f.runs in
        let more = runs_more new_entries 0 counts.entries counts.entries 0 counts.bytes (omega arith) old new_start in
        rw (add-one counts.entries)
        (ap (λ (l : ℕ). runs_to new_entries 0 (suc counts.entries) 0 (counts.bytes + l)) (sym new_length) ∙ more)

    -- the string was absent, and has room
    grown_one : counts.entries ≤ index_of string (strings_of bytes entries counts.entries)
        → Grown string bytes entries counts new_bytes new_entries counts.entries (one_more counts (length string))
    grown_one h =
        let ss = strings_of bytes entries counts.entries in
        let long = strings_long bytes entries 0 counts.entries in
        let old = strings_same bytes entries new_bytes new_entries 0 counts.entries (λ j l. old_string j (omega arith)) in
        let more = strings_more new_bytes new_entries 0 counts.entries counts.entries (omega arith) in
        record {
          fit =
              fit_by_lem new_entries (one_more counts (length string)) (entry_room new_entries) (byte_room new_bytes)
              record {
                entries_fit = rw entries_long entry_free;
                bytes_fit = rw bytes_long bytes_free;
                runs = new_runs;
              };
          strings = rw (le-ltb (index_of string ss) (length ss) (omega (arith, long)), add-one counts.entries, more, old, new_string);
          index_is = omega (arith, index_most string ss, long);
        }

-- ---- the answers

-- the answer in a fit pool: the string is there; no entry is free; too few bytes are free; it is put in
module _ (long found : ℕ) (counts : Counts) (forEntries forBytes : ℕ) where
  pub placed_there : found < counts.entries → placed long found counts forEntries forBytes ≡ indexed found counts
  unfolding placed
  placed_there h = rw (lt-ltb found counts.entries h)

  module _ (absent : counts.entries ≤ found) where
    pub placed_no_entry : forEntries ≤ counts.entries → placed long found counts forEntries forBytes ≡ Err PoolFull
    unfolding placed
    placed_no_entry h = rw (le-ltb found counts.entries absent, lt-ltb forEntries (counts.entries + 1) (omega arith))

    module _ (free : counts.entries < forEntries) where
      pub placed_few_bytes : forBytes < counts.bytes + long → placed long found counts forEntries forBytes ≡ Err PoolFull
      unfolding placed
      placed_few_bytes h =
          rw (
            le-ltb found counts.entries absent,
            le-ltb forEntries (counts.entries + 1) (omega arith),
            lt-ltb forBytes (counts.bytes + long) h,
          )

      pub placed_new : counts.bytes + long ≤ forBytes
          → placed long found counts forEntries forBytes ≡ indexed counts.entries (one_more counts long)
      unfolding placed
      placed_new h =
          rw (
            le-ltb found counts.entries absent,
            le-ltb forEntries (counts.entries + 1) (omega arith),
            le-ltb forBytes (counts.bytes + long) h,
          )

pub placed_same : (long found found' : ℕ) (counts : Counts) (forEntries forEntries' forBytes forBytes' : ℕ)
    → found ≡ found' → forEntries ≡ forEntries' → forBytes ≡ forBytes'
    → placed long found counts forEntries forBytes ≡ placed long found' counts forEntries' forBytes'
placed_same long found found' counts forEntries forEntries' forBytes forBytes' e f g = rw (e, f, g)

-- the rows after an answer that hands out no new index, and after one that does
module _ (string : List ℕ) (counts : Counts) (r : Result Added AddError) where
  pub old_bytes : is_new counts r ≡ false → (bytes : List ℕ) → bytes_after string counts r bytes ≡ bytes
  unfolding bytes_after
  old_bytes e bytes = rw e

  pub old_entries : is_new counts r ≡ false → (entries : List ℕ) → entries_after string counts r entries ≡ entries
  unfolding entries_after
  old_entries e entries = rw e

  pub new_bytes_lem : is_new counts r ≡ true → (bytes : List ℕ)
      → bytes_after string counts r bytes ≡ written bytes counts.bytes string
  unfolding bytes_after
  new_bytes_lem e bytes = rw e

  pub new_entries_lem : is_new counts r ≡ true → (entries : List ℕ)
      → entries_after string counts r entries ≡ entered entries counts.entries counts.bytes (length string)
  unfolding entries_after
  new_entries_lem e entries = rw e

-- where a new index is handed out, the string and its entry have room in the rows
pub record HasRoom (string bytes entries : List ℕ) (counts : Counts) : Type 0 where
  pub bytes_free : counts.bytes + length string ≤ length bytes
  pub entry_free : 2 * counts.entries + 1 < length entries
  pub small : length string ≤ room_most

pub new_has_room : (string bytes entries : List ℕ) (counts : Counts) → is_new counts (added_to_fit string bytes entries counts) ≡ true
    → HasRoom string bytes entries counts
unfolding placed
new_has_room string bytes entries counts =
    let found = index_of string (strings_of bytes entries counts.entries) in
    let Claim : Result Added AddError → Type 0 = λ r. is_new counts r ≡ true → HasRoom string bytes entries counts in
    by_lt Claim found counts.entries
    (λ h e. absurd (omega (arith, eqb-true found counts.entries e)))
    (λ h. by_lt Claim (entry_room entries) (counts.entries + 1)
    (λ l e. let z : ◌≡◌ {A = ℕ} 0 1 = cc in absurd (omega arith))
    (λ l. by_lt Claim (byte_room bytes) (counts.bytes + length string)
    (λ m e. let z : ◌≡◌ {A = ℕ} 0 1 = cc in absurd (omega arith))
    (λ m e.
    record {
      bytes_free = omega (arith, (room_within (length bytes)).0);
      entry_free = omega (arith, entry_room_lem entries (counts.entries + 1) l);
      small = omega (arith, (room_within (length bytes)).1);
    })))

module _ (string bytes entries : List ℕ) (counts : Counts) where
  abbrev found : ℕ
  found = index_of string (strings_of bytes entries counts.entries)

  -- the answer, from what the check of the string says and from whether the pool is fit
  pub wrong : (i : ℕ) → check_from 0 string ≡ Err (utf8.BadAt i) → added string bytes entries counts ≡ Err (BadUtf8 i)
  unfolding added
  wrong i e = rw e

  pub cut : (i : ℕ) → check_from 0 string ≡ Err (utf8.CutAt i) → added string bytes entries counts ≡ Err (CutUtf8 i)
  unfolding added
  cut i e = rw e

  pub refused : (e : Utf8Error) → check_from 0 string ≡ Err e → added string bytes entries counts ≡ Err (of_utf8 e)
  refused (utf8.BadAt i) = wrong i
  refused (utf8.CutAt i) = cut i

  pub unfit : check_from 0 string ≡ Ok tt → fit_pool bytes entries counts ≡ false → added string bytes entries counts ≡ Err BadState
  unfolding added
  unfit e f = rw (e, f)

  pub unrefused : check_from 0 string ≡ Ok tt → fit_pool bytes entries counts ≡ true
      → added string bytes entries counts ≡ added_to_fit string bytes entries counts
  unfolding added
  unrefused e f = rw (e, f)

  -- an addition by what it answered, and one of a string and to a pool that both are fine
  pub settled : {new_bytes new_entries : List ℕ} {r : Result Added AddError} → r ≡ added string bytes entries counts → new_bytes ≡ bytes_after string counts r bytes
      → new_entries ≡ entries_after string counts r entries → AddsString string counts bytes entries new_bytes new_entries r
  settled e f g = record { answer = e; bytes_left = rw (sym e) f; entries_left = rw (sym e) g }

  pub adds_fine : check_from 0 string ≡ Ok tt → fit_pool bytes entries counts ≡ true → {new_bytes new_entries : List ℕ} {r : Result Added AddError}
      → AddsToFit string counts bytes entries new_bytes new_entries r → AddsString string counts bytes entries new_bytes new_entries r
  adds_fine w f a = settled (a.answer ∙ sym (unrefused w f)) a.bytes_left a.entries_left

  -- what an index answered says of the rows
  abbrev Leaves : Result Added AddError → Type 0
  Leaves (Ok added) =
      Grown string bytes entries counts
      (bytes_after string counts (Ok added) bytes)
      (entries_after string counts (Ok added) entries)
      added.index added.counts
  Leaves (Err e) = Unit {0}

  leaves_placed : Fit entries counts (entry_room entries) (byte_room bytes) → Leaves (added_to_fit string bytes entries counts)
  unfolding placed
  leaves_placed f =
      by_lt Leaves found counts.entries
      (λ h.
      let e = ne_eqb found counts.entries (λ q. omega arith) in
      rw (old_bytes string counts (indexed found counts) e bytes, old_entries string counts (indexed found counts) e entries)
      (grown_none string bytes entries counts f h))
      (λ h. by_lt Leaves (entry_room entries) (counts.entries + 1) (λ l. tt)
      (λ l. by_lt Leaves (byte_room bytes) (counts.bytes + length string) (λ m. tt)
      (λ m.
      let r = indexed counts.entries (one_more counts (length string)) in
      let e = eq-eqb counts.entries counts.entries refl in
      rw (new_bytes_lem string counts r e bytes, new_entries_lem string counts r e entries) (grown_one string bytes entries counts f l m h))))

  leaves : Leaves (added string bytes entries counts)
  unfolding added
  leaves = go (check_from 0 string)
    where
      go : (u : Result (Unit {0}) Utf8Error) → Leaves (on_utf8 u (pick (fit_pool bytes entries counts) (added_to_fit string bytes entries counts) (Err BadState)))
      go (Ok _) =
          by_test Leaves (fit_pool bytes entries counts)
          (λ e. leaves_placed (fit_of entries counts (entry_room entries) (byte_room bytes) e))
          (λ e. tt)
      go (Err (utf8.BadAt i)) = tt
      go (Err (utf8.CutAt i)) = tt

  module _ (new_bytes new_entries : List ℕ) (r : Result Added AddError) (p : AddsString string counts bytes entries new_bytes new_entries r) where
    -- an index answered: the pool is fit again, and its strings are those before, with this one at their end where it was absent
    pub grows : (index : ℕ) (after : Counts) → r ≡ indexed index after → Grown string bytes entries counts new_bytes new_entries index after
    grows index after e =
        let a : added string bytes entries counts ≡ indexed index after = sym p.answer ∙ e in
        let g = subst Leaves a leaves in
        rw (p.bytes_left, p.entries_left, a) g

    -- rows that an answer leaves as they are
    unwritten : is_new counts r ≡ false → (new_bytes ≡ bytes) × (new_entries ≡ entries)
    unwritten e =
        let f : is_new counts (added string bytes entries counts) ≡ false = ap (is_new counts) (sym p.answer) ∙ e in
        (p.bytes_left ∙ old_bytes string counts _ f bytes, p.entries_left ∙ old_entries string counts _ f entries)

    -- a string that is there costs nothing
    pub there_costs_nothing : WellFormed string → fit_pool bytes entries counts ≡ true → found < counts.entries
        → (r ≡ indexed found counts) × (new_bytes ≡ bytes) × (new_entries ≡ entries)
    there_costs_nothing w f h =
        let e : r ≡ indexed found counts =
        p.answer
        ∙ unrefused (fine_of_well 0 string w) f
        ∙ placed_there (length string) found counts (entry_room entries) (byte_room bytes) h in
        let u = unwritten (ap (is_new counts) e ∙ ne_eqb found counts.entries (λ g. omega arith)) in
        (e, u.0, u.1)

    pub refused_writes_nothing : (number_of r ≡ none → ⊥) → (new_bytes ≡ bytes) × (new_entries ≡ entries)
    refused_writes_nothing h = unwritten (go r h)
      where
        go : (q : Result Added AddError) → (number_of q ≡ none → ⊥) → is_new counts q ≡ false
        go (Ok added) k = absurd (k refl)
        go (Err e) k = refl

-- no addition changes what an index means, and the string stands at the index answered
module _
    (string bytes entries : List ℕ) (counts : Counts) (new_bytes new_entries : List ℕ) (index : ℕ) (after : Counts)
    (g : Grown string bytes entries counts new_bytes new_entries index after) where
  pub index_kept : (k : ℕ) → k < counts.entries
      → get_or (strings_of new_bytes new_entries after.entries) k [] ≡ get_or (strings_of bytes entries counts.entries) k []
  index_kept k h =
      let long = strings_long bytes entries 0 counts.entries in
      rw g.strings (kept_with string (strings_of bytes entries counts.entries) k (omega arith))

  pub index_shows : get_or (strings_of new_bytes new_entries after.entries) index [] ≡ string
  index_shows = rw (g.strings, g.index_is) (shown_with_lem string (strings_of bytes entries counts.entries))

-- a string with an index is well formed
index_fine : (string bytes entries : List ℕ) (counts : Counts) {i : ℕ} {after : Counts} → added string bytes entries counts ≡ indexed i after
    → check_from 0 string ≡ Ok tt
unfolding added
index_fine string bytes entries counts {i} {after} = go (check_from 0 string)
  where
    go : (u : Result (Unit {0}) Utf8Error) → on_utf8 u (pick (fit_pool bytes entries counts) (added_to_fit string bytes entries counts) (Err BadState)) ≡ indexed i after → u ≡ Ok tt
    go (Ok _) e = refl
    go (Err (utf8.BadAt n)) e = absurd (let z : ◌≡◌ {A = ℕ} 0 1 = cc in omega arith)
    go (Err (utf8.CutAt n)) e = absurd (let z : ◌≡◌ {A = ℕ} 0 1 = cc in omega arith)

-- a string that was added is there: adding it again answers the same
pub added_again : (string bytes entries : List ℕ) (counts : Counts) (new_bytes new_entries : List ℕ) (i : ℕ) (after : Counts)
    → AddsString string counts bytes entries new_bytes new_entries (indexed i after)
    → (added string new_bytes new_entries after ≡ indexed i after) × (i < after.entries)
added_again string bytes entries counts new_bytes new_entries i after p =
    let g = grows string bytes entries counts new_bytes new_entries (indexed i after) p i after refl in
    let w = index_with string (strings_of bytes entries counts.entries) in
    let long = strings_long new_bytes new_entries 0 after.entries in
    let at : index_of string (strings_of new_bytes new_entries after.entries) ≡ i = ap (index_of string) g.strings ∙ w.0 ∙ sym g.index_is in
    let less : i < after.entries = omega (arith, w.1, g.index_is, ap (λ (l : List (List ℕ)). length l) g.strings) in
    let fine = index_fine string bytes entries counts (sym p.answer) in (
      unrefused string new_bytes new_entries after fine g.fit
          ∙ placed_there (length string) _ after (entry_room new_entries) (byte_room new_bytes) (omega arith)
          ∙ ap (λ (k : ℕ). indexed k after) at,
      less,
    )

-- no second answer and no second rows fit
pub one_answer : {string bytes entries new_bytes new_entries newBytes' newEntries' : List ℕ} {counts : Counts} {r q : Result Added AddError}
    → AddsString string counts bytes entries new_bytes new_entries r → AddsString string counts bytes entries newBytes' newEntries' q
    → (r ≡ q) × (new_bytes ≡ newBytes') × (new_entries ≡ newEntries')
one_answer v w = (v.answer ∙ sym w.answer, v.bytes_left ∙ sym w.bytes_left, v.entries_left ∙ sym w.entries_left)
