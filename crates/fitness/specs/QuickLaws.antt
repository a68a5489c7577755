-- What the quick tests of a table settle.
--     unless                     a rule that is asked only where another test holds, without a branch
--     run_parts                  the run rules are `follows_ok` and a start at most at the last code point
--     Quick, quick_first, quick_next, quick_done    a loop over the runs: what it keeps, after the first run, after one more, at the end
--     small_next, no_bad_ascii   the small table's first run above 127; a table that begins as it does agrees with it on 0 to 127
-- Assumes nothing.
use Rattle.std.specs.Prelude.{ℕ, ◌+◌, ◌-◌, ◌<◌, ◌≤◌, ◌≡◌, refl, List, Bool, true, false, not, ◌&&◌, ◌||◌, nat_eq, ltb, leb, get_or, take}
use Rattle.std.specs.Cmp.Lexicographic.{pointwise}
use Rattle.std.proofs.Common.{arith, ap, ◌∙◌}
use Rattle.std.proofs.Math.Path.{sym}
use Rattle.std.proofs.Math.Bool.{and_assoc, and_comm}
use Rattle.std.proofs.Math.ListN.{length}
use Rattle.std.proofs.lemmas.Bool.Decides.{Decides-eqb}
use Rattle.std.proofs.lemmas.Slice.Eq.{slice_eq-Decides}
use borrow.Author.Tests.{eq-eqb, ne_eqb, ltb-true, leb-true, le-leb}
use Rattle.base.specs.Pick.{pick}
use Rattle.base.specs.All.{all_good}
use Rattle.base.specs.AllLaws.{and_left, and_right, one_more_lem}
use Rattle.property.specs.Parts.{properties_of}
use Rattle.property.specs.Table.{last_from, properties_at, start_at, Rises}
use Rattle.property.specs.TableLaws.{all_above, first_runs}
use Rattle.fitness.specs.Small.{small_table}
use Rattle.fitness.specs.SmallLaws.{small_is_fit}
use Rattle.fitness.specs.First.{first_bad}
use Rattle.fitness.specs.FirstLaws.{none_bad}
use Rattle.fitness.specs.Fit.{start_ok, properties_ok, run_ok, ascii_ok, start_most}
use Rattle.fitness.specs.Quick.{follows_ok, begins_as_small}

-- ---- the run rules

pub unless : (a b : Bool) → (not a || b) ≡ pick a b true
unless true b = refl
unless false b = refl

-- a test that another one implies adds nothing to it
implied : (a b : Bool) → (b ≡ true → a ≡ true) → (a && b) ≡ b
implied true b h = refl
implied false true h = h refl
implied false false h = refl

-- a run that starts after s and within the code points: s is within them
later : (s t : ℕ) (p : Bool) → (leb s start_most && ((ltb s t && p) && leb t start_most)) ≡ ((ltb s t && p) && leb t start_most)
later s t p =
    implied _ _
    (λ e.
    let less = ltb-true s t (and_left (ltb s t) p (and_left (ltb s t && p) _ e)) in
    let most = leb-true t start_most (and_right (ltb s t && p) _ e) in
    le-leb s start_most (omega arith))

module _ (table : List ℕ) where
  pub run_parts : (i : ℕ) → run_ok table i ≡ (follows_ok table i && leb (start_at table i) start_most)
  unfolding run_ok follows_ok
  run_parts i =
      let properties = properties_ok (properties_of (get_or table i 0)) in
      rw (and_comm (leb (start_at table i) start_most) properties) (sym (and_assoc (start_ok table i) properties _))

  -- ok tells whether the runs below i follow; with the last one's start it tells whether they keep the run rules
  pub record Quick (ok : Bool) (i : ℕ) : Type 0 where
    pub some : 0 < i
    pub within : i ≤ length table
    pub tells : (ok && leb (start_at table (i - 1)) start_most) ≡ all_good (run_ok table) i

  pub quick_first : 0 < length table → Quick (follows_ok table 0) 1
  unfolding all_good
  quick_first h = record { some = omega arith; within = h; tells = sym (run_parts 0) }

  follow_parts :
      (i : ℕ) → 0 < i
      → follows_ok table i ≡ (ltb (start_at table (i - 1)) (start_at table i) && properties_ok (properties_of (get_or table i 0)))
  unfolding follows_ok start_ok
  follow_parts i h = rw (ne_eqb i 0 (λ e. omega arith))

  pub quick_next : (ok : Bool) (i : ℕ) → Quick ok i → i < length table → Quick (ok && follows_ok table i) (i + 1)
  quick_next ok i q h =
      let back : i + 1 - 1 ≡ i = omega arith in
      let most : Bool = leb (start_at table i) start_most in
      record {
        some = omega arith;
        within = omega arith;
        tells =
            rw (back, one_more_lem (run_ok table) i, ← q.tells, run_parts i, follow_parts i q.some)
            (and_assoc ok _ most
            ∙ ap (λ (b : Bool). ok && b) (sym (later (start_at table (i - 1)) (start_at table i) _))
            ∙ sym (and_assoc ok _ _));
      }

  pub quick_done :
      (ok : Bool) (i : ℕ) → Quick ok i → length table - 1 < i
      → (ok && leb (start_at table (length table - 1)) start_most) ≡ all_good (run_ok table) (length table)
  quick_done ok i q h = let all : i ≡ length table = omega arith in rw all at q.tells

-- ---- code points 0 to 127

pub small_next : (15 < length small_table) × (128 ≤ start_at small_table 15)
unfolding small_table
small_next = omega arith

module _ (table : List ℕ) (begins : begins_as_small table ≡ true) where
  same_runs : take 15 table ≡ take 15 small_table
  unfolding begins_as_small
  same_runs =
      let same = pointwise nat_eq (take 15 table) (take 15 small_table) in
      (slice_eq-Decides Decides-eqb _ _ same refl).0 (and_left same _ (and_right (ltb 15 (length table)) _ begins))

  next_above : 128 ≤ start_at table 15
  unfolding begins_as_small
  next_above = leb-true 128 _ (and_right (pointwise nat_eq (take 15 table) (take 15 small_table)) _ (and_right (ltb 15 (length table)) _ begins))

  pub no_bad_ascii : Rises table → first_bad (ascii_ok table) 0 128 ≡ 128
  no_bad_ascii r =
      none_bad (ascii_ok table) 0 128
      (λ c _ h.
      eq-eqb (properties_at table c) _
      (first_runs 15 0 table c (all_above table c 15 r (omega (arith, next_above)))
      ∙ ap (λ (l : List ℕ). last_from 0 l c) same_runs
      ∙ sym (first_runs 15 0 small_table c (all_above small_table c 15 small_is_fit.rises (omega (arith, small_next))))))
