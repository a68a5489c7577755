-- Laws of fit states.
--     Fit, fit_of, fit_by_lem         what `fit_desks` says, part by part
--     countable                   in a fit pool what is held can be counted in 32 bits
--     no_pool, no_owners, no_charge, no_charge_2, no_entries, rest_is     `is_fit`: its tests in their order
--     charge_is, entries_are, bytes_are                                   what its calls say
-- Assumes nothing.
use Rattle.std.specs.Prelude.{ℕ, ◌*◌, ◌/◌, ◌<◌, ◌≤◌, refl, Bool, false, not, ◌&&◌, eqb, List, length}
use Rattle.std.proofs.Common.{arith, sym, ap, ◌∙◌}
use Rattle.std.proofs.Math.Path.{◌≡◌}
use Rattle.std.proofs.Math.Bool.{true}
use borrow.Author.Tests.{eqb-true, eq-eqb, lt-ltb, le-ltb}
use Rattle.base.specs.Pick.{pick}
use Rattle.base.specs.PickLaws.{by_lt}
use Rattle.pool_rows.specs.Rows.{entry_room, byte_room, fit_pool}
use Rattle.pool_rows.specs.FitLaws as pool
use Rattle.pool_rows.specs.declared.Counts.{Counts}
use Rattle.desks.specs.Desks.{Shared, owner_of, held_by, same_counts, desk_of, charged_right, entries_shared, bytes_shared, fit_desks}
use Rattle.desks.specs.SpentLaws.{spent, all_spent}
use Rattle.desks.specs.declared.Desk.{Desk}
use Rattle.desks.specs.declared.Desks.{Desks}
use Rattle.desks.specs.declared.Which.{Which}
use Rattle.desks.specs.declared.Which.TheVariants.{First, Second}

-- in a fit pool entries and bytes can be counted
pub countable : (bytes entries : List ℕ) (counts : Counts) → fit_pool bytes entries counts ≡ true
    → (2 * counts.entries ≤ length entries) × (counts.entries ≤ 4294967295) × (spent entries counts.entries ≤ 4294967295)
    × (counts.entries ≤ entry_room entries)
countable bytes entries counts e =
    let f = pool.fit_of entries counts (entry_room entries) (byte_room bytes) e in (
      (pool.searchable bytes entries counts e).1,
      omega (arith, f.entries_fit, (pool.room_within (length entries / 2)).1),
      omega (arith, f.bytes_fit, (pool.room_within (length bytes)).1, all_spent entries counts.entries counts.bytes f.runs),
      f.entries_fit,
    )

-- ---- fit states, part by part

-- two tests, both true
both : (s t : Bool) → pick s t false ≡ true → (s ≡ true) × (t ≡ true)
both true t e = (refl, e)
both false t e = let z : ◌≡◌ {A = ℕ} 0 1 = cc in absurd (omega arith)

same_of_lem : (a b : Counts) → same_counts a b ≡ true → a ≡ b
same_of_lem a b e =
    let p = both _ _ e in
    let x = eqb-true a.entries b.entries p.0 in
    let y = eqb-true a.bytes b.bytes p.1 in
    λ i. record { entries = x i; bytes = y i }

same_by : (a b : Counts) → a ≡ b → same_counts a b ≡ true
same_by a b e =
    rw (eq-eqb a.entries b.entries (ap (λ (c : Counts). c.entries) e)) (eq-eqb a.bytes b.bytes (ap (λ (c : Counts). c.bytes) e))

module _ (s : Shared) where
  pub record Fit : Type 0 where
    pub pool_fit : fit_pool s.bytes s.entries s.counts ≡ true
    pub owned : entry_room s.entries ≤ length s.owners
    pub charged : (which : Which) → (desk_of which s.desks).charged ≡ held_by s.entries s.owners (owner_of which) s.counts.entries
    pub entries_shared_lem : entries_shared (entry_room s.entries) s.counts s.desks ≡ true
    pub bytes_shared_lem : bytes_shared (byte_room s.bytes) s.counts s.desks ≡ true

  pub fit_of : fit_desks s ≡ true → Fit
  unfolding fit_desks
  fit_of e =
      let p = both _ _ e in
      by_lt (λ (t : Bool). t ≡ true → Fit) (length s.owners) (entry_room s.entries)
      (λ l f. let z : ◌≡◌ {A = ℕ} 0 1 = cc in absurd (omega arith))
      (λ l f.
      let a = both _ _ f in
      let b = both _ _ a.1 in
      let c = both _ _ b.1 in
      record { pool_fit = p.0; owned = l; charged = each a.0 b.0; entries_shared_lem = c.0; bytes_shared_lem = c.1 })
      p.1
    where
      each : charged_right First s ≡ true → charged_right Second s ≡ true
          → (which : Which) → (desk_of which s.desks).charged ≡ held_by s.entries s.owners (owner_of which) s.counts.entries
      each a b First = same_of_lem _ _ a
      each a b Second = same_of_lem _ _ b

  module _ (a : fit_pool s.bytes s.entries s.counts ≡ true) (b : entry_room s.entries ≤ length s.owners) where
    pub no_charge : charged_right First s ≡ false → fit_desks s ≡ false
    unfolding fit_desks
    no_charge e = rw (a, le-ltb (length s.owners) (entry_room s.entries) b, e)

    module _ (c : charged_right First s ≡ true) where
      pub no_charge_2 : charged_right Second s ≡ false → fit_desks s ≡ false
      unfolding fit_desks
      no_charge_2 e = rw (a, le-ltb (length s.owners) (entry_room s.entries) b, c, e)

      module _ (d : charged_right Second s ≡ true) where
        pub no_entries : entries_shared (entry_room s.entries) s.counts s.desks ≡ false → fit_desks s ≡ false
        unfolding fit_desks
        no_entries e = rw (a, le-ltb (length s.owners) (entry_room s.entries) b, c, d, e)

        pub rest_is : entries_shared (entry_room s.entries) s.counts s.desks ≡ true → {r : Bool} → r ≡ bytes_shared (byte_room s.bytes) s.counts s.desks
            → fit_desks s ≡ r
        unfolding fit_desks
        rest_is e f = rw (a, le-ltb (length s.owners) (entry_room s.entries) b, c, d, e) (sym f)

  pub no_pool : fit_pool s.bytes s.entries s.counts ≡ false → fit_desks s ≡ false
  unfolding fit_desks
  no_pool e = rw e

  pub no_owners : fit_pool s.bytes s.entries s.counts ≡ true → length s.owners < entry_room s.entries → fit_desks s ≡ false
  unfolding fit_desks
  no_owners e l = rw (e, lt-ltb (length s.owners) (entry_room s.entries) l)

  pub fit_by_lem : Fit → fit_desks s ≡ true
  fit_by_lem f =
      rest_is f.pool_fit f.owned (same_by _ _ (f.charged First)) (same_by _ _ (f.charged Second)) f.entries_shared_lem (sym f.bytes_shared_lem)

-- ---- what the calls of `is_fit` say

pub charge_is : (a h b : Counts) {r : Bool} → h ≡ b → r ≡ not (eqb a.entries h.entries && eqb a.bytes h.bytes) → same_counts a b ≡ not r
charge_is a h b e f = ap (same_counts a) (sym e) ∙ go (eqb a.entries h.entries) (eqb a.bytes h.bytes) ∙ ap not (sym f)
  where
    go : (s t : Bool) → pick s t false ≡ not (not (s && t))
    go true true = refl
    go true false = refl
    go false t = refl

module _ (room room' : ℕ) (counts : Counts) (first second : Desk) where
  abbrev desks : Desks
  desks = record { first = first; second = second }

  pub entries_are : {r : Bool} → room ≡ room' → r ≡ entries_shared room counts desks → entries_shared room' counts desks ≡ r
  entries_are e f = ap (λ (k : ℕ). entries_shared k counts desks) (sym e) ∙ sym f

  pub bytes_are : {r : Bool} → room ≡ room' → r ≡ bytes_shared room counts desks → r ≡ bytes_shared room' counts desks
  bytes_are e f = f ∙ ap (λ (k : ℕ). bytes_shared k counts desks) e
