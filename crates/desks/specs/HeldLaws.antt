-- Laws of what an owner's entries hold.
--     held_more, held_on     one entry more
--     held_most              no more than there is
--     held_same              other words behind the first n entries and owners change nothing
--     spent_within           the lengths before an entry, and its own, are at most all of them
-- Assumes nothing.
use Prim.Native.Nat.{ℕ, zero, suc, ◌+◌, ◌<◌, ◌≤◌}
use native.Mathlib.Omega.{arith}
use Rattle.std.proofs.Common.{add-one, sym, ap, ◌∙◌}
use Rattle.std.specs.Prelude.{◌≡◌, List, eqb, get_or}
use Rattle.std.proofs.Math.Path.{refl}
use Rattle.base.specs.Pick.{pick}
use Rattle.base.specs.PickLaws.{by_test, split_eq}
use Rattle.pool_rows.specs.Rows.{length_of}
use Rattle.pool.specs.Pool.{one_more}
use Rattle.pool_rows.specs.declared.Counts.{Counts}
use Rattle.desks.specs.Desks.{held_by}
use Rattle.desks.specs.SpentLaws.{spent}

module _ (entries : List ℕ) where
  pub spent_within : (n k : ℕ) → k < n → spent entries k + length_of entries k ≤ spent entries n
  unfolding spent
  spent_within zero k h = absurd (omega arith)
  spent_within (suc n) k h = split_eq k n (λ e. rw e (omega arith)) (λ e. omega (arith, spent_within n k (omega arith)))

  module _ (owners : List ℕ) (owner : ℕ) where
    pub held_more : (n : ℕ)
        → pick (eqb (get_or owners n 0) owner) (one_more (held_by entries owners owner n) (length_of entries n)) (held_by entries owners owner n)
        ≡ held_by entries owners owner (suc n)
    unfolding held_by
    held_more n = refl

    pub held_on : (n : ℕ) (held r : Counts) → held ≡ held_by entries owners owner n
        → r ≡ pick (eqb (get_or owners n 0) owner) (one_more held (length_of entries n)) held → r ≡ held_by entries owners owner (n + 1)
    held_on n held r e f =
        f
        ∙ ap (λ (h : Counts). pick (eqb (get_or owners n 0) owner) (one_more h (length_of entries n)) h) e
        ∙ held_more n
        ∙ ap (held_by entries owners owner) (sym (add-one n))

    pub held_most : (n : ℕ) → ((held_by entries owners owner n).entries ≤ n) × ((held_by entries owners owner n).bytes ≤ spent entries n)
    unfolding held_by spent
    held_most zero = (omega arith, omega arith)
    held_most (suc n) =
        let p = held_most n in
        by_test (λ (c : Counts). (c.entries ≤ suc n) × (c.bytes ≤ spent entries n + length_of entries n)) (eqb (get_or owners n 0) owner)
        (λ e. (omega arith, omega arith)) (λ e. (omega arith, omega arith))

pub held_same : (entries owners entries' owners' : List ℕ) (owner n : ℕ)
    → ((k : ℕ) → k < n → length_of entries' k ≡ length_of entries k) → ((k : ℕ) → k < n → get_or owners' k 0 ≡ get_or owners k 0)
    → held_by entries' owners' owner n ≡ held_by entries owners owner n
unfolding held_by
held_same entries owners entries' owners' owner zero h g = refl
held_same entries owners entries' owners' owner (suc n) h g =
    rw (h n (omega arith), g n (omega arith), held_same entries owners entries' owners' owner n (λ k l. h k (omega arith)) (λ k l. g k (omega arith)))
