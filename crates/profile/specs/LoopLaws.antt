-- The loop of the pass: what it keeps, and its ends.
--     Going     what completes the pass from here completes it from the start
--     start, onward, here, done
-- Assumes nothing.
use Rattle.std.specs.Prelude.{ℕ, suc, ◌+◌, ◌-◌, ◌≤◌, ◌<◌, ◌≡◌, Option}
use native.Mathlib.Omega.{arith}
use Rattle.std.proofs.Common.{add-one, ◌∙◌}
use Rattle.std.proofs.Math.Path.{sym, ap}
use Rattle.std.proofs.Math.Bool.{true, false}
use Rattle.rows.specs.declared.Row.{Row}
use Rattle.forbidden.specs.Pass.{forbidden_at, opener_at, pass_from}

pub record Going (at : ℕ → Option Row) (count opener i : ℕ) : Type 0 where
  pub within : i ≤ count
  pub so_far : pass_from at opener i (count - i) ≡ pass_from at 0 0 count

module _ (at : ℕ → Option Row) (count : ℕ) where
  pub start : Going at count 0 0
  start = let z : count - 0 ≡ count = omega arith in record { within = omega arith; so_far = ap (pass_from at 0 0) z }

  -- one turn of the definition
  turn : (opener i : ℕ) → i < count → pass_from at opener i (count - i) ≡ pass_from at opener i (suc (count - (i + 1)))
  turn opener i h = let n : count - i ≡ suc (count - (i + 1)) = omega arith in ap (pass_from at opener i) n

  pub onward : (opener i : ℕ) {a : Option Row} → Going at count opener i → i < count → a ≡ at i → forbidden_at opener a ≡ false
      → Going at count (opener_at opener a) (i + 1)
  unfolding pass_from
  onward opener i g h e f =
      let k : forbidden_at opener (at i) ≡ false = ap (forbidden_at opener) (sym e) ∙ f in
      record {
        within = omega arith;
        so_far = (λ j. pass_from at (opener_at opener (e j)) (add-one i j) (count - (i + 1)))
            ∙ rw k at (sym (turn opener i h) ∙ g.so_far);
      }

  pub here : (opener i : ℕ) {a : Option Row} → Going at count opener i → i < count → a ≡ at i → forbidden_at opener a ≡ true → i ≡ pass_from at 0 0 count
  unfolding pass_from
  here opener i g h e f =
      let k : forbidden_at opener (at i) ≡ true = ap (forbidden_at opener) (sym e) ∙ f in
      rw k at (sym (turn opener i h) ∙ g.so_far)

  pub done : (opener i : ℕ) → Going at count opener i → count ≤ i → count ≡ pass_from at 0 0 count
  unfolding pass_from
  done opener i g h =
      let z : count - i ≡ 0 = omega arith in
      let e : i ≡ count = omega (arith, g.within) in
      sym e ∙ sym (ap (pass_from at opener i) z) ∙ g.so_far
