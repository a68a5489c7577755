-- `edit::line_start` meets its contract: no "\n" stands from `at` to the place, so that the line starts where it does for `at`.
-- Assumes nothing.
use Prim.Native.Nat.{ℕ, zero, suc, ◌+◌, ◌-◌, ◌≤◌, ◌<◌}
use native.Mathlib.Omega.{arith}
use mathlib.Core.Path.{◌≡◌, refl, sym, ap, ◌∙◌}
use mathlib.Core.List.{List}
use lib.ListN.{get_or}
use borrow.Author.Tests.{eq-eqb, ne_eqb}
use Rattle.text.specs.Tests.{lf}
use Rattle.edit.specs.Edit.{start_of_line}
use Rattle.edit.proofs.line_start.Goals as goal
use Rattle.edit.proofs.line_start.Invariants.{Going}

module _ (s : List ℕ) (place : ℕ) where
  found : (at : ℕ) → Going s place at → 0 < at → get_or s (at - 1) 0 ≡ lf → at ≡ start_of_line s place
  found zero g h e = absurd (omega arith)
  found (suc n) g h e =
      let b : get_or s n 0 ≡ lf = ap (λ (k : ℕ). get_or s k 0) (omega arith) ∙ e in
      sym (rw (eq-eqb (get_or s n 0) lf b)) ∙ g.same

  passed : (at : ℕ) → Going s place at → 0 < at → (get_or s (at - 1) 0 ≡ lf → ⊥) → Going s place (at - 1)
  passed zero g h e = absurd (omega arith)
  passed (suc n) g h e =
      let m : suc n - 1 ≡ n = omega arith in
      let b : get_or s n 0 ≡ lf → ⊥ = λ f. e (ap (λ (k : ℕ). get_or s k 0) m ∙ f) in
      record {
        within = omega (arith, g.within);
        same = ap (start_of_line s) m ∙ sym (rw (ne_eqb (get_or s n 0) lf b)) ∙ g.same;
      }

  none : (at : ℕ) → Going s place at → at ≤ 0 → 0 ≡ start_of_line s place
  none zero g h = g.same
  none (suc n) g h = absurd (omega arith)

pub loop-at-init : goal.loop-at-init
loop-at-init c = record { within = omega arith; same = refl }

pub returns-then-source-at-eq-LF : goal.returns-then-source-at-eq-LF
returns-then-source-at-eq-LF c =
    let e : c.loop-at.at - 1 + 1 ≡ c.loop-at.at = omega (arith, c.loop-at-test.true) in
    e ∙ found c.args.source.now c.args.place c.loop-at.at c.loop-at.invariant c.loop-at-test.true c.if-source-at-eq-LF.true

pub loop-at-preserved : goal.loop-at-preserved
loop-at-preserved c =
    passed c.args.source.now c.args.place c.loop-at.at c.loop-at.invariant c.loop-at-test.true c.if-source-at-eq-LF.false

pub returns : goal.returns
returns c =
    none c.args.source.now c.args.place c.loop-at.at c.loop-at.invariant c.loop-at-test.false
