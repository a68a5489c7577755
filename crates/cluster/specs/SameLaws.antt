-- Texts that leave the same state to the left of a place.
--     same_left    the cluster goes on alike
-- Assumes nothing.
use Rattle.std.specs.Prelude.{ℕ, suc, ◌≡◌, Bool}
use Rattle.std.proofs.Math.Path.{refl, ap}
use Rattle.std.proofs.Common.{sym, ◌∙◌}
use mathlib.Core.List.{List, [], ◌∷◌}
use Rattle.base.specs.Pick.{pick}
use Rattle.uax29.specs.Uax29.{joined}
use Rattle.uax29.specs.State.{left_of, passed, joined_by}
use Rattle.uax29.specs.StateLaws.{step, by_state}
use Rattle.uax29.specs.declared.Left.{Left}
use Rattle.cluster.specs.First.{go_on}

module _ (look : ℕ → ℕ) (edition : ℕ) where
  same_joined : (left other : List ℕ) → left_of left ≡ left_of other → (p : ℕ) → joined edition left p ≡ joined edition other p
  same_joined left other e p =
      sym (by_state edition left p) ∙ ap (λ (l : Left). joined_by edition l p) e ∙ by_state edition other p

  same_step : (left other : List ℕ) → left_of left ≡ left_of other → (p : ℕ) → left_of (p ∷ left) ≡ left_of (p ∷ other)
  same_step left other e p = sym (step left p) ∙ ap (λ (l : Left). passed l p) e ∙ step other p

  pub same_left : (left other cs : List ℕ) → left_of left ≡ left_of other → go_on look edition left cs ≡ go_on look edition other cs
  unfolding go_on
  same_left left other [] e = refl
  same_left left other (c ∷ cs) e =
      let p = look c in
      let more = same_left (p ∷ left) (p ∷ other) cs (same_step left other e p) in
      ap (λ (t : Bool). pick t (suc (go_on look edition (p ∷ left) cs)) 0) (same_joined left other e p)
      ∙ ap (λ (n : ℕ). pick (joined edition other p) (suc n) 0) more
