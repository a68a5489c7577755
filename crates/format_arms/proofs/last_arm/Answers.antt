-- `format_arms::last_arm` meets its contract: the letter decides, and where there is none, the position. Assumes nothing.
use Rattle.std.specs.Prelude.{Option, Some, None}
use Prim.Native.Nat.{ℕ}
use mathlib.Core.Path.{◌≡◌, sym, ◌∙◌}
use Rattle.base.specs.Pick.{pick}
use Rattle.format_arms.specs.Arms.{is_start, letter_of, on_shown, last_arm}
use Rattle.format_arms.specs.ArmsLaws.{start_not}
use Rattle.format_arms.specs.declared.Position.{Position}
use Rattle.format_arms.specs.declared.Arm.TheVariants.{Represent, FillCluster, Unexpected}
use Rattle.format_options.specs.declared.Representation.{Representation}
use Rattle.format_arms.proofs.last_arm.Goals as goal

-- the arm, by the letter
by_letter : (c : ℕ) (position : Position) (l : Option Representation) → letter_of c position ≡ l
    → on_shown l Represent (pick (is_start position) FillCluster Unexpected) ≡ last_arm c position
unfolding last_arm
by_letter c position l e = rw e

pub returns-in-Some : goal.returns-in-Some
returns-in-Some c = by_letter _ _ (Some _) (sym c.letter_of.ensures ∙ c.in-Some.is)

pub returns-in-Start : goal.returns-in-Start
returns-in-Start c = rw (← by_letter _ _ None (sym c.letter_of.ensures ∙ c.in-None.is), c.in-Start.is)

pub returns-in_default : goal.returns-in_default
returns-in_default c =
    rw (← by_letter _ _ None (sym c.letter_of.ensures ∙ c.in-None.is), start_not _ c.in_default.not-Start)
