-- `edit::edit_fits` meets its contract: each return is a case of the test, and where the lengths fit both runs lie inside the sources.
-- Assumes nothing.
use Prim.Native.Nat.{◌+◌, ◌≤◌}
use native.Mathlib.Omega.{arith}
use mathlib.Core.Path.{◌≡◌, sym, ◌∙◌}
use lib.ListN.{length}
use Rattle.base.specs.CasesLaws.{denied}
use Rattle.edit.specs.Edit.{edit_fits}
use Rattle.edit.specs.EditLaws.{lengths_of}
use Rattle.edit.proofs.edit_fits.Goals as goal
use Rattle.edit.proofs.edit_fits.Goals.{Else-not-lengths_fit}

-- past the first test the lengths fit
lengths : (c : Else-not-lengths_fit) → let a = c.args in
    (a.edit.place + a.edit.removed ≤ length a.old.now) × (length a.new.now + a.edit.removed ≡ length a.old.now + a.edit.put_in)
lengths c =
    let a = c.args in
    lengths_of (length a.old.now) a.edit (length a.new.now) (sym c.lengths_fit.ensures ∙ c.if-not-lengths_fit.false)

pub returns-then-not-lengths_fit : goal.returns-then-not-lengths_fit
unfolding edit_fits
returns-then-not-lengths_fit c = sym (search denied)

pub same_run-requires : goal.same_run-requires
same_run-requires c = let l = lengths c in (omega arith, omega arith)

pub returns-then-not-same_run : goal.returns-then-not-same_run
unfolding edit_fits
returns-then-not-same_run c = sym (search denied)

pub overflow_add-behind : goal.overflow_add-behind
overflow_add-behind c =
    record { fits = omega (arith, lengths (goal.at.overflow_add-behind c).Else-not-lengths_fit, c.well_formed) }

pub overflow_add-edit : goal.overflow_add-edit
overflow_add-edit c =
    record { fits = omega (arith, lengths (goal.at.overflow_add-edit c).Else-not-lengths_fit, c.well_formed) }

pub overflow_sub-old : goal.overflow_sub-old
overflow_sub-old c = omega (arith, (lengths (goal.at.overflow_sub-old c).Else-not-lengths_fit).0)

pub same_run-requires-2 : goal.same_run-requires-2
same_run-requires-2 c = let l = lengths (goal.at.same_run-requires-2 c).Else-not-lengths_fit in (omega arith, omega arith)

pub returns : goal.returns
unfolding edit_fits
returns c = sym (search denied)
