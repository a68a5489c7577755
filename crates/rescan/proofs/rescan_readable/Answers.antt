-- `rescan::rescan_readable` meets its contract: each answer is a law of `RescansReadable`, and reading may go on behind whatever is kept.
-- Assumes nothing.
use native.Mathlib.Omega.{arith}
use Rattle.std.proofs.Common.{rules}
use mathlib.Core.Path.{◌≡◌, refl, sym, ap, subst, ◌∙◌}
use mathlib.Core.Bool.{true}
use Prim.Native.Nat.{ℕ, ◌≤◌}
use lib.ListN.{length}
use Rattle.fitness.specs.FitLaws.{fit_of}
use Rattle.stepping.specs.Invariant.{Ok}
use Rattle.kept.specs.Kept.{resumed}
use Rattle.edit.specs.Edit.{edit_fits}
use Rattle.edit.specs.EditLaws.{edit_of_lem, edit_inside, line_within}
use Rattle.keep.specs.Keep.{row_before, kept_rows}
use Rattle.keep.specs.KeepLaws.{keeps_within}
use Rattle.rescan.proofs.RescanLaws.{kept_ok, is_bad_edit, is_bad_state, is_behind_by}
use Rattle.rescan.proofs.rescan_readable.Goals as goal
use Rattle.rescan.proofs.rescan_readable.Goals.{Else-not-edit_fits}

-- past the first test the edit fits, and its place is one of the new source
fits : (c : Else-not-edit_fits) → let a = c.args in edit_fits a.old.now a.edit a.source.now ≡ true
fits c = sym c.edit_fits.ensures ∙ c.if-not-edit_fits.false

place_inside : (c : Else-not-edit_fits) → let a = c.args in a.edit.place ≤ length a.source.now
place_inside c =
    let a = c.args in
    edit_inside a.old.now a.edit a.source.now (edit_of_lem a.old.now a.edit a.source.now (fits c))

pub returns-then-not-edit_fits : goal.returns-then-not-edit_fits
returns-then-not-edit_fits c = is_bad_edit (sym c.edit_fits.ensures ∙ c.if-not-edit_fits.true)

pub returns-then-room-old_count : goal.returns-then-room-old_count
returns-then-room-old_count c =
    is_bad_state (fits (goal.at.returns-then-room-old_count c).Else-not-edit_fits) (omega (arith, c.if-room-old_count.true, c.room.ensures))

pub line_start-line-requires : goal.line_start-line-requires
line_start-line-requires c = place_inside (goal.at.line_start-line-requires c).Else-not-edit_fits

pub kept_rows-kept-requires : goal.kept_rows-kept-requires
kept_rows-kept-requires c =
    let a = c.args in (
      omega (arith, c.line_start-line.ensures, line_within a.source.now a.edit.place, place_inside (goal.at.kept_rows-kept-requires c).Else-not-edit_fits),
      omega (arith, c.if-room-old_count.false, c.room.ensures),
    )

pub read_behind-requires : goal.read_behind-requires
read_behind-requires c =
    let a = c.args in
    let k = c.kept_rows-kept.ensures ∙ ap (λ (l : ℕ). kept_rows a.source.now l a.old_list.now a.old_count) c.line_start-line.ensures in (
      omega (arith, c.kept_rows-kept.ensures, keeps_within a.source.now c.line_start-line.result a.old_list.now a.old_count, c.if-room-old_count.false, c.room.ensures),
      subst (λ (n : ℕ). Ok a.source.now (resumed (row_before a.old_list.now n))) (sym k)
          (kept_ok a.source.now a.edit.place a.old_list.now a.old_count (place_inside (goal.at.read_behind-requires c).Else-not-edit_fits) c.requires.short c.requires.well),
      fit_of a.table.now c.requires.fit,
    )

pub returns : goal.returns
returns c =
    is_behind_by (fits (goal.at.returns c).Else-not-edit_fits) (omega (arith, c.if-room-old_count.false, c.room.ensures))
    c.line_start-line.ensures c.kept_rows-kept.ensures c.read_behind.ensures c.in_ok-read_behind.was refl

pub returns-in_err-read_behind : goal.returns-in_err-read_behind
returns-in_err-read_behind c =
    is_behind_by (fits (goal.at.returns-in_err-read_behind c).Else-not-edit_fits) (omega (arith, c.if-room-old_count.false, c.room.ensures))
    c.line_start-line.ensures c.kept_rows-kept.ensures c.read_behind.ensures c.in_err-read_behind.was (search rules)
