-- `rescan::read_behind` meets its contract: kept records have room or not, and where they have the scan's loop reads on behind them.
-- Assumes nothing.
use native.Mathlib.Omega.{arith}
use mathlib.Core.Path.{sym, ap, subst, ◌∙◌}
use Prim.Native.Nat.{ℕ, ◌≤◌, ◌<◌}
use mathlib.Core.List.{List}
use Rattle.rows.specs.Row.{room}
use Rattle.rows.specs.RowLaws.{copy_room}
use Rattle.rows.specs.declared.Row.{Row}
use Rattle.stepping.specs.Invariant.{Ok}
use Rattle.kept.specs.Kept.{resumed}
use Rattle.rescan.proofs.RescanLaws.{kind_low, behind_short, behind_long}
use Rattle.rescan.proofs.read_behind.Goals as goal

pub returns-then-room-kept : goal.returns-then-room-kept
returns-then-room-kept c =
    let p = c.requires in
    behind_short _ _ _ _ _ _ p.0 (omega (arith, c.if-room-kept.true, c.room-room.ensures)) c.room-room.ensures c.copy_rows.ensures
    c.row_before.ensures

pub resume-start-requires : goal.resume-start-requires
resume-start-requires c =
    let a = c.args in
    subst (λ (r : Row). r.kind < 256) (sym c.row_before-2.ensures) (kind_low a.old_list.now a.kept)

pub read_on-requires : goal.read_on-requires
read_on-requires c =
    let a = c.args in
    let h : a.kept ≤ room a.list.now = omega (arith, c.if-room-kept.false, c.room-room.ensures) in (
      subst (Ok a.source.now) (sym (c.resume-start.ensures ∙ ap resumed c.row_before-2.ensures)) c.requires.1,
      c.requires.2,
      subst (λ (l : List ℕ). a.kept ≤ room l) (sym c.copy_rows-2.ensures)
          (omega (arith, copy_room a.kept a.old_list.now a.list.now c.requires.0 h)),
    )

pub returns : goal.returns
returns c =
    behind_long _ _ _ _ _ _ (omega (arith, c.if-room-kept.false, c.room-room.ensures)) c.row_before-2.ensures c.resume-start.ensures
    c.copy_rows-2.ensures c.read_on.ensures
