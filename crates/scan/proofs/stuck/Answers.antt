-- `scan::stuck` meets its contract: where there is room the Error's record is written and nothing is left to read. Assumes nothing.
use native.Mathlib.Omega.{arith}
use Rattle.reading.specs.ScanLaws.{fills_full}
use Rattle.reading.specs.HeadLaws.{error_packs}
use Rattle.reading.specs.GoingLaws.{stuck_written}
use Rattle.scan.proofs.stuck.Goals as goal

pub put-requires : goal.put-requires
put-requires c = (
  omega (arith, c.if-count-room.true, c.room.ensures),
  error_packs c.args.before c.args.after c.requires.depth_le_depth_most.0 c.token_of.ensures c.row_of-row.ensures,
)

pub returns-then-count-room : goal.returns-then-count-room
returns-then-count-room c =
    stuck_written _ _ c.args.before c.args.after (omega (arith, c.if-count-room.true, c.room.ensures))
    c.token_of.ensures c.row_of-row.ensures c.put.ensures

pub returns : goal.returns
returns c =
    fills_full _ _ _ _ _ (omega (arith, c.if-count-room.false, c.room.ensures, c.requires.previous_byte_bound, c.requires.depth_le_depth_most))
