-- `fast::read_on_by` meets its contract: the loop's head is `Going`, a run keeps it, and each way out and each turn is a law of it. Assumes nothing.
use native.Mathlib.Omega.{arith}
use mathlib.Core.Path.{ap, ◌∙◌}
use Rattle.lexer.specs.StepLaws.{fits_codes}
use Rattle.lexer.specs.declared.Half.{Half}
use Rattle.reading.specs.HeadLaws.{found_by, keeps_is, changes_is, made, low, bounds, packs, falls}
use Rattle.reading.specs.GoingLaws.{begins, from_start, at_end, at_modes, at_full, at_stuck, again}
use Rattle.fast_turns.specs.StepsLaws.{run_going, run_less}
use Rattle.fast.proofs.read_on_by.Goals as goal

-- ---- into the loop, to the run and to the half
pub loop-token-init : goal.loop-token-init
loop-token-init c =
    let p = c.requires in
    begins _ _ _ _ _ _ _ p.ok.0 p.ok.1 p.ok.2

pub fast_run-run-requires : goal.fast_run-run-requires
fast_run-run-requires c =
    (record { ok = c.loop-token.invariant.head.ok; fit = c.loop-token.invariant.head.fit }, c.requires.rows)

pub long_half-half-requires : goal.long_half-half-requires
long_half-half-requires c =
    let g = run_going c.fast_run-run.ensures c.copied-lexer.ensures c.loop-token.invariant in
    (g.head.ok.fine, g.head.fit)

pub shape_of-list-then-room-count : goal.shape_of-list-then-room-count
shape_of-list-then-room-count c =
    (run_going c.fast_run-run.ensures c.copied-lexer.ensures c.loop-token.invariant).long

pub returns-then-room-count : goal.returns-then-room-count
returns-then-room-count c =
    let g = run_going c.fast_run-run.ensures c.copied-lexer.ensures c.loop-token.invariant in
    at_full (from_start c.requires.ok.0.agrees g) _ (found_by g.head c.long_half-half.ensures c.in-Token.is)
    (omega (arith, c.if-room-count.true, c.room.ensures))

pub row_of-requires : goal.row_of-requires
row_of-requires c =
    let g = run_going c.fast_run-run.ensures c.copied-lexer.ensures c.loop-token.invariant in
    record { previous_byte_bound = rw c.long_half-half.ensures (bounds g.head); depth_le_depth_most = low g.head }

pub put-requires : goal.put-requires
put-requires c =
    let g = run_going c.fast_run-run.ensures c.copied-lexer.ensures c.loop-token.invariant in (
      omega (arith, c.if-room-count.false, c.room.ensures),
      packs g.head _ (found_by g.head c.long_half-half.ensures c.in-Token.is) (made g.head _ c.long_half-half.ensures c.row_of.ensures),
    )

pub overflow_add-count : goal.overflow_add-count
overflow_add-count c =
    omega (arith, c.if-room-count.false, c.room.ensures, c.well_formed)

pub loop-token-smaller-in-Keep : goal.loop-token-smaller-in-Keep
loop-token-smaller-in-Keep c =
    let g = run_going c.fast_run-run.ensures c.copied-lexer.ensures c.loop-token.invariant in
    omega (
      arith,
      falls g.head _ (found_by g.head c.long_half-half.ensures c.in-Token.is) (keeps_is g.head c.long_half-half.ensures c.in-Keep.is),
      run_less c.fast_run-run.ensures c.copied-lexer.ensures,
    )

pub loop-token-preserved-in-Keep : goal.loop-token-preserved-in-Keep
loop-token-preserved-in-Keep c =
    let g = run_going c.fast_run-run.ensures c.copied-lexer.ensures c.loop-token.invariant in
    again g _ (found_by g.head c.long_half-half.ensures c.in-Token.is) (omega (arith, c.if-room-count.false, c.room.ensures))
    (made g.head _ c.long_half-half.ensures c.row_of.ensures) c.put.ensures
    (keeps_is g.head c.long_half-half.ensures c.in-Keep.is)

pub apply-lexer-requires : goal.apply-lexer-requires
apply-lexer-requires c =
    let g = run_going c.fast_run-run.ensures c.copied-lexer.ensures c.loop-token.invariant in
    fits_codes _ _ _ _ g.head.ok.agrees c.long_half-half.ensures

pub loop-token-smaller : goal.loop-token-smaller
loop-token-smaller c =
    let g = run_going c.fast_run-run.ensures c.copied-lexer.ensures c.loop-token.invariant in
    omega (
      arith,
      falls g.head _ (found_by g.head c.long_half-half.ensures c.in-Token.is) (changes_is g.head c.long_half-half.ensures c.apply-lexer.ensures),
      run_less c.fast_run-run.ensures c.copied-lexer.ensures,
    )

pub loop-token-preserved : goal.loop-token-preserved
loop-token-preserved c =
    let g = run_going c.fast_run-run.ensures c.copied-lexer.ensures c.loop-token.invariant in
    again g _ (found_by g.head c.long_half-half.ensures c.in-Token.is) (omega (arith, c.if-room-count.false, c.room.ensures))
    (made g.head _ c.long_half-half.ensures c.row_of.ensures) c.put.ensures
    (changes_is g.head c.long_half-half.ensures c.apply-lexer.ensures)

pub stuck-requires : goal.stuck-requires
stuck-requires c =
    let g = run_going c.fast_run-run.ensures c.copied-lexer.ensures c.loop-token.invariant in
    let b = bounds g.head in
    record { previous_byte_bound = rw c.long_half-half.ensures (omega (arith, b.0, b.1), omega (arith, b.1)); depth_le_depth_most = (low g.head, g.within) }

pub shape_of-list-in-Stuck : goal.shape_of-list-in-Stuck
shape_of-list-in-Stuck c =
    c.stuck.auto.list ∙ (run_going c.fast_run-run.ensures c.copied-lexer.ensures c.loop-token.invariant).long

pub returns-in-Stuck : goal.returns-in-Stuck
returns-in-Stuck c =
    let g = run_going c.fast_run-run.ensures c.copied-lexer.ensures c.loop-token.invariant in
    at_stuck (from_start c.requires.ok.0.agrees g) (found_by g.head c.long_half-half.ensures c.in-Stuck.is)
    (ap (λ (x : Half). x.lexer) c.long_half-half.ensures) c.stuck.ensures

pub shape_of-list-in-ModesFull : goal.shape_of-list-in-ModesFull
shape_of-list-in-ModesFull c =
    (run_going c.fast_run-run.ensures c.copied-lexer.ensures c.loop-token.invariant).long

pub returns-in-ModesFull : goal.returns-in-ModesFull
returns-in-ModesFull c =
    let g = run_going c.fast_run-run.ensures c.copied-lexer.ensures c.loop-token.invariant in
    at_modes (from_start c.requires.ok.0.agrees g) (found_by g.head c.long_half-half.ensures c.in-ModesFull.is)
    c.room-in-ModesFull.ensures c.full.ensures

pub shape_of-list-in-End : goal.shape_of-list-in-End
shape_of-list-in-End c =
    (run_going c.fast_run-run.ensures c.copied-lexer.ensures c.loop-token.invariant).long

pub returns-in-End : goal.returns-in-End
returns-in-End c =
    let g = run_going c.fast_run-run.ensures c.copied-lexer.ensures c.loop-token.invariant in
    at_end (from_start c.requires.ok.0.agrees g) (found_by g.head c.long_half-half.ensures c.in-End.is)
