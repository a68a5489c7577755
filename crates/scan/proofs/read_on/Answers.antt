-- `scan::read_on` meets its contract: the loop's head is `Going`, and each way out and each turn is a law of it. Assumes nothing.
use native.Mathlib.Omega.{arith}
use mathlib.Core.Path.{ap, ◌∙◌}
use Rattle.lexer.specs.StepLaws.{fits_codes}
use Rattle.lexer.specs.declared.Half.{Half}
use Rattle.reading.specs.HeadLaws.{found_by, keeps_is, changes_is, made, low, bounds, packs, falls}
use Rattle.reading.specs.GoingLaws.{begins, from_start, at_end, at_modes, at_full, at_stuck, again}
use Rattle.scan.proofs.read_on.Goals as goal

-- ---- into the loop, and to the half
pub loop-token-init : goal.loop-token-init
loop-token-init c =
    let p = c.requires in
    begins _ _ _ _ _ _ _ p.0 p.1 p.2

pub read_half-half-requires : goal.read_half-half-requires
read_half-half-requires c = (c.loop-token.invariant.head.ok.fine, c.loop-token.invariant.head.fit)

pub shape_of-list-then-room-count : goal.shape_of-list-then-room-count
shape_of-list-then-room-count c = c.loop-token.invariant.long

pub returns-then-room-count : goal.returns-then-room-count
returns-then-room-count c =
    at_full (from_start c.requires.0.agrees c.loop-token.invariant) _ (found_by c.loop-token.invariant.head c.read_half-half.ensures c.in-Token.is)
    (omega (arith, c.if-room-count.true, c.room.ensures))

pub row_of-requires : goal.row_of-requires
row_of-requires c =
    record { previous_byte_bound = rw c.read_half-half.ensures (bounds c.loop-token.invariant.head); depth_le_depth_most = low c.loop-token.invariant.head }

pub put-requires : goal.put-requires
put-requires c = (
  omega (arith, c.if-room-count.false, c.room.ensures),
  packs c.loop-token.invariant.head _ (found_by c.loop-token.invariant.head c.read_half-half.ensures c.in-Token.is) (made c.loop-token.invariant.head _ c.read_half-half.ensures c.row_of.ensures),
)

pub overflow_add-count : goal.overflow_add-count
overflow_add-count c =
    omega (arith, c.if-room-count.false, c.room.ensures, c.well_formed)

pub loop-token-smaller-in-Keep : goal.loop-token-smaller-in-Keep
loop-token-smaller-in-Keep c =
    falls c.loop-token.invariant.head _ (found_by c.loop-token.invariant.head c.read_half-half.ensures c.in-Token.is)
    (keeps_is c.loop-token.invariant.head c.read_half-half.ensures c.in-Keep.is)

pub loop-token-preserved-in-Keep : goal.loop-token-preserved-in-Keep
loop-token-preserved-in-Keep c =
    again c.loop-token.invariant _ (found_by c.loop-token.invariant.head c.read_half-half.ensures c.in-Token.is) (omega (arith, c.if-room-count.false, c.room.ensures))
    (made c.loop-token.invariant.head _ c.read_half-half.ensures c.row_of.ensures) c.put.ensures
    (keeps_is c.loop-token.invariant.head c.read_half-half.ensures c.in-Keep.is)

pub apply-lexer-requires : goal.apply-lexer-requires
apply-lexer-requires c =
    fits_codes _ _ _ _ c.loop-token.invariant.head.ok.agrees c.read_half-half.ensures

pub loop-token-smaller : goal.loop-token-smaller
loop-token-smaller c =
    falls c.loop-token.invariant.head _ (found_by c.loop-token.invariant.head c.read_half-half.ensures c.in-Token.is)
    (changes_is c.loop-token.invariant.head c.read_half-half.ensures c.apply-lexer.ensures)

pub loop-token-preserved : goal.loop-token-preserved
loop-token-preserved c =
    again c.loop-token.invariant _ (found_by c.loop-token.invariant.head c.read_half-half.ensures c.in-Token.is) (omega (arith, c.if-room-count.false, c.room.ensures))
    (made c.loop-token.invariant.head _ c.read_half-half.ensures c.row_of.ensures) c.put.ensures
    (changes_is c.loop-token.invariant.head c.read_half-half.ensures c.apply-lexer.ensures)

pub stuck-requires : goal.stuck-requires
stuck-requires c =
    let b = bounds c.loop-token.invariant.head in
    record { previous_byte_bound = rw c.read_half-half.ensures (omega (arith, b.0, b.1), omega (arith, b.1)); depth_le_depth_most = (low c.loop-token.invariant.head, c.loop-token.invariant.within) }

pub shape_of-list-in-Stuck : goal.shape_of-list-in-Stuck
shape_of-list-in-Stuck c = c.stuck.auto.list ∙ c.loop-token.invariant.long

pub returns-in-Stuck : goal.returns-in-Stuck
returns-in-Stuck c =
    at_stuck (from_start c.requires.0.agrees c.loop-token.invariant) (found_by c.loop-token.invariant.head c.read_half-half.ensures c.in-Stuck.is)
    (ap (λ (x : Half). x.lexer) c.read_half-half.ensures) c.stuck.ensures

pub shape_of-list-in-ModesFull : goal.shape_of-list-in-ModesFull
shape_of-list-in-ModesFull c = c.loop-token.invariant.long

pub returns-in-ModesFull : goal.returns-in-ModesFull
returns-in-ModesFull c =
    at_modes (from_start c.requires.0.agrees c.loop-token.invariant) (found_by c.loop-token.invariant.head c.read_half-half.ensures c.in-ModesFull.is)
    c.room-in-ModesFull.ensures c.full.ensures

pub shape_of-list-in-End : goal.shape_of-list-in-End
shape_of-list-in-End c = c.loop-token.invariant.long

pub returns-in-End : goal.returns-in-End
returns-in-End c =
    at_end (from_start c.requires.0.agrees c.loop-token.invariant) (found_by c.loop-token.invariant.head c.read_half-half.ensures c.in-End.is)
