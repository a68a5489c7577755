-- `foreign::compare_by` meets its contract: the loop's head is `Comparing`, and each way out and each turn is a law of it. Assumes nothing.
use native.Mathlib.Omega.{arith}
use Rattle.lexer.specs.StepLaws.{fits_codes}
use Rattle.reading.specs.HeadLaws.{found_by, keeps_is, changes_is, made, low, bounds, packs, last_packs, falls}
use Rattle.foreign.specs.CheckLaws.{begins, at_end, at_stuck, at_modes, again}
use Rattle.foreign.proofs.compare_by.Goals as goal

pub loop-token-init : goal.loop-token-init
loop-token-init c =
    let p = c.requires.source_len_bound in
    begins _ _ _ _ _ _ p.0 p.1 p.2 c.new-start.ensures

pub plain_half-half-requires : goal.plain_half-half-requires
plain_half-half-requires c =
    record { fine = (c.loop-token.invariant.head.ok.fine, c.loop-token.invariant.head.fit); class_table = c.requires.class_table }

-- ---- a token
pub row_of-requires : goal.row_of-requires
row_of-requires c =
    record { previous_byte_bound = rw c.plain_half-half.ensures (bounds c.loop-token.invariant.head); depth_le_depth_most = low c.loop-token.invariant.head }

pub apart_after-apart-requires : goal.apart_after-apart-requires
apart_after-apart-requires c =
    let head = c.loop-token.invariant.head in (
      c.requires.source_len_bound.3,
      packs head _ (found_by head c.plain_half-half.ensures c.in-Token.is) (made head _ c.plain_half-half.ensures c.row_of.ensures),
    )

pub overflow_add-read : goal.overflow_add-read
overflow_add-read c = omega (arith, c.loop-token.invariant.few)

pub loop-token-smaller-in-Keep : goal.loop-token-smaller-in-Keep
loop-token-smaller-in-Keep c =
    let head = c.loop-token.invariant.head in
    falls head _ (found_by head c.plain_half-half.ensures c.in-Token.is) (keeps_is head c.plain_half-half.ensures c.in-Keep.is)

pub loop-token-preserved-in-Keep : goal.loop-token-preserved-in-Keep
loop-token-preserved-in-Keep c =
    let g = c.loop-token.invariant in
    again g c.apart_after-apart.ensures _ (found_by g.head c.plain_half-half.ensures c.in-Token.is)
    (made g.head _ c.plain_half-half.ensures c.row_of.ensures) (keeps_is g.head c.plain_half-half.ensures c.in-Keep.is)

pub apply-lexer-requires : goal.apply-lexer-requires
apply-lexer-requires c =
    fits_codes _ _ _ _ c.loop-token.invariant.head.ok.agrees c.plain_half-half.ensures

pub loop-token-smaller : goal.loop-token-smaller
loop-token-smaller c =
    let head = c.loop-token.invariant.head in
    falls head _ (found_by head c.plain_half-half.ensures c.in-Token.is) (changes_is head c.plain_half-half.ensures c.apply-lexer.ensures)

pub loop-token-preserved : goal.loop-token-preserved
loop-token-preserved c =
    let g = c.loop-token.invariant in
    again g c.apart_after-apart.ensures _ (found_by g.head c.plain_half-half.ensures c.in-Token.is)
    (made g.head _ c.plain_half-half.ensures c.row_of.ensures) (changes_is g.head c.plain_half-half.ensures c.apply-lexer.ensures)

pub row_of-last-requires : goal.row_of-last-requires
row_of-last-requires c =
    record { previous_byte_bound = rw c.plain_half-half.ensures (bounds c.loop-token.invariant.head); depth_le_depth_most = low c.loop-token.invariant.head }

pub apart_after-apart-requires-in-Stuck : goal.apart_after-apart-requires-in-Stuck
apart_after-apart-requires-in-Stuck c =
    let head = c.loop-token.invariant.head in (
      c.requires.source_len_bound.3,
      last_packs head c.token_of.ensures (made head _ c.plain_half-half.ensures c.row_of-last.ensures),
    )

pub overflow_add-read-in-Stuck : goal.overflow_add-read-in-Stuck
overflow_add-read-in-Stuck c = omega (arith, c.loop-token.invariant.few)

pub returns-in-Stuck : goal.returns-in-Stuck
returns-in-Stuck c =
    let g = c.loop-token.invariant in
    at_stuck g c.apart_after-apart-in-Stuck.ensures (found_by g.head c.plain_half-half.ensures c.in-Stuck.is) c.token_of.ensures
    (made g.head _ c.plain_half-half.ensures c.row_of-last.ensures) c.compared.ensures

pub returns-in-ModesFull : goal.returns-in-ModesFull
returns-in-ModesFull c =
    at_modes c.loop-token.invariant (found_by c.loop-token.invariant.head c.plain_half-half.ensures c.in-ModesFull.is)

pub returns-in-End : goal.returns-in-End
returns-in-End c =
    at_end c.loop-token.invariant (found_by c.loop-token.invariant.head c.plain_half-half.ensures c.in-End.is) c.compared-in-End.ensures
