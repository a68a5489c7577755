-- `cluster_count::count_clusters` meets its contract. The loop's invariant: the state is that of the characters passed, and the count with what
-- begins from here on is the answer. Assumes nothing.
use native.Mathlib.Omega.{arith}
use Rattle.base.specs.PickLaws.{split_lt}
use Rattle.cluster_count.proofs.Counting.{first, nothing, at_end, counts, one_more_lem}
use Rattle.cluster_count.proofs.count_clusters.Goals as goal

pub returns-then-bytes-eq0 : goal.returns-then-bytes-eq0
returns-then-bytes-eq0 c =
    nothing c.args.bytes.now c.args.table.now c.args.edition (omega (arith, c.if-bytes-eq0.true))

pub char_near-first-requires : goal.char_near-first-requires
char_near-first-requires c =
    record { well_formed = (c.requires.0, split_lt 0 _ (λ h. h) (λ h. absurd (c.if-bytes-eq0.false (omega arith)))); fit_table = c.requires.1 }

pub loop-i-init : goal.loop-i-init
loop-i-init c =
    rw (c.pass-left.ensures, c.new.ensures)
    (first c.args.bytes.now c.args.table.now c.args.edition _ c.char_near-first.ensures)

pub char_near-c-requires : goal.char_near-c-requires
char_near-c-requires c =
    record { well_formed = (c.loop-i.invariant.well, c.loop-i-test.true); fit_table = c.requires.1 }

pub overflow_add-count : goal.overflow_add-count
overflow_add-count c =
    omega (arith, c.char_near-c.ensures.at.fits, counts _ _ _ _ _ _ c.loop-i.invariant _ c.char_near-c.ensures _ c.begins-count.ensures)

pub overflow_add-i : goal.overflow_add-i
overflow_add-i c =
    omega (arith, c.char_near-c.ensures.at.fits)

pub loop-i-smaller : goal.loop-i-smaller
loop-i-smaller c =
    omega (arith, c.char_near-c.ensures.at.some, c.char_near-c.ensures.at.fits)

pub loop-i-preserved : goal.loop-i-preserved
loop-i-preserved c =
    rw c.pass-left-in-loop-i.ensures (one_more_lem _ _ _ _ _ _ c.loop-i.invariant _ c.char_near-c.ensures _ c.begins-count.ensures)

pub returns : goal.returns
returns c = at_end _ _ _ _ _ _ c.loop-i.invariant c.loop-i-test.false
