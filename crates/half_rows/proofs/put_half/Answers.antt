-- `half_rows::put_half` meets its contract: five stores in a row are `put_half`. Assumes nothing.
use native.Mathlib.Omega.{arith}
use native.Mathlib.Numerals.{add-one, add-two, add-three, add-four}
use lib.ListN.{length-set}
use Rattle.half_rows.specs.Half.{marked}
use Rattle.half_rows.specs.HalfLaws.{put_by_stores}
use borrow.Author.Rules.{rules}
use Rattle.half_rows.proofs.put_half.Goals as goal

pub bounds-list-at-2 : goal.bounds-list-at-2
bounds-list-at-2 c = simp length-set (omega arith)

pub bounds-list-at-3 : goal.bounds-list-at-3
bounds-list-at-3 c = simp length-set (omega arith)

pub bounds-list-at-4 : goal.bounds-list-at-4
bounds-list-at-4 c = simp length-set (omega arith)

pub bounds-list-at-5 : goal.bounds-list-at-5
bounds-list-at-5 c = simp length-set (omega arith)

pub returns : goal.returns
returns c =
    let a = c.args in
    rw (c.marked_first.ensures, add-one, add-two, add-three, add-four)
    (put_by_stores a.list.now a.i (marked a.row a.still) (search rules))
