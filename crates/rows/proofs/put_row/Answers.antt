-- `rows::put_row` meets its contract: eight stores in a row are `put_row`. Assumes nothing.
use native.Mathlib.Omega.{arith}
use native.Mathlib.Numerals.{add-one, add-two, add-three, add-four, add_five, add_six, add_seven}
use borrow.Author.Rules.{rules}
use lib.ListN.{length-set}
use Rattle.rows.specs.RowLaws.{put_by_stores}
use Rattle.rows.proofs.put_row.Goals as goal

pub bounds-list-at-2 : goal.bounds-list-at-2
bounds-list-at-2 c = simp length-set (omega arith)

pub bounds-list-at-3 : goal.bounds-list-at-3
bounds-list-at-3 c = simp length-set (omega arith)

pub bounds-list-at-4 : goal.bounds-list-at-4
bounds-list-at-4 c = simp length-set (omega arith)

pub bounds-list-at-5 : goal.bounds-list-at-5
bounds-list-at-5 c = simp length-set (omega arith)

pub bounds-list-at-6 : goal.bounds-list-at-6
bounds-list-at-6 c = simp length-set (omega arith)

pub bounds-list-at-7 : goal.bounds-list-at-7
bounds-list-at-7 c = simp length-set (omega arith)

pub bounds-list-at-8 : goal.bounds-list-at-8
bounds-list-at-8 c = simp length-set (omega arith)

pub returns : goal.returns
returns c =
    let a = c.args in
    rw (c.first_of.ensures, add-one, add-two, add-three, add-four, add_five, add_six, add_seven)
    (put_by_stores a.list.now a.i a.row (search rules))
