-- `signs::row_of` meets its contract: each return is a case of `behind`. Assumes nothing.
use borrow.Author.Tests.{ne_eqb}
use Rattle.signs.specs.Table.{behind}
use Rattle.signs.proofs.row_of.Goals as goal

pub returns-then-next-eq-EQUALS : goal.returns-then-next-eq-EQUALS
unfolding behind
returns-then-next-eq-EQUALS c = rw c.if-next-eq-EQUALS.true

pub returns-then-next-eq-GREATER : goal.returns-then-next-eq-GREATER
unfolding behind
returns-then-next-eq-GREATER c = rw c.if-next-eq-GREATER.true

pub returns-then-next-eq-DOT : goal.returns-then-next-eq-DOT
unfolding behind
returns-then-next-eq-DOT c = rw c.if-next-eq-DOT.true

pub returns : goal.returns
unfolding behind
returns c =
    rw (ne_eqb _ _ c.if-next-eq-EQUALS.false, ne_eqb _ _ c.if-next-eq-GREATER.false, ne_eqb _ _ c.if-next-eq-DOT.false)
