-- `table_file::first_bad_byte` meets its contract. The loop's invariant: the first bad byte from i on is the first bad byte.
-- Assumes nothing.
use native.Mathlib.Omega.{arith}
use mathlib.Core.Path.{◌≡◌, refl}
use Rattle.table_file.specs.File.{mark}
use Rattle.fitness.specs.FirstLaws.{start, next, here, done}
use Rattle.table_file.proofs.FileLaws.{lacks, differs, agrees}
use Rattle.table_file.proofs.first_bad_byte.Goals as goal

pub loop-i-init : goal.loop-i-init
loop-i-init c = start _ _

pub returns-then-file-i : goal.returns-then-file-i
returns-then-file-i c = here _ _ _ c.loop-i.invariant (omega arith) (lacks _ _ c.if-file-i.true)

pub returns-then-file-i-2 : goal.returns-then-file-i-2
unfolding mark
returns-then-file-i-2 c =
    here _ _ _ c.loop-i.invariant (omega arith) (differs _ mark _ refl c.if-file-i.false c.if-file-i-2.true)

pub loop-i-preserved : goal.loop-i-preserved
unfolding mark
loop-i-preserved c =
    next _ _ _ c.loop-i.invariant (omega arith) (agrees _ mark _ refl c.if-file-i.false c.if-file-i-2.false)

pub returns : goal.returns
returns c =
    let all : c.loop-i.i ≡ 6 = omega arith in
    rw all at (done _ _ _ c.loop-i.invariant (omega arith))
