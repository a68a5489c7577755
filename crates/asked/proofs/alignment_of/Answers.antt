-- `asked::alignment_of` meets its contract: each return is a case of its definition. Assumes nothing.
use mathlib.Core.Path.{sym}
use Rattle.base.specs.CasesLaws.{chain}
use Rattle.asked.specs.Fields.{alignment_of}
use Rattle.asked.proofs.alignment_of.Goals as goal

pub returns-in-1 : goal.returns-in-1
unfolding alignment_of
returns-in-1 c = rw c.in-1.is

pub returns-in-2 : goal.returns-in-2
unfolding alignment_of
returns-in-2 c = rw c.in-2.is

pub returns-in-3 : goal.returns-in-3
unfolding alignment_of
returns-in-3 c = rw c.in-3.is

pub returns-in_default : goal.returns-in_default
unfolding alignment_of
returns-in_default c = sym (search chain depth 12 fits 4000)
