-- `asked::shown_of` meets its contract: each return is a case of its definition. Assumes nothing.
use mathlib.Core.Path.{sym}
use Rattle.base.specs.CasesLaws.{chain}
use Rattle.asked.specs.Fields.{shown_of}
use Rattle.asked.proofs.shown_of.Goals as goal

pub returns-in-0 : goal.returns-in-0
unfolding shown_of
returns-in-0 c = rw c.in-0.is

pub returns-in-1 : goal.returns-in-1
unfolding shown_of
returns-in-1 c = rw c.in-1.is

pub returns-in-2 : goal.returns-in-2
unfolding shown_of
returns-in-2 c = rw c.in-2.is

pub returns-in-3 : goal.returns-in-3
unfolding shown_of
returns-in-3 c = rw c.in-3.is

pub returns-in-4 : goal.returns-in-4
unfolding shown_of
returns-in-4 c = rw c.in-4.is

pub returns-in-5 : goal.returns-in-5
unfolding shown_of
returns-in-5 c = rw c.in-5.is

pub returns-in-6 : goal.returns-in-6
unfolding shown_of
returns-in-6 c = rw c.in-6.is

pub returns-in_default : goal.returns-in_default
unfolding shown_of
returns-in_default c = sym (search chain depth 12 fits 4000)
