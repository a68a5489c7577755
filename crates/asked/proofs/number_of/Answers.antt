-- `asked::number_of` meets its contract: each return is a case of its definition, and a width that is one has 32 bits. Assumes nothing.
use native.Mathlib.Omega.{arith}
use mathlib.Core.Path.{sym}
use Rattle.base.specs.CasesLaws.{chain}
use Rattle.fills.specs.PadLaws.{width_within}
use Rattle.asked.specs.Fields.{number_of}
use Rattle.asked.proofs.number_of.Goals as goal

pub returns-then-number-eq-NONE : goal.returns-then-number-eq-NONE
unfolding number_of
returns-then-number-eq-NONE c = sym (search chain)

pub overflow_cast-result : goal.overflow_cast-result
overflow_cast-result c = omega (arith, width_within _ c.requires c.if-number-eq-NONE.false)

pub returns : goal.returns
unfolding number_of
returns c = sym (search chain)
